-- What is read of an item of a certificate so many bytes further on is what is read of it here, moved as far; and
-- where nothing is read of it here, nothing is there.
use Rattle.std.proofs.Common.{◌≡◌, ℕ, ◌+◌, Bool, true, false, List, [], ◌∷◌, length, Option, Some, None, Result, Ok}
use Rattle.std.{proofs.Common.{Err, refl, sym, ap, ◌∙◌, arith}, specs.Prelude.{map, option_map, codes, if◌then◌else◌}}
use Rattle.std.specs.{Prelude.◌||◌, Str.bytes_eq}
use Rattle.item_terms.specs.{Items.{Item, Object}, Words.{is_blank, ends_or_blank}}
use Rattle.dir_bytes.specs.Fields.{date, time_of_day}
use Rattle.dir_values.specs.{Arguments.{Argument, arguments_at, onto}, Digests.fingerprint}
use Rattle.dir_values.specs.declared.digest.Fingerprint.{Fingerprint}
use Rattle.frame_values.specs.{Arguments.{arguments_of, field, front, next, others}, Fields.{is_there, span, span_if}}
use Rattle.frame_values.specs.{Lines.{argument_of, literal, time_of}, Signatures.{has_words, object_if}}
use Rattle.frame_values.specs.declared.{found.Span.Span, values.Value.Value}
use Rattle.authority_certs.specs.{Tables.cert_value, declared.frame.CertKind.CertKind}
use Rattle.authority_certs.specs.declared.frame.CertKind.TheVariants as kind
use Rattle.grammar_laws.specs.Moved.{moved_item, moved_object}
use Rattle.certificate_laws.specs.Lifted.{lifted_value, moved_argument, moved_span}

-- ---- arguments

onto_moved : (n place byte : ℕ) (list : List Argument)
    → onto (place + n) byte (map (moved_argument n) list) ≡ map (moved_argument n) (onto place byte list)
onto_moved n place byte [] = refl
onto_moved n place byte (argument ∷ rest) = refl

arguments_moved : (n place : ℕ) (text : List ℕ)
    → arguments_at (place + n) text ≡ map (moved_argument n) (arguments_at place text)
unfolding arguments_at
arguments_moved n place [] = refl
arguments_moved n place (byte ∷ text) =
    let here : place + n + 1 ≡ place + 1 + n = omega arith in
    by (ap (λ (k : ℕ). arguments_at k text) here ∙ arguments_moved n (place + 1) text) (is_blank byte)
    (ends_or_blank text)
  where
    by : arguments_at (place + n + 1) text ≡ map (moved_argument n) (arguments_at (place + 1) text)
        → (blank ends : Bool)
        → (if blank then arguments_at (place + n + 1) text
        else if ends then record { place = place + n; text = byte ∷ [] } ∷ arguments_at (place + n + 1) text
        else onto (place + n) byte (arguments_at (place + n + 1) text))
        ≡ map (moved_argument n) (if blank then arguments_at (place + 1) text
        else if ends then record { place = place; text = byte ∷ [] } ∷ arguments_at (place + 1) text
        else onto place byte (arguments_at (place + 1) text))
    by more true ends = more
    by more false true = ap (λ (l : List Argument). record { place = place + n; text = byte ∷ [] } ∷ l) more
    by more false false =
        ap (onto (place + n) byte) more ∙ onto_moved n place byte (arguments_at (place + 1) text)

front_moved : (n place : ℕ) (list : List Argument)
    → front (place + n) (map (moved_argument n) list) ≡ moved_argument n (front place list)
front_moved n place [] = refl
front_moved n place (argument ∷ rest) = refl

others_moved : (n : ℕ) (list : List Argument)
    → others (map (moved_argument n) list) ≡ map (moved_argument n) (others list)
others_moved n [] = refl
others_moved n (argument ∷ rest) = refl

-- its first argument, and its second
abbrev first_of : Item → Argument
first_of item = front item.place (arguments_of item)

abbrev second_of : Item → Argument
second_of item = front item.place (others (arguments_of item))

first_moved : (n : ℕ) (item : Item) → first_of (moved_item n item) ≡ moved_argument n (first_of item)
first_moved n item =
    ap (λ (l : List Argument). front (item.place + n) l) (arguments_moved n item.start item.arguments)
    ∙ front_moved n item.place (arguments_of item)

second_moved : (n : ℕ) (item : Item) → second_of (moved_item n item) ≡ moved_argument n (second_of item)
second_moved n item =
    ap (λ (l : List Argument). front (item.place + n) (others l)) (arguments_moved n item.start item.arguments)
    ∙ ap (λ (l : List Argument). front (item.place + n) l) (others_moved n (arguments_of item))
    ∙ front_moved n item.place (others (arguments_of item))

-- ---- steps of reading

module _ {A B : Type 0} where
  -- what is made of what is read, or the place of what is wrong, so many bytes further on
  abbrev read_moved : ℕ → (A → B) → Result A ℕ → Result B ℕ
  read_moved n to (Ok a) = Ok (to a)
  read_moved n to (Err place) = Err (place + n)

-- what is read after another
next_moved : {A B C D : Type 0} (n : ℕ) (to : A → B) (into : C → D) (read : Result A ℕ) (further : Result B ℕ)
    (more : A → Result C ℕ) (more_there : B → Result D ℕ) → further ≡ read_moved n to read
    → ((a : A) → more_there (to a) ≡ read_moved n into (more a))
    → next further more_there ≡ read_moved n into (next read more)
next_moved {A} {B} n to into read further more more_there is then_ =
    ap (λ (r : Result B ℕ). next r more_there) is ∙ by read
  where
    by : (r : Result A ℕ) → next (read_moved n to r) more_there ≡ read_moved n into (next r more)
    by (Ok a) = then_ a
    by (Err place) = refl

-- a value of an argument's text alone
field_moved : {A : Type 0} (read : List ℕ → Option A) (n : ℕ) (a b : Argument) → b ≡ moved_argument n a
    → field b (read b.text) ≡ read_moved n (λ (x : A). x) (field a (read a.text))
field_moved {A} read n a b is = ap (λ (c : Argument). field c (read c.text)) is ∙ by (read a.text)
  where
    by : (o : Option A) → field (moved_argument n a) o ≡ read_moved n (λ (x : A). x) (field a o)
    by (Some x) = refl
    by None = refl

span_moved : (n place : ℕ) (text : List ℕ) → span (place + n) text ≡ moved_span n (span place text)
span_moved n place text =
    let end : place + n + length text ≡ place + length text + n = omega arith in
    λ i. record { start = place + n; end = end i }

-- ---- what is read of an item

argument_moved : (n : ℕ) (item : Item)
    → argument_of (moved_item n item) ≡ read_moved n (moved_span n) (argument_of item)
argument_moved n item =
    ap (λ (a : Argument). field a (span_if (is_there a.text) a)) (first_moved n item)
    ∙ by (first_of item) (is_there (first_of item).text)
  where
    by : (a : Argument) (t : Bool) → field (moved_argument n a) (span_if t (moved_argument n a))
        ≡ read_moved n (moved_span n) (field a (span_if t a))
    by a true = ap (λ (s : Span). Ok s) (span_moved n a.place a.text)
    by a false = refl

literal_moved : (word : List ℕ) (n : ℕ) (item : Item)
    → literal word (moved_item n item) ≡ read_moved n (λ (u : Unit {0}). u) (literal word item)
literal_moved word n item =
    ap (λ (a : Argument). wanted_if (bytes_eq a.text word) a.place) (first_moved n item)
    ∙ by (bytes_eq (first_of item).text word) (first_of item).place
  where
    wanted_if : Bool → ℕ → Result (Unit {0}) ℕ
    wanted_if t place = if t then Ok tt else Err place

    by : (t : Bool) (place : ℕ) → wanted_if t (place + n) ≡ read_moved n (λ (u : Unit {0}). u) (wanted_if t place)
    by true place = refl
    by false place = refl

time_moved : (n : ℕ) (item : Item) → time_of (moved_item n item) ≡ read_moved n (λ (k : ℕ). k) (time_of item)
time_moved n item =
    next_moved n (λ (k : ℕ). k) (λ (k : ℕ). k) _ _ _ _ (field_moved date n _ _ (first_moved n item))
    (λ days. next_moved n (λ (k : ℕ). k) (λ (k : ℕ). k) _ _ _ _ (field_moved time_of_day n _ _ (second_moved n item))
    (λ seconds. refl))

words_moved : (n : ℕ) (words : List ℕ) (object : Option Object)
    → has_words (option_map (moved_object n) object) words ≡ has_words object words
words_moved n words None = refl
words_moved n words (Some object) = refl

-- an object, if it is the one that is wanted
object_moved : (n place : ℕ) (object : Option Object) (t u : Bool) → u ≡ t
    → object_if u (place + n) (option_map (moved_object n) object)
    ≡ read_moved n (moved_span n) (object_if t place object)
object_moved n place object t u is =
    ap (λ (v : Bool). object_if v (place + n) (option_map (moved_object n) object)) is ∙ by t object
  where
    by : (t : Bool) (object : Option Object) → object_if t (place + n) (option_map (moved_object n) object)
        ≡ read_moved n (moved_span n) (object_if t place object)
    by t None = refl
    by true (Some object) = ap (λ (s : Span). Ok s) (span_moved n object.start object.text)
    by false (Some object) = refl

-- ---- what an item says

module _ {W : Type 0} where
  value_moves : (n : ℕ) (of : CertKind) (item : Item)
      → cert_value {V = W} of (moved_item n item) ≡ read_moved n (lifted_value n) (cert_value of item)
  value_moves n kind.Version item =
      next_moved n (λ (u : Unit {0}). u) (lifted_value n) _ _ _ _ (literal_moved (codes "3") n item) (λ u. refl)
  value_moves n kind.Address item =
      next_moved n (moved_span n) (lifted_value n) _ _ _ _ (argument_moved n item) (λ s. refl)
  value_moves n kind.Fingerprint item =
      next_moved n (λ (f : Fingerprint). f) (lifted_value n) _ _ _ _
      (field_moved fingerprint n _ _ (first_moved n item)) (λ f. refl)
  value_moves n kind.Time item =
      next_moved n (λ (k : ℕ). k) (lifted_value n) _ _ _ _ (time_moved n item) (λ k. refl)
  value_moves n kind.Key item =
      let words = codes "RSA PUBLIC KEY" in
      next_moved n (moved_span n) (lifted_value n) _ _ _ _
      (object_moved n item.place item.object _ _ (words_moved n words item.object)) (λ s. refl)
  value_moves n kind.Crosscert item =
      let a = codes "ID SIGNATURE" in
      let b = codes "SIGNATURE" in
      let there = option_map (moved_object n) item.object in
      next_moved n (moved_span n) (lifted_value n) _ _ _ _
      (object_moved n item.place item.object _ _
      (ap (λ (t : Bool). t || has_words there b) (words_moved n a item.object)
      ∙ ap (λ (t : Bool). has_words item.object a || t) (words_moved n b item.object))) (λ s. refl)
  value_moves n kind.Certification item =
      let words = codes "SIGNATURE" in
      next_moved n (moved_span n) (lifted_value n) _ _ _ _
      (object_moved n item.place item.object _ _ (words_moved n words item.object)) (λ s. refl)

  -- What an item of a certificate says is the same so many bytes further on.
  pub value_moved : (n : ℕ) (of : CertKind) (item : Item) (said : Value (Unit {0})) → cert_value of item ≡ Ok said
      → cert_value {V = W} of (moved_item n item) ≡ Ok (lifted_value n said)
  value_moved n of item said is = value_moves n of item ∙ ap (read_moved n (lifted_value n)) is

-- it says this here
pub record WasSaid {W : Type 0} (n : ℕ) (of : CertKind) (item : Item) (v : Value W) : Type 0 where
  pub said : Value (Unit {0})
  pub is : cert_value of item ≡ Ok said
  pub lifts : lifted_value n said ≡ v

-- What it says so many bytes further on, it says here.
pub said_back : {W : Type 0} (n : ℕ) (of : CertKind) (item : Item) (v : Value W)
    → cert_value {V = W} of (moved_item n item) ≡ Ok v → WasSaid n of item v
said_back {W} n of item v is = by (cert_value of item) refl (sym (value_moves n of item) ∙ is)
  where
    by : (r : Result (Value (Unit {0})) ℕ) → cert_value of item ≡ r → read_moved n (lifted_value n) r ≡ Ok v
        → WasSaid n of item v
    by (Err place) e is = absurd (cc is)
    by (Ok said) e is = record { said = said; is = e; lifts = cc }
