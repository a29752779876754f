-- What is read with places and what is read without them say the same: step by step, from left to right.
use Rattle.std.proofs.Common.{◌≡◌, ℕ, Bool, true, false, List, [], ◌∷◌, length, take, drop, Option, Some, None, Result}
use Rattle.std.{proofs.{Common.{Ok, Err, refl, ap, subst, ◌∙◌}, lemmas.Bool.false≢true}, specs.Prelude.IfSome}
use Rattle.std.specs.{Prelude.{unwrap_or, if◌then◌else◌}, Option.{option_and_then, option_map}, List.list_all}
use Rattle.item_terms.specs.{Items.{Item, Object}, Words.words_of}
use Rattle.dirdoc_grammar.specs.{Writers.{is_argument, is_argument_byte}, Writing.IsLineRest, Bodies.decoded_bytes}
use Rattle.dirdoc_grammar.specs.InPlace.{InPlace}
use Rattle.dir_values.{proofs.ArgumentWords.arguments_words, specs.Arguments.{Argument, arguments_at, texts_of}}
use Rattle.frame_values.specs.{Arguments.{arguments_of, field, front, next, others}, Faults.at_place, Fields.is_there}
use Rattle.frame_values.specs.{Fields.{span_if, span_of}, Parts.{bytes_in, part}, Signatures.{has_words, object_if}}
use Rattle.frame_values.specs.Signatures.{object_of}
use Rattle.frame_laws.proofs.StandingParts.{at_span}
use Rattle.row_laws.proofs.ItemArguments.{AreFound, EachWord, IsSound, are_found, both_tests, each_word, others_found}
use Rattle.row_laws.proofs.Spoken.{object_words}

-- ---- steps

module _ {A F E : Type 0} where
  -- both are read, and what the one says here is the other; or neither is
  abbrev pub Tied : (A → F) → Result A E → Option F → Type 0
  Tied said (Ok a) (Some f) = said a ≡ f
  Tied said (Ok a) None = ⊥
  Tied said (Err e) (Some f) = ⊥
  Tied said (Err e) None = Unit {0}

module _ {A F : Type 0} where
  -- the same of what is there or not
  abbrev pub Told : (A → F) → Option A → Option F → Type 0
  Told said (Some a) (Some f) = said a ≡ f
  Told said (Some a) None = ⊥
  Told said None (Some f) = ⊥
  Told said None None = Unit {0}

-- what is read after another
pub and_next : {A B F G : Type 0} (s : A → F) (t : B → G) (r : Result A ℕ) (o : Option F) (more : A → Result B ℕ)
    (more_words : F → Option G) → Tied s r o → ((a : A) → Tied t (more a) (more_words (s a)))
    → Tied t (next r more) (option_and_then more_words o)
and_next {F = F} s t (Ok a) (Some f) more more_words is then_ =
    subst (λ (g : F). Tied t (more a) (more_words g)) is (then_ a)
and_next s t (Ok a) None more more_words is then_ = absurd is
and_next s t (Err e) (Some f) more more_words is then_ = absurd is
and_next s t (Err e) None more more_words is then_ = tt

pub of_field : {A F : Type 0} (s : A → F) (argument : Argument) (a : Option A) (f : Option F) → Told s a f
    → Tied s (field argument a) f
of_field s argument (Some a) (Some f) is = is
of_field s argument (Some a) None is = absurd is
of_field s argument None (Some f) is = absurd is
of_field s argument None None is = tt

-- of a text alone
pub same_told : {A : Type 0} (o : Option A) → Told (λ (a : A). a) o o
same_told None = tt
same_told (Some a) = refl

-- ---- arguments

-- the first word, and an empty one where there is none
abbrev pub head_word : List (List ℕ) → List ℕ
head_word [] = []
head_word (word ∷ words) = word

-- those behind it
abbrev pub tail_words : List (List ℕ) → List (List ℕ)
tail_words [] = []
tail_words (word ∷ words) = words

pub texts_of_others : (arguments : List Argument) → texts_of (others arguments) ≡ tail_words (texts_of arguments)
texts_of_others [] = refl
texts_of_others (argument ∷ rest) = refl

-- what an argument of this type says in the input is what its text alone says
abbrev pub IsColumn : {A F : Type 0} → (List ℕ → A → F) → (Argument → Option A) → (List ℕ → Option F) → Type 0
IsColumn {A} {F} said read means = (bytes : List ℕ) (a : Argument)
    → (is_there a.text ≡ true → part bytes (span_of a) ≡ a.text) → Told (said bytes) (read a) (means a.text)

-- arguments that stand in the input, and their words
pub record AreThere (bytes : List ℕ) (arguments : List Argument) (words : List (List ℕ)) : Type 0 where
  pub found : AreFound bytes arguments
  pub same : texts_of arguments ≡ words

pub in_item : {bytes : List ℕ} {item : Item} → IsSound bytes item
    → AreThere bytes (arguments_of item) (words_of item.arguments)
in_item {bytes} {item} sound =
    record { found = are_found sound; same = arguments_words item.start item.arguments }

pub behind_it : {bytes : List ℕ} {arguments : List Argument} {words : List (List ℕ)} → AreThere bytes arguments words
    → AreThere bytes (others arguments) (tail_words words)
behind_it {bytes} {arguments} {words} are = record {
  found = others_found bytes arguments are.found;
  same = texts_of_others arguments ∙ ap tail_words are.same;
}

front_text : (place : ℕ) (arguments : List Argument) → (front place arguments).text ≡ head_word (texts_of arguments)
front_text place [] = refl
front_text place (argument ∷ rest) = refl

pub first_text : {bytes : List ℕ} {arguments : List Argument} {words : List (List ℕ)} (place : ℕ)
    → AreThere bytes arguments words → (front place arguments).text ≡ head_word words
first_text {bytes} {arguments} {words} place are = front_text place arguments ∙ ap head_word are.same

-- so does the one in front
column_of : {A F : Type 0} (said : List ℕ → A → F) (read : Argument → Option A) (means : List ℕ → Option F)
    → IsColumn said read means → (bytes : List ℕ) (place : ℕ) (arguments : List Argument) → AreFound bytes arguments
    → Tied (said bytes) (field (front place arguments) (read (front place arguments)))
    (means (head_word (texts_of arguments)))
column_of said read means is bytes place [] are =
    let a : Argument = record { place = place; text = [] } in
    of_field (said bytes) a (read a) (means []) (is bytes a (λ some. absurd (false≢true some)))
column_of said read means is bytes place (a ∷ rest) are =
    of_field (said bytes) a (read a) (means a.text) (is bytes a (λ some. are.0.part))

pub column : {A F : Type 0} (said : List ℕ → A → F) (read : Argument → Option A) (means : List ℕ → Option F)
    → IsColumn said read means → {bytes : List ℕ} {arguments : List Argument} {words : List (List ℕ)} (place : ℕ)
    → AreThere bytes arguments words
    → Tied (said bytes) (field (front place arguments) (read (front place arguments))) (means (head_word words))
column said read means is {bytes} {arguments} {words} place are =
    subst (λ (l : List (List ℕ)). Tied (said bytes) (field (front place arguments) (read (front place arguments)))
    (means (head_word l))) are.same (column_of said read means is bytes place arguments are.found)

-- a word, whatever it is
abbrev pub word_means : List ℕ → Option (List ℕ)
word_means text = if is_there text then Some text else None

pub word_column : IsColumn (λ bytes. part bytes) (λ (a : Argument). span_if (is_there a.text) a) word_means
word_column bytes a there = by (is_there a.text) there
  where
    by : (t : Bool) → (t ≡ true → part bytes (span_of a) ≡ a.text)
        → Told (part bytes) (if t then Some (span_of a) else None) (if t then Some a.text else None)
    by true stands = stands refl
    by false stands = tt

-- a value of the text alone
pub plain_column : {A : Type 0} (read : List ℕ → Option A)
    → IsColumn (λ bytes (a : A). a) (λ (a : Argument). read a.text) read
plain_column read bytes a there = same_told (read a.text)

-- the value of a text alone that stands in front
pub plain : {A : Type 0} (read : List ℕ → Option A) {bytes : List ℕ} {arguments : List Argument} {words : List
    (List ℕ)}
    (place : ℕ) → AreThere bytes arguments words
    → Tied (λ (a : A). a) (field (front place arguments) (read (front place arguments).text)) (read (head_word words))
plain {A} read place are =
    column (λ bytes (a : A). a) (λ (a : Argument). read a.text) read (plain_column read) place are

-- ---- objects

-- the bytes that an object's lines spell
abbrev pub object_means : Bool → Option Object → Option (List ℕ)
object_means wanted None = None
object_means wanted (Some object) = if wanted then Some (unwrap_or (decoded_bytes object.text) []) else None

pub same_wanted : (object : Option Object) (words : List ℕ) → has_words (object_words object) words
    ≡ has_words object words
same_wanted None words = refl
same_wanted (Some object) words = refl

pub object_tied : (wanted : Bool) (bytes : List ℕ) (item : Item) → InPlace bytes item
    → Tied (bytes_in bytes) (object_of wanted item) (object_means wanted (object_words item.object))
object_tied wanted bytes item there = by wanted item.object there.object
  where
    by : (t : Bool) (object : Option Object)
        → IfSome object (λ o. take (length o.text) (drop o.start bytes) ≡ o.text)
        → Tied (bytes_in bytes) (object_if t item.place object) (object_means t (object_words object))
    by t None is = tt
    by true (Some object) is =
        ap (λ (l : List ℕ). unwrap_or (decoded_bytes l) []) (at_span bytes object.text object.start is)
    by false (Some object) is = tt

-- ---- what an item says

-- a value that is said of what was read
pub and_said : {A F V G : Type 0} (s : A → F) (t : V → G) (of : A → V) (g : F → G) (r : Result A ℕ) (o : Option F)
    → ((a : A) → t (of a) ≡ g (s a)) → Tied s r o
    → Tied t (at_place (next r (λ a. Ok (of a)))) (option_map g o)
and_said s t of g (Ok a) (Some f) same is = same a ∙ ap g is
and_said s t of g (Ok a) None same is = absurd is
and_said s t of g (Err e) (Some f) same is = absurd is
and_said s t of g (Err e) None same is = tt

-- ---- what is in range

-- what words mean is such, if they mean something
abbrev pub Gives : {F : Type 0} → (F → Type 0) → Option F → Type 0
Gives P None = Unit {0}
Gives P (Some f) = P f

pub and_gives : {F G : Type 0} (P : F → Type 0) (Q : G → Type 0) (o : Option F) (more : F → Option G) → Gives P o
    → ((f : F) → P f → Gives Q (more f)) → Gives Q (option_and_then more o)
and_gives P Q None more is then_ = tt
and_gives P Q (Some f) more is then_ = then_ f is

pub said_gives : {F G : Type 0} (P : F → Type 0) (Q : G → Type 0) (o : Option F) (g : F → G) → Gives P o
    → ((f : F) → P f → Q (g f)) → Gives Q (option_map g o)
said_gives P Q None g is then_ = tt
said_gives P Q (Some f) g is then_ = then_ f is

pub any_gives : {F : Type 0} (o : Option F) → Gives (λ (f : F). Unit {0}) o
any_gives None = tt
any_gives (Some f) = tt

pub if_gives : {F : Type 0} (P : F → Type 0) (test : Bool) (o : Option F) → Gives P o
    → Gives P (if test then o else None)
if_gives P true o is = is
if_gives P false o is = tt

-- each word of a line may stand in one
abbrev pub EachIs : List (List ℕ) → Type 0
EachIs [] = Unit {0}
EachIs (word ∷ words) = (list_all is_argument_byte word ≡ true) × EachIs words

each_text : (place : ℕ) (text : List ℕ) (arguments : List Argument) → EachWord place text arguments
    → EachIs (texts_of arguments)
each_text place text [] each = tt
each_text place text (argument ∷ rest) each = (each.0.word, each_text place text rest each.1)

pub each_is : (text : List ℕ) → IsLineRest text → EachIs (words_of text)
each_is text rest =
    subst (λ (l : List (List ℕ)). EachIs l) (arguments_words 0 text)
    (each_text 0 text (arguments_at 0 text) (each_word 0 text (both_tests text rest.no_nl rest.no_nul)))

pub head_is : (words : List (List ℕ)) → EachIs words → list_all is_argument_byte (head_word words) ≡ true
head_is [] each = refl
head_is (word ∷ words) each = each.0

pub tail_is : (words : List (List ℕ)) → EachIs words → EachIs (tail_words words)
tail_is [] each = tt
tail_is (word ∷ words) each = each.1

pub word_gives : (text : List ℕ) → list_all is_argument_byte text ≡ true
    → Gives (λ (w : List ℕ). is_argument w ≡ true) (word_means text)
word_gives [] all = tt
word_gives (b ∷ text) all = all
