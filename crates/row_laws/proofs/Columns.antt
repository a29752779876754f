-- Lines as columns: each type of argument has its facts once, and a line of columns has the facts of all.
use Rattle.std.proofs.Common.{◌≡◌, ℕ, ◌/◌, ◌<◌, Bool, true, false, List, [], ◌∷◌, length, Option, Some, None, Result}
use Rattle.std.proofs.{Common.{Ok, refl, ap, ◌∙◌, arith}, lemmas.List.Elements.{All-cons, All-nil}}
use Rattle.std.specs.{Prelude.{is_some, unwrap_or, if◌then◌else◌}, List.list_all, Option.{option_and_then, option_map}}
use Rattle.base64.specs.GeneralPurpose.{IsBytes}
use Rattle.dir_bytes.specs.Fields as fields
use Rattle.dir_bytes.{specs.{FieldTexts.hex_text, HexBytes.hex_bytes, Fields.hex}, proofs.ReadAgain.hex-hex_text}
use Rattle.dir_bytes.proofs.Spelling.{length-hex_text}
use Rattle.dirdoc_grammar.specs.Writers.{is_argument_byte}
use Rattle.dir_values.specs.{Arguments.Argument, Digests.{fingerprint, key_digest}, declared.digest.Digest1.Digest1}
use Rattle.dir_values.specs.declared.digest.Fingerprint.{Fingerprint}
use Rattle.frame_values.specs.{Arguments.{field, front, next, others}, Fields.{is_there, span_if, span_of}, Parts.part}
use Rattle.frame_values.specs.{Ranges.AreTwenty, declared.found.Span.Span}
use Rattle.frame_laws.proofs.{Words.{AreWords, IsWord, word_of_hex, word_of_identity}, WrittenItems.identity_again}
use Rattle.frame_laws.proofs.WrittenItems.{key_again, word_is_there}
use Rattle.row_laws.proofs.{ReadBytes.{hex_spells, hex_bytes as twenty_bytes}, Ties.{AreThere, EachIs, Gives, IsColumn}}
use Rattle.row_laws.proofs.Ties.{Tied, Told, and_gives, and_next, behind_it, column, head_is, head_word, plain_column}
use Rattle.row_laws.proofs.Ties.{tail_is, tail_words, word_column, word_gives, word_means}

-- ---- what digits spell

pub identity_gives : (text : List ℕ) → Gives (λ (f : Fingerprint). AreTwenty f.0) (fingerprint text)
identity_gives text = by (hex 20 text) refl
  where
    by : (found : Option (List ℕ)) → hex 20 text ≡ found
        → Gives (λ (f : Fingerprint). AreTwenty f.0) (option_map (λ bytes. record { 0 = bytes }) found)
    by None is = tt
    by (Some b) is = twenty_bytes text b is

pub key_gives : (text : List ℕ) → Gives (λ (f : Digest1). AreTwenty f.0) (key_digest text)
key_gives text = by (hex 20 text) refl
  where
    by : (found : Option (List ℕ)) → hex 20 text ≡ found
        → Gives (λ (f : Digest1). AreTwenty f.0) (option_map (λ bytes. record { 0 = bytes }) found)
    by None is = tt
    by (Some b) is = twenty_bytes text b is

-- ---- an argument

-- a type of argument: what is read of it, what that says in the input, what its text means, and how it is written
pub record Column (A F : Type 0) : Type 0 where
  pub read : Argument → Option A
  pub said : List ℕ → A → F
  pub means : List ℕ → Option F
  pub text : F → List ℕ

-- the facts of an argument: it is read as its text means, what was written means what it was and is one word, and
-- what a
-- text means is in range
pub record ColumnLaws {A F : Type 0} (c : Column A F) (Fits : F → Type 0) : Type 0 where
  pub tied : IsColumn c.said c.read c.means
  pub again : (f : F) → Fits f → c.means (c.text f) ≡ Some f
  pub word : (f : F) → Fits f → IsWord (c.text f)
  pub fits : (text : List ℕ) → list_all is_argument_byte text ≡ true → Gives Fits (c.means text)

-- any word
abbrev pub a_word : Column Span (List ℕ)
a_word = record {
  read = λ (a : Argument). span_if (is_there a.text) a;
  said = λ bytes. part bytes;
  means = word_means;
  text = λ f. f;
}

pub word_laws : ColumnLaws a_word IsWord
word_laws = record {
  tied = word_column;
  again = λ f is. said_again f is;
  word = λ f is. is;
  fits = word_gives;
}
  where
    said_again : (f : List ℕ) → IsWord f → word_means f ≡ Some f
    said_again f is = rw (word_is_there f is) refl

-- an identity
abbrev pub an_identity : Column Fingerprint Fingerprint
an_identity = record {
  read = λ (a : Argument). fingerprint a.text;
  said = λ bytes f. f;
  means = fingerprint;
  text = λ f. hex_text f.0;
}

pub identity_laws : ColumnLaws an_identity (λ f. AreTwenty f.0)
identity_laws = record {
  tied = plain_column fingerprint;
  again = λ f is. identity_again f is.count is.each;
  word = λ f is. word_of_identity f.0 is.count is.each;
  fits = λ text all. identity_gives text;
}

-- the digest of a key
abbrev pub a_key : Column Digest1 Digest1
a_key = record {
  read = λ (a : Argument). key_digest a.text;
  said = λ bytes f. f;
  means = key_digest;
  text = λ f. hex_text f.0;
}

pub key_laws : ColumnLaws a_key (λ f. AreTwenty f.0)
key_laws = record {
  tied = plain_column key_digest;
  again = λ f is. key_again f is.count is.each;
  word = λ f is. word_of_identity f.0 is.count is.each;
  fits = λ text all. key_gives text;
}

-- ---- arguments one after the other

-- arguments one after the other: what is read of them, what that says, what their words mean, and how they are written
pub record Line (A F : Type 0) : Type 0 where
  pub read : ℕ → List Argument → Result A ℕ
  pub said : List ℕ → A → F
  pub means : List (List ℕ) → Option F
  pub words : F → List (List ℕ)

-- the facts of a line, which are those of its columns
pub record LineLaws {A F : Type 0} (l : Line A F) (Fits : F → Type 0) : Type 0 where
  pub tied : (bytes : List ℕ) (place : ℕ) (arguments : List Argument) (words : List (List ℕ))
      → AreThere bytes arguments words
      → Tied (l.said bytes) (l.read place arguments) (l.means words)
  pub again : (f : F) → Fits f → l.means (l.words f) ≡ Some f
  pub are_words : (f : F) → Fits f → AreWords (l.words f)
  pub fits : (words : List (List ℕ)) → EachIs words → Gives Fits (l.means words)

module _ {A F : Type 0} where
  -- the last
  abbrev pub last : Column A F → Line A F
  last c = record {
    read = λ place arguments. field (front place arguments) (c.read (front place arguments));
    said = c.said;
    means = λ words. c.means (head_word words);
    words = λ f. c.text f ∷ [];
  }

  pub last_laws : (c : Column A F) (Fits : F → Type 0) → ColumnLaws c Fits → LineLaws (last c) Fits
  last_laws c Fits laws = record {
    tied = λ bytes place arguments words are. column c.said c.read c.means laws.tied place are;
    again = laws.again;
    are_words = λ f is. All-cons IsWord (c.text f) [] (laws.word f is) (All-nil IsWord);
    fits = λ words each. laws.fits (head_word words) (head_is words each);
  }

module _ {A F B G : Type 0} where
  -- one before others
  abbrev pub before : Column A F → Line B G → Line (A × B) (F × G)
  before c l = record {
    read = λ place arguments. next (field (front place arguments) (c.read (front place arguments)))
        (λ a. next (l.read place (others arguments)) (λ b. Ok (a, b)));
    said = λ bytes x. (c.said bytes x.0, l.said bytes x.1);
    means = λ words. option_and_then (λ f. option_and_then (λ g. Some (f, g)) (l.means (tail_words words)))
        (c.means (head_word words));
    words = λ x. c.text x.0 ∷ l.words x.1;
  }

  both_mean : (c : Column A F) (l : Line B G) (words : List (List ℕ)) (f : F) (g : G) → c.means (head_word words)
      ≡ Some f
      → l.means (tail_words words) ≡ Some g → (before c l).means words ≡ Some (f, g)
  both_mean c l words f g first second = rw (first, second) refl

  pub before_laws : (c : Column A F) (l : Line B G) (Fits : F → Type 0) (FitToo : G → Type 0) → ColumnLaws c Fits
      → LineLaws l FitToo → LineLaws (before c l) (λ x. Fits x.0 × FitToo x.1)
  before_laws c l Fits FitToo laws more = record {
    tied = λ bytes place arguments words are.
        and_next (c.said bytes) ((before c l).said bytes) _ _ _ _ (column c.said c.read c.means laws.tied place are)
        (λ a. and_next (l.said bytes) ((before c l).said bytes) _ _ _ _
        (more.tied bytes place (others arguments) (tail_words words) (behind_it are)) (λ b. refl));
    again = λ x is.
        both_mean c l (c.text x.0 ∷ l.words x.1) x.0 x.1 (laws.again x.0 is.0) (more.again x.1 is.1);
    are_words = λ x is. All-cons IsWord (c.text x.0) (l.words x.1) (laws.word x.0 is.0) (more.are_words x.1 is.1);
    fits = λ words each.
        and_gives Fits (λ (x : F × G). Fits x.0 × FitToo x.1) _ _ (laws.fits (head_word words) (head_is words each))
        (λ f one. and_gives FitToo (λ (x : F × G). Fits x.0 × FitToo x.1) _ _
        (more.fits (tail_words words) (tail_is words each)) (λ g two. (one, two)));
  }

-- ---- hex digits, however many

-- what hex digits mean
abbrev pub hex_means : List ℕ → Option (List ℕ)
hex_means text =
    if is_some (hex_bytes text) then (if is_there text then Some (unwrap_or (hex_bytes text) []) else None) else None

-- hex digits
abbrev pub a_hex : Column Span (List ℕ)
a_hex = record {
  read = λ (a : Argument). if is_some (hex_bytes a.text) then span_if (is_there a.text) a else None;
  said = λ bytes span. unwrap_or (hex_bytes (part bytes span)) [];
  means = hex_means;
  text = hex_text;
}

-- one byte or more
abbrev pub AreSomeBytes : List ℕ → Type 0
AreSomeBytes bytes = IsBytes bytes × (0 < length bytes)

hex_tied : IsColumn a_hex.said a_hex.read a_hex.means
hex_tied bytes a there = by (is_some (hex_bytes a.text)) (is_there a.text) there
  where
    by : (t u : Bool) → (u ≡ true → part bytes (span_of a) ≡ a.text)
        → Told (a_hex.said bytes) (if t then span_if u a else None)
        (if t then (if u then Some (unwrap_or (hex_bytes a.text) []) else None) else None)
    by true true stands = ap (λ (l : List ℕ). unwrap_or (hex_bytes l) []) (stands refl)
    by true false stands = tt
    by false u stands = tt

hex_again : (bytes : List ℕ) → AreSomeBytes bytes → hex_means (hex_text bytes) ≡ Some bytes
hex_again bytes are =
    let half : length (hex_text bytes) / 2 ≡ length bytes = omega (arith, length-hex_text bytes) in
    let back : hex_bytes (hex_text bytes) ≡ Some bytes =
    ap (λ (n : ℕ). fields.hex n (hex_text bytes)) half ∙ hex-hex_text bytes are.0 in
    rw (back, word_is_there (hex_text bytes) (word_of_hex bytes are.1 are.0)) refl

not_empty : (text : List ℕ) → is_there text ≡ true → 0 < length text
not_empty [] some = absurd (cc some)
not_empty (b ∷ text) some = omega arith

hex_fits : (text : List ℕ) → Gives AreSomeBytes (hex_means text)
hex_fits text = by (hex_bytes text) refl (is_there text) refl
  where
    by : (found : Option (List ℕ)) → hex_bytes text ≡ found → (t : Bool) → is_there text ≡ t
        → Gives AreSomeBytes (if is_some found then (if t then Some (unwrap_or found []) else None) else None)
    by None is t some = tt
    by (Some b) is false some = tt
    by (Some b) is true some =
        let spells = hex_spells (length text / 2) text b is in
        (spells.2, omega (arith, spells.1, not_empty text some))

pub hex_laws : ColumnLaws a_hex AreSomeBytes
hex_laws = record {
  tied = hex_tied;
  again = hex_again;
  word = λ f is. word_of_hex f is.1 is.0;
  fits = λ text all. hex_fits text;
}
