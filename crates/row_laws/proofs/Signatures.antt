-- A signature by an algorithm that is known or none: what its words mean, that it is read so, that what is written is
-- read
-- again, and that what is read is in range.
use Rattle.std.proofs.Common.{◌≡◌, ℕ, Bool, true, false, List, [], ◌∷◌, Option, Some, None, Result, Ok, Err, refl, sym}
use Rattle.std.{proofs.{Common.{ap, subst, ◌∙◌}, lemmas.List.Elements.All-cons}, specs.Prelude.{IfSome, codes, is_some}}
use Rattle.std.specs.{Prelude.{unwrap_or, if◌then◌else◌}, List.join_with_byte, Option.{option_and_then, option_map}}
use Rattle.base64.specs.GeneralPurpose.{IsBytes}
use Rattle.dir_bytes.specs.FieldTexts.{hex_text}
use Rattle.item_terms.specs.{Items.{Item, Object}, Words.words_of}
use Rattle.dirdoc_grammar.specs.{Bodies.body_text, Writers.is_argument}
use Rattle.grammar_laws.proofs.WrittenBytes.{decoded-body_text}
use Rattle.dir_values.specs.{Arguments.Argument, Digests.{fingerprint, key_digest}, Names.algorithm}
use Rattle.dir_values.specs.declared.{algorithm.Algorithm.Algorithm, digest.{Digest1.Digest1, Fingerprint.Fingerprint}}
use Rattle.frame_values.specs.{Ranges.AreTwenty, Arguments.{arguments_of, field, front, next}, Fields.is_there}
use Rattle.frame_values.specs.{Parts.bytes_in, Signatures.{after_algorithm, algorithm_if, has_words}}
use Rattle.frame_values.specs.Signatures.{known_signature_of, object_of, signed_by, signed_if}
use Rattle.frame_values.specs.declared.found.VoteSignature.{VoteSignature}
use Rattle.frame_laws.proofs.{WrittenItems.{identity_again, key_again, word_is_there}, Words.{IsWord, two_words}}
use Rattle.frame_laws.proofs.Words.{word_of_identity, words_of-join}
use Rattle.row_laws.proofs.{ItemArguments.IsSound, Spoken.object_words, Ties.{any_gives, AreThere, Gives, Tied}}
use Rattle.row_laws.proofs.Ties.{and_gives, and_next, behind_it, first_text, head_word, in_item, object_means, if_gives}
use Rattle.row_laws.proofs.{Ties.{object_tied, plain, said_gives, same_wanted, tail_words}, Columns.identity_gives}
use Rattle.row_laws.proofs.Columns.{key_gives}

-- ---- a signature, by an algorithm that is known or none

-- who signed, without places
pub record Signed : Type 0 where
  pub algorithm : Option Algorithm
  pub identity : Fingerprint
  pub key_digest : Digest1
  pub signature : List ℕ

-- what a signature says in the input
abbrev pub signed_in : List ℕ → VoteSignature → Signed
signed_in bytes s = record {
  algorithm = s.algorithm;
  identity = s.identity;
  key_digest = s.key_digest;
  signature = bytes_in bytes s.signature;
}

-- what the words of a signature mean, and its object
abbrev pub signed_means : Option Algorithm → List (List ℕ) → Option Object → Option Signed
signed_means name words object =
    option_and_then (λ identity. option_and_then (λ key. option_and_then (λ signature.
    Some (record { algorithm = name; identity = identity; key_digest = key; signature = signature }))
    (object_means (has_words object (codes "SIGNATURE")) object)) (key_digest (head_word (tail_words words))))
    (fingerprint (head_word words))

abbrev after_name : Option Algorithm → List (List ℕ) → List (List ℕ)
after_name None words = words
after_name (Some name) words = tail_words words

abbrev name_means : List ℕ → Option (Option Algorithm)
name_means text =
    if is_some (fingerprint text) then Some None else option_map (λ (a : Algorithm). Some a) (algorithm text)

abbrev known_if : List (List ℕ) → Option Object → Option (Option Algorithm) → Option (Option Signed)
known_if words object None = Some None
known_if words object (Some name) = option_map (λ (s : Signed). Some s)
    (signed_means name (after_name name words) object)

-- nothing is said by an algorithm that is not known
abbrev pub known_means : List (List ℕ) → Option Object → Option (Option Signed)
known_means words object =
    if is_there (head_word words) then known_if words object (name_means (head_word words)) else None

signed_tied : {bytes : List ℕ} {item : Item} {arguments : List Argument} {words : List (List ℕ)}
    (name : Option Algorithm)
    → IsSound bytes item → AreThere bytes arguments words
    → Tied (signed_in bytes) (signed_by name arguments item) (signed_means name words (object_words item.object))
signed_tied {bytes} {item} name sound are =
    and_next (λ (f : Fingerprint). f) (signed_in bytes) _ _ _ _ (plain fingerprint item.place are)
    (λ identity. and_next (λ (d : Digest1). d) (signed_in bytes) _ _ _ _ (plain key_digest item.place (behind_it are))
    (λ key. and_next (bytes_in bytes) (signed_in bytes) _ _ _ _
    (subst (λ (t : Bool). Tied (bytes_in bytes) (object_of (has_words item.object (codes "SIGNATURE")) item)
    (object_means t (object_words item.object))) (sym (same_wanted item.object (codes "SIGNATURE")))
    (object_tied (has_words item.object (codes "SIGNATURE")) bytes item sound.in_place))
    (λ signature. refl)))

name_tied : (first : Argument) → Tied (λ (a : Option Algorithm). a) (algorithm_if first) (name_means first.text)
name_tied first = by (is_some (fingerprint first.text)) (algorithm first.text)
  where
    by : (t : Bool) (found : Option Algorithm)
        → Tied (λ (a : Option Algorithm). a)
        (if t then Ok None else next (field first found) (λ name. Ok (Some name)))
        (if t then Some None else option_map (λ (a : Algorithm). Some a) found)
    by true found = refl
    by false None = tt
    by false (Some a) = refl

after_tied : {bytes : List ℕ} {arguments : List Argument} {words : List (List ℕ)} (name : Option Algorithm)
    → AreThere bytes arguments words → AreThere bytes (after_algorithm name arguments) (after_name name words)
after_tied None are = are
after_tied (Some name) are = behind_it are

abbrev said_if : List ℕ → Option VoteSignature → Option Signed
said_if bytes s = option_map (signed_in bytes) s

some_tied : (bytes : List ℕ) (r : Result VoteSignature ℕ) (o : Option Signed) → Tied (signed_in bytes) r o
    → Tied (said_if bytes) (next r (λ s. Ok (Some s))) (option_map (λ (s : Signed). Some s) o)
some_tied bytes (Ok a) (Some f) is = ap (λ (s : Signed). Some s) is
some_tied bytes (Ok a) None is = absurd is
some_tied bytes (Err e) (Some f) is = absurd is
some_tied bytes (Err e) None is = tt

pub known_tied : {bytes : List ℕ} {item : Item} → IsSound bytes item
    → Tied (said_if bytes) (known_signature_of item) (known_means (words_of item.arguments) (object_words item.object))
known_tied {bytes} {item} sound =
    let there = in_item sound in
    subst (λ (text : List ℕ). Tied (said_if bytes) (known_signature_of item)
    (if is_there text then known_if (words_of item.arguments) (object_words item.object) (name_means text) else None))
    (first_text item.place there)
    (by (is_there first.text) (algorithm_if first) (name_means first.text) (name_tied first))
  where
    first : Argument
    first = front item.place (arguments_of item)

    of_name : (r : Result (Option Algorithm) ℕ) (o : Option (Option Algorithm)) → Tied
        (λ (a : Option Algorithm). a) r o
        → Tied (said_if bytes) (signed_if item r) (known_if (words_of item.arguments) (object_words item.object) o)
    of_name (Err e) None is = refl
    of_name (Err e) (Some f) is = absurd is
    of_name (Ok name) None is = absurd is
    of_name (Ok name) (Some f) is =
        subst (λ (g : Option Algorithm). Tied (said_if bytes) (signed_if item (Ok name))
        (known_if (words_of item.arguments) (object_words item.object) (Some g))) is
        (some_tied bytes (signed_by name (after_algorithm name (arguments_of item)) item)
        (signed_means name (after_name name (words_of item.arguments)) (object_words item.object))
        (signed_tied name sound (after_tied name (in_item sound))))

    by : (t : Bool) (r : Result (Option Algorithm) ℕ) (o : Option (Option Algorithm)) → Tied
        (λ (a : Option Algorithm). a) r o
        → Tied (said_if bytes) (if t then signed_if item r else Err item.place)
        (if t then known_if (words_of item.arguments) (object_words item.object) o else None)
    by true r o is = of_name r o is
    by false r o is = tt

-- ---- it is read again

-- the words of a signature that is written
abbrev pub signer_words : Option (List ℕ) → Fingerprint → Digest1 → List (List ℕ)
signer_words None identity key = hex_text identity.0 ∷ hex_text key.0 ∷ []
signer_words (Some name) identity key = name ∷ hex_text identity.0 ∷ hex_text key.0 ∷ []

abbrev signature_object : List ℕ → Option Object
signature_object bytes = Some (record { words = codes "SIGNATURE"; start = 0; text = body_text bytes })

-- the algorithm that a name names or none, where it is known
abbrev pub named : Option (List ℕ) → Option (Option Algorithm)
named None = Some None
named (Some name) = option_map (λ (a : Algorithm). Some a) (algorithm name)

-- a signature
abbrev pub signed_so : Fingerprint → Digest1 → List ℕ → Option Algorithm → Signed
signed_so identity key bytes found =
    record { algorithm = found; identity = identity; key_digest = key; signature = bytes }

-- the name is a word that spells no identity, and both are of twenty bytes
pub record IsSigner (name : Option (List ℕ)) (identity : Fingerprint) (key : Digest1) (bytes : List ℕ) : Type 0 where
  pub name_is : IfSome name (λ (n : List ℕ). (is_argument n ≡ true) × (fingerprint n ≡ None))
  pub identity_is : AreTwenty identity.0
  pub key_is : AreTwenty key.0
  pub bytes_are : IsBytes bytes

-- by its first word
known_is : (words : List (List ℕ)) (object : Option Object) (n : List ℕ) (o : Option (Option Algorithm))
    → head_word words ≡ n → is_there n ≡ true → name_means n ≡ o → known_means words object ≡ known_if words object o
known_is words object n o first there is = rw (first, there, is) refl

spells_one : (n : List ℕ) (identity : Fingerprint) → fingerprint n ≡ Some identity → name_means n ≡ Some None
spells_one n identity is = rw is refl

spells_none : (n : List ℕ) (found : Option Algorithm) → fingerprint n ≡ None → algorithm n ≡ found
    → name_means n ≡ option_map (λ (a : Algorithm). Some a) found
spells_none n found spelled is = rw (spelled, is) refl

signed_is : (name : Option Algorithm) (words : List (List ℕ)) (object : Option Object) (a b : List ℕ)
    (identity : Fingerprint) (key : Digest1) (sig : List ℕ) → words ≡ a ∷ b ∷ []
    → fingerprint a ≡ Some identity → key_digest b ≡ Some key
    → object_means (has_words object (codes "SIGNATURE")) object ≡ Some sig
    → signed_means name words object ≡ Some (signed_so identity key sig name)
signed_is name words object a b identity key sig are first second third = rw (are, first, second, third) refl

plain_is : (words : List (List ℕ)) (object : Option Object) (a b : List ℕ) (identity : Fingerprint) (key : Digest1)
    (sig : List ℕ) → words ≡ a ∷ b ∷ [] → is_there a ≡ true → fingerprint a ≡ Some identity → key_digest b ≡ Some key
    → object_means (has_words object (codes "SIGNATURE")) object ≡ Some sig
    → known_means words object ≡ Some (Some (signed_so identity key sig None))
plain_is words object a b identity key sig are there first second third =
    known_is words object a (Some None) (ap head_word are) there (spells_one a identity first)
    ∙ ap (λ (o : Option Signed). option_map (λ (s : Signed). Some s) o)
    (signed_is None words object a b identity key sig are first second third)

named_is : (words : List (List ℕ)) (object : Option Object) (n a b : List ℕ) (found : Option Algorithm)
    (identity : Fingerprint) (key : Digest1)
    (sig : List ℕ) → words ≡ n ∷ a ∷ b ∷ [] → is_there n ≡ true → fingerprint n ≡ None → algorithm n ≡ found
    → fingerprint a ≡ Some identity → key_digest b ≡ Some key
    → object_means (has_words object (codes "SIGNATURE")) object ≡ Some sig
    → known_means words object
    ≡ Some (option_map (λ (f : Option Algorithm). signed_so identity key sig f)
    (option_map (λ (f : Algorithm). Some f) found))
named_is words object n a b None identity key sig are there spelled is first second third =
    known_is words object n None (ap head_word are) there (spells_none n None spelled is)
named_is words object n a b (Some f) identity key sig are there spelled is first second third =
    known_is words object n (Some (Some f)) (ap head_word are) there (spells_none n (Some f) spelled is)
    ∙ ap (λ (o : Option Signed). option_map (λ (s : Signed). Some s) o)
    (signed_is (Some f) (tail_words words) object a b identity key sig (ap tail_words are) first second third)

object_again : (bytes : List ℕ) → IsBytes bytes
    → object_means (has_words (signature_object bytes) (codes "SIGNATURE")) (signature_object bytes) ≡ Some bytes
object_again bytes are = ap (λ (o : Option (List ℕ)). Some (unwrap_or o [])) (decoded-body_text bytes are)

pub known_again : (name : Option (List ℕ)) (identity : Fingerprint) (key : Digest1) (bytes : List ℕ)
    → IsSigner name identity key bytes
    → known_means (words_of (join_with_byte 32 (signer_words name identity key))) (signature_object bytes)
    ≡ Some (option_map (λ (f : Option Algorithm). signed_so identity key bytes f) (named name))
known_again None identity key bytes is =
    let a = hex_text identity.0 in
    let b = hex_text key.0 in
    let first = word_of_identity identity.0 is.identity_is.count is.identity_is.each in
    plain_is (words_of (join_with_byte 32 (a ∷ b ∷ []))) (signature_object bytes) a b identity key bytes
    (words_of-join (a ∷ b ∷ []) (two_words a b first (word_of_identity key.0 is.key_is.count is.key_is.each)))
    (word_is_there a first) (identity_again identity is.identity_is.count is.identity_is.each)
    (key_again key is.key_is.count is.key_is.each) (object_again bytes is.bytes_are)
known_again (Some name) identity key bytes is =
    let a = hex_text identity.0 in
    let b = hex_text key.0 in
    let first = word_of_identity identity.0 is.identity_is.count is.identity_is.each in
    named_is (words_of (join_with_byte 32 (name ∷ a ∷ b ∷ []))) (signature_object bytes) name a b (algorithm name)
    identity key bytes
    (words_of-join (name ∷ a ∷ b ∷ []) (All-cons IsWord name (a ∷ b ∷ []) is.name_is.0
    (two_words a b first (word_of_identity key.0 is.key_is.count is.key_is.each))))
    (word_is_there name is.name_is.0) is.name_is.1 refl
    (identity_again identity is.identity_is.count is.identity_is.each)
    (key_again key is.key_is.count is.key_is.each) (object_again bytes is.bytes_are)

-- ---- what is read of it is in range

-- its identity and its digest have twenty bytes
pub record AreSigned (s : Signed) : Type 0 where
  pub identity : AreTwenty s.identity.0
  pub key_digest : AreTwenty s.key_digest.0

signed_gives : (name : Option Algorithm) (words : List (List ℕ)) (object : Option Object)
    → Gives AreSigned (signed_means name words object)
signed_gives name words object =
    and_gives (λ (f : Fingerprint). AreTwenty f.0) AreSigned _ _ (identity_gives (head_word words))
    (λ identity one. and_gives (λ (f : Digest1). AreTwenty f.0) AreSigned _ _
    (key_gives (head_word (tail_words words)))
    (λ key two. and_gives (λ (l : List ℕ). Unit {0}) AreSigned _ _
    (any_gives (object_means (has_words object (codes "SIGNATURE")) object))
    (λ signature three. record { identity = one; key_digest = two })))

-- so have those of a signature, where there is one
abbrev pub AreSignedIf : Option Signed → Type 0
AreSignedIf s = IfSome s AreSigned

pub known_gives : (words : List (List ℕ)) (object : Option Object) → Gives AreSignedIf (known_means words object)
known_gives words object =
    if_gives AreSignedIf (is_there (head_word words)) (known_if words object (name_means (head_word words)))
    (by (name_means (head_word words)))
  where
    by : (o : Option (Option Algorithm)) → Gives AreSignedIf (known_if words object o)
    by None = tt
    by (Some name) =
        said_gives AreSigned AreSignedIf (signed_means name (after_name name words) object) (λ (s : Signed). Some s)
        (signed_gives name (after_name name words) object) (λ s is. is)
