-- What an item of a vote says that was written and is read again: the value that it was written for.
use Rattle.std.proofs.Common.{◌≡◌, ℕ, ◌+◌, ◌≤◌, List, [], ◌∷◌, ◌++◌, cond, length, Option, Some, None, Ok, refl, ap}
use Rattle.std.proofs.{Common.{◌∙◌, arith}, lemmas.List.{length-map, Elements.{All-head, All-tail}}}
use Rattle.std.specs.{Prelude.{All, map, codes, is_none, unwrap_or, option_map}, List.find, Fmt.decimal}
use Rattle.dir_bytes.{specs.{FieldTexts.hex_text, Fields.hex}, proofs.ReadAgain.number-decimal}
use Rattle.dir_values.specs.{Arguments.Argument, declared.algorithm.Algorithm.{Algorithm, TheVariants.{Sha1, Sha256}}}
use Rattle.dir_values.specs.declared.digest.{Digest1.Digest1, Fingerprint.Fingerprint as Identity}
use Rattle.dir_values.specs.{Digests.fingerprint, Numbers.{wrong_number, number_of, number_in, numbers_in}}
use Rattle.dir_values.specs.Numbers.{numbers_text}
use Rattle.dirdoc_grammar.specs.Writing.{written}
use Rattle.frame_terms.specs.declared.keyword.Keyword.{Keyword}
use Rattle.frame_values.specs.{Arguments.arguments_of, Lines.{numbers_of, rest_unless}, Ranges.AreTwenty}
use Rattle.frame_values.specs.{Signatures.signature_of, declared.found.VoteSignature.VoteSignature, Items.bare}
use Rattle.frame_values.specs.Items.{with_object}
use Rattle.frame_laws.proofs.Words.{arguments_of_words, length-arguments_at, placed, words_of-join, words_of_numbers}
use Rattle.frame_laws.proofs.WrittenItems.{lines_at, rest_at, start_of}
use Rattle.group_laws.proofs.SignatureLines.{signature_again}
use Rattle.vote_terms.specs.declared.facts.SignatureFacts.{SignatureFacts}
use Rattle.vote_text.specs.Texts.{algorithm_text, signer_text}
use Rattle.vote_doc.specs.Facts.{algorithm_of}

-- the name of SHA-256 is no fingerprint
no_identity : fingerprint (codes "sha256") ≡ None
unfolding hex
no_identity = refl

-- ---- numbers

abbrev IsSmall : ℕ → Type 0
IsSmall n = n ≤ 4294967295

is_read : (n : ℕ) → IsSmall n → number_of (decimal n) ≡ Some n
is_read n small = number-decimal 4294967295 n small (omega (arith, small))

each_is_number : (start : ℕ) (numbers : List ℕ) → All IsSmall numbers
    → wrong_number (placed start (map decimal numbers)) ≡ None
each_is_number start [] small = refl
each_is_number start (n ∷ numbers) small =
    let first : Argument = record { place = start; text = decimal n } in
    let rest = placed (start + length (decimal n) + 1) (map decimal numbers) in
    let other : Option Argument = find (λ argument. is_none (number_of argument.text)) rest in
    ap (λ (o : Option ℕ). option_map (λ argument. argument.place) (cond (is_none o) (Some first) other))
    (is_read n (All-head IsSmall n numbers small))
    ∙ each_is_number (start + length (decimal n) + 1) numbers (All-tail IsSmall n numbers small)

read_back : (numbers : List ℕ) → All IsSmall numbers → map number_in (map decimal numbers) ≡ numbers
read_back [] small = refl
read_back (n ∷ numbers) small =
    ap (λ (o : Option ℕ). unwrap_or o 0 ∷ map number_in (map decimal numbers))
    (is_read n (All-head IsSmall n numbers small))
    ∙ ap (λ (l : List ℕ). n ∷ l) (read_back numbers (All-tail IsSmall n numbers small))

-- numbers of 32 bits
pub numbers-written : (p : ℕ) (k : Keyword) (numbers : List ℕ) → All (λ n. n ≤ 4294967295) numbers
    → numbers_of (written p (bare k (numbers_text numbers))) ≡ Ok (rest_at p k (numbers_text numbers))
numbers-written p k numbers small =
    let text = numbers_text numbers in
    let item = written p (bare k text) in
    ap (λ (l : List Argument). rest_unless (wrong_number l) item)
    (arguments_of_words (start_of p k text) (map decimal numbers) (words_of_numbers numbers))
    ∙ ap (λ (o : Option ℕ). rest_unless o item) (each_is_number (start_of p k text) numbers small)

-- the numbers that are read are those
pub numbers_in-text : (numbers : List ℕ) → All (λ n. n ≤ 4294967295) numbers
    → numbers_in (numbers_text numbers) ≡ numbers
numbers_in-text numbers small =
    ap (map number_in) (words_of-join (map decimal numbers) (words_of_numbers numbers)) ∙ read_back numbers small

-- how many arguments they are
pub length-numbers : (p : ℕ) (k : Keyword) (numbers : List ℕ)
    → length (arguments_of (written p (bare k (numbers_text numbers)))) ≡ length numbers
length-numbers p k numbers =
    length-arguments_at (start_of p k (numbers_text numbers)) (map decimal numbers) (words_of_numbers numbers)
    ∙ length-map numbers decimal

-- ---- the signature of a vote

-- how a signature names its algorithm
abbrev pub name_of : Algorithm → Option Algorithm
name_of Sha1 = None
name_of Sha256 = Some Sha256

-- the algorithm that is named so is that
pub algorithm_of-name : (name : Algorithm) → algorithm_of (name_of name) ≡ name
algorithm_of-name Sha1 = refl
algorithm_of-name Sha256 = refl

-- what a signature says that is read at a place
abbrev pub signature_at : ℕ → Keyword → SignatureFacts → VoteSignature
signature_at p k s = record {
  algorithm = name_of s.algorithm;
  identity = s.identity;
  key_digest = s.key_digest;
  signature = lines_at p k (signer_text s) (codes "SIGNATURE") s.signature;
}

-- what a signature says whose line names this algorithm, this authority and this key
abbrev SignatureIsRead : ℕ → Keyword → Algorithm → Identity → Digest1 → List ℕ → Type 0
SignatureIsRead p k name identity key bytes =
    let rest = algorithm_text name ++ hex_text identity.0 ++ 32 ∷ hex_text key.0 in
    signature_of (written p (with_object k rest (codes "SIGNATURE") bytes))
    ≡ Ok (record {
      algorithm = name_of name;
      identity = identity;
      key_digest = key;
      signature = lines_at p k rest
          (codes "SIGNATURE") bytes;
    })

signed : (p : ℕ) (k : Keyword) (name : Algorithm) (identity : Identity) (key : Digest1) (bytes : List ℕ)
    → AreTwenty identity.0 → AreTwenty key.0 → SignatureIsRead p k name identity key bytes
signed p k Sha1 identity key bytes is_identity is_key =
    signature_again p k identity key bytes None None
    (record { name_is = tt; identity_is = is_identity; key_is = is_key }) refl
signed p k Sha256 identity key bytes is_identity is_key =
    signature_again p k identity key bytes (Some (codes "sha256")) (Some Sha256)
    (record { name_is = (refl, no_identity); identity_is = is_identity; key_is = is_key }) refl

-- by whom a vote is signed
pub signature-written : (p : ℕ) (k : Keyword) (s : SignatureFacts) → AreTwenty s.identity.0 → AreTwenty s.key_digest.0
    → signature_of (written p (with_object k (signer_text s) (codes "SIGNATURE") s.signature))
    ≡ Ok (signature_at p k s)
signature-written p k s is_identity is_key =
    signed p k s.algorithm s.identity s.key_digest s.signature is_identity is_key
