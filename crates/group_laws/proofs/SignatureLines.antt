-- A line of who signed a document, and the signature, is read again, whatever algorithm it names.
use Rattle.std.proofs.Common.{◌≡◌, ℕ, ◌+◌, ◌<◌, true, List, [], ◌∷◌, length, Option, Some, None, Ok, refl, ap, ◌∙◌}
use Rattle.std.{proofs.{Common.{arith, length-append}, lemmas.List.Elements.All-cons}, specs.Prelude.codes}
use Rattle.std.specs.Prelude.{option_map, if◌then◌else◌}
use Rattle.item_terms.specs.Items.{Item}
use Rattle.dir_bytes.specs.FieldTexts.{hex_text}
use Rattle.dir_values.specs.{Arguments.Argument, Digests.{fingerprint, key_digest}, Names.algorithm}
use Rattle.dir_values.specs.declared.{algorithm.Algorithm.Algorithm, digest.{Digest1.Digest1, Fingerprint.Fingerprint}}
use Rattle.dirdoc_grammar.specs.Writing.{written}
use Rattle.frame_terms.specs.declared.keyword.Keyword.{Keyword}
use Rattle.frame_values.specs.{Arguments.{arguments_of, front}, Fields.is_there, Items.with_object}
use Rattle.frame_values.specs.Signatures.{after_algorithm, algorithm_if, has_words, is_space, known_signature_of}
use Rattle.frame_values.specs.{Signatures.{object_of, signature_of, signed_by}, declared.found.Span.Span}
use Rattle.frame_values.specs.declared.found.VoteSignature.{VoteSignature}
use Rattle.frame_laws.proofs.Words.{AreWords, IsWord, arguments_of_words, two_words, word_of_identity}
use Rattle.frame_laws.proofs.WrittenItems.{identity_again, key_again, lines_at, space_first, start_of, word_is_there}
use Rattle.group_laws.specs.Again.{IsSignerInRange, SignatureLinesAreReadAgain, named_algorithm, signature_at}
use Rattle.group_laws.specs.Again.{signature_said, signer_text}

-- ---- items whose arguments are known

-- what is read of who signed: the algorithm that is named or not, and the rest
record IsSignedBy (item : Item) (name : Option Algorithm) (signature : VoteSignature) : Type 0 where
  there : is_there (front item.place (arguments_of item)).text ≡ true
  named_is : algorithm_if (front item.place (arguments_of item)) ≡ Ok name
  by : signed_by name (after_algorithm name (arguments_of item)) item ≡ Ok signature

-- of a line that names no algorithm
plain_is : (item : Item) (a b : Argument) (identity : Fingerprint) (key : Digest1) (lines : Span)
    → arguments_of item ≡ a ∷ b ∷ [] → is_there a.text ≡ true → fingerprint a.text ≡ Some identity
    → key_digest b.text ≡ Some key → object_of (has_words item.object (codes "SIGNATURE")) item ≡ Ok lines
    → IsSignedBy item None
    (record { algorithm = None; identity = identity; key_digest = key; signature = lines })
plain_is item a b identity key lines args there first second third = record {
  there = rw args there;
  named_is = rw (args, first) refl;
  by = rw (args, first, second, third) refl;
}

-- of a line that names one
named_one : (item : Item) (n a b : Argument) (name : Algorithm) (identity : Fingerprint) (key : Digest1) (lines : Span)
    → arguments_of item ≡ n ∷ a ∷ b ∷ [] → is_there n.text ≡ true → fingerprint n.text ≡ None
    → algorithm n.text ≡ Some name → fingerprint a.text ≡ Some identity → key_digest b.text ≡ Some key
    → object_of (has_words item.object (codes "SIGNATURE")) item ≡ Ok lines
    → IsSignedBy item (Some name)
    (record { algorithm = Some name; identity = identity; key_digest = key; signature = lines })
named_one item n a b name identity key lines args there no_first is first second third = record {
  there = rw args there;
  named_is = rw (args, no_first, is) refl;
  by = rw (args, first, second, third) refl;
}

-- of one that names one that is not known
other_is : (item : Item) (n a b : Argument) → arguments_of item ≡ n ∷ a ∷ b ∷ [] → is_there n.text ≡ true
    → fingerprint n.text ≡ None → algorithm n.text ≡ None → known_signature_of item ≡ Ok None
other_is item n a b args there no_first is = rw (args, there, no_first, is) refl

whole_is : (item : Item) (name : Option Algorithm) (signature : VoteSignature) → is_space item.separator ≡ true
    → IsSignedBy item name signature → signature_of item ≡ Ok signature
whole_is item name signature space read = rw (space, read.named_is, read.by) refl

known_is : (item : Item) (name : Option Algorithm) (signature : VoteSignature) → IsSignedBy item name signature
    → known_signature_of item ≡ Ok (Some signature)
known_is item name signature read = rw (read.there, read.named_is, read.by) refl

same_name : (a b : Option Algorithm) → Some a ≡ Some b → a ≡ b
same_name a b is = cc

-- ---- the line

module _ (p : ℕ) (k : Keyword) (identity : Fingerprint) (key : Digest1) (bytes : List ℕ) where
  abbrev item : Option (List ℕ) → Item
  item name = written p (with_object k (signer_text name identity key) (codes "SIGNATURE") bytes)

  abbrev at : Option (List ℕ) → Option Algorithm → VoteSignature
  at name found = signature_at p k name found identity key bytes

  two : (name : Option (List ℕ)) → IsSignerInRange name identity key
      → AreWords (hex_text identity.0 ∷ hex_text key.0 ∷ [])
  two name are =
      two_words (hex_text identity.0) (hex_text key.0)
      (word_of_identity identity.0 are.identity_is.count are.identity_is.each)
      (word_of_identity key.0 are.key_is.count are.key_is.each)

  without_name : IsSignerInRange None identity key → IsSignedBy (item None) None (at None None)
  without_name are =
      let a = hex_text identity.0 in
      let b = hex_text key.0 in
      let start = start_of p k (signer_text None identity key) in
      plain_is (item None) (record { place = start; text = a }) (record { place = start + length a + 1; text = b })
      identity key (lines_at p k (signer_text None identity key) (codes "SIGNATURE") bytes)
      (arguments_of_words start (a ∷ b ∷ []) (two None are))
      (word_is_there a (word_of_identity identity.0 are.identity_is.count are.identity_is.each))
      (identity_again identity are.identity_is.count are.identity_is.each)
      (key_again key are.key_is.count are.key_is.each) refl

  with_name : (name : List ℕ) (found : Algorithm) → IsSignerInRange (Some name) identity key
      → algorithm name ≡ Some found → IsSignedBy (item (Some name)) (Some found) (at (Some name) (Some found))
  with_name name found are is =
      let a = hex_text identity.0 in
      let b = hex_text key.0 in
      let start = start_of p k (signer_text (Some name) identity key) in
      let second = start + length name + 1 in
      named_one (item (Some name)) (record { place = start; text = name }) (record { place = second; text = a })
      (record { place = second + length a + 1; text = b }) found identity key
      (lines_at p k (signer_text (Some name) identity key) (codes "SIGNATURE") bytes)
      (arguments_of_words start (name ∷ a ∷ b ∷ [])
      (All-cons IsWord name (a ∷ b ∷ []) are.name_is.0 (two (Some name) are)))
      (word_is_there name are.name_is.0) are.name_is.1 is
      (identity_again identity are.identity_is.count are.identity_is.each)
      (key_again key are.key_is.count are.key_is.each) refl

  with_other : (name : List ℕ) → IsSignerInRange (Some name) identity key → algorithm name ≡ None
      → known_signature_of (item (Some name)) ≡ Ok None
  with_other name are is =
      let a = hex_text identity.0 in
      let b = hex_text key.0 in
      let start = start_of p k (signer_text (Some name) identity key) in
      let second = start + length name + 1 in
      other_is (item (Some name)) (record { place = start; text = name }) (record { place = second; text = a })
      (record { place = second + length a + 1; text = b })
      (arguments_of_words start (name ∷ a ∷ b ∷ [])
      (All-cons IsWord name (a ∷ b ∷ []) are.name_is.0 (two (Some name) are)))
      (word_is_there name are.name_is.0) are.name_is.1 is

  -- a line of one of several signatures
  pub known_again : (name : Option (List ℕ)) → IsSignerInRange name identity key
      → known_signature_of (item name) ≡ Ok (signature_said p k name identity key bytes)
  known_again None are = known_is (item None) None (at None None) (without_name are)
  known_again (Some name) are = by (algorithm name) refl
    where
      by : (found : Option Algorithm) → algorithm name ≡ found
          → known_signature_of (item (Some name))
          ≡ Ok (option_map (λ f. at (Some name) f) (option_map (λ a. Some a) found))
      by None is = with_other name are is
      by (Some found) is =
          known_is (item (Some name)) (Some found) (at (Some name) (Some found)) (with_name name found are is)

  -- its text is not empty
  pub signer_filled : (name : Option (List ℕ)) → 0 < length (signer_text name identity key)
  signer_filled None = omega (arith, length-append (hex_text identity.0) (32 ∷ hex_text key.0))
  signer_filled (Some name) = omega (arith, length-append name (32 ∷ signer_text None identity key))

  -- so that a space stands behind the keyword
  pub space_again : (name : Option (List ℕ)) → is_space (item name).separator ≡ true
  space_again name = space_first (signer_text name identity key) (signer_filled name)

  -- a line of the one signature of a document, by an algorithm that is known or none
  pub signature_again : (name : Option (List ℕ)) (found : Option Algorithm) → IsSignerInRange name identity key
      → named_algorithm name ≡ Some found → signature_of (item name) ≡ Ok (at name found)
  signature_again None found are is =
      whole_is (item None) None (at None None) (space_again None) (without_name are)
      ∙ ap (λ (f : Option Algorithm). Ok (at None f)) (same_name None found is)
  signature_again (Some name) found are is = by (algorithm name) refl is
    where
      by : (a : Option Algorithm) → algorithm name ≡ a → option_map (λ b. Some b) a ≡ Some found
          → signature_of (item (Some name)) ≡ Ok (at (Some name) found)
      by None other e = absurd (cc e)
      by (Some a) known e =
          whole_is (item (Some name)) (Some a) (at (Some name) (Some a)) (space_again (Some name))
          (with_name name a are known)
          ∙ ap (λ (f : Option Algorithm). Ok (at (Some name) f)) (same_name (Some a) found e)

pub lines_again : SignatureLinesAreReadAgain
lines_again p k name identity key bytes are =
    (known_again p k identity key bytes name are, λ found is. signature_again p k identity key bytes name found are is)
