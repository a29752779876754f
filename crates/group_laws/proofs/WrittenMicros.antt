-- A line of methods and a digest that was written is read again.
use Rattle.std.proofs.Common.{◌≡◌, ℕ, ◌+◌, true, List, [], ◌∷◌, ◌++◌, length, Option, Some, Ok, refl, ap, subst, arith}
use Rattle.std.specs.Prelude.{codes, option_map}
use Rattle.dir_bytes.{specs.{FieldTexts.base64_text, Fields.base64}, proofs.ReadAgain.base64-base64_text}
use Rattle.dir_values.specs.{Arguments.Argument, Digests.{digest2, digest2_text}, declared.digest.Digest2.Digest2}
use Rattle.dirdoc_grammar.specs.Writing.{written}
use Rattle.frame_values.specs.{Arguments.{arguments_of, field, next}, Fields.span_of, Items.bare}
use Rattle.item_terms.specs.Items.{Item}
use Rattle.frame_laws.proofs.{Base64Words.word_of_base64, WordTexts.bytes_of, Words.{IsWord, arguments_of_words}}
use Rattle.frame_laws.proofs.Words.{two_words}
use Rattle.relay_entries.specs.{Fields.are_methods, Lines.{digest_among, micro_of}, Texts.{methods_text, micro_text}}
use Rattle.group_laws.specs.{EntryAgain.{MicroLinesAreReadAgain, rest_start}, Ranges.AreThirtyTwo}
use Rattle.group_laws.proofs.WrittenMethods.{are_methods-text, methods_in-text, word_of_methods}

-- ---- values

-- the base64 of a digest is read as that digest
pub digest_again : (digest : Digest2) → AreThirtyTwo digest.0 → digest2 (digest2_text digest) ≡ Some digest
digest_again digest are =
    ap (option_map (λ bytes. record { 0 = bytes }))
    (subst (λ (n : ℕ). base64 n (base64_text digest.0) ≡ Some digest.0) are.count
    (base64-base64_text digest.0 are.each))

-- it is a word
pub word_of_thirty_two : (bytes : List ℕ) → AreThirtyTwo bytes → IsWord (base64_text bytes)
word_of_thirty_two bytes are = word_of_base64 bytes (omega (arith, are.count)) are.each

-- behind the name of its algorithm it is named
named : (place : ℕ) (digest : Digest2) → AreThirtyTwo digest.0
    → digest_among (record { place = place; text = codes "sha256=" ++ digest2_text digest } ∷ []) ≡ Ok (Some digest)
named place digest are =
    let argument : Argument = record { place = place; text = codes "sha256=" ++ digest2_text digest } in
    ap (λ (o : Option Digest2). next (field argument o) (λ (found : Digest2). Ok (Some found)))
    (digest_again digest are)

-- ---- an item whose arguments are known

micro_is : (item : Item) (a b : Argument) (digest : Digest2) → arguments_of item ≡ a ∷ b ∷ []
    → are_methods a.text ≡ true
    → digest_among (b ∷ []) ≡ Ok (Some digest)
    → micro_of item ≡ Ok (record { methods = span_of a; digest = Some digest })
micro_is item a b digest args are is = rw (args, are, is) refl

-- ---- the law

pub micro_again : MicroLinesAreReadAgain
micro_again place keyword methods digest are is =
    let a = methods_text methods in
    let b = codes "sha256=" ++ digest2_text digest in
    let text = micro_text methods digest in
    let start = rest_start place keyword text in
    let second = start + length a + 1 in
    let named_word : IsWord b = bytes_of (digest2_text digest) (word_of_thirty_two digest.0 is) in (
      micro_is (written place (bare keyword text)) (record { place = start; text = a })
          (record { place = second; text = b }) digest
          (arguments_of_words start (a ∷ b ∷ []) (two_words a b (word_of_methods methods are.some) named_word))
          (are_methods-text methods are.some are.each) (named second digest is),
      methods_in-text methods are.some are.each,
    )
