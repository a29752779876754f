-- The item of a signature begins with the end of the signed part of its document.
use Rattle.std.proofs.Common.{◌≡◌, ℕ, ◌<◌, List, [], ◌∷◌, ◌++◌, length, refl, ap, ◌∙◌, arith, length-append}
use Rattle.std.specs.Prelude.{codes}
use Rattle.dirdoc_grammar.specs.{Bodies.object_text, Writing.{item_text, tail}}
use Rattle.frame_terms.specs.Keywords.{text_of}
use Rattle.frame_terms.specs.declared.keyword.Keyword.TheVariants as the
use Rattle.frame_values.specs.Items.{with_object}

-- a text that goes on after a keyword goes on with a space
pub tail_some : (text : List ℕ) → 0 < length text → tail text ≡ 32 ∷ text
tail_some [] some = absurd (omega (arith, some))
tail_some (b ∷ text) some = refl

-- who signs is named by two words, and an algorithm or none
pub signer_some : (name identity key : List ℕ) → 0 < length (name ++ identity ++ 32 ∷ key)
signer_some name identity key = omega (arith, length-append (name ++ identity) (32 ∷ key))

-- Behind the first word of the item stands a space, with which the signed part ends.
pub signed_end_first : (signer bytes : List ℕ) → 0 < length signer
    → item_text (with_object the.DirectorySignature signer (codes "SIGNATURE") bytes)
    ≡ codes "directory-signature " ++ (signer ++ 10 ∷ object_text (codes "SIGNATURE") bytes)
signed_end_first signer bytes some =
    let object = object_text (codes "SIGNATURE") bytes in
    ap (λ (l : List ℕ). (text_of the.DirectorySignature ++ l) ++ 10 ∷ object) (tail_some signer some)
    ∙ split signer object
  where
    split : (signer object : List ℕ)
        → (text_of the.DirectorySignature ++ 32 ∷ signer) ++ 10 ∷ object
        ≡ codes "directory-signature " ++ (signer ++ 10 ∷ object)
    split signer object = refl
