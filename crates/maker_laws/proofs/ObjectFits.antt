-- The object of a signature that a signer may give is within its limit.
use Rattle.std.proofs.Common.{◌≡◌, ℕ, ◌+◌, ◌≤◌, List, [], ◌∷◌, ◌++◌, length, length-append, refl, arith}
use Rattle.std.specs.Prelude.{codes}
use Rattle.item_terms.specs.Faults.{max_object}
use Rattle.dirdoc_grammar.specs.Bodies.{base64_of, begin_line, body_text, end_line, object_text}
use Rattle.dirdoc_grammar.proofs.BodyLines.{length-base64_of}
use Rattle.key_port.specs.Signing.{signature_limit}
use Rattle.range_laws.proofs.TextSizes.{lines_fit}

pub object_fits : (signature : List ℕ) → length signature ≤ signature_limit
    → length (object_text (codes "SIGNATURE") signature) ≤ max_object
object_fits signature short =
    let words = codes "SIGNATURE" in
    let body = body_text signature in
    let fit = lines_fit 0 (base64_of signature) (omega arith) in
    let size = length-base64_of signature in
    let first : length (begin_line words) ≡ 25 = refl in
    let last : length (end_line words) ≡ 23 = refl in
    let inner = length-append (body ++ end_line words) (10 ∷ []) in
    let both = length-append body (end_line words) in
    let whole = length-append (begin_line words) (10 ∷ (body ++ end_line words ++ 10 ∷ [])) in
    omega (arith, first, last, inner, both, whole, fit, size, short)
