-- The microdescriptors of a list of digests, with one digest more.
use Rattle.std.proofs.Common.{◌≡◌, ◌∙◌, ◌<◌, ◌+◌, ℕ, List, [], ◌∷◌, ◌++◌, length, take, get_or, ap, sym, append-nil}
use Rattle.std.{proofs.lemmas.List.{take_more, Concat.flat_map-append}, specs.List.flat_map}
use Rattle.mirror_core.specs.{Answers.micro_with, States.Mirrored}
use Rattle.mirror_serve.specs.Given.{bytes_if, micros_with}

-- the microdescriptors that are held of so many digests, and that of the next
pub one_more_digest_given : (mirror : Mirrored) (digests : List (List ℕ)) (i : ℕ) (d : List ℕ) (out : List ℕ) → i < length digests
    → out ≡ micros_with mirror (take i digests)
    → out ++ bytes_if (micro_with mirror (get_or digests i d)) ≡ micros_with mirror (take (i + 1) digests)
one_more_digest_given mirror digests i d out lt is =
    let given = λ (digest : List ℕ). bytes_if (micro_with mirror digest) in
    let next = get_or digests i d in
    ap (λ (text : List ℕ). text ++ given next) is
    ∙ ap (λ (text : List ℕ). flat_map given (take i digests) ++ text) (sym (append-nil (given next)))
    ∙ sym (flat_map-append given (take i digests) (next ∷ []))
    ∙ ap (λ (some : List (List ℕ)). flat_map given some) (sym (take_more digests i d lt))
