-- A piece that is copied off the front of some bytes.
use Rattle.std.proofs.Common.{◌≡◌, ◌∙◌, ℕ, ◌+◌, ◌≤◌, List, ◌++◌, length, take, drop, ap, sym, arith, length-take}
use Rattle.std.proofs.{Common.{drop-drop, take-take}, lemmas.List.{take-append-drop, take-append-le}}

pub piece_comes : (bytes rest copied back : List ℕ) (place count : ℕ) → rest ≡ drop place bytes → copied ≡ take count rest
    → count ≤ length rest → drop place bytes ≡ take count (copied ++ back) ++ drop (place + count) bytes
piece_comes bytes rest copied back place count is copy fits =
    let long : length copied ≡ count = omega (arith, ap (λ (l : List ℕ). length l) copy, length-take count rest, fits) in
    let front : take count (copied ++ back) ≡ take count rest =
    take-append-le count copied back (omega (arith, long)) ∙ ap (λ (l : List ℕ). take count l) copy
    ∙ take-take count count rest (omega arith) in
    let behind : drop (place + count) bytes ≡ drop count rest =
    sym (drop-drop count place bytes) ∙ ap (λ (l : List ℕ). drop count l) (sym is) in
    sym is ∙ sym (take-append-drop count rest) ∙ ap (λ (l : List ℕ). l ++ drop count rest) (sym front)
    ∙ ap (λ (l : List ℕ). take count (copied ++ back) ++ l) (sym behind)
