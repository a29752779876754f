-- The pieces of a body, and the body whole.
use Rattle.std.proofs.Common.{◌≡◌, ℕ, ◌+◌, ◌-◌, ◌≤◌, List, [], ◌++◌, length, take, drop, ap, sym, ◌∙◌, Option, Some}
use Rattle.std.proofs.{Common.{None, arith, length-drop, take_all, take-add, drop-drop}, lemmas.List.take-append-le}
use Rattle.std.{proofs.lemmas.List.{drop_all, drop-append-le}, specs.Io.KnownBytes.{Consumes, IsAtEnd}}
use Rattle.dir_http.specs.{declared.head.Head.Head, Requests.body_ahead}

-- the first bytes of a text and of the rest of it
first_of : (r n : ℕ) (xs l : List ℕ) → n ≤ r → n ≤ length xs → take r (xs ++ l) ≡ take n xs
    ++ take (r - n) (drop n xs ++ l)
first_of r n xs l low short =
    let sum : r ≡ n + (r - n) = omega (arith, low) in
    let front : take n (xs ++ l) ≡ take n xs = take-append-le n xs l short in
    let back : drop n (xs ++ l) ≡ drop n xs ++ l = drop-append-le n xs l short in
    ap (λ (k : ℕ). take k (xs ++ l)) sum ∙ take-add n (r - n) (xs ++ l)
    ∙ ap (λ (f : List ℕ). f ++ take (r - n) (drop n (xs ++ l))) front
    ∙ ap (λ (b : List ℕ). take n xs ++ take (r - n) b) back

-- a piece of what was read with the head
pub early_comes : (head : Head) (given count now : ℕ) (left : Option (List ℕ)) (piece : List ℕ)
    → now ≡ given + count → now ≤ head.length
    → now ≤ length head.early.items → piece ≡ take count (drop given head.early.items)
    → Consumes (body_ahead given head left) (body_ahead now head left) piece
early_comes head given count now None piece sum within short is = tt
early_comes head given count now (Some l) piece sum within short is =
    let early = head.early.items in
    let fits : count ≤ length (drop given early) = omega (arith, short, sum, length-drop given early) in
    let less : head.length - given - count ≡ head.length - now = omega (arith, sum) in
    let on : drop count (drop given early) ≡ drop now early = drop-drop count given early
    ∙ ap (λ (k : ℕ). drop k early) (sym sum) in
    first_of (head.length - given) count (drop given early) l (omega (arith, sum, within)) fits
    ∙ ap (λ (p : List ℕ). p ++ take (head.length - given - count) (drop count (drop given early) ++ l)) (sym is)
    ∙ ap (λ (k : ℕ). piece ++ take k (drop count (drop given early) ++ l)) less
    ∙ ap (λ (b : List ℕ). piece ++ take (head.length - now) (b ++ l)) on

-- a piece that a source gave
pub source_comes : (head : Head) (given count now : ℕ) (old new : Option (List ℕ)) (piece : List ℕ)
    → now ≡ given + count → now ≤ head.length
    → length head.early.items ≤ given → count ≡ length piece → Consumes old new piece
    → Consumes (body_ahead given head old) (body_ahead now head new) piece
source_comes head given count now None new piece sum within past len took = tt
source_comes head given count now (Some bytes) None piece sum within past len took = absurd took
source_comes head given count now (Some bytes) (Some left) piece sum within past len took =
    let early = head.early.items in
    let gone : drop given early ≡ [] = drop_all given early past in
    let gone_now : drop now early ≡ [] = drop_all now early (omega (arith, past, sum)) in
    let less : head.length - given - count ≡ head.length - now = omega (arith, sum) in
    let all : take count piece ≡ piece = take_all count piece (omega (arith, len)) in
    let none : drop count piece ≡ [] = drop_all count piece (omega (arith, len)) in
    ap (λ (e : List ℕ). take (head.length - given) (e ++ bytes)) gone
    ∙ ap (λ (b : List ℕ). take (head.length - given) b) took
    ∙ first_of (head.length - given) count piece left (omega (arith, sum, within)) (omega (arith, len))
    ∙ ap (λ (p : List ℕ). p ++ take (head.length - given - count) (drop count piece ++ left)) all
    ∙ ap (λ (b : List ℕ). piece ++ take (head.length - given - count) (b ++ left)) none
    ∙ ap (λ (k : ℕ). piece ++ take k left) less
    ∙ ap (λ (e : List ℕ). piece ++ take (head.length - now) (e ++ left)) (sym gone_now)
