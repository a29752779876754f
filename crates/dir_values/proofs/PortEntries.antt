-- What is left to write of a list of ranges, and what stood there before.
use Rattle.std.proofs.Common.{◌≡◌, ℕ, suc, ◌+◌, ◌<◌, ◌≤◌, List, [], ◌∷◌, ◌++◌, length, take, drop, get_or, sym, ap, ◌∙◌}
use Rattle.std.proofs.{Common.{arith, length-append, length-take, drop-cons}, lemmas.List.take-append-drop}
use Rattle.std.proofs.lemmas.List.{take-append-le}
use Rattle.item_terms.specs.Bytes.{comma}
use Rattle.dir_values.specs.{declared.port_range.PortRange.PortRange, Ports.{range_text, entries_text}}

-- what is left to write before a range is written
entries-drop : (separator : ℕ) (ranges : List PortRange) (i : ℕ) (d : PortRange) → i < length ranges
    → entries_text separator (drop i ranges)
    ≡ separator ∷ (range_text (get_or ranges i d) ++ entries_text comma (drop (i + 1) ranges))
entries-drop separator ranges i d lt =
    let one : suc i ≡ i + 1 = omega arith in
    ap (entries_text separator) (drop-cons ranges i d lt)
    ∙ ap (λ (n : ℕ). separator ∷ (range_text (get_or ranges i d) ++ entries_text comma (drop n ranges))) one

-- where a range is left to write, there is at least its separator
pub length-entries : (separator : ℕ) (ranges : List PortRange) (i : ℕ) → i < length ranges
    → 1 ≤ length (entries_text separator (drop i ranges))
length-entries separator ranges i lt =
    let d : PortRange = record { low = 0; high = 0 } in
    let is : length (entries_text separator (drop i ranges))
    ≡ length (separator ∷ (range_text (get_or ranges i d) ++ entries_text comma (drop (i + 1) ranges))) =
    ap (λ (l : List ℕ). length l) (entries-drop separator ranges i d lt) in
    omega (arith, is)

-- what stood in front of a list still stands there, where more was added and then a front was kept
pub front_kept : (n m : ℕ) (front xs ys zs : List ℕ) (y : ℕ) → take n xs ≡ front → length front ≡ n
    → ys ≡ xs ++ y ∷ [] → take m zs ≡ ys → length ys ≡ m → take n zs ≡ front
front_kept n m front xs ys zs y is count pushed kept whole =
    let within : n ≤ length xs = omega (arith, count, ap (λ (l : List ℕ). length l) is, length-take n xs) in
    let longer : length ys ≡ length xs + 1 = ap (λ (l : List ℕ). length l) pushed ∙ length-append xs (y ∷ []) in
    ap (take n) (sym (take-append-drop m zs)) ∙ ap (λ (l : List ℕ). take n (l ++ drop m zs)) kept
    ∙ take-append-le n ys (drop m zs) (omega (arith, within, longer))
    ∙ ap (take n) pushed ∙ take-append-le n xs (y ∷ []) within ∙ is
