-- The value that leads so far.
use Rattle.std.specs.{Prelude.{List, Option, Some, None, if◌then◌else◌}, declared.cmp.Ordering.Ordering, List.fold}
use Rattle.count_terms.specs.Choosing.{outdoes}

-- the value that leads once one more was seen, of the values of a list
abbrev pub after : {A : Type 0} → (A → A → Ordering) → List A → Option A → A → Option A
after order list None x = Some x
after order list (Some best) x = if outdoes order list x best then Some x else Some best

-- the value that leads of some that were seen
abbrev pub leader : {A : Type 0} → (A → A → Ordering) → List A → List A → Option A
leader order list seen = fold (after order list) None seen
