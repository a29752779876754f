-- Where an input ends: only blank lines follow, none of which is too long for a line.
use Rattle.std.specs.Prelude.{ℕ, Bool, true, false, List, [], Option, None}
use Rattle.item_terms.specs.{Items.{Item, items_from, no_limit}, declared.fault.DocFault.DocFault}

-- whether there is nothing
abbrev pub is_nothing : List Item → Option DocFault → Bool
is_nothing [] None = true
is_nothing _ _ = false

-- whether only such lines follow a place
abbrev pub ends_at : ℕ → List ℕ → Bool
ends_at place bytes = is_nothing (items_from place no_limit bytes).items (items_from place no_limit bytes).fault
