-- Which bytes of an input are its consensus (dir-spec, "Document meta-format"): those from its first item through the object
-- of its last signature.
use Rattle.std.specs.Prelude.{ℕ, Bool, List, [], ◌∷◌, length, slice_range, Option, Some, None, codes, if◌then◌else◌}
use Rattle.std.specs.Str.{bytes_eq}
use Rattle.item_terms.specs.{Items.{Contents, Item, items_of, no_limit}, declared.fault.DocFault.DocFault}

-- where the first of these items stands, and 0 where there is none
abbrev pub first_place : List Item → ℕ
first_place [] = 0
first_place (item ∷ items) = item.place

-- whether an item is a signature
abbrev pub is_signature : Item → Bool
is_signature item = bytes_eq item.keyword (codes "directory-signature")

-- where the last signature of these items ends, and a given place where there is none
abbrev pub last_end : ℕ → List Item → ℕ
last_end end [] = end
last_end end (item ∷ items) = last_end (if is_signature item then item.after else end) items

-- the same, and the end of the input where an item has a fault
abbrev pub end_unless : Option DocFault → ℕ → ℕ → ℕ
end_unless None size end = end
end_unless (Some fault) size end = size

-- the same of what an input of this size holds, where the last signature so far ends at a given place
abbrev pub end_in : ℕ → ℕ → Contents → ℕ
end_in size end contents = end_unless contents.fault size (last_end end contents.items)

-- where the consensus of an input begins
abbrev pub begin_of : List ℕ → ℕ
begin_of bytes = first_place (items_of no_limit bytes).items

-- where it ends: behind its last signature; with the input where it has none, or an item has a fault
abbrev pub end_of : List ℕ → ℕ
end_of bytes = end_in (length bytes) (length bytes) (items_of no_limit bytes)

-- the consensus of an input
abbrev pub consensus_part : List ℕ → List ℕ
consensus_part bytes = slice_range bytes (begin_of bytes) (end_of bytes)
