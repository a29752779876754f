-- The parts of a server descriptor that is written, and what the table says of them.
use Rattle.std.proofs.Common.{◌≡◌, ℕ, Bool, true, false, List, [], ◌∷◌, ◌++◌, None, refl, ◌∙◌, arith}
use Rattle.std.{proofs.lemmas.Bool.{and_parts, not-true}, specs.Prelude.{map, not, ◌&&◌}}
use Rattle.frame_terms.specs.{Keywords.same, Rows.is_many, Sections.{lacking_but, stands}}
use Rattle.frame_terms.specs.declared.{document.Taken.Taken, row.Row.Row}
use Rattle.frame_terms.specs.declared.keyword.Keyword.TheVariants as the
use Rattle.frame_laws.proofs.{Entries.{after_one, all_taken, taken_at}, Following.IsFirst, KnownWords.same-sym}
use Rattle.frame_laws.proofs.{MoreRows.AreInTable, Places.after_all, SaidRows.{are_apart, entries_of, lack, row_once}}
use Rattle.frame_laws.proofs.{SaidRows.rows_of, Steps.{IsInTable, IsLastOf}, TableRows.{are_plain, middle_in_table}}
use Rattle.descriptor_frame.specs.{Tables.{descriptor_tables, rows}, declared.said.DescriptorKind.DescriptorKind}
use Rattle.descriptor_doc.specs.declared.descriptor.Descriptor.{Descriptor}
use Rattle.descriptor_text.specs.Texts.{policy_keyword}
use Rattle.descriptor_laws.proofs.DescriptorRows.{RowOf, Says, Written, back_rows, first_row, front_rows, last_row}
use Rattle.descriptor_laws.proofs.DescriptorRows.{policy_entry, policy_row, router_entry, signature_entry}
use Rattle.descriptor_laws.proofs.Mixed.{OfKinds, each_lacks, in_table_back, in_table_front}

-- ---- its parts

-- its first rows, and their items
abbrev pub front_all : Descriptor → List RowOf
front_all d = row_once first_row (router_entry d.router) ∷ front_rows d

-- its last rows
abbrev pub back_all : Descriptor → List RowOf
back_all d = back_rows d ++ row_once last_row (signature_entry d) ∷ []

-- the rows of the items between
abbrev pub policy_rows : List (Row DescriptorKind)
policy_rows = policy_row true ∷ policy_row false ∷ []

-- the items between
abbrev pub policy_entries : Descriptor → List Written
policy_entries d = map policy_entry d.policy

-- the items after the first and before the last
abbrev pub others : Descriptor → List Written
others d = entries_of (front_rows d) ++ (policy_entries d ++ entries_of (back_rows d))

-- where the parts begin
abbrev pub second_place : Descriptor → ℕ
second_place d = after_one 0 (router_entry d.router)

abbrev pub policy_place : Descriptor → ℕ
policy_place d = after_all 0 (entries_of (front_all d))

abbrev pub back_place : Descriptor → ℕ
back_place d = after_all (policy_place d) (policy_entries d)

abbrev pub last_place : Descriptor → ℕ
last_place d = after_all (second_place d) (others d)

-- what is taken of them
abbrev pub front_taken : Descriptor → List (Taken Says)
front_taken d = all_taken 0 (entries_of (front_all d))

abbrev pub policy_taken : Descriptor → List (Taken Says)
policy_taken d = all_taken (policy_place d) (policy_entries d)

abbrev pub last_taken : Descriptor → Taken Says
last_taken d = taken_at (last_place d) (signature_entry d)

abbrev pub first_taken : Descriptor → Taken Says
first_taken d = taken_at 0 (router_entry d.router)

abbrev pub others_taken : Descriptor → List (Taken Says)
others_taken d = all_taken (second_place d) (others d)

-- ---- what the table says

-- a table with an item of each row
abbrev pub whole_middle : Descriptor → List RowOf
whole_middle d =
    front_rows d
    ++ (record { row = policy_row true; entries = signature_entry d ∷ [] }
    ∷ record { row = policy_row false; entries = signature_entry d ∷ [] } ∷ back_rows d)

pub table_apart : are_apart rows ≡ true
unfolding same
table_apart = refl

pub middle_plain : (d : Descriptor) → are_plain descriptor_tables tt (whole_middle d) ≡ true
unfolding same
middle_plain d = refl

pub middle_in : (d : Descriptor) → AreInTable descriptor_tables tt (whole_middle d)
middle_in d =
    middle_in_table descriptor_tables tt first_row (whole_middle d) (last_row ∷ []) refl table_apart (middle_plain d)

pub front_in : (d : Descriptor) → AreInTable descriptor_tables tt (front_rows d)
front_in d =
    in_table_front descriptor_tables tt (front_rows d)
    (record { row = policy_row true; entries = signature_entry d ∷ [] }
    ∷ record { row = policy_row false; entries = signature_entry d ∷ [] } ∷ back_rows d) (middle_in d)

pub behind_in : (d : Descriptor) → AreInTable descriptor_tables tt
    (record { row = policy_row true; entries = signature_entry d ∷ [] }
    ∷ record { row = policy_row false; entries = signature_entry d ∷ [] } ∷ back_rows d)
behind_in d =
    in_table_back descriptor_tables tt (front_rows d)
    (record { row = policy_row true; entries = signature_entry d ∷ [] }
    ∷ record { row = policy_row false; entries = signature_entry d ∷ [] } ∷ back_rows d) (middle_in d)

pub policy_in : (d : Descriptor) (accept : Bool) → IsInTable descriptor_tables tt (policy_row accept)
policy_in d true = (behind_in d).0 (omega arith)
policy_in d false = (behind_in d).1.0 (omega arith)

pub policy_many : (accept : Bool) → is_many (policy_row accept).count ≡ true
policy_many accept = refl

-- an item of its exit policy has one of two keywords
pub of_policy : OfKinds policy_entry policy_rows
of_policy k apart item =
    let parts = and_parts (not (same k the.Accept)) (not (same k the.Reject) && true) apart in
    let other = and_parts (not (same k the.Reject)) true parts.1 in
    by item.accept (same-sym the.Accept k ∙ not-true (same k the.Accept) parts.0)
    (same-sym the.Reject k ∙ not-true (same k the.Reject) other.0)
  where
    by : (accept : Bool) → same the.Accept k ≡ false → same the.Reject k ≡ false → same (policy_keyword accept) k ≡ false
    by true first second = first
    by false first second = second

-- its first rows are apart, and so are its last ones
pub front_apart : (d : Descriptor) → are_apart (rows_of (front_all d)) ≡ true
unfolding same
front_apart d = refl

pub back_apart : (d : Descriptor) → are_apart (rows_of (back_all d)) ≡ true
unfolding same
back_apart d = refl

pub middle_apart : (d : Descriptor)
    → (are_apart (rows_of (front_rows d)) ≡ true) × (lack the.Router (rows_of (front_rows d)) ≡ true)
    × (are_apart (rows_of (back_rows d)) ≡ true)
unfolding same
middle_apart d = (refl, refl, refl)

-- and no row is among those of another part
pub front_lacks : (d : Descriptor)
    → (each_lacks (rows_of (front_all d)) policy_rows ≡ true)
    × (each_lacks (rows_of (front_all d)) (rows_of (back_all d)) ≡ true)
unfolding same
front_lacks d = (refl, refl)

pub back_lacks : (d : Descriptor)
    → (each_lacks (rows_of (back_all d)) policy_rows ≡ true)
    × (each_lacks (rows_of (back_all d)) (rows_of (front_all d)) ≡ true)
unfolding same
back_lacks d = (refl, refl)

pub middle_lacks : (d : Descriptor)
    → (each_lacks (rows_of (back_rows d)) policy_rows ≡ true)
    × (each_lacks (rows_of (back_rows d)) (rows_of (front_all d)) ≡ true)
    × (each_lacks (last_row ∷ []) (rows_of (back_rows d)) ≡ true)
    × (each_lacks (last_row ∷ []) policy_rows ≡ true)
    × (each_lacks (last_row ∷ []) (rows_of (front_all d)) ≡ true)
unfolding same
middle_lacks d = (refl, refl, refl, refl, refl)

pub begins_it : IsFirst descriptor_tables first_row
unfolding same
begins_it = record { begins = refl; row_there = refl }

pub ends_it : IsLastOf descriptor_tables tt last_row
unfolding same
ends_it = record { row_there = refl; last = refl }

-- with these items it lacks nothing but the last
pub whole_with : (taken : List (Taken Says)) → stands the.Router taken ≡ true → stands the.Published taken ≡ true
    → stands the.Bandwidth taken ≡ true → stands the.SigningKey taken ≡ true
    → lacking_but rows the.RouterSignature taken ≡ None
unfolding same
whole_with taken first second third fourth = rw (first, second, third, fourth) refl
