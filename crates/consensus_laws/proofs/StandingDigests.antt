-- The digest of a consensus stands in detached signatures, and says one.
use Rattle.std.proofs.Common.{◌≡◌, ℕ, true, List, length, Option, Some, None, Result, Ok, Err, refl, sym, ap}
use Rattle.std.specs.Prelude.{IfSome}
use Rattle.item_terms.specs.Items.{Item, items_of}
use Rattle.dir_values.specs.declared.digest.Digest1.{Digest1}
use Rattle.frame_terms.specs.declared.{document.{Group.Group, Taken.Taken}, keyword.Keyword.TheVariants.ConsensusDigest}
use Rattle.frame_terms.specs.{declared.row.{Count.TheVariants.One, Row.Row}, Keywords.same, Rows.row, Sections.row_of}
use Rattle.frame_values.specs.{Arguments.next, Faults.at_place, Values.{item_at, own_in, own_of_value}}
use Rattle.frame_values.specs.declared.values.Value.{Value}
use Rattle.frame_values.specs.declared.values.Value.TheVariants as value
use Rattle.detached_frame.specs.{Lines.digest_of, Tables.detached_tables, declared.said.DetachedKind.DetachedKind}
use Rattle.detached_frame.specs.declared.said.DetachedValue.{DetachedValue}
use Rattle.detached_frame.specs.declared.said.DetachedKind.TheVariants as kind
use Rattle.detached_frame.specs.declared.said.DetachedValue.TheVariants as own
use Rattle.detached_doc.specs.{Reading.max_detached, Saying.digest_of_value}
use Rattle.document_laws.{specs.{Counts.RowsStand, Items.AreItemsIn}, proofs.{Counting.stand_as_often, Taking.are_said}}
use Rattle.row_laws.proofs.{KindRanges.once_there, ReadSteps.placed, Saying.{Says, Stands, all_sound, each_stands}}
use Rattle.row_laws.proofs.Saying.{found, of_row}
use Rattle.consensus_laws.specs.SaidDigests.{DigestsAreSaid, SaysDigest}

abbrev own_row : Row DetachedKind
own_row = row ConsensusDigest One kind.Digest

-- the item has its row in the table
has_row : (section : Unit {0}) → row_of (detached_tables.rows section) ConsensusDigest ≡ Some own_row
unfolding same
has_row section = refl

-- the value of a row of digests is a digest
digest_is : (item : Item) (v : Value DetachedValue)
    → at_place (next (digest_of item) (λ digest. Ok (value.Own (own.Digest digest)))) ≡ Ok v
    → (digest : Digest1) × (own_of_value v ≡ Some (own.Digest digest))
digest_is item v is = by (digest_of item) (placed _ v is)
  where
    by : (read : Result Digest1 ℕ) → next read (λ digest. Ok (value.Own (own.Digest digest))) ≡ Ok v
        → (digest : Digest1) × (own_of_value v ≡ Some (own.Digest digest))
    by (Ok digest) e = let says : value.Own (own.Digest digest) ≡ v = cc e in (digest, ap own_of_value (sym says))
    by (Err place) e = absurd (cc e)

abbrev IsFound : List ℕ → Unit {0} → Option (Taken (Value DetachedValue)) → Type 0
IsFound bytes section item =
    IfSome item (λ one. Stands detached_tables bytes section one × (same one.keyword ConsensusDigest ≡ true))

-- the item is there, and says a digest
item_says : (bytes : List ℕ) (section : Unit {0}) (item : Option (Taken (Value DetachedValue))) → (item ≡ None → ⊥)
    → IsFound bytes section item → (digest : Digest1) × (own_in item ≡ Some (own.Digest digest))
item_says bytes section None there is = absurd (there refl)
item_says bytes section (Some one) there is =
    let says : Says detached_tables bytes kind.Digest one.value =
    of_row detached_tables bytes section one ConsensusDigest own_row (λ around e. cc e) (has_row section) is.0 is.1 in
    digest_is says.item one.value says.says

section_says : (bytes : List ℕ) (section : Group (Unit {0}) (Value DetachedValue))
    → RowsStand detached_tables section.section section.taken
    → AreItemsIn detached_tables section.section (items_of max_detached bytes).items section.taken → SaysDigest section
section_says bytes section rows are =
    let stand =
    each_stands detached_tables bytes section.section (items_of max_detached bytes).items section.taken
    (all_sound 0 max_detached bytes) are in
    let there =
    once_there detached_tables section.section section.taken ConsensusDigest kind.Digest (has_row section.section)
    rows in
    let says =
    item_says bytes section.section (item_at section.taken ConsensusDigest) there
    (found detached_tables bytes section.section section.taken ConsensusDigest stand) in
    record { digest = says.0; says = says.1; kept = ap digest_of_value says.1 }

pub digests_said : DigestsAreSaid
digests_said bytes document is =
    let contents = items_of max_detached bytes in
    let said = are_said detached_tables (length bytes) contents document is in
    let often = stand_as_often detached_tables (length bytes) contents document is in
    λ k d lt. section_says bytes _ (often k d lt) (said k d lt)
