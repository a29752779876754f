-- The bytes that a section may have inside another.
use Rattle.std.proofs.Common.{◌≡◌, ℕ, ◌+◌, ◌-◌, ◌≤◌, Bool, true, false, List, ◌∷◌, Option, Some, None, refl, ap, ◌∙◌}
use Rattle.std.{proofs.Common.arith, specs.Prelude.{nat_lt, if◌then◌else◌}}
use Rattle.item_terms.specs.Items.{Item}
use Rattle.dirdoc_grammar.specs.Writing.{written}
use Rattle.frame_terms.specs.{Decisions.{beyond, beyond_inside, beyond_inner}, Order.inner, Rows.limit_number}
use Rattle.frame_terms.specs.{Sections.stands, Tables.Tables, declared.document.{Group.Group, Taken.Taken}}
use Rattle.frame_terms.specs.declared.fault.{FrameFault.FrameFault, FrameReason.TheVariants.TooMany}
use Rattle.frame_terms.specs.declared.{keyword.Keyword.Keyword, row.Limit.Limit}
use Rattle.frame_laws.proofs.Entries.{Entry, after_one, item_of}

-- what begins at the first place ends at the second within a limit, if there is one
abbrev pub FitsIn : Option Limit → ℕ → ℕ → Type 0
FitsIn None start end = Unit {0}
FitsIn (Some limit) start end = end ≤ start + limit_number limit

-- what ends before it fits too
pub fits_before : (limit : Option Limit) (start near end : ℕ) → near ≤ end → FitsIn limit start end
    → FitsIn limit start near
fits_before None start near end before fits = tt
fits_before (Some limit) start near end before fits = omega (arith, before, fits)

-- it is not beyond that limit
pub not_beyond : (limit : Option Limit) (start : ℕ) (item : Item) → FitsIn limit start item.after
    → beyond start limit item ≡ None
not_beyond None start item fits = refl
not_beyond (Some limit) start item fits =
    let no : nat_lt (limit_number limit) (item.after - start) ≡ false =
    below (limit_number limit) start item.after fits in
    let fault : FrameFault = record { place = start + limit_number limit; reason = TooMany limit } in
    ap (λ (t : Bool). if t then Some fault else None) no
  where
    below : (most start after : ℕ) → after ≤ start + most → nat_lt most (after - start) ≡ false
    below most start after fits = grind arith

module _ {S K V X : Type 0} where
  -- the limit of a section that stands inside another; of one that does not there is none
  abbrev pub limit_inside : Tables S K V X → S → Option (Group S V) → Option Limit
  limit_inside tables section None = None
  limit_inside tables section (Some around) = (tables.shape section).limit

  -- an item that begins no section inside another is beyond no limit
  pub fits : (tables : Tables S K V X) (section : S) (first : Taken V) (taken : List (Taken V))
      (around : Option (Group S V)) (place : ℕ)
      (entry : Entry V) (keyword : Keyword) → inner tables section keyword ≡ None
      → FitsIn (limit_inside tables section around) first.place (after_one place entry)
      → beyond_inner tables section (first ∷ taken) around (written place (item_of entry)) (Some keyword) ≡ None
  fits tables section first taken (Some around) place entry keyword none within =
      not_beyond ((tables.shape section).limit) first.place (written place (item_of entry)) within
  fits tables section first taken None place entry keyword none within =
      let item = written place (item_of entry) in
      ap (λ (s : Option S). beyond_inside tables item (if stands keyword (first ∷ taken) then None else s)) none
      ∙ neither (stands keyword (first ∷ taken)) tables item
    where
      neither : (t : Bool) (tables : Tables S K V X) (item : Item)
          → beyond_inside tables item (if t then None else None) ≡ None
      neither true tables item = refl
      neither false tables item = refl
