-- The first fault of an input, by whether a line ends the bandwidth file.
use Rattle.std.proofs.Common.{◌≡◌, ◌≢◌, ◌⊎◌, inl, inr, ℕ, List, length, take, slice_get, Option, Some, None, refl, sym}
use Rattle.std.{proofs.Common.{ap, ◌∙◌, subst}, specs.Option.option_or}
use Rattle.item_terms.specs.Lines.{lines}
use Rattle.bandwidth_file.specs.{Files.{end_fault, faults_of, first_fault}, Lines.at, Refusals.RefusedAs}
use Rattle.bandwidth_file.specs.declared.refusal.{BandFault.BandFault, BandReason.{BandReason, TheVariants.Timestamp}}
use Rattle.bandwidth_file.specs.declared.refusal.{BandReason.TheVariants.Unterminated, BandRefusal.BandRefusal}
use Rattle.bandwidth_file.{specs.Fronts.{end_place, fault_before, front_fault, open_fault}, proofs.NoTimes.end_there}
use Rattle.bandwidth_file.proofs.NoTimes.{never_at_end}

abbrev goes_on : List ℕ → BandFault
goes_on bytes = at (length bytes) Unterminated

-- a fault of its lines is told
told : (bytes : List ℕ) (fault : BandFault) → slice_get (faults_of (lines bytes)) 0 ≡ Some fault → open_fault bytes ≡ Some fault
told bytes fault is = ap (λ (f : Option BandFault). option_or f (Some (goes_on bytes))) is

-- where they have none, that it goes on
untold : (bytes : List ℕ) → slice_get (faults_of (lines bytes)) 0 ≡ None → open_fault bytes ≡ Some (goes_on bytes)
untold bytes is = ap (λ (f : Option BandFault). option_or f (Some (goes_on bytes))) is

-- so does one that lacks its time where it ends
pub timeless_on : (bytes : List ℕ) → first_fault (lines bytes) ≡ Some (at (length bytes) Timestamp)
    → open_fault bytes ≡ Some (goes_on bytes)
timeless_on bytes lacks = by (slice_get (faults_of (lines bytes)) 0) refl lacks
  where
    by : (first : Option BandFault) → slice_get (faults_of (lines bytes)) 0 ≡ first
        → option_or first (end_fault (lines bytes)) ≡ Some (at (length bytes) Timestamp) → open_fault bytes ≡ Some (goes_on bytes)
    by (Some fault) is e = absurd (never_at_end bytes (is ∙ e))
    by None is e = untold bytes is

-- any other fault is that of a line
pub lines_first : (bytes : List ℕ) (place : ℕ) (reason : BandReason) → (place ≢ length bytes) ⊎ (reason ≢ Timestamp)
    → first_fault (lines bytes) ≡ Some (at place reason) → open_fault bytes ≡ Some (at place reason)
lines_first bytes place reason other is = by (slice_get (faults_of (lines bytes)) 0) refl is
  where
    neither : (place ≢ length bytes) ⊎ (reason ≢ Timestamp) → place ≡ length bytes → reason ≡ Timestamp → ⊥
    neither (inl elsewhere) there timeless = elsewhere there
    neither (inr other_) there timeless = other_ timeless

    by : (first : Option BandFault) → slice_get (faults_of (lines bytes)) 0 ≡ first
        → option_or first (end_fault (lines bytes)) ≡ Some (at place reason) → open_fault bytes ≡ Some (at place reason)
    by (Some fault) first e = told bytes (at place reason) (first ∙ e)
    by None first e =
        let there = end_there bytes (at place reason) e in
        absurd (neither other (ap (λ (f : BandFault). f.place) there) (ap (λ (f : BandFault). f.reason) there))

-- a line ends the file
pub fault_there : (bytes : List ℕ) (place : ℕ) (refusal : BandRefusal) → end_place bytes ≡ Some place
    → RefusedAs (first_fault (lines (take place bytes))) refusal → RefusedAs (front_fault bytes) refusal
fault_there bytes place refusal ends is =
    subst (λ (o : Option ℕ). RefusedAs (fault_before bytes o) refusal) (sym ends) is

-- no line does
pub fault_open : (bytes : List ℕ) (refusal : BandRefusal) → None ≡ end_place bytes
    → RefusedAs (open_fault bytes) refusal → RefusedAs (front_fault bytes) refusal
fault_open bytes refusal open_one is = subst (λ (o : Option ℕ). RefusedAs (fault_before bytes o) refusal) open_one is
