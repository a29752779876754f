-- What is kept of the bytes behind some votes, by its stage.
use Rattle.std.proofs.Common.{◌≡◌, ◌∙◌, ℕ, ◌<◌, ◌^◌, Bool, false, List, length, Some, sym, ap, subst}
use Rattle.frame_terms.specs.declared.fault.FrameFault.{FrameFault}
use Rattle.vote_feed.specs.Feeding.{IsOpen}
use Rattle.compute_command.specs.declared.{rest.{Rest.Rest, Stage.Stage, Turn.Turn}, tail.Tail.Tail}
use Rattle.compute_command.specs.{Furthers.IsFurther, Rests.{AnswersEnd, HasRest, IsFaultOf, IsRest, Knows, Turns}}
use Rattle.compute_command.{specs.{Rests.turn_on, Tails.{is_end, tail_of}}, proofs.Turning.{ends_faulted, ends_open}}
use Rattle.compute_command.proofs.Turning.{faulted_turns}
use Rattle.compute_command.specs.declared.rest.Stage.TheVariants as stage

-- whether the bytes are blank lines, as it was found
pub end_found : (bytes : List ℕ) (tail : Tail) (found is : Bool) → tail ≡ tail_of bytes → found ≡ is_end tail → found ≡ is
    → is_end (tail_of bytes) ≡ is
end_found bytes tail found is same asked told = ap is_end (sym same) ∙ sym asked ∙ told

module _ (start : ℕ) (rest : Rest) where
  -- of the bytes of a feeder nothing is known
  pub reads_open : (count : ℕ) (feeder : List ℕ) → HasRest start rest count → rest.stage ≡ stage.Reading feeder
      → IsOpen feeder
  reads_open count feeder (room, bytes, is, short) same =
      let knows = subst (λ (s : Stage). Knows start room bytes s) same is.knows in
      subst IsOpen (sym knows.0) knows.1

  module _ (room : ℕ) (bytes : List ℕ) (is : IsRest start room bytes rest) where
    -- more bytes
    pub reading_goes : (P : ℕ → List ℕ → Type 0) (feeder : List ℕ) → rest.stage ≡ stage.Reading feeder
        → ((n : ℕ) → 0 < n → rest.tail ≡ tail_of feeder → P n feeder) → P room bytes
    reading_goes P feeder same goes =
        let knows = subst (λ (s : Stage). Knows start room bytes s) same is.knows in
        subst (P room) knows.0 (goes room knows.2 (is.tail ∙ ap tail_of (sym knows.0)))

    pub fault_goes_on : (fault : FrameFault) (piece : List ℕ) (next : Turn) → rest.stage ≡ stage.Faulted fault
        → next ≡ turn_on rest.tail (stage.Faulted fault) piece → Turns start room bytes piece next
    fault_goes_on fault piece next same on =
        subst (λ (t : Turn). Turns start room bytes piece t) (sym on)
        (faulted_turns start room bytes piece rest.tail fault is.tail
        (subst (λ (s : Stage). Knows start room bytes s) same is.knows))

    -- no more bytes
    pub open_ends : (feeder : List ℕ) (fault : FrameFault) → rest.stage ≡ stage.Reading feeder
        → is_end (tail_of bytes) ≡ false → IsFurther start (λ own. IsFaultOf feeder own) fault
        → AnswersEnd start room bytes (Some fault)
    open_ends feeder fault same end read =
        let knows = subst (λ (s : Stage). Knows start room bytes s) same is.knows in
        ends_open start room bytes fault knows.2 end
        (subst (λ (l : List ℕ). IsFurther start (λ own. IsFaultOf l own) fault) knows.0 read)

    pub fault_ends : (fault : FrameFault) → rest.stage ≡ stage.Faulted fault → length bytes < 2 ^ 61
        → is_end (tail_of bytes) ≡ false → AnswersEnd start room bytes (Some fault)
    fault_ends fault same short end =
        ends_faulted start room bytes fault short end (subst (λ (s : Stage). Knows start room bytes s) same is.knows)
