-- What comes of checking detached signatures.
use Rattle.std.specs.Prelude.{◌≡◌, ◌⊎◌, ◌+◌, ℕ, Bool, true, false, not, List, [], ◌∷◌, ◌++◌, length, map, filter, All}
use Rattle.std.specs.Prelude.{Ok, Err, Option, None, Some, is_none, if◌then◌else◌}
use Rattle.frame_terms.specs.declared.fault.ReadRefusal.TheVariants.{Frame}
use Rattle.key_port.specs.{Answers.{Relation, Rules, Steps}, declared.verifier.VerifyAnswer.VerifyAnswer}
use Rattle.key_port.specs.declared.verifier.KeyKind.TheVariants as kind
use Rattle.key_port.specs.declared.verifier.VerifyAnswer.TheVariants as answer
use Rattle.detached_doc.specs.{declared.detached.{Detached.Detached, DetachedLine.DetachedLine}, Reading.detached_of}
use Rattle.period_terms.specs.declared.{signature.OfferedSignature.OfferedSignature, view.PeriodView.PeriodView}
use Rattle.checked_sigs.specs.{declared.report.SigRefusal.SigRefusal, Asking.{offered_by, offered_lines}}
use Rattle.checked_sigs.specs.declared.report.SigRefusal.TheVariants as refusal

-- ---- what the verifier answers

-- an offered line, and whether the verifier accepted it
abbrev pub Judgement : Type 0
Judgement = OfferedSignature × Bool

-- whether a relation holds of an offered line
abbrev pub is_of : Relation → OfferedSignature → Bool
is_of relation sig = relation kind.Signing sig.key sig.digest sig.signature

-- a line that was accepted may be, and one that was refused may be
abbrev pub IsJudgedBy : Rules → Judgement → Type 0
IsJudgedBy rules (sig, true) = is_of rules.may_accept sig ≡ true
IsJudgedBy rules (sig, false) = is_of rules.may_refuse sig ≡ true

-- the answer that is accepted or not
abbrev pub answer_of : Bool → VerifyAnswer
answer_of accepted = if accepted then answer.Yes else answer.No

-- the verifier is asked of an offered line, and answers so
abbrev pub Asks : {V : Type 0} → Steps V → OfferedSignature → V → VerifyAnswer → V → Type 0
Asks steps sig old result new = steps old kind.Signing sig.key sig.digest sig.signature result new

-- it is asked of lines, one after the other, and judges so
abbrev pub AsksEach : {V : Type 0} → Steps V → List Judgement → V → V → Type 0
AsksEach steps [] old new = new ≡ old
AsksEach {V} steps (judged ∷ rest) old new =
    (between : V) × Asks steps judged.0 old (answer_of judged.1) between × AsksEach steps rest between new

-- ---- what is told of the lines

-- those that were accepted
abbrev pub accepted_lines : List Judgement → List OfferedSignature
accepted_lines judged = map (λ (one : Judgement). one.0) (filter (λ (one : Judgement). one.1) judged)

-- how many were refused
abbrev pub refused_count : List Judgement → ℕ
refused_count judged = length (filter (λ (one : Judgement). not one.1) judged)

-- how many lines are not offered
abbrev pub skipped_count : PeriodView → Detached → List DetachedLine → ℕ
skipped_count view d lines = length (filter (λ (line : DetachedLine). is_none (offered_by view d line)) lines)

-- what is told: the lines that were accepted, how many are not offered, and how many were refused
pub record Tally : Type 0 where
  pub checked : List OfferedSignature
  pub skipped : ℕ
  pub bad : ℕ

-- these
abbrev pub tally_of : List OfferedSignature → ℕ → ℕ → Tally
tally_of checked skipped bad = record { checked = checked; skipped = skipped; bad = bad }

-- Each of these lines that is offered was judged, as the verifier may and did; those that were accepted are told in
-- their order, of those that were refused and of those that are not offered the numbers.
pub record TellsLines {V : Type 0} (rules : Rules) (steps : Steps V) (view : PeriodView) (d : Detached)
    (lines : List DetachedLine) (tally : Tally) (old new : V) : Type 0 where
  pub judged : List Judgement
  pub all : map (λ (one : Judgement). one.0) judged ≡ offered_lines view d lines
  pub by : All (IsJudgedBy rules) judged
  pub asked : AsksEach steps judged old new
  pub checked_are : tally.checked ≡ accepted_lines judged
  pub bad_are : tally.bad ≡ refused_count judged
  pub skipped_are : tally.skipped ≡ skipped_count view d lines

-- The verifier was asked of the offered lines before one, and failed at that.
pub record FailsAtLine {V : Type 0} (steps : Steps V) (view : PeriodView) (d : Detached) (old new : V) : Type 0 where
  pub judged : List Judgement
  pub sig : OfferedSignature
  pub after : List OfferedSignature
  pub between : V
  pub all : map (λ (one : Judgement). one.0) judged ++ sig ∷ after ≡ offered_lines view d d.signatures
  pub asked : AsksEach steps judged old between
  pub failed : Asks steps sig between answer.Fault new

-- why the lines of a document are not all told of; want of memory has no cause
abbrev pub FailsLines : {V : Type 0} → Steps V → PeriodView → Detached → SigRefusal → V → V → Type 0
FailsLines steps view d refusal.VerifierFault old new = FailsAtLine steps view d old new
FailsLines steps view d refusal.Memory old new = Unit {0}
FailsLines steps view d (refusal.Document fault) old new = ⊥
FailsLines steps view d (refusal.WrongPeriod valid_after) old new = ⊥

-- ---- what is told of bytes

-- the bytes are this document, which is for the period of the view
pub record IsFor (bytes : List ℕ) (view : PeriodView) (d : Detached) : Type 0 where
  pub used : ℕ
  pub read : detached_of bytes ≡ Ok (d, used)
  pub period : d.valid_after ≡ view.valid_after

-- The bytes are a document for another period.
pub record IsForAnother (bytes : List ℕ) (view : PeriodView) (valid_after : ℕ) : Type 0 where
  pub d : Detached
  pub used : ℕ
  pub read : detached_of bytes ≡ Ok (d, used)
  pub period : valid_after ≡ d.valid_after
  pub other : d.valid_after ≡ view.valid_after → ⊥

-- The bytes are a document for the period of the view, and this is told of its lines.
pub record ChecksAll {V : Type 0} (rules : Rules) (steps : Steps V) (bytes : List ℕ) (view : PeriodView)
    (tally : Tally) (old new : V) : Type 0 where
  pub d : Detached
  pub is : IsFor bytes view d
  pub tells : TellsLines rules steps view d d.signatures tally old new

-- why nothing is told; want of memory has no cause
abbrev pub RefusedBy : {V : Type 0} → Steps V → List ℕ → PeriodView → SigRefusal → V → V → Type 0
RefusedBy steps bytes view (refusal.Document fault) old new = (detached_of bytes ≡ Err (Frame fault)) × (new ≡ old)
RefusedBy steps bytes view (refusal.WrongPeriod valid_after) old new =
    IsForAnother bytes view valid_after × (new ≡ old)
RefusedBy steps bytes view refusal.VerifierFault old new =
    (d : Detached) × IsFor bytes view d × FailsAtLine steps view d old new
RefusedBy steps bytes view refusal.Memory old new = Unit {0}

-- ---- what is told of one line

-- what is known of an offered line: it was accepted, and is this, or was refused
abbrev pub IsJudged : {V : Type 0} → Rules → Steps V → OfferedSignature → Option OfferedSignature → V → V → Type 0
IsJudged rules steps sig (Some checked) old new =
    (checked ≡ sig) × IsJudgedBy rules (sig, true) × Asks steps sig old answer.Yes new
IsJudged rules steps sig None old new = IsJudgedBy rules (sig, false) × Asks steps sig old answer.No new

-- with a line more that is not offered
abbrev pub with_skipped : Tally → Tally
with_skipped before = record before { skipped = before.skipped + 1 }

-- with one that was accepted
abbrev pub with_checked : Tally → OfferedSignature → Tally
with_checked before sig = record before { checked = before.checked ++ sig ∷ [] }

-- with one that was refused
abbrev pub with_bad : Tally → Tally
with_bad before = record before { bad = before.bad + 1 }

-- what is told with one line more, as it is offered or not
abbrev pub AddsLine : {V : Type 0} → Rules → Steps V → Option OfferedSignature → Tally → V → Tally → V → Type 0
AddsLine rules steps None before old after new = (after ≡ with_skipped before) × (new ≡ old)
AddsLine rules steps (Some sig) before old after new =
    ((after ≡ with_checked before sig) × IsJudgedBy rules (sig, true) × Asks steps sig old answer.Yes new)
    ⊎ ((after ≡ with_bad before) × IsJudgedBy rules (sig, false) × Asks steps sig old answer.No new)

-- the verifier fails at a line, which is offered
abbrev pub FailsAt : {V : Type 0} → Steps V → Option OfferedSignature → V → V → Type 0
FailsAt steps None old new = ⊥
FailsAt steps (Some sig) old new = Asks steps sig old answer.Fault new

-- why one line more is not told of; want of memory has no cause
abbrev pub FailsLine : {V : Type 0} → Steps V → Option OfferedSignature → SigRefusal → V → V → Type 0
FailsLine steps wanted refusal.VerifierFault old new = FailsAt steps wanted old new
FailsLine steps wanted refusal.Memory old new = Unit {0}
FailsLine steps wanted (refusal.Document fault) old new = ⊥
FailsLine steps wanted (refusal.WrongPeriod valid_after) old new = ⊥
