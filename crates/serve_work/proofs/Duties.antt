-- What duties do is work.
use Rattle.std.proofs.Common.{◌≡◌, ℕ, Bool, Result, inl, inr, refl}
use Rattle.dir_bytes.specs.declared.fault.Memory.{Memory}
use Rattle.key_port.specs.{Answers.{Relation, Rules}, Signing.SignerSteps}
use Rattle.flag_rules.specs.declared.{relay.RelayFacts.RelayFacts, ruling.Ruling.Ruling}
use Rattle.station_input.specs.declared.facts.StationFacts.{StationFacts}
use Rattle.period_terms.specs.declared.answer.Advance.{Advance}
use Rattle.serve_board.specs.Boards.{Locks, Parts}
use Rattle.serve_rounds.{specs.Duties.{Duties, IsAdvance, IsRound}, proofs.Adding.{adds_advanced, adds_more}}
use Rattle.serve_rounds.proofs.Adding.{adds_wider}
use Rattle.serve_work.{specs.Workers.{HasWorked, IsTakenIn, IsWork}, proofs.Additions.{work_lasts, works_adds}}

pub duties_work : {N C : Type 0} (rules : Rules) (gives : Relation) (steps : SignerSteps N)
    (allows : RelayFacts → Ruling → Bool) (station : StationFacts) (last : C → ℕ) (clock : C) (board : Locks)
    (before then : Parts) (answer : Result Advance Memory)
    → Duties rules gives steps allows station board before then (last clock) answer
    → HasWorked rules gives steps allows station last board before then
duties_work rules gives steps allows station last clock board before then answer did =
    let now : ℕ = last clock in
    let Is = IsWork rules gives steps allows station last board in
    works_adds Is (IsTakenIn rules allows) before then
    (adds_more Is (work_lasts rules gives steps allows station last board) before did.to then
    (adds_wider (IsAdvance gives rules board now) Is before did.to
    (λ e is. record { now = now; of_clock = (clock, refl); is = inl is })
    (adds_advanced gives rules board now before did.to answer did.advanced))
    (adds_wider (IsRound rules gives steps allows station board now) Is did.to then
    (λ e is. record { now = now; of_clock = (clock, refl); is = inr (inl is) }) did.ended))
