use Rattle.std.proofs.Common.{◌∙◌, subst, sym}
use Rattle.key_port.specs.Answers.{rules as verifier_rules}
use Rattle.daemon_words.specs.declared.stop.Stop.TheVariants as stop
use Rattle.station_commands.specs.{Reads.StopsAt, declared.refusal.PoolRefusal.PoolRefusal}
use Rattle.station_commands.proofs.Reading.{holds_there, stops_checking, told_of_verifier}
use Rattle.station_commands.proofs.descriptors.entry_at.Goals as goal

pub returns-in_ok-prepare-in-Ok-check-clause-gives : goal.returns-in_ok-prepare-in-Ok-check-clause-gives
returns-in_ok-prepare-in-Ok-check-clause-gives g c =
    holds_there (verifier_rules g.V.Verifier.may_accept g.V.Verifier.may_refuse) c.args.newest c.args.place
    c.args.bytes.now
    c.in-Ok.descriptor c.in_ok-prepare-in-Ok-check.field-0 c.in-Ok.after c.in-Ok.ensures.reads
    c.in-Ok-check.ensures.accepted.1 (c.in_ok-prepare-in-Ok-check.ensures ∙ c.in-Ok-check.ensures.accepted.0)

pub returns-in-Err-clause-gives : goal.returns-in-Err-clause-gives
returns-in-Err-clause-gives g c =
    let checks = verifier_rules g.V.Verifier.may_accept g.V.Verifier.may_refuse in
    subst (λ (why : PoolRefusal). StopsAt checks c.args.newest c.args.place c.args.number c.args.bytes.now (stop.Refused why))
    (sym c.descriptor_refused.ensures)
    (stops_checking checks c.args.newest c.args.place c.args.number c.args.bytes.now c.in-Ok.descriptor c.in-Ok.after
    c.in-Err.refusal c.in-Ok.ensures.reads.0 c.in-Err.ensures.refused)

pub returns-in-Err-clause-fault : goal.returns-in-Err-clause-fault
returns-in-Err-clause-fault g c =
    λ is.
    c.in-Err.ensures.fault
    (told_of_verifier c.args.number c.in-Err.refusal (sym c.descriptor_refused.ensures ∙ (cc is)))
