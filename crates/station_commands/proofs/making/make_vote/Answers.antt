use Rattle.std.proofs.Common.{ℕ, sym, subst}
use Rattle.key_port.specs.Answers.{rules as verifier_rules}
use Rattle.daemon_words.specs.Stops.{Answered}
use Rattle.station_commands.{specs.Voting.VoteAnswers, proofs.Stopping.{answered, faulty}}
use Rattle.station_commands.proofs.making.make_vote.Goals as goal

pub returns-in-Err-clause-answer : goal.returns-in-Err-clause-answer
returns-in-Err-clause-answer g c =
    rw c.of_fault.ensures
    (faulty (verifier_rules g.V.Verifier.may_accept g.V.Verifier.may_refuse) g.N.Signer.may_give g.N.Signer.steps
    c.args.newest (g.C.Clock.last c.now-now.new.self) c.args.bytes.now c.args.signer.now c.args.signer.now c.in-Err.why
    c.in-Err.ensures)

pub vote_from-requires : goal.vote_from-requires
vote_from-requires g c = record { short = c.requires; within = c.in-Ok.ensures.1 }

pub returns-clause-answer : goal.returns-clause-answer
returns-clause-answer g c =
    let checks = verifier_rules g.V.Verifier.may_accept g.V.Verifier.may_refuse in
    let given = c.in-Ok.station in
    let used = c.in-Ok.used in
    answered checks g.N.Signer.may_give g.N.Signer.steps c.args.newest
    (g.C.Clock.last c.now-now.new.self) c.args.bytes.now
    c.args.signer.now c.vote_from.new.signer given used c.vote_from.result c.in-Ok.ensures.0
    (subst (λ (now : ℕ).
    Answered (λ answer.
    VoteAnswers checks g.N.Signer.may_give g.N.Signer.steps now given used c.args.bytes.now answer c.args.signer.now
    c.vote_from.new.signer) c.vote_from.result) (sym c.now-now.ensures.last) c.vote_from.ensures.answer)
