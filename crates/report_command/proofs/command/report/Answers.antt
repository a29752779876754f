use Rattle.std.proofs.Common.{◌∙◌, List, ℕ, ap, arith, length, refl}
use Rattle.key_port.specs.Answers.{rules}
use Rattle.report_command.proofs.{Answering.{of_consensus, of_reading, of_votes}, ConsensusPlace.consensus_begins}
use Rattle.report_command.proofs.command.report.Goals as goal

pub returns-in-Err-clause-answer : goal.returns-in-Err-clause-answer
returns-in-Err-clause-answer g c =
    rw c.of_input.ensures
    (of_votes (rules g.V.Verifier.may_accept g.V.Verifier.may_refuse) c.args.wanted.now c.args.bytes.now c.in-Err.why
    c.in-Err.ensures.votes)

pub returns-in-Err-consensus_at-clause-answer : goal.returns-in-Err-consensus_at-clause-answer
returns-in-Err-consensus_at-clause-answer g c =
    rw c.of_fault.ensures
    (of_consensus (rules g.V.Verifier.may_accept g.V.Verifier.may_refuse) c.args.wanted.now c.args.bytes.now
    c.between-rest.result.now c.in-Ok.votes.items c.in-Ok.at c.in-Err-consensus_at.why c.in-Ok.ensures.votes
    (c.between-rest.ensures.part ∙ rw (c.len.ensures.value, c.deref.ensures) refl)
    c.in-Err-consensus_at.ensures.consensus)

pub returns-clause-answer : goal.returns-clause-answer
returns-clause-answer g c =
    of_reading (rules g.V.Verifier.may_accept g.V.Verifier.may_refuse) c.args.wanted.now c.in-Ok.votes.items
    c.in-Ok-consensus_at.consensus c.between-rest.result.now c.args.bytes.now c.answer.result
    (record {
      at = c.in-Ok.at;
      used = c.in-Ok-consensus_at.ensures.consensus.used;
      votes_are = c.in-Ok.ensures.votes;
      rest_is = c.between-rest.ensures.part ∙ rw (c.len.ensures.value, c.deref.ensures) refl;
      consensus_is = c.in-Ok-consensus_at.ensures.consensus.is;
    })
    c.answer.ensures.answer

pub consensus_at-requires-clause-behind : goal.consensus_at-requires-clause-behind
consensus_at-requires-clause-behind g c =
    let begins = consensus_begins c.args.bytes.now c.in-Ok.votes.items c.in-Ok.at c.in-Ok.ensures.votes in
    let size = ap (λ (bytes : List ℕ). length bytes) c.deref.ensures in
    omega (arith, begins, c.between-rest.ensures.within, size, c.requires)
