use Rattle.std.proofs.{Common.arith, lemmas.Result.err_from_is_err_and}
use Rattle.key_port.specs.Answers.{rules}
use Rattle.compute_command.proofs.{Arrivals.rest_of, SourceAsking.{asked_calc, asked_end, asked_text}}
use Rattle.compute_command.proofs.Sources.{calc_told, end_answers, end_tells, end_told, not_written, text_written}
use Rattle.compute_command.proofs.Sources.{whole_few}
use Rattle.compute_command.proofs.from_source.compute_from.Goals as goal

pub end-requires : goal.end-requires
end-requires g c =
    let left = g.S.Source.left in
    let read = c.in_ok-arriving.ensures.reads in
    let few = whole_few (left c.args.source.now) (left c.read_votes.new.source) c.args.limit read.0 read.1 in
    rest_of (rules g.V.Verifier.may_accept g.V.Verifier.may_refuse) c.args.wanted.now c.in_ok-arriving.arriving 0
    (read.0, read.2, omega (arith, few, c.requires))

pub returns-in_err-accepted-clause-answer : goal.returns-in_err-accepted-clause-answer
returns-in_err-accepted-clause-answer g c =
    let left = g.S.Source.left in
    let from = c.from_residual-in_err-accepted in
    let p = err_from_is_err_and from.result from.ensures.1 in
    rw (p.1, p.2)
    (end_answers (rules g.V.Verifier.may_accept g.V.Verifier.may_refuse) c.args.wanted.now (left c.args.source.now)
    (left c.read_votes.new.source) c.args.limit c.in_ok-arriving.arriving c.in_err-accepted.field-0.0 c.requires
    c.in_ok-arriving.ensures.reads c.in_err-accepted.ensures.ends)

pub returns-in_err-accepted-clause-verifier_fault : goal.returns-in_err-accepted-clause-verifier_fault
returns-in_err-accepted-clause-verifier_fault g c =
    let from = c.from_residual-in_err-accepted in
    let p = err_from_is_err_and from.result from.ensures.1 in
    rw (p.1, p.2) (λ is.
    end_told (g.V.Verifier.faults c.args.verifier.now) (g.V.Verifier.faults c.read_votes.new.verifier)
    c.in_ok-arriving.arriving.votes.first c.in_err-accepted.field-0.0 c.in_ok-arriving.ensures.verifier
    c.in_err-accepted.ensures.first (cc is))

pub returns-in_err-accepted-clause-verifier_told : goal.returns-in_err-accepted-clause-verifier_told
returns-in_err-accepted-clause-verifier_told g c =
    let from = c.from_residual-in_err-accepted in
    let p = err_from_is_err_and from.result from.ensures.1 in
    rw (p.1, p.2) (λ lt.
    end_tells (g.V.Verifier.faults c.args.verifier.now) (g.V.Verifier.faults c.read_votes.new.verifier)
    c.in_ok-arriving.arriving.votes.first c.in_err-accepted.field-0.0 c.in_ok-arriving.ensures.verifier
    c.in_err-accepted.ensures.first lt)

pub returns-in_err-text-clause-answer : goal.returns-in_err-text-clause-answer
returns-in_err-text-clause-answer g c =
    let left = g.S.Source.left in
    let from = c.from_residual-in_err-text in
    let p = err_from_is_err_and from.result from.ensures.1 in
    rw (p.1, p.2)
    (not_written (rules g.V.Verifier.may_accept g.V.Verifier.may_refuse) c.args.wanted.now (left c.args.source.now)
    (left c.read_votes.new.source) c.args.limit c.in_ok-arriving.arriving c.in_ok-accepted.accepted c.requires
    c.in_ok-arriving.ensures.reads c.in_ok-accepted.ensures.ends c.in_err-text.field-0.0 c.in_err-text.ensures)

pub returns-in_err-text-clause-verifier_fault : goal.returns-in_err-text-clause-verifier_fault
returns-in_err-text-clause-verifier_fault g c =
    let from = c.from_residual-in_err-text in
    let p = err_from_is_err_and from.result from.ensures.1 in
    rw (p.1, p.2) (λ is. absurd (calc_told c.in_err-text.field-0.0 (cc is)))

pub returns-clause-answer : goal.returns-clause-answer
returns-clause-answer g c =
    let left = g.S.Source.left in
    text_written (rules g.V.Verifier.may_accept g.V.Verifier.may_refuse) c.args.wanted.now (left c.args.source.now)
    (left c.read_votes.new.source) c.args.limit c.in_ok-arriving.arriving c.in_ok-accepted.accepted c.requires
    c.in_ok-arriving.ensures.reads c.in_ok-accepted.ensures.ends c.in_ok-text.text c.in_ok-text.ensures

pub returns-in_err-arriving-clause-asked : goal.returns-in_err-arriving-clause-asked
returns-in_err-arriving-clause-asked g c =
    let from = c.from_residual in
    let p = err_from_is_err_and from.result from.ensures.1 in
    rw (p.1, p.2) c.in_err-arriving.ensures.asked

pub returns-in_err-accepted-clause-asked : goal.returns-in_err-accepted-clause-asked
returns-in_err-accepted-clause-asked g c =
    let left = g.S.Source.left in
    let from = c.from_residual-in_err-accepted in
    let p = err_from_is_err_and from.result from.ensures.1 in
    rw (p.1, p.2)
    (asked_end g.V.Verifier.steps (rules g.V.Verifier.may_accept g.V.Verifier.may_refuse) c.args.wanted.now
    (left c.args.source.now) (left c.read_votes.new.source) c.args.verifier.now c.read_votes.new.verifier
    c.in_ok-arriving.arriving c.in_ok-arriving.ensures.asked c.in_err-accepted.field-0.0 c.in_err-accepted.ensures.first)

pub returns-in_err-text-clause-asked : goal.returns-in_err-text-clause-asked
returns-in_err-text-clause-asked g c =
    let left = g.S.Source.left in
    let from = c.from_residual-in_err-text in
    let p = err_from_is_err_and from.result from.ensures.1 in
    rw (p.1, p.2)
    (asked_calc g.V.Verifier.steps (rules g.V.Verifier.may_accept g.V.Verifier.may_refuse) c.args.wanted.now
    (left c.args.source.now) (left c.read_votes.new.source) c.args.verifier.now c.read_votes.new.verifier
    c.in_ok-arriving.arriving c.in_ok-arriving.ensures.asked c.in_err-text.field-0.0 c.in_ok-accepted.ensures.first)

pub returns-clause-asked : goal.returns-clause-asked
returns-clause-asked g c =
    let left = g.S.Source.left in
    asked_text g.V.Verifier.steps (rules g.V.Verifier.may_accept g.V.Verifier.may_refuse) c.args.wanted.now
    (left c.args.source.now) (left c.read_votes.new.source) c.args.verifier.now c.read_votes.new.verifier
    c.in_ok-arriving.arriving c.in_ok-arriving.ensures.asked c.in_ok-text.text c.in_ok-accepted.ensures.first
