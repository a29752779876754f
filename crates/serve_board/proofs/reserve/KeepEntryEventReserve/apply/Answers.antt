use Rattle.std.proofs.Common.{◌≡◌, Some, sym, ◌∙◌}
use Rattle.key_port.specs.Answers.{Rules, rules}
use Rattle.serve_board.proofs.Stocks.{keeps_there, stands_more}
use Rattle.serve_board.proofs.reserve.KeepEntryEventReserve.apply.Goals as goal

pub returns-in-Some-clause-answer : goal.returns-in-Some-clause-answer
returns-in-Some-clause-answer g c =
    let rules : Rules = rules g.V.Verifier.may_accept g.V.Verifier.may_refuse in
    rw (sym c.take.ensures.value ∙ c.in-Some.is) (λ start story stands.
    keeps_there rules _ start story _ _ stands
    (record { read = c.descriptor.ensures.read; verified = c.descriptor.ensures.verified }) c.keep.ensures.answer)

pub returns-in-Some-clause-story : goal.returns-in-Some-clause-story
returns-in-Some-clause-story g c =
    let rules : Rules = rules g.V.Verifier.may_accept g.V.Verifier.may_refuse in
    rw (sym c.take.ensures.value ∙ c.in-Some.is) (λ start story stands.
    stands_more rules _ _ start story _ _ stands
    (record { read = c.descriptor.ensures.read; verified = c.descriptor.ensures.verified }) c.keep.ensures.answer
    c.keep.ensures.pool)
