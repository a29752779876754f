use Rattle.key_port.specs.Answers as keys
use Rattle.serve_rounds.{specs.{Duties.IsGathered, Spans.Anywhere}, proofs.{Adding.adds_sees, Lasting.anywhere_lasts}}
use Rattle.serve_rounds.proofs.gathering.gather_from.Goals as goal

pub returns-clause-adds : goal.returns-clause-adds
returns-clause-adds g c = λ a adds.
    let its = keys.rules g.V.Verifier.may_accept g.V.Verifier.may_refuse in
    c.sign_in_all.ensures.adds a
    (adds_sees (Anywhere (IsGathered its)) (anywhere_lasts (IsGathered its)) its c.args.given.now.board.now a
    c.args.lent.now.pass.now
    c.view.new.pass adds _ _ c.view.ensures.reading)
