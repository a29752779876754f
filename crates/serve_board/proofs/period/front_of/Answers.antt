use Rattle.std.proofs.Common.{◌≡◌, ◌∙◌}
use Rattle.key_port.specs.Answers.{rules}
use Rattle.serve_board.proofs.PeriodStates.{front_there}
use Rattle.serve_board.proofs.period.front_of.Goals as goal

pub returns : goal.returns
returns g c = λ start story stands.
    c.front.ensures
    ∙ front_there (rules g.V.Verifier.may_accept g.V.Verifier.may_refuse) c.args.state.now start story stands
