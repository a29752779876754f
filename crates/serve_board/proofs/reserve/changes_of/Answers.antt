use Rattle.std.proofs.Common.{◌≡◌, ◌∙◌}
use Rattle.key_port.specs.Answers.{rules}
use Rattle.serve_board.proofs.Stocks.{changes_there}
use Rattle.serve_board.proofs.reserve.changes_of.Goals as goal

pub returns : goal.returns
returns g c = λ start story stands.
    c.from.ensures ∙ c.changes.ensures
    ∙ changes_there (rules g.V.Verifier.may_accept g.V.Verifier.may_refuse) c.args.pool.now start story stands
