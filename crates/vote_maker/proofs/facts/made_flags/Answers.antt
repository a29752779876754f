use Rattle.std.proofs.{Common.◌∙◌, lemmas.Result.IfOk-weaker}
use Rattle.vote_maker.proofs.MadeFlags.{every_name}
use Rattle.vote_maker.proofs.facts.made_flags.Goals as goal

pub returns : goal.returns
returns c = IfOk-weaker c.names.result _ _ (λ flags is. is ∙ every_name) c.names.ensures
