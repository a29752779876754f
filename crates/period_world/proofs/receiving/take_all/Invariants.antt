use Rattle.std.proofs.Common.{length}
use Rattle.key_port.specs.Answers.{rules}
use Rattle.period_world.proofs.Chains.{GoesOn}
use Rattle.period_world.proofs.receiving.take_all.Given as goal

abbrev pub invariant-coming : goal.invariant-coming
invariant-coming g l =
    GoesOn g.N.Signer.may_give (rules g.V.Verifier.may_accept g.V.Verifier.may_refuse) l.fn.state l.fn.coming.items
    l.state l.coming.items l.answers.items

abbrev pub decreases-coming : goal.decreases-coming
decreases-coming g l = length l.coming.items
