use Rattle.std.proofs.Common.{◌≤◌, length, sym, subst, arith}
use Rattle.mirror_core.specs.States.{Mirrored}
use Rattle.mirror_core.proofs.mirror.Mirror.majority.Goals as goal

pub overflow_cast-counted : goal.overflow_cast-counted
overflow_cast-counted g c =
    let few : length c.args.signers.now ≤ length c.self.inside.roster =
    subst (λ (m : Mirrored). length c.args.signers.now ≤ length m.roster) (sym c.self.view_is) c.requires in
    omega (arith, few, c.len-roster.ensures.roster.few)
