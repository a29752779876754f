use Rattle.key_port.specs.Answers.{rules as verifier_rules}
use Rattle.mirror_core.proofs.Sounds.{micros_sound}
use Rattle.mirror_core.proofs.mirror.Mirror.take_micros.Goals as goal

pub invariant_of-self : goal.invariant_of-self
invariant_of-self g c =
    micros_sound (verifier_rules g.V.Verifier.may_accept g.V.Verifier.may_refuse)
    (record { roster = c.self.inside.roster; certs = c.self.inside.certs.items; held = c.self.inside.held; rows = c.self.inside.shelf })
    c.in-Ok.micros.items c.take_each.new.shelf c.self.invariant c.take_each.ensures.rows
