use Rattle.std.proofs.Common.{◌∙◌, sym, subst}
use Rattle.key_port.specs.Answers.{rules as verifier_rules}
use Rattle.mirror_core.{specs.Answers.{CertTally, TakesEach, no_certs_yet}, proofs.Sounds.certs_sound}
use Rattle.mirror_core.proofs.mirror.Mirror.take_certs.Goals as goal

pub invariant_of-self : goal.invariant_of-self
invariant_of-self g c =
    let checks = verifier_rules g.V.Verifier.may_accept g.V.Verifier.may_refuse in
    certs_sound checks
    (record { roster = c.self.inside.roster; certs = c.self.inside.certs.items; held = c.self.inside.held; rows = c.self.inside.shelf })
    c.args.now c.in-Ok-copies.certs.items c.in-Ok.new.items (record { certs = c.tally.inside.certs.items; report = c.tally.inside.report })
    c.self.invariant (c.in-Ok-copies.ensures ∙ c.deref.ensures.value)
    (subst (λ (tally : CertTally). TakesEach checks c.self.inside.roster c.args.now (no_certs_yet c.in-Ok-copies.certs.items) c.in-Ok.new.items tally)
    (sym c.tally.view_is) c.in-Ok-take_each.ensures.takes)
