use Rattle.std.proofs.Common.{ap}
use Rattle.mirror_core.{specs.States.KeptCert, proofs.WithCert.joined}
use Rattle.mirror_core.proofs.cert_copies.with_cert.Goals as goal

pub returns : goal.returns
returns c =
    joined c.args.certs.now c.args.new c.new.inside.cert.fingerprint c.new-out.result.items c.push_all_below.new.out.items
    c.push.new.self.items c.push_all_above.new.out.items (ap (λ (k : KeptCert). k.cert.fingerprint) c.new.view_is)
    c.new-out.ensures.items c.in_ok-push_all_below.ensures c.in_ok-push.ensures.items c.in_ok-push_all_above.ensures
