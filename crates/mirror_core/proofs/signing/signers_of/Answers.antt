use Rattle.std.{proofs.Common.{List, sym, subst}, specs.Prelude.AllPairs}
use Rattle.detached_sigs.specs.{Signers.AreApart, declared.key.SignerKey.SignerKey}
use Rattle.mirror_core.proofs.KeysApart.{keys_apart}
use Rattle.mirror_core.proofs.signing.signers_of.Goals as goal

pub signers_among-requires : goal.signers_among-requires
signers_among-requires g c = record {
  apart = subst (λ (keys : List SignerKey). AllPairs AreApart keys) (sym c.in-Ok-keys_of.ensures)
      (keys_apart c.args.certs.now c.requires);
}
