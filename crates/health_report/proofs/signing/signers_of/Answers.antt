use Rattle.std.{proofs.Common.{List, sym, subst}, specs.Prelude.AllPairs}
use Rattle.detached_sigs.specs.{Signers.AreApart, declared.key.SignerKey.SignerKey}
use Rattle.health_report.proofs.VoteKeys.{keys_apart}
use Rattle.health_report.proofs.signing.signers_of.Goals as goal

pub signers_among-requires : goal.signers_among-requires
signers_among-requires g c = record {
  apart = subst (λ (keys : List SignerKey). AllPairs AreApart keys) (sym c.in_ok-keys.ensures)
      (keys_apart c.args.votes.now.votes c.ascend.ensures);
}
