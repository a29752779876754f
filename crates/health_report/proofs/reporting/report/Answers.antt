use Rattle.std.proofs.Common.{◌∙◌, ap, List}
use Rattle.detached_sigs.specs.declared.key.SignerKey.{SignerKey}
use Rattle.health_report.specs.Reports.{report_text}
use Rattle.health_report.proofs.reporting.report.Goals as goal

pub returns-in_ok-text-in-Ok-clause-report : goal.returns-in_ok-text-in-Ok-clause-report
returns-in_ok-text-in-Ok-clause-report g c = record {
  signers = c.in-Ok.signers.items;
  signed = c.in-Ok.ensures.signers;
  report =
      c.in_ok-text-in-Ok.ensures
      ∙ ap (λ (s : List SignerKey). report_text c.args.roster.now c.args.votes.now.votes c.args.consensus.now s)
      c.deref.ensures.value;
}
