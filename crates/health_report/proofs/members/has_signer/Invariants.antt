use Rattle.std.proofs.Common.{◌≡◌, drop}
use Rattle.health_report.specs.Reports.{has_signer}
use Rattle.health_report.proofs.members.has_signer.Given as goal

abbrev pub invariant-signers : goal.invariant-signers
invariant-signers l = has_signer (drop l.signer-index l.signers) l.member ≡ has_signer l.signers l.member
