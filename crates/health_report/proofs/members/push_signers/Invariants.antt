use Rattle.std.{proofs.Common.{◌≡◌, ◌++◌, drop}, specs.List.flat_map}
use Rattle.health_report.specs.Reports.{signer_line}
use Rattle.health_report.proofs.members.push_signers.Given as goal

abbrev pub invariant-members : goal.invariant-members
invariant-members l =
    l.out.items ++ flat_map (signer_line l.signers) (drop l.i l.members)
    ≡ l.fn.out.items ++ flat_map (signer_line l.signers) l.members
