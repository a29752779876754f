use Rattle.std.{proofs.Common.{◌≡◌, ◌++◌, drop}, specs.List.flat_map}
use Rattle.health_report.specs.Lines.{flag_line}
use Rattle.health_report.proofs.relay.push_flags.Given as goal

abbrev pub invariant-flags : goal.invariant-flags
invariant-flags l =
    l.out.items ++ flat_map (flag_line l.identity l.opinions) (drop l.flag-index l.flags)
    ≡ l.fn.out.items ++ flat_map (flag_line l.identity l.opinions) l.flags
