use Rattle.std.{proofs.Common.{◌≡◌, ◌++◌, drop}, specs.List.flat_map}
use Rattle.health_report.specs.Lines.{authority_word}
use Rattle.health_report.proofs.relay.push_authorities.Given as goal

abbrev pub invariant-opinions : goal.invariant-opinions
invariant-opinions l =
    l.out.items ++ flat_map authority_word (drop l.opinion-index l.opinions)
    ≡ l.fn.out.items ++ flat_map authority_word l.opinions
