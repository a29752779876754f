use Rattle.dirdoc_grammar.proofs.WholeGroups.{one_turn}
use Rattle.dirdoc_grammar.proofs.base64_text.behind_groups.Goals as goal

pub groups-preserved : goal.groups-preserved
groups-preserved c =
    one_turn c.groups.rest.now c.args.text.now c.is_symbol.result c.is_symbol-else-a-eq10.result c.is_symbol-else-a-eq10-2.result c.is_symbol-else-a-eq10-3.result c.in-len4-up.len_at_least
    c.is_symbol.ensures c.is_symbol-else-a-eq10.ensures c.is_symbol-else-a-eq10-2.ensures c.is_symbol-else-a-eq10-3.ensures c.if-is_symbol.true c.groups.invariant
