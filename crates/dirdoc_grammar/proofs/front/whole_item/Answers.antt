use Rattle.dirdoc_grammar.proofs.Endings.{all_now}
use Rattle.dirdoc_grammar.proofs.front.whole_item.Goals as goal

pub returns-clause-item : goal.returns-clause-item
returns-clause-item c = rw c.all_of.ensures.value (all_now c.args.limit c.args.place c.args.bytes.now c.next_item.result c.next_item.ensures.found)
