use Rattle.std.{proofs.Common.{◌≡◌, length}, specs.{List.fold, Prelude.Some}}
use Rattle.item_terms.specs.Items.{items_of}
use Rattle.micro_desc.specs.Reading.{max_micro}
use Rattle.document_commands.specs.NextMicro.{after_last}
use Rattle.document_commands.proofs.next_micro.after_last.Given as goal

abbrev pub invariant-items : goal.invariant-items
invariant-items l = record {
  same : fold (λ before item. Some item.after) l.after l.items.items ≡ after_last (items_of max_micro l.bytes).items;
}

abbrev pub decreases-items : goal.decreases-items
decreases-items l = length l.items.items
