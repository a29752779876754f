use Rattle.computed_laws.proofs.ComputedItems.{computed_items}
use Rattle.computed_laws.proofs.laws.computed_items_are_items.Goals as goal

pub returns : goal.returns
returns c = computed_items
