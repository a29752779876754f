-- The methods of consensuses that are read (dir-spec, "Vote and consensus status document formats").
use Rattle.std.specs.Prelude.{◌≡◌, ℕ, Ok}
use Rattle.item_terms.specs.Items.{Item}
use Rattle.consensus_frame.specs.Lines as lines
use Rattle.consensus_doc.specs.Drafts as drafts

-- Nothing is cut off of a method that is read.
abbrev pub MethodsAreNotCapped : Type 0
MethodsAreNotCapped = (item : Item) (number : ℕ) → lines.method_of item ≡ Ok number → drafts.method_of number ≡ number
