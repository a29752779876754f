-- What contracts see of an item, and what a reader gives.
use Rattle.std.specs.Prelude.{◌≡◌, ◌+◌, ◌<◌, ◌≤◌, ◌^◌, [], ◌∷◌, length, Option, Some, None, Result, Ok, Err, IfSome}
use Rattle.item_terms.specs.declared.fault.DocFault.{DocFault}
use Rattle.item_terms.specs.Items as model
use Rattle.dirdoc_grammar.specs.declared.item.{Item.Item, ObjectText.ObjectText}

-- the object, without where it lies in memory
abbrev pub seen_object : ObjectText → model.Object
seen_object object = record { words = object.words.now; start = object.start; text = object.lines.now }

-- the same if there is one
abbrev pub seen_object_if : Option ObjectText → Option model.Object
seen_object_if None = None
seen_object_if (Some object) = Some (seen_object object)

-- the item, without where it lies in memory
abbrev pub seen_item : Item → model.Item
seen_item item = record {
  keyword = item.keyword.now;
  separator = item.separator;
  arguments = item.arguments.now;
  start = item.start;
  line_end = item.line_end;
  object = seen_object_if item.object;
  place = item.place;
  after = item.after;
}

-- the same if there is one
abbrev pub seen_if : Option Item → Option model.Item
seen_if None = None
seen_if (Some item) = Some (seen_item item)

-- What a reader gives that has old left, and what it has left then: the first item, and the others; or the fault or
-- nothing, and the same.
abbrev pub Gives : model.Contents → Result (Option Item) DocFault → model.Contents → Type 0
Gives old (Ok (Some item)) new = (old.items ≡ seen_item item ∷ new.items) × (old.fault ≡ new.fault)
Gives old (Ok None) new = (old ≡ record { items = []; fault = None }) × (new ≡ old)
Gives old (Err fault) new = (old ≡ model.failed_contents fault) × (new ≡ old)

-- an item's arguments and its object end before the place after its last line, which is not its first byte's
pub record LiesInOrder (item : model.Item) : Type 0 where
  pub some_bytes : item.place < item.after
  pub arguments_end : item.start + length item.arguments ≤ item.after
  pub line_ends : item.line_end ≤ item.after
  pub object_ends : IfSome item.object (λ object. object.start + length object.text ≤ item.after)

-- an item lies within an input of fewer than 2 ^ 62 bytes
abbrev pub IsInside : Item → Type 0
IsInside item = LiesInOrder (seen_item item) × (item.after < 2 ^ 62)
