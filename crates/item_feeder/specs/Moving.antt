-- What a document holds whose first byte stands so many places later.
use Rattle.std.specs.Prelude.{ℕ, ◌+◌, List, [], ◌∷◌, Option, Some, None, Result, Ok, Err}
use Rattle.item_terms.specs.{declared.fault.DocFault.DocFault, Items.{Item, Object, Open, nothing, keyword_line}}
use Rattle.item_terms.specs.Items.{object_lines, Step, Contents}

abbrev pub moved_object : ℕ → Object → Object
moved_object k object = record { words = object.words; start = k + object.start; text = object.text }

abbrev pub moved_object_if : ℕ → Option Object → Option Object
moved_object_if k None = None
moved_object_if k (Some object) = Some (moved_object k object)

-- an item whose places count from so many bytes earlier
abbrev pub moved_item : ℕ → Item → Item
moved_item k item = record {
  keyword = item.keyword;
  separator = item.separator;
  arguments = item.arguments;
  start = k + item.start;
  line_end = k + item.line_end;
  object = moved_object_if k item.object;
  place = k + item.place;
  after = k + item.after;
}

abbrev pub moved_if : ℕ → Option Item → Option Item
moved_if k None = None
moved_if k (Some item) = Some (moved_item k item)

abbrev pub moved_fault : ℕ → DocFault → DocFault
moved_fault k fault = record { place = k + fault.place; reason = fault.reason }

abbrev pub moved_fault_if : ℕ → Option DocFault → Option DocFault
moved_fault_if k None = None
moved_fault_if k (Some fault) = Some (moved_fault k fault)

abbrev pub moved_open : ℕ → Open → Open
moved_open k nothing = nothing
moved_open k (keyword_line item) = keyword_line (moved_item k item)
moved_open k (object_lines item begin object) = object_lines (moved_item k item) (k + begin) (moved_object k object)

abbrev pub moved_next : ℕ → Result Open DocFault → Result Open DocFault
moved_next k (Ok open_) = Ok (moved_open k open_)
moved_next k (Err fault) = Err (moved_fault k fault)

abbrev pub moved_step : ℕ → Step → Step
moved_step k step = record { whole = moved_if k step.whole; next = moved_next k step.next }

abbrev pub moved_items : ℕ → List Item → List Item
moved_items k [] = []
moved_items k (item ∷ items) = moved_item k item ∷ moved_items k items

abbrev pub moved_contents : ℕ → Contents → Contents
moved_contents k contents = record { items = moved_items k contents.items; fault = moved_fault_if k contents.fault }
