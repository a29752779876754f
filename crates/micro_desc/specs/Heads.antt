-- What is kept of a microdescriptor's items. Where one is not there, its value is nothing.
use Rattle.std.specs.Prelude.{ℕ, List, [], Option, Some, None}
use Rattle.frame_terms.specs.declared.keyword.Keyword.TheVariants as the
use Rattle.frame_terms.specs.declared.document.Taken.{Taken}
use Rattle.frame_values.specs.{declared.{found.Span.Span, values.Value.Value}, Values.{item_at, own_in, text_if}}
use Rattle.micro_desc.specs.declared.{said.{MicroId.MicroId, MicroValue.MicroValue}, head.MicroHead.MicroHead}
use Rattle.micro_desc.specs.declared.said.MicroValue.TheVariants as own

-- an item, if there is one
abbrev pub ItemIf : Type 0
ItemIf = Option (Taken (Value MicroValue))

-- where the lines of the onion key stand, if a value says it
abbrev pub onion_key_of_value : Option MicroValue → Option Span
onion_key_of_value (Some (own.OnionKey lines)) = lines
onion_key_of_value _ = None

-- where the lines of the onion key stand, if an item says it
abbrev pub onion_key_in : ItemIf → Option Span
onion_key_in item = onion_key_of_value (own_in item)

-- the key that a value is
abbrev pub key_of_value : Option MicroValue → Option (List ℕ)
key_of_value (Some (own.Key key)) = Some key
key_of_value _ = None

-- the key that an item says
abbrev pub key_in : ItemIf → Option (List ℕ)
key_in item = key_of_value (own_in item)

-- whose microdescriptor it is, if a value says it
abbrev pub id_of_value : Option MicroValue → Option MicroId
id_of_value (Some (own.Id id)) = Some id
id_of_value _ = None

-- whose microdescriptor it is, if an item says it
abbrev pub id_in : ItemIf → Option MicroId
id_in item = id_of_value (own_in item)

-- what is kept of the items of a microdescriptor
abbrev pub head_of : List (Taken (Value MicroValue)) → MicroHead
head_of taken = record {
  onion_key = onion_key_in (item_at taken the.OnionKey);
  ntor_onion_key = key_in (item_at taken the.NtorOnionKey);
  family = text_if (item_at taken the.Family);
  family_ids = text_if (item_at taken the.FamilyIds);
  p = text_if (item_at taken the.P);
  p6 = text_if (item_at taken the.P6);
  id = id_in (item_at taken the.Id);
}

-- what is kept where nothing was read
abbrev pub no_head : MicroHead
no_head = head_of []

-- what is kept after the one section of a microdescriptor
abbrev pub head_with : MicroHead → Unit {0} → List (Taken (Value MicroValue)) → MicroHead
head_with head section taken = head_of taken
