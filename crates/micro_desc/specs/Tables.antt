-- The items of a microdescriptor, which has one section (dir-spec, "Computing microdescriptors").
use Rattle.std.specs.Prelude.{false, List, [], ◌∷◌, None, Ok}
use Rattle.frame_terms.specs.declared.keyword.Keyword.TheVariants as the
use Rattle.frame_terms.specs.declared.{row.{Count.TheVariants.{One, Optional}, Row.Row}, section.Shape.Shape}
use Rattle.frame_terms.specs.{Rows.row, Tables.Tables}
use Rattle.frame_terms.specs.declared.section.Again.TheVariants as again
use Rattle.frame_values.specs.{declared.values.Value.Value, Faults.at_place}
use Rattle.micro_desc.specs.{declared.said.{MicroKind.MicroKind, MicroValue.MicroValue}, Lines.value_at}
use Rattle.micro_desc.specs.declared.said.MicroKind.TheVariants as kind

-- its items; the first one opens it
abbrev pub rows : List (Row MicroKind)
rows =
    row the.OnionKey One kind.OnionKey
    ∷ row the.NtorOnionKey Optional kind.Key
    ∷ row the.Family Optional kind.Rest
    ∷ row the.FamilyIds Optional kind.Rest
    ∷ row the.P Optional kind.Rest
    ∷ row the.P6 Optional kind.Rest
    ∷ row the.Id Optional kind.Id
    ∷ []

-- how it begins; it ends before the next `onion-key`, which begins the next microdescriptor, or with the input
abbrev pub shape : Shape (Unit {0})
shape = record {
  opener = the.OnionKey;
  last = None;
  again = again.Document;
  inner = None;
  limit = None;
}

-- the tables of a microdescriptor
abbrev pub micro_tables : Tables (Unit {0}) MicroKind (Value MicroValue) (Unit {0})
micro_tables = record {
  first = tt;
  sections = tt ∷ [];
  shape = λ _. shape;
  rows = λ _. rows;
  strangers = λ _ _. false;
  ignores = λ _ _. false;
  value_of = λ _ kind item. at_place (value_at kind item);
  start = tt;
  note = λ _ _. Ok tt;
}
