-- The items of a server descriptor, which has one section (dir-spec, "Server descriptor format"). That `onion-key` may be
-- left out is this project's choice.
use Rattle.std.specs.Prelude.{true, false, List, [], ◌∷◌, Some, None, Ok}
use Rattle.frame_terms.specs.declared.keyword.Keyword.TheVariants as the
use Rattle.frame_terms.specs.declared.{row.{Count.TheVariants.{One, Optional, Many}, Row.Row}, section.Shape.Shape}
use Rattle.frame_terms.specs.{Rows.row, Tables.Tables}
use Rattle.frame_terms.specs.declared.section.Again.TheVariants as again
use Rattle.frame_values.specs.{declared.values.Value.Value, Faults.at_place}
use Rattle.descriptor_frame.specs.declared.said.{DescriptorKind.DescriptorKind, DescriptorValue.DescriptorValue}
use Rattle.descriptor_frame.specs.Lines.{value_at}
use Rattle.descriptor_frame.specs.declared.said.DescriptorKind.TheVariants as kind

-- its items; the first one opens it
abbrev pub rows : List (Row DescriptorKind)
rows =
    row the.Router One kind.Router
    ∷ row the.IdentityEd25519 Optional kind.Certificate
    ∷ row the.MasterKeyEd25519 Optional kind.Key
    ∷ row the.Platform Optional kind.Rest
    ∷ row the.Published One kind.Time
    ∷ row the.Fingerprint Optional kind.Fingerprint
    ∷ row the.Uptime Optional kind.Uptime
    ∷ row the.Bandwidth One kind.Bandwidth
    ∷ row the.Hibernating Optional kind.Hibernating
    ∷ row the.OnionKey Optional kind.Object
    ∷ row the.SigningKey One kind.Object
    ∷ row the.NtorOnionKey Optional kind.PaddedKey
    ∷ row the.Accept Many (kind.Policy true)
    ∷ row the.Reject Many (kind.Policy false)
    ∷ row the.Ipv6Policy Optional kind.Ports
    ∷ row the.Family Optional kind.Rest
    ∷ row the.OrAddress Many kind.Address
    ∷ row the.TunnelledDirServer Optional kind.Nothing
    ∷ row the.Proto Optional kind.Rest
    ∷ row the.Contact Optional kind.Rest
    ∷ row the.RouterSigEd25519 Optional kind.EdSignature
    ∷ row the.RouterSignature One kind.Signature
    ∷ []

-- how it begins and ends
abbrev pub shape : Shape (Unit {0})
shape = record {
  opener = the.Router;
  last = Some the.RouterSignature;
  again = again.Nothing;
  inner = None;
  limit = None;
}

-- the tables of a server descriptor
abbrev pub descriptor_tables : Tables (Unit {0}) DescriptorKind (Value DescriptorValue) (Unit {0})
descriptor_tables = record {
  first = tt;
  sections = tt ∷ [];
  shape = λ _. shape;
  rows = λ _. rows;
  strangers = λ _ _. false;
  ignores = λ _ _. false;
  value_of = λ _ kind item. at_place (value_at kind item);
  start = tt;
  note = λ _ _. Ok tt;
}
