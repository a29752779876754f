-- The places of what is wrong with the items of a microdescriptor, and of the first fault of their document.
use Rattle.std.{proofs.Common.{ℕ, Bool, true, false, length, Ok, Err}, specs.Prelude.{codes, if◌then◌else◌}}
use Rattle.std.specs.Str.{bytes_eq}
use Rattle.item_terms.specs.Items.{Item}
use Rattle.frame_values.specs.Arguments.{Argument, arguments_of, field, front, next, others}
use Rattle.relay_entries.specs.Fields.{identity}
use Rattle.descriptor_frame.specs.{Fields.key, Lines.first_of}
use Rattle.micro_desc.specs.{Lines.{id_of, value_at}, Tables.micro_tables, declared.said.MicroId.MicroId}
use Rattle.micro_desc.specs.declared.said.{MicroId.TheVariants.{Ed25519, Rsa1024}, MicroKind.MicroKind}
use Rattle.micro_desc.specs.declared.said.MicroKind.TheVariants as kind
use Rattle.fault_places.{specs.Within.{FaultsStandIn, HasFaultsWithin}, proofs.FirstFaults.first_faults}
use Rattle.fault_places.proofs.{ArgumentPlaces.PlaceIn, ItemPlaces.{IsItemIn, first_begins, item_in, one_in}}
use Rattle.fault_places.proofs.{ItemPlaces.{second_begins, then_in}, Placed.{last_in, placed_in}}

module _ (n : ℕ) (item : Item) (is : IsItemIn n item) where
  abbrev first : Argument
  first = front item.place (arguments_of item)

  abbrev second : Argument
  second = front item.place (others (arguments_of item))

  key_in : PlaceIn n (first_of key item)
  key_in = one_in n first (key first.text) (first_begins n item is)

  id_in : PlaceIn n (id_of item)
  id_in = by (bytes_eq first.text (codes "ed25519")) (bytes_eq first.text (codes "rsa1024"))
    where
      by : (ed rsa : Bool)
          → PlaceIn {A = MicroId} n (if ed then next (field second (key second.text)) (λ bytes. Ok (Ed25519 bytes))
          else if rsa then next (field second (identity second.text)) (λ id. Ok (Rsa1024 id)) else Err first.place)
      by true rsa = last_in n second (key second.text) _ (second_begins n item is)
      by false true = last_in n second (identity second.text) _ (second_begins n item is)
      by false false = first_begins n item is

  value_in : (of_kind : MicroKind) → PlaceIn n (value_at of_kind item)
  value_in kind.OnionKey = tt
  value_in kind.Key = then_in n (first_of key item) _ key_in
  value_in kind.Rest = tt
  value_in kind.Id = then_in n (id_of item) _ id_in

micro_faults_in : FaultsStandIn micro_tables
micro_faults_in = record {
  said = λ bytes across of_kind item there.
      placed_in (length bytes) (value_at of_kind item)
      (value_in (length bytes) item (item_in bytes item there) of_kind);
  noted = λ bytes across of_kind keyword item said there e. tt;
}

pub micro_faults : HasFaultsWithin micro_tables
micro_faults = first_faults micro_tables micro_faults_in
