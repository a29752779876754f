-- The places of what is wrong with the items of a server descriptor, and of the first fault of their document.
use Rattle.std.proofs.Common.{◌≡◌, ℕ, zero, suc, ◌+◌, Bool, true, false, List, length, Option, Result, Ok, Err, arith}
use Rattle.std.{proofs.{Common.refl, lemmas.Bool.ltb-true}, specs.Prelude.{◌&&◌, codes, nat_lt, if◌then◌else◌}}
use Rattle.item_terms.specs.Items.{Item}
use Rattle.dir_bytes.specs.Fields.{address}
use Rattle.dir_values.specs.{Names.is_nickname, Numbers.port_of, Ports.{Ports, port_summary}}
use Rattle.dir_values.specs.declared.refusal.ValueRefusal.{ValueRefusal}
use Rattle.dir_values.specs.declared.refusal.ValueRefusal.TheVariants as refusal
use Rattle.frame_values.specs.{declared.found.Span.Span, Arguments.{Argument, arguments_of, front, others}}
use Rattle.frame_values.specs.{Fields.span_if, Lines.time_of, Signatures.{has_words, object_of}}
use Rattle.exit_summary.specs.PolicyItems.{item_of}
use Rattle.descriptor_frame.specs.Fields.{group_of, groups_of, hibernating, is_address, key, long_number, padded_key}
use Rattle.descriptor_frame.specs.{Fields.signature, Lines.{address_of, bandwidth_of, certificate_lines, first_of}}
use Rattle.descriptor_frame.specs.Lines.{identity_of, is_certificate, ports_at, ports_of, router_of, value_at}
use Rattle.descriptor_frame.specs.{Tables.descriptor_tables, declared.said.DescriptorKind.DescriptorKind}
use Rattle.descriptor_frame.specs.declared.said.DescriptorKind.TheVariants as kind
use Rattle.fault_places.{specs.Within.{FaultsStandIn, HasFaultsWithin}, proofs.FirstFaults.first_faults}
use Rattle.fault_places.proofs.{ArgumentPlaces.{EachBegins, PlaceIn, others_begin}, ItemPlaces.{IsItemIn, all_begin}}
use Rattle.fault_places.proofs.ItemPlaces.{front_argument_begins, first_begins, item_in, more_in, object_in, one_in}
use Rattle.fault_places.proofs.{ItemPlaces.{then_in, time_in}, Placed.{last_in, placed_in}}

module _ (n : ℕ) (item : Item) (is : IsItemIn n item) where
  -- ---- lines

  router_in : PlaceIn n (router_of item)
  router_in =
      let l0 = arguments_of item in
      let l1 = others l0 in
      let l2 = others l1 in
      let l3 = others l2 in
      let l4 = others l3 in
      let e1 = others_begin n l0 (all_begin n item is) in
      let e2 = others_begin n l1 e1 in
      let e3 = others_begin n l2 e2 in
      let e4 = others_begin n l3 e3 in
      let a = front item.place l0 in
      let b = front item.place l1 in
      let c = front item.place l2 in
      let d = front item.place l3 in
      let e = front item.place l4 in
      more_in n a (span_if (is_nickname a.text) a) _ (first_begins n item is) (λ nickname.
      more_in n b (address b.text) _ (front_argument_begins n item is l1 e1) (λ ip_number.
      more_in n c (port_of c.text) _ (front_argument_begins n item is l2 e2) (λ or_number.
      more_in n d (port_of d.text) _ (front_argument_begins n item is l3 e3) (λ socks_number.
      last_in n e (port_of e.text) _ (front_argument_begins n item is l4 e4)))))

  bandwidth_in : PlaceIn n (bandwidth_of item)
  bandwidth_in =
      let l0 = arguments_of item in
      let l1 = others l0 in
      let l2 = others l1 in
      let e1 = others_begin n l0 (all_begin n item is) in
      let e2 = others_begin n l1 e1 in
      let a = front item.place l0 in
      let b = front item.place l1 in
      let c = front item.place l2 in
      more_in n a (long_number a.text) _ (first_begins n item is) (λ average.
      more_in n b (long_number b.text) _ (front_argument_begins n item is l1 e1) (λ burst.
      last_in n c (long_number c.text) _ (front_argument_begins n item is l2 e2)))

  first_in : {X : Type 0} (value : List ℕ → Option X) → PlaceIn n (first_of value item)
  first_in value =
      let first = front item.place (arguments_of item) in
      one_in n first (value first.text) (first_begins n item is)

  address_in : PlaceIn n (address_of item)
  address_in =
      let first = front item.place (arguments_of item) in
      one_in n first (span_if (is_address first.text) first) (first_begins n item is)

  groups_in : (count : ℕ) (arguments : List Argument) → EachBegins n arguments
      → PlaceIn n (groups_of count item.place arguments)
  unfolding groups_of
  groups_in zero arguments each = tt
  groups_in (suc count) arguments each =
      let first = front item.place arguments in
      more_in n first (group_of first.text) _ (front_argument_begins n item is arguments each) (λ bytes.
      then_in n (groups_of count item.place (others arguments)) _
      (groups_in count (others arguments) (others_begin n arguments each)))

  identity_in : PlaceIn n (identity_of item)
  identity_in =
      then_in n (groups_of 10 item.place (arguments_of item)) _
      (groups_in 10 (arguments_of item) (all_begin n item is))

  ports_in : PlaceIn n (ports_of item)
  ports_in = by (port_summary item.arguments)
    where
      tested : (place : ℕ) (t : Bool) → nat_lt place (length item.arguments) ≡ t
          → PlaceIn {A = Span} n (if t then Err (item.start + place) else Err item.place)
      tested place true e = omega (arith, is.arguments, ltb-true place (length item.arguments) e)
      tested place false e = is.place

      by : (read : Result Ports ValueRefusal) → PlaceIn n (ports_at item read)
      by (Ok ports) = tt
      by (Err (refusal.BadValue place)) = tested place (nat_lt place (length item.arguments)) refl
      by (Err refusal.Memory) = is.place

  -- ---- what an item says

  value_in : (of_kind : DescriptorKind) → PlaceIn n (value_at of_kind item)
  value_in kind.Router = then_in n (router_of item) _ router_in
  value_in kind.Certificate =
      then_in n (certificate_lines item) _
      (object_in n item is (has_words item.object (codes "ED25519 CERT") && is_certificate item.object) item.object)
  value_in kind.Key = then_in n (first_of key item) _ (first_in key)
  value_in kind.Rest = tt
  value_in kind.Time = then_in n (time_of item) _ (time_in n item is)
  value_in kind.Fingerprint = then_in n (identity_of item) _ identity_in
  value_in kind.Uptime = then_in n (first_of long_number item) _ (first_in long_number)
  value_in kind.Bandwidth = then_in n (bandwidth_of item) _ bandwidth_in
  value_in kind.Hibernating = then_in n (first_of hibernating item) _ (first_in hibernating)
  value_in kind.Object = then_in n (object_of true item) _ (object_in n item is true item.object)
  value_in kind.PaddedKey = then_in n (first_of padded_key item) _ (first_in padded_key)
  value_in (kind.Policy accept) = then_in n (first_of (item_of accept) item) _ (first_in (item_of accept))
  value_in kind.Ports = then_in n (ports_of item) _ ports_in
  value_in kind.Address = then_in n (address_of item) _ address_in
  value_in kind.Nothing = tt
  value_in kind.EdSignature = then_in n (first_of signature item) _ (first_in signature)
  value_in kind.Signature =
      then_in n (object_of (has_words item.object (codes "SIGNATURE")) item) _
      (object_in n item is (has_words item.object (codes "SIGNATURE")) item.object)

descriptor_faults_in : FaultsStandIn descriptor_tables
descriptor_faults_in = record {
  said = λ bytes across of_kind item there.
      placed_in (length bytes) (value_at of_kind item)
      (value_in (length bytes) item (item_in bytes item there) of_kind);
  noted = λ bytes across of_kind keyword item said there e. tt;
}

pub descriptor_faults : HasFaultsWithin descriptor_tables
descriptor_faults = first_faults descriptor_tables descriptor_faults_in
