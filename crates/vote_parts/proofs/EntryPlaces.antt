-- The places of what is wrong with the items of an entry.
use Rattle.std.proofs.Common.{ℕ, []}
use Rattle.item_terms.specs.Items.{Item}
use Rattle.dir_bytes.specs.Fields.{address, date, time_of_day}
use Rattle.dir_values.specs.{Digests.digest1, FlagSets.wrong_flag, Names.is_nickname, Numbers.port_of}
use Rattle.frame_values.specs.{Arguments.{arguments_of, field, others}, Fields.span_if, Lines.rest_unless}
use Rattle.frame_values.specs.declared.found.Span.{Span}
use Rattle.frame_values.specs.declared.values.Value.TheVariants as value
use Rattle.relay_entries.specs.{Fields.{are_methods, ed_opinion, identity, is_address}, Lines.address_of}
use Rattle.relay_entries.specs.Lines.{bandwidths_of, ed_of, entry_value, micro_of, no_bandwidths, relay_of, some_digest}
use Rattle.relay_entries.specs.declared.said.{Bandwidths.Bandwidths, EdOpinion.EdOpinion, EntryKind.EntryKind}
use Rattle.relay_entries.specs.declared.said.{MicroLine.MicroLine, RelayLine.RelayLine}
use Rattle.relay_entries.specs.declared.said.EntryKind.TheVariants as entry
use Rattle.relay_entries.specs.declared.said.EntryValue.TheVariants as said
use Rattle.fault_places.proofs.ArgumentPlaces.{PlaceIn, bandwidths_in, flag_in, others_begin, some_digest_in}
use Rattle.fault_places.proofs.ItemPlaces.{IsItemIn, all_begin, at_front, front_argument_begins, first_begins, more_in}
use Rattle.fault_places.proofs.ItemPlaces.{one_in, rest_in, second_begins, then_in}

module _ (n : ℕ) (item : Item) (is : IsItemIn n item) where
  relay_in : PlaceIn n (relay_of item)
  relay_in =
      let l0 = arguments_of item in
      let l1 = others l0 in
      let l2 = others l1 in
      let l3 = others l2 in
      let l4 = others l3 in
      let l5 = others l4 in
      let l6 = others l5 in
      let l7 = others l6 in
      let e0 = all_begin n item is in
      let e1 = others_begin n l0 e0 in
      let e2 = others_begin n l1 e1 in
      let e3 = others_begin n l2 e2 in
      let e4 = others_begin n l3 e3 in
      let e5 = others_begin n l4 e4 in
      let e6 = others_begin n l5 e5 in
      let e7 = others_begin n l6 e6 in
      let a = at_front n item is l0 in
      let b = at_front n item is l1 in
      let c = at_front n item is l2 in
      let d = at_front n item is l3 in
      let e = at_front n item is l4 in
      let f = at_front n item is l5 in
      let g = at_front n item is l6 in
      let h = at_front n item is l7 in
      more_in n a (span_if (is_nickname a.text) a) _ (front_argument_begins n item is l0 e0) (λ nickname.
      more_in n b (identity b.text) _ (front_argument_begins n item is l1 e1) (λ fingerprint.
      more_in n c (digest1 c.text) _ (front_argument_begins n item is l2 e2) (λ digest.
      more_in n d (date d.text) _ (front_argument_begins n item is l3 e3) (λ days.
      more_in n e (time_of_day e.text) _ (front_argument_begins n item is l4 e4) (λ seconds.
      more_in n f (address f.text) _ (front_argument_begins n item is l5 e5) (λ ip_number.
      more_in n g (port_of g.text) _ (front_argument_begins n item is l6 e6) (λ or_number.
      then_in n (field h (port_of h.text)) _ (one_in n h (port_of h.text) (front_argument_begins n item is l7 e7)))))))))

  address_in : PlaceIn n (address_of item)
  address_in =
      let first = at_front n item is (arguments_of item) in
      one_in n first (span_if (is_address first.text) first) (first_begins n item is)

  micro_in : PlaceIn n (micro_of item)
  micro_in =
      let first = at_front n item is (arguments_of item) in
      let rest = others (arguments_of item) in
      more_in n first (span_if (are_methods first.text) first) _ (first_begins n item is)
      (λ methods. then_in n (some_digest item.place rest) _
      (some_digest_in n item.place rest is.place (others_begin n (arguments_of item) (all_begin n item is))))

  ed_in : PlaceIn n (ed_of item)
  ed_in =
      let second = at_front n item is (others (arguments_of item)) in
      one_in n second (ed_opinion second.text) (second_begins n item is)

  -- whatever is wrong with an item of an entry stands within so many bytes
  pub entry_in : (kind : EntryKind) → PlaceIn n (entry_value kind item)
  entry_in entry.Relay = then_in n (relay_of item) (λ (line : RelayLine). value.Own (said.Relay line)) relay_in
  entry_in entry.Address = then_in n (address_of item) (λ (text : Span). value.Text text) address_in
  entry_in entry.Flags =
      let wrong = wrong_flag [] (arguments_of item) in
      then_in n (rest_unless wrong item) (λ (text : Span). value.Text text)
      (rest_in n item is wrong (flag_in n [] (arguments_of item) (all_begin n item is)))
  entry_in entry.Rest = tt
  entry_in entry.Bandwidths =
      then_in n (bandwidths_of item) (λ (widths : Bandwidths). value.Own (said.Bandwidths widths))
      (bandwidths_in n no_bandwidths (arguments_of item) (all_begin n item is))
  entry_in entry.Micro = then_in n (micro_of item) (λ (line : MicroLine). value.Own (said.Micro line)) micro_in
  entry_in entry.Ed = then_in n (ed_of item) (λ (key : EdOpinion). value.Own (said.Ed key)) ed_in
