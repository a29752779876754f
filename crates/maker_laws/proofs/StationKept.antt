-- What is read of a station input is in range.
use Rattle.std.proofs.Common.{◌≡◌, ℕ, List, [], ◌∷◌, length, Option, Some, None, refl, sym, subst, Result, Ok, Err, inl}
use Rattle.std.{proofs.{Common.inr, lemmas.List.Elements.{All-head, All-tail}}, specs.Prelude.{All, IfSome, option_map}}
use Rattle.base64.specs.GeneralPurpose.{IsBytes}
use Rattle.count_terms.specs.declared.newest.Newest.{Newest}
use Rattle.item_terms.specs.Items.{Item, items_of}
use Rattle.dirdoc_grammar.specs.Writing.{IsLineRest}
use Rattle.frame_terms.specs.{Documents.{Document, document_of, finish, group}, Keywords.same}
use Rattle.frame_terms.specs.declared.fault.ReadRefusal.{ReadRefusal}
use Rattle.frame_terms.specs.declared.keyword.Keyword.TheVariants as the
use Rattle.frame_values.specs.{Parts.part, Values.{item_at, text_if}, declared.{found.Span.Span, values.Value.Value}}
use Rattle.value_groups.specs.Listed.{params_in}
use Rattle.authority_certs.specs.{Certs.cert_in, Heads.{head_of, no_head}, declared.head.CertHead.CertHead}
use Rattle.certificate_laws.specs.Again.{SaysInRange}
use Rattle.document_laws.{specs.{Counts.RowsStand, Items.AreItemsIn}, proofs.{Counting.stand_as_often, Taking.are_said}}
use Rattle.vote_laws.specs.Again.{AreListsInRange, AreVoteParams}
use Rattle.range_laws.proofs.{CertRanges.{has_bytes, nothing_says, section_says}, KeptFacts.{params_few, protocols_at}}
use Rattle.range_laws.proofs.{KeptFacts.versions_at, LineReads.IsSourceIn, VoteReads.AreFew}
use Rattle.row_laws.proofs.{Saying.{EachSound, all_sound, each_stands, EachStands}, KindRanges.{field_is, once_there}}
use Rattle.station_input.specs.{Tables.station_tables, declared.frame.StationSection.StationSection}
use Rattle.station_input.specs.{declared.frame_said.StationValue.StationValue, Kept.{kept_with, none_kept}}
use Rattle.station_input.specs.{Reading.{max_station, with_facts}, Saying.{measured_in, source_in}, Facts.facts_of}
use Rattle.station_input.specs.declared.frame.StationKind.TheVariants as kind
use Rattle.station_input.specs.declared.frame.StationSection.TheVariants as its
use Rattle.vote_terms.specs.ListLines.{lists_in, vote_lists}
use Rattle.station_laws.proofs.KeptLines.{AreSections, StationGroup, StationTaken, facts_in, groups_are, same_facts}
use Rattle.station_laws.proofs.KeptLines.{sections_are}
use Rattle.maker_laws.specs.Ranges.{HasKeyBytes, IsMeasuredInRange, IsStationInRange, StationsReadAreInRange}
use Rattle.maker_laws.proofs.{StationStands.{certificates, measured_ranged, never_station}, StationReads.params_are}
use Rattle.maker_laws.proofs.StationReads.{rest_is, source_is}

-- ---- lists

module _ (bytes : List ℕ) where
  params_at : (span : Option Span) → IfSome (option_map (part bytes) span) (AreFew 1024)
      → IfSome (option_map params_in (option_map (part bytes) span)) AreVoteParams
  params_at None few = tt
  params_at (Some span) few = params_few (part bytes span) few

-- ---- the station's section

-- what items of it say
record SectionSays (bytes : List ℕ) (taken : List StationTaken) : Type 0 where
  source : IsSourceIn bytes (source_in (item_at taken the.Own))
  contact : IfSome (option_map (part bytes) (text_if (item_at taken the.Contact))) IsLineRest
  params : IfSome (option_map (part bytes) (text_if (item_at taken the.Params))) (AreFew 1024)
  measured : All IsMeasuredInRange (measured_in taken)

section_ranged : (bytes : List ℕ) → IsBytes bytes → (taken : List StationTaken)
    → EachStands station_tables bytes its.Station taken → RowsStand station_tables its.Station taken
    → SectionSays bytes taken
unfolding same
section_ranged bytes are taken each counts = record {
  source = field_is station_tables bytes are its.Station taken each the.Own _ refl (never_station the.Own) source_is
      source_in (IsSourceIn bytes)
      (λ none. absurd (once_there station_tables its.Station taken the.Own kind.Source refl counts none))
      (λ one source is. is);
  contact = field_is station_tables bytes are its.Station taken each the.Contact _ refl (never_station the.Contact)
      rest_is (λ o. option_map (part bytes) (text_if o)) (λ o. IfSome o IsLineRest) (λ none. tt) (λ one span is. is);
  params = field_is station_tables bytes are its.Station taken each the.Params _ refl (never_station the.Params)
      params_are (λ o. option_map (part bytes) (text_if o)) (λ o. IfSome o (AreFew 1024)) (λ none. tt)
      (λ one span is. is);
  measured = measured_ranged bytes its.Station taken each;
}

lists_ranged : (bytes : List ℕ) (taken : List StationTaken)
    → IfSome (option_map (part bytes) (text_if (item_at taken the.Params))) (AreFew 1024)
    → AreListsInRange (vote_lists bytes (lists_in taken))
lists_ranged bytes taken few = record {
  client_versions = versions_at bytes (text_if (item_at taken the.ClientVersions));
  server_versions = versions_at bytes (text_if (item_at taken the.ServerVersions));
  recommended_client_protocols = protocols_at bytes (text_if (item_at taken the.RecommendedClientProtocols));
  recommended_relay_protocols = protocols_at bytes (text_if (item_at taken the.RecommendedRelayProtocols));
  required_client_protocols = protocols_at bytes (text_if (item_at taken the.RequiredClientProtocols));
  required_relay_protocols = protocols_at bytes (text_if (item_at taken the.RequiredRelayProtocols));
  params = params_at bytes (text_if (item_at taken the.Params)) few;
}

-- ---- all that is read

keys_of : (bytes : List ℕ) (head : CertHead) → IsBytes bytes → HasKeyBytes (cert_in bytes head)
keys_of bytes head are =
    let keys = has_bytes bytes head are in
    record {
      identity_key = keys.identity_key;
      signing_key = keys.signing_key;
      crosscert = keys.crosscert;
      certification = keys.certification;
    }

-- a section's items are from these
abbrev pub AreFrom : List Item → StationGroup → Type 0
AreFrom items g = AreItemsIn station_tables g.section items g.taken

-- a section's rows count
abbrev pub CountsOf : StationGroup → Type 0
CountsOf g = RowsStand station_tables g.section g.taken

-- what is kept of the station's section, where the head of its certificate is in range
made_ranged : (newest : Newest) (bytes : List ℕ) → IsBytes bytes → (taken : List StationTaken) → SectionSays bytes taken
    → (head : CertHead) → SaysInRange (cert_in bytes head)
    → IsStationInRange
    (facts_of newest bytes (kept_with (record none_kept { head = record none_kept.head { certificate = head } })
    its.Station
    taken))
made_ranged newest bytes are taken says head certificate = record {
  nickname = says.source.nickname;
  identity = says.source.identity;
  address = says.source.address;
  ip = says.source.ip;
  dir_port = says.source.dir_port;
  or_port = says.source.or_port;
  contact = says.contact;
  lists = lists_ranged bytes taken says.params;
  measured = says.measured;
  certificate = certificate;
  keys = keys_of bytes head are;
}

facts_ranged : (newest : Newest) (bytes : List ℕ) (items : List Item) (groups : List StationGroup)
    (taken : List StationTaken)
    → IsBytes bytes → EachSound bytes items → AreSections groups taken → All (AreFrom items) groups
    → All CountsOf groups
    → IsStationInRange (facts_in newest bytes groups)
facts_ranged newest bytes items groups taken are sound (inl is) from counts =
    let here = All-head (AreFrom items) (group its.Station taken) []
    (subst (λ (l : List StationGroup). All (AreFrom items) l) is from) in
    let often = All-head CountsOf (group its.Station taken) []
    (subst (λ (l : List StationGroup). All CountsOf l) is counts) in
    let says = section_ranged bytes are taken
    (each_stands station_tables bytes its.Station items taken sound here) often in
    subst (λ (l : List StationGroup). IsStationInRange (facts_in newest bytes l)) (sym is)
    (made_ranged newest bytes are taken says no_head (nothing_says bytes))
facts_ranged newest bytes items groups taken are sound (inr (inside, is)) from counts =
    let first : StationGroup = group its.Certificate inside in
    let second : StationGroup = group its.Station taken in
    let all_from = subst (λ (l : List StationGroup). All (AreFrom items) l) is from in
    let all_counts = subst (λ (l : List StationGroup). All CountsOf l) is counts in
    let there = All-head (AreFrom items) first (second ∷ []) all_from in
    let here = All-head (AreFrom items) second [] (All-tail (AreFrom items) first (second ∷ []) all_from) in
    let often = All-head CountsOf second [] (All-tail CountsOf first (second ∷ []) all_counts) in
    let says = section_ranged bytes are taken
    (each_stands station_tables bytes its.Station items taken sound here) often in
    subst (λ (l : List StationGroup). IsStationInRange (facts_in newest bytes l)) (sym is)
    (made_ranged newest bytes are taken says (head_of inside)
    (section_says station_tables its.Certificate kind.Certificate certificates bytes are inside
    (each_stands station_tables bytes its.Certificate items inside sound there)))

-- ---- the law

pub station_in_range : StationsReadAreInRange
station_in_range newest bytes facts used are is =
    by (document_of station_tables (length bytes) (items_of max_station bytes)) refl is
  where
    by : (read : Result (Document StationSection (Value StationValue)) ReadRefusal)
        → document_of station_tables (length bytes) (items_of max_station bytes) ≡ read
        → with_facts newest bytes (finish kept_with none_kept read) ≡ Ok (facts, used) → IsStationInRange facts
    by (Err refusal) got e = absurd (cc (e))
    by (Ok document) got e =
        let contents = items_of max_station bytes in
        let has = sections_are bytes document got in
        subst IsStationInRange (same_facts (facts_in newest bytes document.groups) facts document.used used e)
        (facts_ranged newest bytes contents.items document.groups has.part.whole.taken are
        (all_sound 0 max_station bytes)
        (groups_are document has) (are_said station_tables (length bytes) contents document got)
        (stand_as_often station_tables (length bytes) contents document got))
