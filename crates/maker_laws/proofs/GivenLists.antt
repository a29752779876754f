-- The lines of lists that a station is given, and of who the authority is, are short.
use Rattle.std.proofs.Common.{◌≡◌, ℕ, ◌≤◌, true, List, [], ◌++◌, length, Option, Some, None, refl}
use Rattle.std.{proofs.lemmas.List.Elements.{All-append, All-cons, All-nil}, specs.Prelude.{All, IfSome, is_some}}
use Rattle.std.specs.Prelude.{option_map}
use Rattle.dirdoc_grammar.specs.Writing.{NewItem}
use Rattle.frame_terms.specs.{Keywords.{same, text_of}, Rows.row, declared.keyword.Keyword.Keyword}
use Rattle.frame_terms.specs.declared.row.Count.TheVariants.{One, Optional}
use Rattle.frame_terms.specs.declared.keyword.Keyword.TheVariants as the
use Rattle.frame_values.specs.{Items.{bare, item_if}, Parts.part, Values.{item_at, own_of_value, text_if}}
use Rattle.frame_values.specs.declared.values.Value.{Value}
use Rattle.frame_values.specs.declared.values.Value.TheVariants as value
use Rattle.value_laws.proofs.{ParamLengths.params_no_longer, ProtocolLengths.protocols_no_longer}
use Rattle.value_laws.proofs.VersionLengths.{versions_no_longer}
use Rattle.value_groups.specs.Listed.{params_in, protocols_in, versions_in}
use Rattle.list_values.specs.{Params.params_text, Protocols.protocols_text, VersionLists.versions_text}
use Rattle.document_laws.specs.Counts.{RowsStand}
use Rattle.range_laws.proofs.ValueTexts.{TextIs, text_ranged}
use Rattle.station_input.specs.{Tables.station_tables, declared.frame_said.StationValue.StationValue, Saying.source_in}
use Rattle.station_input.specs.Saying.{source_of_value}
use Rattle.station_input.specs.declared.frame.StationKind.TheVariants as kind
use Rattle.station_input.specs.declared.frame.StationSection.TheVariants as its
use Rattle.station_input.specs.declared.frame_said.StationValue.TheVariants as own
use Rattle.vote_terms.specs.{ListLines.{lists_in, vote_lists}, declared.lists.VoteLists.VoteLists}
use Rattle.maker_laws.proofs.{StationStands.own_there, ItemLines.{FitsLine, shorter_fits}, OwnLine.IsShortSource}
use Rattle.maker_laws.proofs.{OwnLine.{SourceFits, source_fits}, StandingLines.{EachStandsShort, contact_fits}}
use Rattle.maker_laws.proofs.StandingLines.{item_short, params_fit, protocols_fit, versions_fit}
use Rattle.maker_laws.specs.Lines.{HasShortLine}
use Rattle.vote_text.specs.Lists.{param_items, protocol_items, version_items}
use Rattle.station_laws.proofs.KeptLines.{StationTaken}

-- ---- lines of lists

-- a line of this keyword and of the rest that there is, is short
abbrev LineIf : Keyword → Option (List ℕ) → Type 0
LineIf keyword rest = IfSome rest (FitsLine (text_of keyword))

-- what a text lists is no longer than the text
listed_fits : {A : Type 0} (keyword : Keyword) (of : List ℕ → A) (to : A → List ℕ)
    → ((text : List ℕ) → length (to (of text)) ≤ length text) → (text : Option (List ℕ)) → LineIf keyword text
    → LineIf keyword (option_map to (option_map of text))
listed_fits keyword of to less None fits = tt
listed_fits keyword of to less (Some text) fits = shorter_fits (text_of keyword) text (to (of text)) (less text) fits

-- the line of a list
line_if : (keyword : Keyword) (rest : Option (List ℕ)) → LineIf keyword rest → All HasShortLine (item_if keyword rest)
line_if keyword None fits = All-nil HasShortLine
line_if keyword (Some rest) fits = All-cons HasShortLine (bare keyword rest) [] fits (All-nil HasShortLine)

both_lines : (first second : List NewItem) → All HasShortLine first → All HasShortLine second
    → All HasShortLine (first ++ second)
both_lines first second one other = All-append HasShortLine first second one other

-- the lines of these lists are short
pub record HasShortLists (lists : VoteLists) : Type 0 where
  pub versions : All HasShortLine (version_items lists)
  pub protocols : All HasShortLine (protocol_items lists)
  pub params : All HasShortLine (param_items lists.params)

module _ (bytes : List ℕ) (taken : List StationTaken) (each : EachStandsShort bytes taken) where
  versions_at : (keyword : Keyword)
      → IfSome (item_at taken keyword) (λ one. TextIs (FitsLine (text_of keyword)) bytes one.value)
      → LineIf keyword (option_map versions_text (option_map versions_in
      (option_map (part bytes) (text_if (item_at taken keyword)))))
  versions_at keyword is =
      listed_fits keyword versions_in versions_text versions_no_longer
      (option_map (part bytes) (text_if (item_at taken keyword)))
      (text_ranged (FitsLine (text_of keyword)) bytes (item_at taken keyword) is)

  protocols_at : (keyword : Keyword)
      → IfSome (item_at taken keyword) (λ one. TextIs (FitsLine (text_of keyword)) bytes one.value)
      → LineIf keyword (option_map protocols_text (option_map protocols_in
      (option_map (part bytes) (text_if (item_at taken keyword)))))
  protocols_at keyword is =
      listed_fits keyword protocols_in protocols_text protocols_no_longer
      (option_map (part bytes) (text_if (item_at taken keyword)))
      (text_ranged (FitsLine (text_of keyword)) bytes (item_at taken keyword) is)

  pub lists_short : HasShortLists (vote_lists bytes (lists_in taken))
  unfolding same
  lists_short =
      let lists = vote_lists bytes (lists_in taken) in
      let client = line_if the.ClientVersions (option_map versions_text lists.client_versions)
      (versions_at the.ClientVersions
      (item_short bytes (TextIs (FitsLine (text_of the.ClientVersions)) bytes) taken the.ClientVersions
      (row the.ClientVersions Optional kind.Versions) refl (λ v s. versions_fit s) each)) in
      let server = line_if the.ServerVersions (option_map versions_text lists.server_versions)
      (versions_at the.ServerVersions
      (item_short bytes (TextIs (FitsLine (text_of the.ServerVersions)) bytes) taken the.ServerVersions
      (row the.ServerVersions Optional kind.Versions) refl (λ v s. versions_fit s) each)) in
      let recommended_client =
      line_if the.RecommendedClientProtocols (option_map protocols_text lists.recommended_client_protocols)
      (protocols_at the.RecommendedClientProtocols
      (item_short bytes (TextIs (FitsLine (text_of the.RecommendedClientProtocols)) bytes) taken
      the.RecommendedClientProtocols (row the.RecommendedClientProtocols Optional kind.Protocols) refl
      (λ v s. protocols_fit s) each)) in
      let recommended_relay =
      line_if the.RecommendedRelayProtocols (option_map protocols_text lists.recommended_relay_protocols)
      (protocols_at the.RecommendedRelayProtocols
      (item_short bytes (TextIs (FitsLine (text_of the.RecommendedRelayProtocols)) bytes) taken
      the.RecommendedRelayProtocols (row the.RecommendedRelayProtocols Optional kind.Protocols) refl
      (λ v s. protocols_fit s) each)) in
      let required_client =
      line_if the.RequiredClientProtocols (option_map protocols_text lists.required_client_protocols)
      (protocols_at the.RequiredClientProtocols
      (item_short bytes (TextIs (FitsLine (text_of the.RequiredClientProtocols)) bytes) taken
      the.RequiredClientProtocols (row the.RequiredClientProtocols Optional kind.Protocols) refl
      (λ v s. protocols_fit s) each)) in
      let required_relay =
      line_if the.RequiredRelayProtocols (option_map protocols_text lists.required_relay_protocols)
      (protocols_at the.RequiredRelayProtocols
      (item_short bytes (TextIs (FitsLine (text_of the.RequiredRelayProtocols)) bytes) taken
      the.RequiredRelayProtocols (row the.RequiredRelayProtocols Optional kind.Protocols) refl
      (λ v s. protocols_fit s) each)) in
      record {
        versions = both_lines _ _ client server;
        protocols = both_lines _ _ (both_lines _ _ recommended_client recommended_relay)
            (both_lines _ _ required_client required_relay);
        params = line_if the.Params (option_map params_text lists.params)
            (listed_fits the.Params params_in params_text params_no_longer
            (option_map (part bytes) (text_if (item_at taken the.Params)))
            (text_ranged (FitsLine (text_of the.Params)) bytes (item_at taken the.Params)
            (item_short bytes (TextIs (FitsLine (text_of the.Params)) bytes) taken the.Params
            (row the.Params Optional kind.Params) refl (λ v s. params_fit s) each)));
      }

  pub contact_short : All HasShortLine (item_if the.Contact (option_map (part bytes) (text_if (item_at taken the.Contact))))
  unfolding same
  contact_short =
      line_if the.Contact (option_map (part bytes) (text_if (item_at taken the.Contact)))
      (text_ranged (FitsLine (text_of the.Contact)) bytes (item_at taken the.Contact)
      (item_short bytes (TextIs (FitsLine (text_of the.Contact)) bytes) taken the.Contact
      (row the.Contact Optional kind.Rest) refl (λ v s. contact_fits s) each))

  -- ---- who the authority is

  source_of_item : (one : Option StationTaken) → is_some one ≡ true → IfSome one (λ o. SourceFits bytes o.value)
      → IsShortSource bytes (source_in one)
  source_of_item None some is = absurd (cc some)
  source_of_item (Some one) some is = by one.value is
    where
      by : (v : Value StationValue) → SourceFits bytes v → IsShortSource bytes (source_of_value (own_of_value v))
      by (value.Own (own.Source source)) it = it
      by _ it = absurd it

  pub source_short : RowsStand station_tables its.Station taken → IsShortSource bytes (source_in (item_at taken the.Own))
  unfolding same
  source_short counts =
      source_of_item (item_at taken the.Own) (own_there taken counts)
      (item_short bytes (SourceFits bytes) taken the.Own (row the.Own One kind.Source) refl (λ v s. source_fits s) each)
