-- The lists of a consensus, row by row: each is read as the list that it was written for.
use Rattle.std.proofs.Common.{◌≡◌, ℕ, ◌++◌, Bool, true, false, List, [], ◌∷◌, Option, None, refl, sym, ap, ◌∙◌}
use Rattle.std.specs.Prelude.{ℤ, Result, map}
use Rattle.item_terms.specs.Words.{argument_start}
use Rattle.dir_values.specs.{Arguments.arguments_at, FlagSets.wrong_flag, declared.refusal.ValueRefusal.ValueRefusal}
use Rattle.frame_terms.specs.{Keywords.text_of, Rows.{is_one, row}, declared.document.Taken.Taken}
use Rattle.frame_terms.specs.declared.{keyword.Keyword.Keyword, row.{Count.TheVariants.Optional, Row.Row}}
use Rattle.frame_terms.specs.declared.keyword.Keyword.TheVariants as the
use Rattle.frame_values.specs.{Fields.span, Parts.part, Values.{item_at, text_if, text_in}, declared.found.Span.Span}
use Rattle.frame_values.specs.declared.values.Value.{Value}
use Rattle.frame_values.specs.declared.values.Value.TheVariants as value
use Rattle.frame_laws.proofs.{Both.both_hold, Entries.item_of, Passing.EachPasses, ReadRows.{IsRead, item_of_row}}
use Rattle.frame_laws.proofs.{RowCounts.{said_none, said_once}, RowValues.{text_entry, text_said}, SaidRows.AreSaid}
use Rattle.frame_laws.proofs.StandingParts.{rest_part}
use Rattle.group_laws.proofs.{ListRows.{suits_params, suits_protocols, suits_versions}, Readings.suits_reading}
use Rattle.list_values.specs.{Params.params_text, Protocols.protocols_text, VersionLists.versions_text}
use Rattle.list_values.specs.declared.named.Named.{Named}
use Rattle.value_groups.specs.Listed.{members_of, params_in, protocols_in, versions_in}
use Rattle.value_laws.specs.Ranges.{AreParamsInRange, AreProtocolsInRange, AreVersionsInRange}
use Rattle.value_laws.proofs.{ParamsAgain.params_again, ProtocolsAgain.protocols_again, VersionsAgain.versions_again}
use Rattle.consensus_terms.specs.declared.{consensus.ConsensusLists.ConsensusLists, flavour.Flavour.Flavour}
use Rattle.consensus_frame.specs.{Tables.consensus_tables, declared.value.ConsensusValue.ConsensusValue}
use Rattle.consensus_frame.specs.declared.rows.ConsensusKind.{ConsensusKind}
use Rattle.consensus_frame.specs.declared.rows.ConsensusKind.TheVariants as kind
use Rattle.consensus_doc.specs.Drafts.{params_at, protocols_at, versions_at}
use Rattle.consensus_laws.{specs.{Again.AreListsInRange, Items.list_items}, proofs.ConsensusItems.ConsensusEntry}
use Rattle.consensus_laws.proofs.{ConsensusItems.{ConsensusRow, IsSaidHere, SuitsConsensus, has_lists}, Quiet.is_quiet}

-- ---- the row of a list

-- where nothing stands, behind a keyword and a space
abbrev empty_at : ℕ → Keyword → Span
empty_at place keyword = span (argument_start place (text_of keyword ++ 32 ∷ [])) []

-- an item of a keyword and a space alone
abbrev pub spaced_entry : Keyword → ConsensusEntry
spaced_entry keyword =
    record { keyword = keyword; rest = []; spaced = true; object = None; value = λ p. value.Text (empty_at p keyword) }

module _ {X : Type 0} where
  -- a list; an empty one as a keyword and a space, where its row always stands, else as nothing
  abbrev pub list_entries : Bool → Keyword → (List X → List ℕ) → List X → List ConsensusEntry
  list_entries always keyword text_of (first ∷ rest) = text_entry keyword (text_of (first ∷ rest)) ∷ []
  list_entries true keyword text_of [] = spaced_entry keyword ∷ []
  list_entries false keyword text_of [] = []

  abbrev pub list_row : Bool → Row ConsensusKind → (List X → List ℕ) → List X → ConsensusRow
  list_row always of text_of list = record { row = of; entries = list_entries always of.keyword text_of list }

  pub list_items_are : (always : Bool) (keyword : Keyword) (text_of : List X → List ℕ) (list : List X)
      → list_items always keyword text_of list ≡ map item_of (list_entries always keyword text_of list)
  list_items_are true keyword text_of (first ∷ rest) = refl
  list_items_are false keyword text_of (first ∷ rest) = refl
  list_items_are true keyword text_of [] = refl
  list_items_are false keyword text_of [] = refl

  pub list_quiet : (always : Bool) (keyword : Keyword) (text_of : List X → List ℕ) (list : List X)
      → EachPasses is_quiet (list_entries always keyword text_of list)
  list_quiet true keyword text_of (first ∷ rest) = both_hold (λ place. refl) tt
  list_quiet false keyword text_of (first ∷ rest) = both_hold (λ place. refl) tt
  list_quiet true keyword text_of [] = both_hold (λ place. refl) tt
  list_quiet false keyword text_of [] = tt

  said_list : (flavour : Flavour) (always : Bool) (of : Row ConsensusKind) (text_of : List X → List ℕ)
      (R : List X → Type 0) → is_one of.count ≡ false
      → ((l : List X) → R l → SuitsConsensus flavour of (text_entry of.keyword (text_of l)))
      → SuitsConsensus flavour of (spaced_entry of.keyword) → (list : List X) → R list
      → IsSaidHere flavour (list_row always of text_of list)
  said_list flavour true of text_of R optional suit empty (first ∷ rest) are =
      said_once (consensus_tables flavour) of (text_entry of.keyword (text_of (first ∷ rest))) (suit (first ∷ rest) are)
  said_list flavour false of text_of R optional suit empty (first ∷ rest) are =
      said_once (consensus_tables flavour) of (text_entry of.keyword (text_of (first ∷ rest))) (suit (first ∷ rest) are)
  said_list flavour true of text_of R optional suit empty [] are =
      said_once (consensus_tables flavour) of (spaced_entry of.keyword) empty
  said_list flavour false of text_of R optional suit empty [] are = said_none (consensus_tables flavour) of optional

-- ---- the rows of a preamble

abbrev versions_row : Bool → Keyword → List (List ℕ) → ConsensusRow
versions_row always keyword versions = list_row always (row keyword Optional kind.Versions) versions_text versions

abbrev protocols_row : Bool → Keyword → List (Named (List ℕ)) → ConsensusRow
protocols_row always keyword protocols =
    list_row always (row keyword Optional kind.Protocols) protocols_text protocols

abbrev pub version_rows : Bool → ConsensusLists → List ConsensusRow
version_rows always lists =
    versions_row always the.ClientVersions lists.client_versions
    ∷ versions_row always the.ServerVersions lists.server_versions
    ∷ []

abbrev pub protocol_rows : Bool → ConsensusLists → List ConsensusRow
protocol_rows always lists =
    protocols_row always the.RecommendedClientProtocols lists.recommended_client_protocols
    ∷ protocols_row always the.RecommendedRelayProtocols lists.recommended_relay_protocols
    ∷ protocols_row always the.RequiredClientProtocols lists.required_client_protocols
    ∷ protocols_row always the.RequiredRelayProtocols lists.required_relay_protocols
    ∷ []

abbrev params_row : List (Named ℤ) → ConsensusRow
params_row params = list_row false (row the.Params Optional kind.Params) params_text params

abbrev pub param_rows : ConsensusLists → List ConsensusRow
param_rows lists = params_row lists.params ∷ []

module _ (flavour : Flavour) (always : Bool) (lists : ConsensusLists) (are : AreListsInRange lists) where
  said_versions : (keyword : Keyword) (versions : List (List ℕ)) → AreVersionsInRange versions
      → IsSaidHere flavour (versions_row always keyword versions)
  unfolding arguments_at
  said_versions keyword =
      said_list flavour always (row keyword Optional kind.Versions) versions_text AreVersionsInRange refl
      (suits_versions (has_lists flavour) keyword)
      (suits_reading (has_lists flavour).versions keyword Optional (spaced_entry keyword) (λ p. empty_at p keyword) refl
      (λ p. refl) (λ p. refl) (λ across p. refl))

  said_protocols : (keyword : Keyword) (protocols : List (Named (List ℕ))) → AreProtocolsInRange protocols
      → IsSaidHere flavour (protocols_row always keyword protocols)
  unfolding arguments_at
  said_protocols keyword =
      said_list flavour always (row keyword Optional kind.Protocols) protocols_text AreProtocolsInRange refl
      (suits_protocols (has_lists flavour) keyword)
      (suits_reading (has_lists flavour).protocols keyword Optional (spaced_entry keyword) (λ p. empty_at p keyword) refl
      (λ p. refl) (λ p. refl) (λ across p. refl))

  pub versions_said : AreSaid (consensus_tables flavour) (version_rows always lists)
  versions_said =
      both_hold (said_versions the.ClientVersions lists.client_versions are.client_versions)
      (both_hold (said_versions the.ServerVersions lists.server_versions are.server_versions) tt)

  pub protocols_said : AreSaid (consensus_tables flavour) (protocol_rows always lists)
  protocols_said =
      let said = said_protocols in
      both_hold
      (said the.RecommendedClientProtocols lists.recommended_client_protocols are.recommended_client_protocols)
      (both_hold (said the.RecommendedRelayProtocols lists.recommended_relay_protocols are.recommended_relay_protocols)
      (both_hold (said the.RequiredClientProtocols lists.required_client_protocols are.required_client_protocols)
      (both_hold (said the.RequiredRelayProtocols lists.required_relay_protocols are.required_relay_protocols) tt)))

pub params_said : (flavour : Flavour) (lists : ConsensusLists) → AreListsInRange lists
    → AreSaid (consensus_tables flavour) (param_rows lists)
unfolding arguments_at wrong_flag
params_said flavour lists are =
    both_hold (said_list flavour false (row the.Params Optional kind.Params) params_text AreParamsInRange refl
    (λ params each. suits_params (has_lists flavour) params (record { few = tt; each = each }))
    (suits_reading (has_lists flavour).params the.Params Optional (spaced_entry the.Params) (λ p. empty_at p the.Params)
    refl (λ p. refl) (λ p. refl) (λ across p. refl)) lists.params are.params) tt

-- ---- what is read of them

module _ {limit : ℕ} {bytes : List ℕ} {taken : List (Taken (Value ConsensusValue))} {place : ℕ} where
  list_back : {X : Type 0} (always : Bool) (of : Row ConsensusKind) (text_of : List X → List ℕ)
      (read : List ℕ → List X) (list : List X) → text_of [] ≡ [] → read (text_of list) ≡ list
      → IsRead limit bytes taken place (list_row always of text_of list)
      → read (part bytes (text_in (text_if (item_at taken of.keyword)))) ≡ list
  list_back true of text_of read (first ∷ rest) none again is =
      ap read (text_said of (text_of (first ∷ rest)) is) ∙ again
  list_back false of text_of read (first ∷ rest) none again is =
      ap read (text_said of (text_of (first ∷ rest)) is) ∙ again
  list_back true of text_of read [] none again is =
      ap (λ (o : Option (Taken (Value ConsensusValue))). read (part bytes (text_in (text_if o)))) (item_of_row is)
      ∙ ap read (rest_part is.stand.in_place.0 ∙ sym none) ∙ again
  list_back false of text_of read [] none again is =
      ap (λ (o : Option (Taken (Value ConsensusValue))). read (part bytes (text_in (text_if o)))) (item_of_row is)
      ∙ ap read (sym none) ∙ again

  pub versions_back : (always : Bool) (keyword : Keyword) (versions : List (List ℕ)) → AreVersionsInRange versions
      → IsRead limit bytes taken place (versions_row always keyword versions)
      → versions_at bytes taken keyword ≡ versions
  versions_back always keyword versions are =
      list_back always (row keyword Optional kind.Versions) versions_text versions_in versions refl
      (ap (λ (r : Result (List (List ℕ)) ValueRefusal). members_of r) (versions_again versions are))

  pub protocols_back : (always : Bool) (keyword : Keyword) (protocols : List (Named (List ℕ)))
      → AreProtocolsInRange protocols → IsRead limit bytes taken place (protocols_row always keyword protocols)
      → protocols_at bytes taken keyword ≡ protocols
  protocols_back always keyword protocols are =
      list_back always (row keyword Optional kind.Protocols) protocols_text protocols_in protocols refl
      (ap (λ (r : Result (List (Named (List ℕ))) ValueRefusal). members_of r) (protocols_again protocols are))

  pub params_back : (params : List (Named ℤ)) → AreParamsInRange params
      → IsRead limit bytes taken place (params_row params) → params_at bytes taken the.Params ≡ params
  params_back params are =
      list_back false (row the.Params Optional kind.Params) params_text params_in params refl
      (ap (λ (r : Result (List (Named ℤ)) ValueRefusal). members_of r) (params_again params are))
