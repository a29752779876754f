-- Lists of values among the rows of any kind of document: versions of Tor, versions of protocols, params. Each suits
-- its row, and is read as the list that it was written for.
use Rattle.std.proofs.Common.{◌≡◌, ℕ, false, List, [], ◌∷◌, length, Option, Some, None, Result, refl, ap, ◌∙◌}
use Rattle.std.{proofs.lemmas.List.length-map, specs.Prelude.{ℤ, IfSome, map, option_map}}
use Rattle.dir_values.specs.{Arguments.arguments_at, declared.refusal.ValueRefusal.ValueRefusal}
use Rattle.dirdoc_grammar.specs.Writing.{written}
use Rattle.frame_terms.specs.{Rows.{is_one, row}, Tables.Tables, declared.document.Taken.Taken}
use Rattle.frame_terms.specs.declared.{keyword.Keyword.Keyword, row.{Count.TheVariants.Optional, Limit.Limit, Row.Row}}
use Rattle.frame_terms.specs.declared.keyword.Keyword.TheVariants as the
use Rattle.frame_values.specs.{Items.bare, Lines.rest_unless, Parts.part, Values.{item_at, text_if}}
use Rattle.frame_values.specs.declared.values.Value.{Value}
use Rattle.frame_laws.proofs.{Both.both_hold, Entries.AlwaysSuits, ReadRows.IsRead, RowCounts.{said_none, said_once}}
use Rattle.frame_laws.proofs.{RowValues.{row_if, text_entry, text_if_said}, SaidRows.{AreSaid, IsSaid, RowSays}}
use Rattle.frame_laws.proofs.{Words.length-arguments_at, WrittenItems.{rest_at, start_of}}
use Rattle.list_values.specs.{declared.named.Named.Named, Params.{param_text, params_text}, Protocols.protocols_text}
use Rattle.list_values.specs.VersionLists.{versions_text}
use Rattle.value_groups.specs.{ListLines.{params_of, protocols_of, versions_of}, Listed.{members_of, params_in}}
use Rattle.value_groups.specs.Listed.{protocols_in, versions_in}
use Rattle.value_laws.specs.Ranges.{AreParamsInRange, AreProtocolsInRange, AreVersionsInRange}
use Rattle.value_laws.proofs.{ParamsAgain.{params_again, params_right, words}, ProtocolsAgain.protocols_again}
use Rattle.value_laws.proofs.{ProtocolsAgain.protocols_right, VersionsAgain.{versions_again, versions_right}}
use Rattle.group_laws.proofs.Readings.{AreFew, Reads, few_enough, suits_reading, text_at}

-- ---- the rows

-- the kinds of lists
pub record ListKinds (K : Type 0) : Type 0 where
  pub versions : K
  pub protocols : K
  pub params : K

module _ {K W : Type 0} (kinds : ListKinds K) where
  abbrev pub versions_row : Keyword → Option (List (List ℕ)) → RowSays K (Value W)
  versions_row keyword versions = row_if (row keyword Optional kinds.versions) (option_map versions_text versions)

  abbrev pub protocols_row : Keyword → Option (List (Named (List ℕ))) → RowSays K (Value W)
  protocols_row keyword protocols =
      row_if (row keyword Optional kinds.protocols) (option_map protocols_text protocols)

  abbrev pub params_row : Option (List (Named ℤ)) → RowSays K (Value W)
  params_row params = row_if (row the.Params Optional kinds.params) (option_map params_text params)

  -- the versions of Tor for clients, and those for relays
  abbrev pub version_rows : Option (List (List ℕ)) → Option (List (List ℕ)) → List (RowSays K (Value W))
  version_rows client server = versions_row the.ClientVersions client ∷ versions_row the.ServerVersions server ∷ []

  -- the versions of protocols: those recommended to clients and to relays, and those required of them
  abbrev pub protocol_rows : Option (List (Named (List ℕ))) → Option (List (Named (List ℕ)))
      → Option (List (Named (List ℕ))) → Option (List (Named (List ℕ))) → List (RowSays K (Value W))
  protocol_rows client relay client_required relay_required =
      protocols_row the.RecommendedClientProtocols client
      ∷ protocols_row the.RecommendedRelayProtocols relay
      ∷ protocols_row the.RequiredClientProtocols client_required
      ∷ protocols_row the.RequiredRelayProtocols relay_required
      ∷ []

-- ---- a document that has lists

-- The tables have lists of these kinds, and a limit on params or none.
pub record HasLists {S K W X : Type 0} (tables : Tables S K (Value W) X) (kinds : ListKinds K) (most : Option Limit)
    : Type 0 where
  pub versions : Reads tables kinds.versions None (λ across. versions_of) text_at
  pub protocols : Reads tables kinds.protocols None (λ across. protocols_of) text_at
  pub params : Reads tables kinds.params most (λ across. params_of) text_at

-- params that can be read, and no more of them than the limit
pub record AreParamsWithin (most : Option Limit) (params : List (Named ℤ)) : Type 0 where
  pub few : AreFew most (length params)
  pub each : AreParamsInRange params

module _ {S K W X A : Type 0} where
  said_if : (tables : Tables S K (Value W) X) (of : Row K) (text_of : A → List ℕ) (R : A → Type 0) (list : Option A)
      → is_one of.count ≡ false → IfSome list R
      → ((l : A) → R l → AlwaysSuits tables of (text_entry of.keyword (text_of l)))
      → IsSaid tables (row_if of (option_map text_of list))
  said_if tables of text_of R None optional are suit = said_none tables of optional
  said_if tables of text_of R (Some list) optional are suit =
      said_once tables of (text_entry of.keyword (text_of list)) (suit list are)

-- how many arguments params are
length_of_params : (place : ℕ) (params : List (Named ℤ)) → AreParamsInRange params
    → length (arguments_at place (params_text params)) ≡ length params
length_of_params place params are =
    length-arguments_at place (map param_text params) (words params are.each) ∙ length-map params param_text

module _ {S K W X : Type 0} {tables : Tables S K (Value W) X} {kinds : ListKinds K} {most : Option Limit}
    (has : HasLists tables kinds most) where
  pub suits_versions : (keyword : Keyword) (versions : List (List ℕ)) → AreVersionsInRange versions
      → AlwaysSuits tables (row keyword Optional kinds.versions) (text_entry keyword (versions_text versions))
  suits_versions keyword versions are =
      let text = versions_text versions in
      suits_reading has.versions keyword Optional (text_entry keyword text) (λ p. rest_at p keyword text) refl
      (λ p. refl) (λ p. refl)
      (λ across p. ap (λ (o : Option ℕ). rest_unless o (written p (bare keyword text)))
      (versions_right (start_of p keyword text) versions are))

  pub suits_protocols : (keyword : Keyword) (protocols : List (Named (List ℕ))) → AreProtocolsInRange protocols
      → AlwaysSuits tables (row keyword Optional kinds.protocols) (text_entry keyword (protocols_text protocols))
  suits_protocols keyword protocols are =
      let text = protocols_text protocols in
      suits_reading has.protocols keyword Optional (text_entry keyword text) (λ p. rest_at p keyword text) refl
      (λ p. refl) (λ p. refl)
      (λ across p. ap (λ (o : Option ℕ). rest_unless o (written p (bare keyword text)))
      (protocols_right (start_of p keyword text) protocols are))

  pub suits_params : (params : List (Named ℤ)) → AreParamsWithin most params
      → AlwaysSuits tables (row the.Params Optional kinds.params) (text_entry the.Params (params_text params))
  suits_params params are =
      let text = params_text params in
      suits_reading has.params the.Params Optional (text_entry the.Params text) (λ p. rest_at p the.Params text) refl
      (λ p. refl)
      (λ p. few_enough most (written p (bare the.Params text)) (length params)
      (length_of_params (start_of p the.Params text) params are.each) are.few)
      (λ across p. ap (λ (o : Option ℕ). rest_unless o (written p (bare the.Params text)))
      (params_right (start_of p the.Params text) params are.each))

  said_versions : (keyword : Keyword) (versions : Option (List (List ℕ))) → IfSome versions AreVersionsInRange
      → IsSaid tables (versions_row kinds keyword versions)
  said_versions keyword versions are =
      said_if tables (row keyword Optional kinds.versions) versions_text AreVersionsInRange versions refl are
      (suits_versions keyword)

  said_protocols : (keyword : Keyword) (protocols : Option (List (Named (List ℕ))))
      → IfSome protocols AreProtocolsInRange → IsSaid tables (protocols_row kinds keyword protocols)
  said_protocols keyword protocols are =
      said_if tables (row keyword Optional kinds.protocols) protocols_text AreProtocolsInRange protocols refl are
      (suits_protocols keyword)

  -- params
  pub said_params : (params : Option (List (Named ℤ))) → IfSome params (AreParamsWithin most)
      → IsSaid tables (params_row kinds params)
  said_params params are =
      said_if tables (row the.Params Optional kinds.params) params_text (AreParamsWithin most) params refl are
      suits_params

  -- the versions of Tor
  pub versions_said : (client server : Option (List (List ℕ))) → IfSome client AreVersionsInRange
      → IfSome server AreVersionsInRange → AreSaid tables (version_rows kinds client server)
  versions_said client server of_client of_server =
      both_hold (said_versions the.ClientVersions client of_client)
      (both_hold (said_versions the.ServerVersions server of_server) tt)

  -- the versions of protocols
  pub protocols_said : (a b c d : Option (List (Named (List ℕ)))) → IfSome a AreProtocolsInRange
      → IfSome b AreProtocolsInRange → IfSome c AreProtocolsInRange → IfSome d AreProtocolsInRange
      → AreSaid tables (protocol_rows kinds a b c d)
  protocols_said a b c d of_a of_b of_c of_d =
      both_hold (said_protocols the.RecommendedClientProtocols a of_a)
      (both_hold (said_protocols the.RecommendedRelayProtocols b of_b)
      (both_hold (said_protocols the.RequiredClientProtocols c of_c)
      (both_hold (said_protocols the.RequiredRelayProtocols d of_d) tt)))

-- ---- what is read of them

back_if : {A : Type 0} (text_of : A → List ℕ) (read : List ℕ → A) (R : A → Type 0) (list : Option A) → IfSome list R
    → ((l : A) → R l → read (text_of l) ≡ l) → option_map read (option_map text_of list) ≡ list
back_if text_of read R None are back = refl
back_if {A} text_of read R (Some list) are back = ap (λ (l : A). Some l) (back list are)

module _ {K W : Type 0} {limit : ℕ} {bytes : List ℕ} {taken : List (Taken (Value W))} {place : ℕ}
    (kinds : ListKinds K) where
  pub versions_back : (keyword : Keyword) (versions : Option (List (List ℕ))) → IfSome versions AreVersionsInRange
      → IsRead limit bytes taken place (versions_row kinds keyword versions)
      → option_map versions_in (option_map (part bytes) (text_if (item_at taken keyword))) ≡ versions
  versions_back keyword versions are read =
      ap (option_map versions_in)
      (text_if_said (row keyword Optional kinds.versions) (option_map versions_text versions) read)
      ∙ back_if versions_text versions_in AreVersionsInRange versions are
      (λ l is. ap (λ (r : Result (List (List ℕ)) ValueRefusal). members_of r) (versions_again l is))

  pub protocols_back : (keyword : Keyword) (protocols : Option (List (Named (List ℕ))))
      → IfSome protocols AreProtocolsInRange
      → IsRead limit bytes taken place (protocols_row kinds keyword protocols)
      → option_map protocols_in (option_map (part bytes) (text_if (item_at taken keyword))) ≡ protocols
  protocols_back keyword protocols are read =
      ap (option_map protocols_in)
      (text_if_said (row keyword Optional kinds.protocols) (option_map protocols_text protocols) read)
      ∙ back_if protocols_text protocols_in AreProtocolsInRange protocols are
      (λ l is. ap (λ (r : Result (List (Named (List ℕ))) ValueRefusal). members_of r) (protocols_again l is))

  pub params_back : (params : Option (List (Named ℤ))) → IfSome params AreParamsInRange
      → IsRead limit bytes taken place (params_row kinds params)
      → option_map params_in (option_map (part bytes) (text_if (item_at taken the.Params))) ≡ params
  params_back params are read =
      ap (option_map params_in)
      (text_if_said (row the.Params Optional kinds.params) (option_map params_text params) read)
      ∙ back_if params_text params_in AreParamsInRange params are
      (λ l is. ap (λ (r : Result (List (Named ℤ)) ValueRefusal). members_of r) (params_again l is))
