-- What a section of a consensus says is in range, and a relay that is read is as its flavour has it.
use Rattle.std.proofs.Common.{◌≡◌, ℕ, true, List, [], Option, Some, None, refl, sym, ap, ◌∙◌, arith}
use Rattle.std.{proofs.lemmas.List.{Elements.{All-nil, All-weaker}, Folds.map_fixed}, specs.Prelude.{All, IfSome}}
use Rattle.std.specs.{Prelude.{is_some, map}, Option.option_map}
use Rattle.base64.specs.GeneralPurpose.{IsBytes}
use Rattle.item_terms.specs.Words.{words_of}
use Rattle.dir_values.specs.{Digests.identity_below, FlagSets.as_set, declared.digest.Digest1.Digest1}
use Rattle.dir_values.{specs.declared.digest.Digest2.Digest2, proofs.{Flags.Ascend-as_set, Orders.AllPairs-nil}}
use Rattle.frame_terms.specs.{Keywords.same, Order.inner, Sections.row_of, declared.keyword.Keyword.Keyword}
use Rattle.frame_terms.specs.declared.row.Row.{Row}
use Rattle.frame_terms.specs.declared.keyword.Keyword.TheVariants as the
use Rattle.frame_values.specs.{Parts.part, Ranges.AreTwenty, Values.{item_at, no_digest, text_if, text_in}}
use Rattle.frame_values.specs.declared.{found.Span.Span, values.Value.Value}
use Rattle.frame_values.specs.declared.values.Value.TheVariants as value
use Rattle.group_laws.specs.{LineAgain.{AreFlagsInRange, IsRandomInRange}, Ranges.IsAddressInRange}
use Rattle.relay_entries.specs.{Lines.micro_of, declared.said.MicroLine.MicroLine}
use Rattle.relay_entries.specs.declared.said.EntryKind.TheVariants as entry
use Rattle.relay_entries.specs.declared.said.EntryValue.TheVariants as said
use Rattle.consensus_terms.specs.{Routers.is_listed, declared.consensus.ConsensusFacts.ConsensusFacts}
use Rattle.consensus_terms.specs.declared.flavour.Flavour.{Flavour, TheVariants.{Ns, Microdesc}}
use Rattle.consensus_terms.specs.declared.router.{Bandwidth.Bandwidth, Routerline.Routerline}
use Rattle.consensus_frame.specs.{Tables.{consensus_tables, rows}, declared.rows.ConsensusKind.ConsensusKind}
use Rattle.consensus_frame.specs.declared.{rows.ConsensusSection.ConsensusSection, value.ConsensusValue.ConsensusValue}
use Rattle.consensus_frame.specs.declared.rows.ConsensusKind.TheVariants as kind
use Rattle.consensus_frame.specs.declared.rows.ConsensusSection.TheVariants as section
use Rattle.consensus_frame.specs.declared.value.ConsensusValue.TheVariants as own
use Rattle.consensus_doc.specs.Drafts.{lists_of, no_draft, preamble_facts, router_of, source_of, text_or_none}
use Rattle.consensus_doc.specs.Saying.{bandwidth_in, delays_in, micro_digest_in, random_in, relay_in, source_in}
use Rattle.consensus_doc.specs.Saying.{vote_digest_in}
use Rattle.consensus_laws.{proofs.ConsensusSays.ConsensusTaken, specs.Again.{AreFactsInRange, AreListsInRange}}
use Rattle.consensus_laws.specs.Again.{Ascending, IsAuthorityInRange, IsMicroInRange, IsRouterInRange, facts_as_read}
use Rattle.consensus_laws.specs.Again.{router_as_read}
use Rattle.document_laws.specs.Counts.{RowsStand}
use Rattle.row_laws.proofs.{KindRanges.{KindIs, field_is, kind_read, once_there}, ReadBytes.twenty_zeros}
use Rattle.row_laws.proofs.{ReadSteps.any_reads, Saying.EachStands}
use Rattle.range_laws.proofs.{LineReads.{AreDelays, IsSourceIn}, ReadLists.{params_ranged, protocols_ranged}}
use Rattle.range_laws.proofs.{ReadLists.versions_ranged, ReadNames.IsName, RelayReads.AreNamesAt}
use Rattle.vote_laws.proofs.FlagSets.{All-as_set}
use Rattle.consensus_ranges.proofs.ItemRanges.{address_is, bandwidth_is, delays_are, flags_are, known_flags_are}
use Rattle.consensus_ranges.proofs.ItemRanges.{lifted_value, micro_digest_is, random_is, relay_is, source_is}
use Rattle.consensus_ranges.proofs.{ItemRanges.{vote_digest_is, none_left_out}, LineRanges.{IsDigest, IsRelayIn}}
use Rattle.consensus_ranges.proofs.LineRanges.{IsSmall, digest_ranged}

-- no section stands inside another
pub nothing_inside : (flavour : Flavour) (around name : ConsensusSection) (keyword : Keyword)
    → inner (consensus_tables flavour) around keyword ≡ Some name → ⊥
nothing_inside flavour section.Preamble name keyword begins = absurd (cc begins)
nothing_inside flavour _ name keyword begins = absurd (cc begins)

-- what is kept, whose type `consensus_doc` does not export
abbrev type_of : {A : Type 0} → A → Type 0
type_of {A} value = A

abbrev pub Draft : Type 0
Draft = type_of no_draft

-- of no relays each comes behind the one before
pub none_ascend : Ascending []
none_ascend = AllPairs-nil (λ (a b : Routerline). identity_below a.identity b.identity ≡ true)

-- the set of the words of a text that are names
pub flags_ranged : (text : List ℕ) → All IsName (words_of text) → AreFlagsInRange (as_set (words_of text))
flags_ranged text names =
    record { ascend = Ascend-as_set (words_of text); each = All-as_set IsName (words_of text) names }

-- texts list what is in range, whatever they are
pub lists_ranged : (bytes : List ℕ) (taken : List ConsensusTaken) → AreListsInRange (lists_of bytes taken)
lists_ranged bytes taken =
    let text = text_or_none bytes taken in
    record {
      client_versions = versions_ranged (text the.ClientVersions);
      server_versions = versions_ranged (text the.ServerVersions);
      recommended_client_protocols = protocols_ranged (text the.RecommendedClientProtocols);
      recommended_relay_protocols = protocols_ranged (text the.RecommendedRelayProtocols);
      required_client_protocols = protocols_ranged (text the.RequiredClientProtocols);
      required_relay_protocols = protocols_ranged (text the.RequiredRelayProtocols);
      params = (params_ranged (text the.Params)).0;
    }

-- ---- the item of a keyword

module _ (flavour : Flavour) (bytes : List ℕ) (are : IsBytes bytes) (name : ConsensusSection)
    (taken : List ConsensusTaken) (each : EachStands (consensus_tables flavour) bytes name taken) where
  -- what is kept of it is such, as far as that may be where there is none
  item_is : {A B : Type 0} {of : A → Value ConsensusValue} {Is : List ℕ → A → Type 0} (keyword : Keyword)
      (own : Row ConsensusKind) → row_of (rows flavour name) keyword ≡ Some own
      → KindIs (consensus_tables flavour) own.kind of Is → (get : Option ConsensusTaken → B) (P : B → Type 0)
      → (item_at taken keyword ≡ None → P (get None))
      → ((one : ConsensusTaken) (a : A) → Is bytes a → P (get (Some (record one { value = of a }))))
      → P (get (item_at taken keyword))
  item_is keyword own there kind get P none some =
      field_is (consensus_tables flavour) bytes are name taken each keyword own there
      (λ around other named begins. nothing_inside flavour around name other begins) kind get P none some

  -- its words are names
  names_are : (keyword : Keyword) (own : Row ConsensusKind) → row_of (rows flavour name) keyword ≡ Some own
      → KindIs (consensus_tables flavour) own.kind (λ (span : Span). value.Text span) AreNamesAt
      → AreFlagsInRange (as_set (words_of (text_or_none bytes taken keyword)))
  names_are keyword own there kind =
      flags_ranged (text_or_none bytes taken keyword)
      (item_is keyword own there kind (λ o. part bytes (text_in (text_if o))) (λ text. All IsName (words_of text))
      (λ none. All-nil IsName) (λ one span is. is))

-- ---- sections

module _ (flavour : Flavour) (bytes : List ℕ) (are : IsBytes bytes) (taken : List ConsensusTaken) where
  abbrev Each : ConsensusSection → Type 0
  Each name = EachStands (consensus_tables flavour) bytes name taken

  abbrev Counts : ConsensusSection → Type 0
  Counts name = RowsStand (consensus_tables flavour) name taken

  -- a preamble
  pub preamble_ranged : Each section.Preamble → AreFactsInRange flavour (preamble_facts bytes taken)
  unfolding same
  preamble_ranged each =
      let delays =
      item_is flavour bytes are section.Preamble taken each the.VotingDelay _ refl (delays_are flavour) delays_in
      AreDelays (λ none. (omega arith, omega arith)) (λ one d is. is) in
      record {
        method = omega arith;
        valid_after = omega arith;
        fresh_until = omega arith;
        valid_until = omega arith;
        vote_seconds = delays.0;
        dist_seconds = delays.1;
        known_flags = names_are flavour bytes are section.Preamble taken each the.KnownFlags _ refl
            (known_flags_are flavour);
        lists = lists_ranged bytes taken;
        random_previous = item_is flavour bytes are section.Preamble taken each the.SharedRandPreviousValue _ refl
            (random_is flavour) random_in (λ o. IfSome o IsRandomInRange) (λ none. tt) (λ one random is. is);
        random_current = item_is flavour bytes are section.Preamble taken each the.SharedRandCurrentValue _ refl
            (random_is flavour) random_in (λ o. IfSome o IsRandomInRange) (λ none. tt) (λ one random is. is);
        sources = All-nil IsAuthorityInRange;
        routers = All-nil (IsRouterInRange flavour);
        ascending = none_ascend;
      }

  -- an authority
  pub source_ranged : Each section.Source → Counts section.Source → IsAuthorityInRange (source_of bytes taken)
  unfolding same
  source_ranged each counts =
      let line =
      item_is flavour bytes are section.Source taken each the.DirSource _ refl (source_is flavour) source_in
      (IsSourceIn bytes)
      (λ none. absurd
      (once_there (consensus_tables flavour) section.Source taken the.DirSource kind.Source refl counts none))
      (λ one source is. is) in
      record {
        line = record {
          nickname_is = line.nickname;
          identity_is = line.identity;
          address_is = line.address;
          ip_is = line.ip;
          dir_port_is = line.dir_port;
          or_port_is = line.or_port;
        };
        vote_digest = item_is flavour bytes are section.Source taken each the.VoteDigest _ refl (vote_digest_is flavour)
            vote_digest_in (λ (digest : Digest1). AreTwenty digest.0) (λ none. twenty_zeros) (λ one digest is. is);
      }

-- the digest of a relay's microdescriptor, in the flavour that has it
micro_ranged : (flavour : Flavour) (bytes : List ℕ) → IsBytes bytes → (taken : List ConsensusTaken)
    → EachStands (consensus_tables flavour) bytes section.Router taken
    → IsMicroInRange flavour (micro_digest_in (item_at taken the.M))
unfolding same
micro_ranged Ns bytes are taken each = tt
micro_ranged Microdesc bytes are taken each =
    item_is Microdesc bytes are section.Router taken each the.M _ refl (micro_digest_is Microdesc) micro_digest_in
    (λ (o : Option Digest2). IfSome o IsDigest) (λ none. tt) (λ one digest is. is)

-- the flavour lists the relay, and has all of it
pub record IsOfFlavour (flavour : Flavour) (router : Routerline) : Type 0 where
  pub listed : is_listed flavour router ≡ true
  pub whole : router_as_read flavour router ≡ router

-- the `m` line of an ns consensus is read as in a vote, and says no digest of a consensus
micro_line_is : KindIs (consensus_tables Ns) (kind.Entry entry.Micro)
    (λ (line : MicroLine). value.Own (own.Entry (said.Micro line))) (λ bytes line. Unit {0})
micro_line_is =
    kind_read micro_of
    (λ across item. lifted_value (micro_of item) (λ (line : MicroLine). value.Own (said.Micro line)))
    (λ bytes are item sound. any_reads (micro_of item))

of_flavour : (flavour : Flavour) (bytes : List ℕ) → IsBytes bytes → (taken : List ConsensusTaken)
    → EachStands (consensus_tables flavour) bytes section.Router taken
    → RowsStand (consensus_tables flavour) section.Router taken → IsOfFlavour flavour (router_of flavour bytes taken)
unfolding same
of_flavour Ns bytes are taken each counts =
    let none =
    item_is Ns bytes are section.Router taken each the.M _ refl micro_line_is micro_digest_in
    (λ (o : Option Digest2). o ≡ None) (λ none. refl) (λ one line is. refl) in
    record {
      listed = refl;
      whole = ap (λ (m : Option Digest2). record (router_of Ns bytes taken) { m = m }) (sym none);
    }
of_flavour Microdesc bytes are taken each counts =
    let none =
    item_is Microdesc bytes are section.Router taken each the.R _ refl (relay_is Microdesc) (λ o. (relay_in o).digest)
    (λ (d : Digest1). d ≡ record { 0 = no_digest }) (λ none. refl) (λ one line is. is.digest) in
    record {
      listed = item_is Microdesc bytes are section.Router taken each the.M _ refl (micro_digest_is Microdesc)
          micro_digest_in (λ (o : Option Digest2). is_some o ≡ true)
          (λ none. absurd
          (once_there (consensus_tables Microdesc) section.Router taken the.M kind.MicroDigest refl counts none))
          (λ one digest is. refl);
      whole = ap (λ (d : Digest1). record (router_of Microdesc bytes taken) { digest = d; p = None }) (sym none);
    }

-- a relay that is read is in range, and as its flavour has it
abbrev pub IsRouterRead : Flavour → Routerline → Type 0
IsRouterRead flavour router = IsRouterInRange flavour router × IsOfFlavour flavour router

pub router_read : (flavour : Flavour) (bytes : List ℕ) → IsBytes bytes → (taken : List ConsensusTaken)
    → EachStands (consensus_tables flavour) bytes section.Router taken
    → RowsStand (consensus_tables flavour) section.Router taken → IsRouterRead flavour (router_of flavour bytes taken)
unfolding same
router_read flavour bytes are taken each counts =
    let line =
    item_is flavour bytes are section.Router taken each the.R _ refl (relay_is flavour) relay_in
    (IsRelayIn flavour bytes)
    (λ none. absurd (once_there (consensus_tables flavour) section.Router taken the.R kind.Relay refl counts none))
    (λ one relay is. is) in (
      record {
        nickname = line.nickname;
        identity = line.identity;
        digest = digest_ranged flavour (relay_in (item_at taken the.R)).digest line.digest;
        published = omega arith;
        ip = line.ip;
        or_port = line.or_port;
        dir_port = line.dir_port;
        a = item_is flavour bytes are section.Router taken each the.A _ refl (address_is flavour)
            (λ o. option_map (part bytes) (text_if o)) (λ o. IfSome o IsAddressInRange) (λ none. tt)
            (λ one span is. is);
        m = micro_ranged flavour bytes are taken each;
        flags = names_are flavour bytes are section.Router taken each the.S _ refl (flags_are flavour);
        w = item_is flavour bytes are section.Router taken each the.W _ refl (bandwidth_is flavour) bandwidth_in
            (λ (o : Option Bandwidth). IfSome o IsSmall) (λ none. tt) (λ one w is. is);
      },
      of_flavour flavour bytes are taken each counts,
    )

-- facts whose relays are such have all of them
pub facts_whole : (flavour : Flavour) (facts : ConsensusFacts) → All (IsRouterRead flavour) facts.routers
    → facts_as_read flavour facts ≡ facts
facts_whole flavour facts each =
    ap (λ (l : List Routerline). record facts { routers = l })
    (ap (λ (l : List Routerline). map (router_as_read flavour) l)
    (none_left_out (is_listed flavour) facts.routers
    (All-weaker (IsRouterRead flavour) (λ r. is_listed flavour r ≡ true) (λ r is. is.1.listed) facts.routers each))
    ∙ map_fixed (router_as_read flavour) facts.routers
    (All-weaker (IsRouterRead flavour) (λ r. router_as_read flavour r ≡ r) (λ r is. is.1.whole) facts.routers each))
