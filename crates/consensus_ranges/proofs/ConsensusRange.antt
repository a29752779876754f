-- What is read of a consensus is in range.
use Rattle.std.proofs.Common.{◌≡◌, ℕ, true, List, [], length, Result, Ok, Err, refl, sym, ap, subst}
use Rattle.std.{proofs.lemmas.List.{Elements.{All-filter, All-nil, All-push}, Kept.AllPairs-filter}, specs.Prelude.All}
use Rattle.base64.specs.GeneralPurpose.{IsBytes}
use Rattle.item_terms.specs.Items.{items_of}
use Rattle.dir_values.specs.{Arguments.arguments_at, Digests.identity_below, FlagSets.wrong_flag}
use Rattle.frame_terms.specs.{Documents.{Document, document_of, finish}, declared.fault.ReadRefusal.ReadRefusal}
use Rattle.frame_values.specs.declared.values.Value.{Value}
use Rattle.consensus_terms.specs.{Routers.is_listed, declared.consensus.SignedConsensus.SignedConsensus}
use Rattle.consensus_terms.specs.declared.{flavour.Flavour.Flavour, router.Routerline.Routerline}
use Rattle.consensus_frame.specs.{Tables.consensus_tables, declared.rows.ConsensusSection.ConsensusSection}
use Rattle.consensus_frame.specs.declared.value.ConsensusValue.{ConsensusValue}
use Rattle.consensus_frame.specs.declared.rows.ConsensusSection.TheVariants as section
use Rattle.consensus_doc.specs.{Drafts.{no_draft, router_of, source_of, with_section}, Reading.consensus_as}
use Rattle.consensus_doc.specs.Reading.{consensus_in, consensus_of, flavour_of, max_consensus, with_consensus}
use Rattle.consensus_laws.specs.Again.{AreFactsInRange, Ascending, IsAuthorityInRange, IsRouterInRange, facts_as_read}
use Rattle.consensus_laws.{specs.Again.known_signatures, proofs.ConsensusAgain.same_again}
use Rattle.consensus_laws.proofs.ConsensusSays.{ConsensusTaken}
use Rattle.document_laws.specs.Counts.{RowsStand}
use Rattle.row_laws.proofs.{KindRanges.read_is, ReadBytes.bytes_by_test, Saying.EachStands}
use Rattle.consensus_ranges.specs.Read.{ConsensusesReadAreInRange, ReadConsensusesAreReadAgain, SaysInRange}
use Rattle.consensus_ranges.proofs.{RelayOrder.relays_ascend, SectionRanges.{Draft, IsRouterRead, facts_whole}}
use Rattle.consensus_ranges.proofs.SectionRanges.{preamble_ranged, router_read, source_ranged}
use Rattle.consensus_ranges.proofs.ItemRanges.{IsSignatureRead, signatures_read, signatures_whole}

-- ---- but for the order of relays

-- what is kept is in range: the facts of the preamble alone, the authorities, the relays and the signatures
abbrev KeptIs : Flavour → Draft → Type 0
KeptIs flavour draft =
    AreFactsInRange flavour (record draft.facts { sources = []; routers = [] })
    × All IsAuthorityInRange draft.facts.sources × All (IsRouterRead flavour) draft.facts.routers
    × All IsSignatureRead draft.signatures

module _ (flavour : Flavour) (bytes : List ℕ) (are : IsBytes bytes) where
  nothing_kept : KeptIs flavour no_draft
  unfolding arguments_at wrong_flag
  nothing_kept = (
    preamble_ranged flavour [] (bytes_by_test [] refl) [] tt,
    All-nil IsAuthorityInRange,
    All-nil (IsRouterRead flavour),
    All-nil IsSignatureRead,
  )

  -- with one more section
  section_kept : (draft : Draft) (name : ConsensusSection) (taken : List ConsensusTaken)
      → EachStands (consensus_tables flavour) bytes name taken → RowsStand (consensus_tables flavour) name taken
      → KeptIs flavour draft → KeptIs flavour (with_section flavour bytes draft name taken)
  section_kept draft section.Preamble taken each counts is =
      (preamble_ranged flavour bytes are taken each, All-nil IsAuthorityInRange, All-nil (IsRouterRead flavour), is.3)
  section_kept draft section.Source taken each counts is =
      let more = source_ranged flavour bytes are taken each counts in
      (is.0, All-push IsAuthorityInRange draft.facts.sources (source_of bytes taken) is.1 more, is.2, is.3)
  section_kept draft section.Router taken each counts is =
      let more = router_read flavour bytes are taken each counts in
      (is.0, is.1, All-push (IsRouterRead flavour) draft.facts.routers (router_of flavour bytes taken) is.2 more, is.3)
  section_kept draft section.Footer taken each counts is =
      (is.0, is.1, is.2, signatures_read flavour bytes are taken each)

-- with the relays in their order
facts_ranged : (flavour : Flavour) (draft : Draft) → KeptIs flavour draft → Ascending draft.facts.routers
    → AreFactsInRange flavour draft.facts
facts_ranged flavour draft is ascend = record {
  method = is.0.method;
  valid_after = is.0.valid_after;
  fresh_until = is.0.fresh_until;
  valid_until = is.0.valid_until;
  vote_seconds = is.0.vote_seconds;
  dist_seconds = is.0.dist_seconds;
  known_flags = is.0.known_flags;
  lists = is.0.lists;
  random_previous = is.0.random_previous;
  random_current = is.0.random_current;
  sources = is.1;
  routers = All-filter (is_listed flavour) (IsRouterInRange flavour) draft.facts.routers (λ k d lt. (is.2 k d lt).0);
  ascending = AllPairs-filter (λ (a b : Routerline). identity_below a.identity b.identity ≡ true) (is_listed flavour)
      draft.facts.routers ascend;
}

-- ---- the order of relays

module _ (flavour : Flavour) (bytes : List ℕ) where
  -- the consensus that was read, or another
  abbrev consensus_or : SignedConsensus → Result (SignedConsensus × ℕ) ReadRefusal → SignedConsensus
  consensus_or other (Ok found) = found.0
  consensus_or other (Err refusal) = other

  -- the relays of a consensus that is read ascend
  they_ascend : (c : SignedConsensus) (used : ℕ) → consensus_as flavour bytes ≡ Ok (c, used)
      → Ascending c.facts.routers
  they_ascend c used is =
      by (document_of (consensus_tables flavour) (length bytes) (items_of max_consensus bytes)) refl is
    where
      by : (read : Result (Document ConsensusSection (Value ConsensusValue)) ReadRefusal)
          → document_of (consensus_tables flavour) (length bytes) (items_of max_consensus bytes) ≡ read
          → with_consensus flavour (finish (with_section flavour bytes) no_draft read) ≡ Ok (c, used)
          → Ascending c.facts.routers
      by (Err refusal) got e = absurd (cc e)
      by (Ok document) got e =
          subst (λ (x : SignedConsensus). Ascending x.facts.routers) (ap (consensus_or c) e)
          (relays_ascend flavour bytes (length bytes) (items_of max_consensus bytes) document got)

-- ---- the law

-- what is read says what can be read, as its flavour has it, with signatures of known algorithms
record IsRead (c : SignedConsensus) : Type 0 where
  says : SaysInRange c
  facts : facts_as_read c.flavour c.facts ≡ c.facts
  known : known_signatures c.signatures ≡ c.signatures

as_read_is : (flavour : Flavour) (bytes : List ℕ) (c : SignedConsensus) (used : ℕ) → IsBytes bytes
    → consensus_as flavour bytes ≡ Ok (c, used) → IsRead c
as_read_is flavour bytes c used are is =
    let found =
    read_is (consensus_tables flavour) bytes 0 max_consensus (length bytes) (with_section flavour bytes) no_draft
    (KeptIs flavour) (nothing_kept flavour bytes are) (section_kept flavour bytes are)
    (consensus_in flavour) (with_consensus flavour) (λ draft after. refl) (λ refusal. refl) c used is in
    let draft = found.0 in
    let ascend =
    subst (λ (c : SignedConsensus). Ascending c.facts.routers) found.1 (they_ascend flavour bytes c used is) in
    subst IsRead (sym found.1) (record {
      says = record {
        facts = facts_ranged flavour draft found.2 ascend;
        signatures = λ k d lt. (found.2.3 k d lt).0;
      };
      facts = facts_whole flavour draft.facts found.2.2;
      known = signatures_whole draft.signatures found.2.3;
    })

read_of : (bytes : List ℕ) (c : SignedConsensus) (used : ℕ) → IsBytes bytes → consensus_of bytes ≡ Ok (c, used)
    → IsRead c
read_of bytes c used are is = as_read_is (flavour_of (items_of max_consensus bytes).items) bytes c used are is

pub consensus_in_range : ConsensusesReadAreInRange
consensus_in_range bytes c used are is = (read_of bytes c used are is).says

-- What is read and then written is read again.
pub read_again : ReadConsensusesAreReadAgain
read_again bytes c used are is order may =
    let read = read_of bytes c used are is in
    same_again c (record { facts = read.says.facts; signatures = read.says.signatures; items = may })
    (record { facts = read.facts; order = order; known = read.known })
