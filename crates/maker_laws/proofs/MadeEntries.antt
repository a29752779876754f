-- The entries that are made of descriptors that are in range are in range.
use Rattle.std.proofs.Common.{◌≡◌, ℕ, ◌≤◌, true, false, List, [], ◌∷◌, length, map, filter, get_or, Option, Some, None}
use Rattle.std.proofs.{Common.{sym, ◌∙◌, arith}, lemmas.Bool.{and_from, and_parts, false≢true, not-true}}
use Rattle.std.proofs.lemmas.List.Elements.{All-filter, All-head, All-map, All-tail, filter_passes}
use Rattle.std.{proofs.lemmas.{List.Kept.AllPairs-filter, Slice.Eq.bytes_eq-Decides}, specs.Prelude.{All, AllPairs}}
use Rattle.std.specs.{Prelude.not, List.list_any}
use Rattle.dir_values.{specs.Digests.identity_below, proofs.Orders.{AllPairs-cons, AllPairs-head, AllPairs-nil}}
use Rattle.dir_values.proofs.Orders.{AllPairs-tail}
use Rattle.descriptor_frame.specs.declared.certificate.EdCert.{EdCert}
use Rattle.relay_entries.specs.declared.said.EdOpinion.TheVariants as opinion
use Rattle.descriptor_doc.specs.declared.descriptor.Descriptor.{Descriptor}
use Rattle.flag_rules.specs.{Rulings.is_reject, declared.{flags.Flags.Flags, relay.RuledRelay.RuledRelay}}
use Rattle.vote_pool.specs.Pools.{DescriptorsAscend, most_relays}
use Rattle.count_terms.specs.declared.newest.Newest.{Newest}
use Rattle.vote_terms.specs.declared.entry.EntryFacts.{EntryFacts}
use Rattle.vote_laws.{specs.Again.{AreEntriesInRange, DifferInKey, IsEntryInRange}, proofs.Members.AllPairs-map}
use Rattle.vote_laws.proofs.Members.{few_pass, none_any}
use Rattle.vote_maker.specs.{Entries.opinion_of, Listings.{JudgedRelay, entry_of_judged, goes_before, has_entry}}
use Rattle.vote_maker.specs.Listings.{judged_relays, made_entries, listed_relays, same_key}
use Rattle.vote_maker.proofs.Judged.{judged_ascend, judged_few}
use Rattle.range_laws.proofs.{EntryTexts.HasRests, KeptEntries.count_map}
use Rattle.maker_laws.proofs.EntryRanges.{IsBelow, IsJudgedInRange, entry_ranged, entry_rests}

-- ---- no two of one key

key_same : (x y : Option EdCert) (key : List ℕ) → opinion_of x ≡ opinion.Key key → opinion_of y ≡ opinion.Key key
    → same_key x y ≡ true
key_same None y key first second = absurd (cc (first))
key_same (Some c) None key first second = absurd (cc (second))
key_same (Some c) (Some d) key first second =
    let one : c.signer ≡ key = cc in
    let other : d.signer ≡ key = cc in
    (bytes_eq-Decides c.signer d.signer).1 (one ∙ sym other)

module _ (newest : Newest) (relays : List JudgedRelay) where
  abbrev Has : JudgedRelay → Type 0
  Has one = has_entry relays one ≡ true

  -- it goes before none that has an entry
  abbrev Yields : JudgedRelay → Type 0
  Yields other = (one : JudgedRelay) → has_entry relays one ≡ true → goes_before other one ≡ false

  all_yield : All Yields relays
  all_yield k d lt one has =
      let none : list_any (λ (other : JudgedRelay). goes_before other one) relays ≡ false =
      not-true _ (and_parts (not (is_reject one.ruled.ruling)) _ has).1 in
      none_any (λ (other : JudgedRelay). goes_before other one) relays none k d lt

  two_apart : (a b : JudgedRelay) → IsBelow a b → Yields a → Has a → Has b
      → DifferInKey (entry_of_judged newest a) (entry_of_judged newest b)
  two_apart a b below yields has_a has_b key first second =
      let kept = (and_parts (not (is_reject a.ruled.ruling)) _ has_a).0 in
      let same = key_same a.descriptor.identity_ed25519 b.descriptor.identity_ed25519 key first second in
      let before : goes_before a b ≡ true = and_from _ _ below (and_from _ _ kept same) in
      false≢true (sym (yields b has_b) ∙ before)

  abbrev IsApart : JudgedRelay → JudgedRelay → Type 0
  IsApart a b = DifferInKey (entry_of_judged newest a) (entry_of_judged newest b)

  all_apart : (list : List JudgedRelay) → AllPairs IsBelow list → All Yields list → All Has list
      → AllPairs IsApart list
  all_apart [] below yield_ have = AllPairs-nil IsApart
  all_apart (a ∷ list) below yield_ have =
      AllPairs-cons IsApart a list
      (λ k d lt. two_apart a (get_or list k d) (AllPairs-head IsBelow a list below k d lt)
      (All-head Yields a list yield_) (All-head Has a list have) (All-tail Has a list have k d lt))
      (all_apart list (AllPairs-tail IsBelow a list below) (All-tail Yields a list yield_) (All-tail Has a list have))

  listed_apart : AllPairs IsBelow relays → AllPairs IsApart (listed_relays relays)
  listed_apart below =
      all_apart (listed_relays relays) (AllPairs-filter IsBelow (has_entry relays) relays below)
      (All-filter (has_entry relays) Yields relays all_yield) (filter_passes (has_entry relays) relays)

-- ---- all of them

-- the entries of relays of a pool
pub entries_ranged : (newest : Newest) (ds : List Descriptor) (ruled : List RuledRelay) (flags : List Flags) → DescriptorsAscend ds
    → length ds ≤ most_relays → All IsJudgedInRange (judged_relays ds ruled flags)
    → AreEntriesInRange (made_entries newest (judged_relays ds ruled flags))
entries_ranged newest ds ruled flags up few all =
    let relays = judged_relays ds ruled flags in
    let listed = listed_relays relays in
    let below = judged_ascend ds ruled flags up in
    record {
      count = omega (
        arith,
        few,
        judged_few ds ruled flags,
        few_pass (has_entry relays) relays,
        count_map (entry_of_judged newest) listed,
      );
      each = All-map IsEntryInRange (entry_of_judged newest) listed
          (λ k d lt. entry_ranged newest (get_or listed k d)
          (All-filter (has_entry relays) IsJudgedInRange relays all k d lt));
      ascending = AllPairs-map (λ (a b : EntryFacts). identity_below a.identity b.identity
          ≡ true) (entry_of_judged newest) listed
          (AllPairs-filter IsBelow (has_entry relays) relays below);
      keys = AllPairs-map DifferInKey (entry_of_judged newest) listed (listed_apart newest relays below);
    }

-- the rests of their lines
pub entries_rests : (newest : Newest) (relays : List JudgedRelay) → All IsJudgedInRange relays → All HasRests (made_entries newest relays)
entries_rests newest relays all =
    let listed = listed_relays relays in
    All-map HasRests (entry_of_judged newest) listed
    (λ k d lt. entry_rests newest (get_or listed k d) (All-filter (has_entry relays) IsJudgedInRange relays all k d lt))
