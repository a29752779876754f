-- The relays of a consensus ascend by identity, each once: the first item of each comes behind what is remembered,
-- and what is remembered never goes back, whatever an item says.
use Rattle.std.proofs.Common.{◌≡◌, ℕ, Bool, true, false, List, [], ◌∷◌, ◌++◌, Option, Some, None, Result, Ok, Err, refl}
use Rattle.std.proofs.{Common.{sym, ap, subst, ◌∙◌}, lemmas.{Bool.false≢true, List.Elements.{All-nil, All-push}}}
use Rattle.std.{proofs.lemmas.List.{Elements.All-weaker, Quantifiers.all_pairs_push}, specs.Prelude.All}
use Rattle.std.specs.{Prelude.if◌then◌else◌, List.fold}
use Rattle.std.specs.FinSet as set
use Rattle.item_terms.specs.{declared.fault.DocFault.DocFault, Items.{Contents, Item}}
use Rattle.dir_values.specs.{Digests.identity_below, declared.digest.Fingerprint.Fingerprint}
use Rattle.dir_values.proofs.Orders.{below-trans}
use Rattle.frame_terms.specs.{Documents.{Document, document_of}, Keywords.same, Order.{is_keyword, opener}, Rows.row}
use Rattle.frame_terms.specs.declared.{document.Open.Open, fault.FrameFault.FrameFault}
use Rattle.frame_terms.specs.declared.{fault.FrameReason.TheVariants.{DuplicateEd, Unsorted}, keyword.Keyword.Keyword}
use Rattle.frame_terms.specs.declared.row.Count.TheVariants.{One}
use Rattle.frame_terms.specs.declared.keyword.Keyword.TheVariants as the
use Rattle.frame_values.specs.{Values.{item_at, own_of_value}, declared.values.Value.Value}
use Rattle.frame_values.specs.declared.values.Value.TheVariants as value
use Rattle.frame_laws.proofs.KnownWords.{same-sym}
use Rattle.relay_entries.specs.{Listing.{fault_at, is_next, with_key, with_relay}, declared.said.RelayLine.RelayLine}
use Rattle.relay_entries.specs.declared.said.EdOpinion.TheVariants as opinion
use Rattle.relay_entries.specs.declared.said.EntryValue.TheVariants as said
use Rattle.consensus_terms.specs.declared.{flavour.Flavour.Flavour, router.Routerline.Routerline}
use Rattle.consensus_frame.specs.{Lines.relay_of, Tables.{consensus_tables, note_value, value_at, with_listed}}
use Rattle.consensus_frame.specs.declared.{across.Across.Across, rows.ConsensusSection.ConsensusSection}
use Rattle.consensus_frame.specs.declared.value.ConsensusValue.{ConsensusValue}
use Rattle.consensus_frame.specs.declared.rows.ConsensusKind.TheVariants as kind
use Rattle.consensus_frame.specs.declared.rows.ConsensusSection.TheVariants as section
use Rattle.consensus_frame.specs.declared.value.ConsensusValue.TheVariants as own
use Rattle.consensus_doc.specs.{Drafts.{no_draft, router_of, with_section}, Saying.{relay_in, relay_of_value}}
use Rattle.consensus_laws.{specs.Again.Ascending, proofs.{ConsensusKept.ConsensusGroup, ConsensusSays.ConsensusTaken}}
use Rattle.document_laws.{proofs.Rules.{Rules, holds}, specs.Items.IsItemOf}
use Rattle.row_laws.proofs.{ReadSteps.placed, SaidByKinds.said_of_any, Saying.by_own_row}
use Rattle.consensus_ranges.proofs.SectionRanges.{Draft, none_ascend, nothing_inside}

-- ---- what is remembered

-- who the last relay is that was remembered
abbrev last_of : Across → Option Fingerprint
last_of across = across.listed.last

-- who may follow the second may follow the first
abbrev Reaches : Option Fingerprint → Option Fingerprint → Type 0
Reaches low last = (f : Fingerprint) → is_next last f ≡ true → is_next low f ≡ true

reaches_next : (low : Option Fingerprint) (g : Fingerprint) → is_next low g ≡ true → Reaches low (Some g)
reaches_next None g is f next = refl
reaches_next (Some low) g is f next = below-trans low.0 g.0 f.0 is next

reaches_same : (low last : Option Fingerprint) → last ≡ low → Reaches low last
reaches_same low last is f next = subst (λ (o : Option Fingerprint). is_next o f ≡ true) is next

-- the same of what is then remembered
abbrev last_at : Result Across FrameFault → Option Fingerprint
last_at (Ok across) = last_of across
last_at (Err fault) = None

-- who a relay is comes behind the last one, and is then remembered
relay_noted : (before after : Across) (place : ℕ) (line : RelayLine)
    → note_value before place (value.Own (own.Entry (said.Relay line))) ≡ Ok after
    → (is_next (last_of before) line.identity ≡ true) × (last_of after ≡ Some line.identity)
relay_noted before after place line is = by (is_next before.listed.last line.identity) is
  where
    by : (t : Bool)
        → with_listed before (if t then Ok (with_relay before.listed line) else Err (fault_at place Unsorted))
        ≡ Ok after
        → (t ≡ true) × (last_of after ≡ Some line.identity)
    by true e = (refl, sym (ap last_at e))
    by false e = absurd (cc e)

-- what is remembered does not go back
note_reaches : (before after : Across) (place : ℕ) (v : Value ConsensusValue) → note_value before place v ≡ Ok after
    → Reaches (last_of before) (last_of after)
note_reaches before after place (value.Own (own.Entry (said.Relay line))) is =
    let noted = relay_noted before after place line is in
    λ f next.
    reaches_next (last_of before) line.identity noted.0 f
    (subst (λ (o : Option Fingerprint). is_next o f ≡ true) noted.1 next)
note_reaches before after place (value.Own (own.Entry (said.Ed (opinion.Key key)))) is =
    by (set.contains before.listed.keys key) is
  where
    by : (t : Bool)
        → with_listed before (if t then Err (fault_at place DuplicateEd) else Ok (with_key before.listed key))
        ≡ Ok after
        → Reaches (last_of before) (last_of after)
    by true e = absurd (cc e)
    by false e = reaches_same (last_of before) (last_of after) (sym (ap last_at e))
note_reaches before after place (value.Own (own.Entry text)) is =
    reaches_same (last_of before) (last_of after) (sym (ap last_at is))
note_reaches before after place _ is = reaches_same (last_of before) (last_of after) (sym (ap last_at is))

-- ---- the first item of a relay

-- who it says that the relay is
abbrev who : ConsensusTaken → Fingerprint
who one = (relay_in (Some one)).identity

-- a value that says who comes next, where it may stand, and who is then remembered
abbrev SaysNext : Value ConsensusValue → Type 0
SaysNext v = (before after : Across) (place : ℕ) → note_value before place v ≡ Ok after
    → (is_next (last_of before) (relay_of_value (own_of_value v)).identity ≡ true)
    × (last_of after ≡ Some (relay_of_value (own_of_value v)).identity)

first_noted : (flavour : Flavour) (before after : Across) (item : Item) (one : ConsensusTaken)
    → IsItemOf (consensus_tables flavour) before section.Router item one
    → (consensus_tables flavour).note before one ≡ Ok after → same one.keyword the.R ≡ true
    → (is_next (last_of before) (who one) ≡ true) × (last_of after ≡ Some (who one))
unfolding same
first_noted flavour before after item one t note opens =
    let says =
    by_own_row (consensus_tables flavour) [] section.Router before item one the.R (row the.R One kind.Relay) t opens
    refl in
    said_of_any SaysNext (relay_of flavour item) (λ (line : RelayLine). value.Own (own.Entry (said.Relay line)))
    one.value (placed (value_at flavour before kind.Relay item) one.value says)
    (λ line a b place is. relay_noted a b place line is) before after one.place note

-- ---- relays that ascend

abbrev IsBelow : Fingerprint → Routerline → Type 0
IsBelow f r = identity_below r.identity f ≡ true

-- relays that ascend, and come before each who may follow the one that is remembered
record AreUpTo (last : Option Fingerprint) (routers : List Routerline) : Type 0 where
  ascend : Ascending routers
  below : (f : Fingerprint) → is_next last f ≡ true → All (IsBelow f) routers

up_on : (last next : Option Fingerprint) (routers : List Routerline) → Reaches last next → AreUpTo last routers
    → AreUpTo next routers
up_on last next routers reaches are =
    record { ascend = are.ascend; below = λ f is. are.below f (reaches f is) }

-- The section that is open is a relay's, who comes behind those that are kept, and not behind what is remembered; or
-- those that are kept are not behind it. A preamble comes before all relays.
abbrev IsOpen : List Routerline → Option Fingerprint → ConsensusSection → List ConsensusTaken → Type 0
IsOpen routers last section.Router [] = ⊥
IsOpen routers last section.Router (first ∷ taken) =
    (same first.keyword the.R ≡ true) × Ascending routers × All (IsBelow (who first)) routers
    × Reaches (Some (who first)) last
IsOpen routers last section.Preamble taken = Unit {0}
IsOpen routers last _ taken = AreUpTo last routers

module _ (flavour : Flavour) (bytes : List ℕ) where
  -- a section that is kept
  kept_up : (draft : Draft) (name : ConsensusSection) (taken : List ConsensusTaken) (last : Option Fingerprint)
      → IsOpen draft.facts.routers last name taken
      → AreUpTo last (with_section flavour bytes draft name taken).facts.routers
  kept_up draft section.Router [] last open_ = absurd open_
  kept_up draft section.Router (first ∷ taken) last open_ =
      let routers = draft.facts.routers in
      let r = router_of flavour bytes (first ∷ taken) in
      let same_one : who first ≡ r.identity =
      ap (λ (t : Bool). (relay_in (if t then Some first else item_at taken the.R)).identity) (sym open_.0) in
      let before : All (IsBelow r.identity) routers =
      subst (λ (f : Fingerprint). All (IsBelow f) routers) same_one open_.2 in
      record {
        ascend = all_pairs_push (λ (a b : Routerline). identity_below a.identity b.identity ≡ true) routers r open_.1
            before;
        below = λ f is.
            let next : identity_below r.identity f ≡ true =
            subst (λ (g : Fingerprint). identity_below g f ≡ true) same_one (open_.3 f is) in
            All-push (IsBelow f) routers r
            (All-weaker (IsBelow r.identity) (IsBelow f)
            (λ (x : Routerline) less. below-trans x.identity.0 r.identity.0 f.0 less next) routers before) next;
      }
  kept_up draft section.Preamble taken last open_ = record {
    ascend = none_ascend;
    below = λ f is. All-nil (IsBelow f);
  }
  kept_up draft _ taken last open_ = open_

  -- a section with one more item
  open_more : (routers : List Routerline) (name : ConsensusSection) (before after : Across) (first : ConsensusTaken)
      (taken : List ConsensusTaken) (one : ConsensusTaken) → Reaches (last_of before) (last_of after)
      → IsOpen routers (last_of before) name (first ∷ taken)
      → IsOpen routers (last_of after) name (first ∷ (taken ++ one ∷ []))
  open_more routers section.Router before after first taken one reaches open_ =
      (open_.0, open_.1, open_.2, λ f is. open_.3 f (reaches f is))
  open_more routers section.Preamble before after first taken one reaches open_ = tt
  open_more routers _ before after first taken one reaches open_ =
      up_on (last_of before) (last_of after) routers reaches open_

  -- a section that begins
  open_first : (routers : List Routerline) (name : ConsensusSection) (before after : Across) (item : Item)
      (one : ConsensusTaken) → IsItemOf (consensus_tables flavour) before name item one
      → (consensus_tables flavour).note before one ≡ Ok after
      → same (opener (consensus_tables flavour) name) one.keyword ≡ true → AreUpTo (last_of before) routers
      → IsOpen routers (last_of after) name (one ∷ [])
  open_first routers section.Router before after item one t note opens up =
      let is = same-sym one.keyword the.R ∙ opens in
      let noted = first_noted flavour before after item one t note is in
      (is, up.ascend, up.below (who one) noted.0, reaches_same (Some (who one)) (last_of after) noted.1)
  open_first routers section.Preamble before after item one t note opens up = tt
  open_first routers _ before after item one t note opens up =
      up_on (last_of before) (last_of after) routers (note_reaches before after one.place one.value note) up

  -- no section ends with an item of its own
  no_last : (name : ConsensusSection) (keyword : Keyword)
      → is_keyword (((consensus_tables flavour).shape name).last) keyword ≡ true → ⊥
  no_last section.Preamble keyword is = false≢true is
  no_last _ keyword is = false≢true is

  -- what is kept of groups
  abbrev pub with_group : Draft → ConsensusGroup → Draft
  with_group draft g = with_section flavour bytes draft g.section g.taken

  abbrev Rest : Across → Open ConsensusSection (Value ConsensusValue) → List Item
      → Document ConsensusSection (Value ConsensusValue) → Type 0
  Rest across open_ items document =
      (draft : Draft) → IsOpen draft.facts.routers (last_of across) open_.section open_.taken
      → Ascending (fold with_group draft document.groups).facts.routers

  ascending : (length : ℕ) (fault : Option DocFault) → Rules (consensus_tables flavour) length fault Rest
  ascending length fault = record {
    closes = λ across name taken around missing no_fault draft is.
        (kept_up draft name taken (last_of across) is).ascend;
    passes = λ across open_ item items document may rest draft is. rest draft is;
    starts = λ across next item items document one may note rest draft is. rest draft tt;
    adds = λ across next name first taken around item items document one may note rest draft is.
        rest draft
        (open_more draft.facts.routers name across next first taken one
        (note_reaches across next one.place one.value note) is);
    opens = λ across next name first taken around other item items document one may note rest draft is.
        let kept = with_section flavour bytes draft name (first ∷ taken) in
        rest kept
        (open_first kept.facts.routers other across next item one may.accepted.taken note may.opens
        (kept_up draft name (first ∷ taken) (last_of across) is));
    enters = λ across next name first taken around inside item items document one may note rest draft is.
        absurd (nothing_inside flavour name inside one.keyword may.begins);
    leaves = λ across next name first taken outer item items document one may note rest draft is.
        absurd (no_last name one.keyword may.ends);
    ends = λ across next name first taken item items one may note draft is.
        absurd (no_last name one.keyword may.ends);
    stops = λ across name first taken around item items may draft is.
        (kept_up draft name (first ∷ taken) (last_of across) is).ascend;
  }

  -- the relays that are kept of a document that is read
  pub relays_ascend : (length : ℕ) (contents : Contents) (document : Document ConsensusSection (Value ConsensusValue))
      → document_of (consensus_tables flavour) length contents ≡ Ok document
      → Ascending (fold with_group no_draft document.groups).facts.routers
  relays_ascend length contents document e =
      holds (consensus_tables flavour) length Rest contents (ascending length contents.fault) document e no_draft tt
