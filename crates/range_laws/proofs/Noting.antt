-- What a vote remembers with one more item: of a relay that there is one more, of an Ed25519 key that it stands, and of
-- others nothing.
use Rattle.std.proofs.Common.{◌≡◌, ℕ, ◌+◌, ◌<◌, ◌≤◌, Bool, true, false, List, [], Result, Ok, Err, refl, sym, ap, subst}
use Rattle.std.proofs.{Common.{◌∙◌, arith}, lemmas.Bool.{false≢true, ltb-true, or_left, or_right}}
use Rattle.std.{proofs.lemmas.{Cmp.nat_list_cmp_total, Slice.Eq.bytes_eq-Decides}, specs.Prelude.nat_lt}
use Rattle.std.specs.{Prelude.if◌then◌else◌, Cmp.Lexicographic.{slice_cmp, texts_ties}, Ordering.{eq_by_cmp, nat_cmp}}
use Rattle.std.specs.FinSet as set
use Rattle.item_terms.specs.Items.{Item}
use Rattle.frame_terms.specs.{Keywords.same, Order.opener, Rows.row, declared.fault.FrameFault.FrameFault}
use Rattle.frame_terms.specs.declared.fault.FrameReason.TheVariants.{DuplicateEd, TooMany, Twice, Unsorted}
use Rattle.frame_terms.specs.declared.row.{Count.TheVariants.One, Limit.TheVariants.Entries}
use Rattle.frame_terms.specs.declared.keyword.Keyword.TheVariants as the
use Rattle.frame_values.specs.declared.values.Value.{Value}
use Rattle.frame_values.specs.declared.values.Value.TheVariants as value
use Rattle.value_groups.specs.declared.{line.RandomLine.RandomLine, value.SharedRandom.SharedRandom}
use Rattle.value_groups.specs.declared.line.RandomLine.TheVariants as random_line
use Rattle.frame_laws.proofs.KnownWords.{same-sym}
use Rattle.relay_entries.specs.{Lines.{ed_of, micro_of, relay_of}, Listing.{fault_at, is_next, with_key, with_relay}}
use Rattle.relay_entries.specs.declared.{listed.Listed.Listed, said.{EdOpinion.EdOpinion, EntryValue.EntryValue}}
use Rattle.relay_entries.specs.declared.said.{MicroLine.MicroLine, RelayLine.RelayLine}
use Rattle.relay_entries.specs.declared.said.EdOpinion.TheVariants as opinion
use Rattle.relay_entries.specs.declared.said.EntryKind.TheVariants as entry
use Rattle.relay_entries.specs.declared.said.EntryValue.TheVariants as entry_said
use Rattle.vote_frame.specs.Across.{has_line, keyword_of, unless_wrong, with_line, with_listed}
use Rattle.vote_frame.specs.declared.{across.Across.Across, frame.{VoteKind.VoteKind, VoteSection.VoteSection}}
use Rattle.vote_frame.specs.{declared.frame.VoteValue.VoteValue, Tables.{note_value, over_limit, value_at, vote_tables}}
use Rattle.vote_frame.specs.declared.frame.VoteKind.TheVariants as kind
use Rattle.vote_frame.specs.declared.frame.VoteSection.TheVariants as section
use Rattle.vote_frame.specs.declared.frame.VoteValue.TheVariants as own
use Rattle.vote_laws.proofs.{EntryNotes.knowing, Heard.{is_quiet, kinds_pass}}
use Rattle.document_laws.specs.Items.{IsItemOf}
use Rattle.row_laws.proofs.{ReadSteps.{any_reads, no_fault, was_read}, Saying.by_own_row}
use Rattle.range_laws.proofs.{EntrySays.lifted_reads, VoteStands.VoteTaken}

-- ---- by what an item says

-- it speaks of a relay
abbrev pub is_relay : Value VoteValue → Bool
is_relay (value.Own (own.Entry (entry_said.Relay line))) = true
is_relay _ = false

-- what is then remembered
abbrev HasNoted : Listed → Listed → Value VoteValue → Type 0
HasNoted before after (value.Own (own.Entry (entry_said.Relay line))) = after ≡ with_relay before line
HasNoted before after (value.Own (own.Entry (entry_said.Ed (opinion.Key key)))) =
    (set.contains before.keys key ≡ false) × (after ≡ with_key before key)
HasNoted before after _ = after ≡ before

same_across : (a b : Across) (read : Result Across FrameFault) → read ≡ Ok a → read ≡ Ok b → b ≡ a
same_across a b read is too = cc

-- the relays of what is remembered
abbrev relays_of : Across → Listed
relays_of across = across.listed

abbrev as_noted : Across → Result Across FrameFault
as_noted a = Ok a

same_relays : (a b : Across) → as_noted a ≡ Ok b → relays_of b ≡ relays_of a
same_relays a b is = ap relays_of (same_across a b (as_noted a) refl is)

with_line_listed : (across : Across) (line : RandomLine) → (with_line across line).listed ≡ across.listed
with_line_listed across random_line.Previous = refl
with_line_listed across random_line.Current = refl

has_noted : (before after : Across) (place : ℕ) (v : Value VoteValue) → note_value before place v ≡ Ok after
    → HasNoted before.listed after.listed v
has_noted before after place (value.Own (own.Entry (entry_said.Relay line))) e =
    by (is_next before.listed.last line.identity) e
  where
    by : (t : Bool)
        → with_listed before (if t then Ok (with_relay before.listed line) else Err (fault_at place Unsorted)) ≡ Ok after
        → after.listed ≡ with_relay before.listed line
    by true is = same_relays (knowing before (with_relay before.listed line)) after is
    by false is = absurd (cc (is))
has_noted before after place (value.Own (own.Entry (entry_said.Ed (opinion.Key key)))) e =
    by (set.contains before.listed.keys key) refl e
  where
    by : (t : Bool) → set.contains before.listed.keys key ≡ t
        → with_listed before (if t then Err (fault_at place DuplicateEd) else Ok (with_key before.listed key)) ≡ Ok after
        → (set.contains before.listed.keys key ≡ false) × (after.listed ≡ with_key before.listed key)
    by true there is = absurd (cc (is))
    by false there is = (there, same_relays (knowing before (with_key before.listed key)) after is)
has_noted before after place (value.Own (own.Random line read)) e = by (has_line before line) read e
  where
    twice : Result Across FrameFault
    twice = Err (fault_at place (Twice (keyword_of line)))

    by : (t : Bool) (read : Result SharedRandom ℕ)
        → (if t then twice else unless_wrong before line read) ≡ Ok after → after.listed ≡ before.listed
    by true read is = absurd (cc (is))
    by false (Ok random) is = same_relays (with_line before line) after is ∙ with_line_listed before line
    by false (Err wrong) is = absurd (cc (is))
has_noted before after place _ e = same_relays before after e

-- ---- keys

-- a key is among others
abbrev pub HasKey : Listed → List ℕ → Type 0
HasKey listed key = set.contains listed.keys key ≡ true

-- with one more
still_has : (listed : Listed) (key other : List ℕ) → HasKey listed other → HasKey (with_key listed key) other
still_has listed key other has =
    set.contains-insert nat_list_cmp_total listed.keys key other
    ∙ or_right (eq_by_cmp (slice_cmp nat_cmp) other key) (set.contains listed.keys other) has

now_has : (listed : Listed) (key : List ℕ) → HasKey (with_key listed key) key
now_has listed key =
    set.contains-insert nat_list_cmp_total listed.keys key key
    ∙ or_left (eq_by_cmp (slice_cmp nat_cmp) key key) (set.contains listed.keys key)
    (sym (texts_ties key key) ∙ (bytes_eq-Decides key key).1 refl)

keeps_keys : (before after : Listed) (v : Value VoteValue) → HasNoted before after v → (key : List ℕ) → HasKey before key
    → HasKey after key
keeps_keys before after (value.Own (own.Entry (entry_said.Relay line))) is key has =
    subst (λ (l : Listed). HasKey l key) (sym is) has
keeps_keys before after (value.Own (own.Entry (entry_said.Ed (opinion.Key other)))) is key has =
    subst (λ (l : Listed). HasKey l key) (sym is.1) (still_has before other key has)
keeps_keys before after _ is key has = subst (λ (l : Listed). HasKey l key) (sym is) has

-- what is remembered of an item that may stand
pub keys_stay : (before after : Across) (one : VoteTaken) → vote_tables.note before one ≡ Ok after → (key : List ℕ)
    → HasKey before.listed key → HasKey after.listed key
keys_stay before after one note key has =
    keeps_keys before.listed after.listed one.value (has_noted before after one.place one.value note) key has

-- an item that says a key
abbrev pub IsKeyOf : VoteTaken → List ℕ → Type 0
IsKeyOf one key = one.value ≡ value.Own (own.Entry (entry_said.Ed (opinion.Key key)))

pub key_noted : (before after : Across) (one : VoteTaken) → vote_tables.note before one ≡ Ok after → (key : List ℕ)
    → IsKeyOf one key → (set.contains before.listed.keys key ≡ false) × HasKey after.listed key
key_noted before after one note key is =
    let noted = has_noted before after one.place (value.Own (own.Entry (entry_said.Ed (opinion.Key key))))
    (ap (λ (v : Value VoteValue). note_value before one.place v) (sym is) ∙ note) in
    (noted.0, subst (λ (l : Listed). HasKey l key) (sym noted.1) (now_has before.listed key))

-- ---- counts

-- what an item says that is of no relay
not_relay : (v : Value VoteValue) → is_quiet v ≡ true → is_relay v ≡ false
not_relay (value.Own (own.Entry (entry_said.Relay line))) is = absurd (cc (is))
not_relay _ is = refl

abbrev NoRelay : Value VoteValue → Type 0
NoRelay v = is_relay v ≡ false

quiet_room : (across : Across) (v : Value VoteValue) → is_quiet v ≡ true → is_relay v ≡ true
    → across.listed.count < 65535
quiet_room across v quiet relay = absurd (false≢true (sym (not_relay v quiet) ∙ relay))

abbrev passes : Result (Unit {0}) FrameFault
passes = Ok tt

-- there is room for a relay that is said
room_for : (across : Across) (of : VoteKind) (item : Item) (v : Value VoteValue)
    → vote_tables.value_of across of item ≡ Ok v → is_relay v ≡ true → across.listed.count < 65535
room_for across (kind.Entry entry.Relay) item v says relay =
    by (nat_lt across.listed.count 65535) refl (no_fault (over_limit across.listed (kind.Entry entry.Relay) item)
    (value_at (kind.Entry entry.Relay) item) v says).0
  where
    by : (t : Bool) → nat_lt across.listed.count 65535 ≡ t
        → (if t then passes else Err (fault_at item.place (TooMany Entries))) ≡ passes → across.listed.count < 65535
    by true is e = ltb-true across.listed.count 65535 is
    by false is e = absurd (cc (e))
room_for across (kind.Entry entry.Micro) item v says relay =
    let of : MicroLine → Value EntryValue = λ line. value.Own (entry_said.Micro line) in
    let none =
    was_read NoRelay (value_at (kind.Entry entry.Micro) item) v
    (lifted_reads (λ (line : MicroLine). Unit {0}) NoRelay (micro_of item) of (any_reads (micro_of item)) (λ line is. refl))
    (no_fault (over_limit across.listed (kind.Entry entry.Micro) item) (value_at (kind.Entry entry.Micro) item) v says).1 in
    absurd (cc (sym relay ∙ none))
room_for across (kind.Entry entry.Ed) item v says relay =
    let of : EdOpinion → Value EntryValue = λ said. value.Own (entry_said.Ed said) in
    let none =
    was_read NoRelay (value_at (kind.Entry entry.Ed) item) v
    (lifted_reads (λ (said : EdOpinion). Unit {0}) NoRelay (ed_of item) of (any_reads (ed_of item)) (λ said is. refl))
    (no_fault (over_limit across.listed (kind.Entry entry.Ed) item) (value_at (kind.Entry entry.Ed) item) v says).1 in
    absurd (cc (sym relay ∙ none))
room_for across (kind.Random line) item v says relay =
    let none =
    was_read NoRelay (value_at (kind.Random line) item) v refl
    (no_fault (over_limit across.listed (kind.Random line) item) (value_at (kind.Random line) item) v says).1 in
    absurd (cc (sym relay ∙ none))
room_for across of item v says relay = quiet_room across v (kinds_pass across of item v refl says) relay

-- one more is counted, or as many as before
pub record IsCounted (before after : Listed) (v : Value VoteValue) : Type 0 where
  pub small : after.count ≤ 65535
  pub more : before.count ≤ after.count
  pub relay : is_relay v ≡ true → after.count ≡ before.count + 1

counted_by : (before after : Listed) (v : Value VoteValue) → HasNoted before after v
    → (is_relay v ≡ true → before.count < 65535) → before.count ≤ 65535 → IsCounted before after v
counted_by before after (value.Own (own.Entry (entry_said.Relay line))) is room small =
    let few = room refl in
    let now : after.count ≡ before.count + 1 =
    ap (λ (l : Listed). l.count) is ∙ omega (arith, few) in
    record { small = omega (arith, few, now); more = omega (arith, now); relay = λ e. now }
counted_by before after (value.Own (own.Entry (entry_said.Ed (opinion.Key key)))) is room small =
    let now : after.count ≡ before.count = ap (λ (l : Listed). l.count) is.1 in
    record { small = omega (arith, small, now); more = omega (arith, now); relay = λ e. absurd (cc (e)) }
counted_by before after _ is room small =
    let now : after.count ≡ before.count = ap (λ (l : Listed). l.count) is in
    record { small = omega (arith, small, now); more = omega (arith, now); relay = λ e. absurd (cc (e)) }

pub counted : (name : VoteSection) (before after : Across) (item : Item) (one : VoteTaken)
    → IsItemOf vote_tables before name item one → vote_tables.note before one ≡ Ok after → before.listed.count ≤ 65535
    → IsCounted before.listed after.listed one.value
counted name before after item one t note small =
    counted_by before.listed after.listed one.value (has_noted before after one.place one.value note)
    (λ relay.
    room_for before t.row.kind item t.value t.says
    (ap (λ (o : VoteTaken). is_relay o.value) (sym t.stands) ∙ relay)) small

-- the opener of an entry speaks of a relay
pub opener_relay : (across : Across) (item : Item) (one : VoteTaken) → IsItemOf vote_tables across section.Entry item one
    → same (opener vote_tables section.Entry) one.keyword ≡ true → is_relay one.value ≡ true
unfolding same
opener_relay across item one t opens =
    let of : RelayLine → Value EntryValue = λ relay. value.Own (entry_said.Relay relay) in
    let says =
    by_own_row vote_tables [] section.Entry across item one the.R (row the.R One (kind.Entry entry.Relay)) t
    (same-sym one.keyword the.R ∙ opens) refl in
    was_read (λ (v : Value VoteValue). is_relay v ≡ true) (value_at (kind.Entry entry.Relay) item) one.value
    (lifted_reads (λ (line : RelayLine). Unit {0}) (λ (v : Value VoteValue). is_relay v ≡ true) (relay_of item) of
    (any_reads (relay_of item)) (λ line is. refl))
    (no_fault (over_limit across.listed (kind.Entry entry.Relay) item) (value_at (kind.Entry entry.Relay) item) one.value says).1
