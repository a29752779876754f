-- What the items of a vote's entry say is in range, by their kinds.
use Rattle.std.{proofs.Common.{◌≡◌, ℕ, true, List, Result, Ok, Err, refl, ap, ◌∙◌}, specs.Prelude.All}
use Rattle.base64.specs.GeneralPurpose.{IsBytes}
use Rattle.item_terms.specs.{Items.Item, Words.words_of}
use Rattle.dirdoc_grammar.specs.Writing.{IsLineRest}
use Rattle.frame_values.specs.{Arguments.next, Faults.{at_place, unless_fault}, Lines.{flags_of, rest_of}, Parts.part}
use Rattle.frame_values.specs.declared.{found.Span.Span, values.Value.Value}
use Rattle.frame_values.specs.declared.values.Value.TheVariants as value
use Rattle.relay_entries.specs.Lines.{address_of, bandwidths_of, ed_of, entry_value, lifted_entry_value, micro_of}
use Rattle.relay_entries.specs.{Lines.relay_of, declared.said.{Bandwidths.Bandwidths, EdOpinion.EdOpinion}}
use Rattle.relay_entries.specs.declared.said.{EntryKind.EntryKind, EntryValue.EntryValue, MicroLine.MicroLine}
use Rattle.relay_entries.specs.declared.said.RelayLine.{RelayLine}
use Rattle.relay_entries.specs.declared.said.EntryKind.TheVariants as entry
use Rattle.relay_entries.specs.declared.said.EntryValue.TheVariants as entry_said
use Rattle.group_laws.specs.Ranges.{AreBandwidthsInRange, IsOpinionInRange}
use Rattle.vote_frame.specs.{Tables.over_limit, declared.frame.{VoteKind.VoteKind, VoteValue.VoteValue}}
use Rattle.vote_frame.specs.declared.frame.VoteKind.TheVariants as kind
use Rattle.vote_frame.specs.declared.frame.VoteValue.TheVariants as own
use Rattle.vote_laws.proofs.Heard.{is_quiet, kinds_pass}
use Rattle.row_laws.proofs.{ItemArguments.IsSound, KindRanges.kind_unless, ReadSteps.ReadAs}
use Rattle.range_laws.proofs.{EntryReads.{IsMicro, bandwidths_read, ed_reads, micro_reads}, LineReads.rest_read}
use Rattle.range_laws.proofs.{ReadNames.IsName, RelayReads.{AreNamesAt, IsAddressAt, IsLine, address_reads, flags_read}}
use Rattle.range_laws.proofs.{RelayReads.relay_reads, VoteReads.{VoteIs, VoteSays, random_is, says_so}}

-- ---- what an entry says, among what a vote says

-- it is read as the same
pub lifted_reads : {A : Type 0} (P : A → Type 0) (Q : Value VoteValue → Type 0) (read : Result A ℕ)
    (of : A → Value EntryValue) → ReadAs P read → ((a : A) → P a → Q (lifted_entry_value own.Entry (of a)))
    → ReadAs Q (next (next read (λ a. Ok (of a))) (λ found. Ok (lifted_entry_value own.Entry found)))
lifted_reads P Q (Ok a) of reads is = is a reads
lifted_reads P Q (Err place) of reads is = tt

lifted_next : {A : Type 0} (read : Result A ℕ) (of : A → Value EntryValue)
    → next (next read (λ a. Ok (of a))) (λ found. Ok (lifted_entry_value own.Entry found))
    ≡ next read (λ a. Ok (lifted_entry_value own.Entry (of a)))
lifted_next (Ok a) of = refl
lifted_next (Err place) of = refl

-- ---- kinds

-- items of this kind of an entry say such
abbrev EntryIs : {A : Type 0} → EntryKind → (A → Value EntryValue) → (List ℕ → A → Type 0) → Type 0
EntryIs of make Is = VoteIs (kind.Entry of) (λ a. lifted_entry_value own.Entry (make a)) Is

-- where what is read of a line is such
entry_kind : {A : Type 0} {Is : List ℕ → A → Type 0} (of : EntryKind) (make : A → Value EntryValue)
    (read : Item → Result A ℕ)
    → ((item : Item) → entry_value of item ≡ next (read item) (λ a. Ok (make a)))
    → ((bytes : List ℕ) → IsBytes bytes → (item : Item) → IsSound bytes item → ReadAs (Is bytes) (read item))
    → EntryIs of make Is
entry_kind of make read values reads =
    kind_unless (λ across item. over_limit across.listed (kind.Entry of) item) (λ across item. read item)
    (λ across item.
    ap (λ (r : Result (Value VoteValue) ℕ). unless_fault (over_limit across.listed (kind.Entry of) item) (at_place r))
    (ap (λ (r : Result (Value EntryValue) ℕ). next r (λ found. Ok (lifted_entry_value own.Entry found))) (values item)
    ∙ lifted_next (read item) make))
    (λ bytes are across item sound passes. reads bytes are item sound)

pub relay_is : EntryIs entry.Relay (λ (line : RelayLine). value.Own (entry_said.Relay line)) IsLine
relay_is =
    entry_kind entry.Relay (λ (line : RelayLine). value.Own (entry_said.Relay line)) relay_of (λ item. refl)
    (λ bytes are item sound. relay_reads bytes item are sound)

pub address_is : EntryIs entry.Address (λ (span : Span). value.Text span) IsAddressAt
address_is =
    entry_kind entry.Address (λ (span : Span). value.Text span) address_of (λ item. refl)
    (λ bytes are item sound. address_reads bytes item sound)

-- the names of flags
abbrev pub AreNames : List ℕ → Type 0
AreNames text = All IsName (words_of text)

pub entry_flags_are : EntryIs entry.Flags (λ (span : Span). value.Text span) AreNamesAt
entry_flags_are =
    entry_kind entry.Flags (λ (span : Span). value.Text span) flags_of (λ item. refl)
    (λ bytes are item sound. flags_read bytes item sound)

pub entry_rests_are : EntryIs entry.Rest (λ (span : Span). value.Text span)
    (λ bytes span. IsLineRest (part bytes span))
entry_rests_are =
    entry_kind entry.Rest (λ (span : Span). value.Text span) (λ (item : Item). Ok (rest_of item)) (λ item. refl)
    (λ bytes are item sound. rest_read VoteValue bytes item sound)

pub widths_are : EntryIs entry.Bandwidths (λ (w : Bandwidths). value.Own (entry_said.Bandwidths w))
    (λ bytes w. AreBandwidthsInRange w)
widths_are =
    entry_kind entry.Bandwidths (λ (w : Bandwidths). value.Own (entry_said.Bandwidths w)) bandwidths_of (λ item. refl)
    (λ bytes are item sound. bandwidths_read item)

pub opinion_is : EntryIs entry.Ed (λ (opinion : EdOpinion). value.Own (entry_said.Ed opinion))
    (λ bytes opinion. IsOpinionInRange opinion)
opinion_is =
    entry_kind entry.Ed (λ (opinion : EdOpinion). value.Own (entry_said.Ed opinion)) ed_of (λ item. refl)
    (λ bytes are item sound. ed_reads bytes item are sound)

micro_is : EntryIs entry.Micro (λ (line : MicroLine). value.Own (entry_said.Micro line)) (λ bytes line. IsMicro line)
micro_is =
    entry_kind entry.Micro (λ (line : MicroLine). value.Own (entry_said.Micro line)) micro_of (λ item. refl)
    (λ bytes are item sound. micro_reads bytes item are sound)

-- ---- whatever the kind of an item, a microdescriptor that it names is in range

-- the digest of a microdescriptor
abbrev pub MicroIs : Value VoteValue → Type 0
MicroIs (value.Own (own.Entry (entry_said.Micro line))) = IsMicro line
MicroIs _ = Unit {0}

quiet_micro : (v : Value VoteValue) → is_quiet v ≡ true → MicroIs v
quiet_micro (value.Own (own.Entry (entry_said.Micro line))) is = absurd (cc (is))
quiet_micro _ is = tt

pub micro_says : {bytes : List ℕ} {v : Value VoteValue} → IsBytes bytes → (of : VoteKind) → VoteSays bytes of v
    → MicroIs v
micro_says {bytes} {v} are (kind.Entry entry.Micro) says = says_so micro_is are MicroIs (λ line is. is) says
micro_says {bytes} {v} are (kind.Entry entry.Relay) says = says_so relay_is are MicroIs (λ line is. tt) says
micro_says {bytes} {v} are (kind.Entry entry.Ed) says = says_so opinion_is are MicroIs (λ opinion is. tt) says
micro_says {bytes} {v} are (kind.Random line) says = says_so (random_is line) are MicroIs (λ read is. tt) says
micro_says {bytes} {v} are of says = quiet_micro v (kinds_pass says.remembered of says.item v refl says.says)
