-- Each item of an entry that is written says what its row asks for.
use Rattle.std.proofs.Common.{◌≡◌, ℕ, ◌<◌, Bool, true, List, Some, Result, Ok, Err, refl, ap, ◌∙◌, arith}
use Rattle.std.specs.Prelude.{nat_lt, if◌then◌else◌}
use Rattle.dir_values.specs.FlagSets.{set_text}
use Rattle.dirdoc_grammar.specs.Writing.{written}
use Rattle.frame_terms.specs.{Rows.row, declared.fault.{FrameFault.FrameFault, FrameReason.TheVariants.TooMany}}
use Rattle.frame_terms.specs.declared.{keyword.Keyword.Keyword, row.Count.TheVariants.{Many, One, Optional}}
use Rattle.frame_terms.specs.declared.row.Limit.TheVariants.{Entries}
use Rattle.frame_terms.specs.declared.keyword.Keyword.TheVariants as the
use Rattle.frame_values.specs.{Arguments.next, Faults.{at_place, unless_fault}, declared.found.Span.Span}
use Rattle.frame_values.specs.declared.values.Value.{Value}
use Rattle.frame_values.specs.declared.values.Value.TheVariants as value
use Rattle.frame_laws.proofs.{Entries.{Suits, item_of}, RowValues.{own_entry, text_entry}, WrittenItems.start_of}
use Rattle.relay_entries.specs.{Lines.lifted_entry_value, Listing.fault_at, Texts.{bandwidths_text, ed_text}}
use Rattle.relay_entries.specs.declared.said.{Bandwidths.Bandwidths, EdOpinion.EdOpinion, EntryValue.EntryValue}
use Rattle.relay_entries.specs.declared.said.{MicroLine.MicroLine, RelayLine.RelayLine}
use Rattle.vote_frame.specs.{declared.{across.Across.Across, frame.VoteValue.VoteValue}, Tables.{value_at, vote_tables}}
use Rattle.relay_entries.specs.declared.said.EntryKind.TheVariants as entry
use Rattle.relay_entries.specs.declared.said.EntryValue.TheVariants as said
use Rattle.group_laws.specs.{EntryAgain.{micro_at, relay_at}, Ranges.{AreBandwidthsInRange, IsAddressInRange}}
use Rattle.group_laws.{specs.Ranges.IsOpinionInRange, proofs.WrittenAddresses.address_again}
use Rattle.group_laws.proofs.{WrittenBandwidths.bandwidth_again, WrittenKeys.key_again, WrittenMicros.micro_again}
use Rattle.group_laws.proofs.{WrittenRelays.relay_again, WrittenDelays.flags-written}
use Rattle.vote_terms.specs.declared.entry.{EntryFacts.EntryFacts, MicroFacts.MicroFacts}
use Rattle.vote_text.specs.Entries.{line_of, micro_line}
use Rattle.vote_frame.specs.declared.frame.VoteKind.TheVariants as kind
use Rattle.vote_frame.specs.declared.frame.VoteValue.TheVariants as own
use Rattle.vote_laws.{specs.Again.{AreEntryFlags, IsEntryInRange, IsMicroInRange}, proofs.VoteItems.SuitsVote}
use Rattle.vote_laws.proofs.VoteItems.{VoteEntry, suits}

-- what a vote says where an entry says this
abbrev lifts : Result (Value EntryValue) ℕ → Result (Value VoteValue) ℕ
lifts read = next read (λ found. Ok (lifted_entry_value own.Entry found))

-- what is said of what was read
abbrev says : {A : Type 0} → (A → Value EntryValue) → Result A ℕ → Result (Value VoteValue) ℕ
says of read = lifts (next read (λ found. Ok (of found)))

-- what only entries say
abbrev pub entry_own : Keyword → List ℕ → (ℕ → EntryValue) → VoteEntry
entry_own keyword rest of = own_entry keyword rest (λ p. own.Entry (of p))

-- ---- the relay

abbrev pub relay_of_entry : ℕ → EntryFacts → RelayLine
relay_of_entry start e = relay_at start e.nickname e.identity e.digest e.published e.ip e.or_port e.dir_port

abbrev pub relay_entry : EntryFacts → VoteEntry
relay_entry e = entry_own the.R (line_of e) (λ p. said.Relay (relay_of_entry (start_of p the.R (line_of e)) e))

-- whether one more entry may stand, by how many there are
abbrev room_at : ℕ → ℕ → Result (Unit {0}) FrameFault
room_at count place = if nat_lt count 65535 then Ok tt else Err (fault_at place (TooMany Entries))

abbrev fine : Result (Unit {0}) FrameFault
fine = Ok tt

has_room : (count place : ℕ) → count < 65535 → room_at count place ≡ fine
has_room count place few =
    let no : Result (Unit {0}) FrameFault = Err (fault_at place (TooMany Entries)) in
    ap (λ (t : Bool). if t then fine else no) (below count few)
  where
    below : (count : ℕ) → count < 65535 → nat_lt count 65535 ≡ true
    below count few = grind arith

pub suits_relay : (e : EntryFacts) → IsEntryInRange e → (across : Across) (p : ℕ) → across.listed.count < 65535
    → Suits vote_tables across (row the.R One (kind.Entry entry.Relay)) p (relay_entry e)
suits_relay e are across p few =
    let item = written p (item_of (relay_entry e)) in
    record {
      keyword = refl;
      known = refl;
      value =
          ap (λ (r : Result (Unit {0}) FrameFault). unless_fault r (at_place (value_at (kind.Entry entry.Relay) item)))
          (has_room across.listed.count p few)
          ∙ ap (λ (r : Result RelayLine ℕ). at_place (says (λ (relay : RelayLine). value.Own (said.Relay relay)) r))
          (relay_again p the.R e.nickname e.identity e.digest e.published e.ip e.or_port e.dir_port are.relay);
    }

-- ---- texts

pub suits_address : (text : List ℕ) → IsAddressInRange text
    → SuitsVote (row the.A Many (kind.Entry entry.Address)) (text_entry the.A text)
suits_address text are =
    suits the.A Many (kind.Entry entry.Address) (text_entry the.A text) refl (λ p. refl) (λ listed p. refl)
    (λ p. ap (says (λ (found : Span). value.Text found)) (address_again p the.A text are))

pub suits_entry_flags : (flags : List (List ℕ)) → AreEntryFlags flags
    → SuitsVote (row the.S One (kind.Entry entry.Flags)) (text_entry the.S (set_text flags))
suits_entry_flags flags are =
    suits the.S One (kind.Entry entry.Flags) (text_entry the.S (set_text flags)) refl (λ p. refl) (λ listed p. refl)
    (λ p. ap (says (λ (found : Span). value.Text found)) (flags-written p the.S flags are.ascend are.each))

pub suits_entry_rest : (keyword : Keyword) (text : List ℕ)
    → SuitsVote (row keyword Optional (kind.Entry entry.Rest)) (text_entry keyword text)
suits_entry_rest keyword text =
    suits keyword Optional (kind.Entry entry.Rest) (text_entry keyword text) refl (λ p. refl) (λ listed p. refl)
    (λ p. refl)

-- ---- bandwidths

abbrev pub bandwidths_entry : Bandwidths → VoteEntry
bandwidths_entry w = entry_own the.W (bandwidths_text w) (λ p. said.Bandwidths w)

pub suits_bandwidths : (w : Bandwidths) → AreBandwidthsInRange w
    → SuitsVote (row the.W Optional (kind.Entry entry.Bandwidths)) (bandwidths_entry w)
suits_bandwidths w are =
    suits the.W Optional (kind.Entry entry.Bandwidths) (bandwidths_entry w) refl (λ p. refl) (λ listed p. refl)
    (λ p. ap (says (λ (found : Bandwidths). value.Own (said.Bandwidths found))) (bandwidth_again p the.W w are))

-- ---- microdescriptors

abbrev pub micro_said : ℕ → MicroFacts → MicroLine
micro_said start line = micro_at start line.methods line.digest

abbrev pub micro_entry : MicroFacts → VoteEntry
micro_entry line =
    entry_own the.M (micro_line line) (λ p. said.Micro (micro_said (start_of p the.M (micro_line line)) line))

pub suits_micro : (line : MicroFacts) → IsMicroInRange line
    → SuitsVote (row the.M Many (kind.Entry entry.Micro)) (micro_entry line)
suits_micro line are =
    suits the.M Many (kind.Entry entry.Micro) (micro_entry line) refl (λ p. refl) (λ listed p. refl)
    (λ p. ap (says (λ (found : MicroLine). value.Own (said.Micro found)))
    (micro_again p the.M line.methods line.digest are.methods are.digest).0)

-- ---- the Ed25519 identity

abbrev pub ed_entry : EdOpinion → List ℕ → VoteEntry
ed_entry opinion text = entry_own the.Id text (λ p. said.Ed opinion)

pub suits_ed : (opinion : EdOpinion) (text : List ℕ) → ed_text opinion ≡ Some text → IsOpinionInRange opinion
    → SuitsVote (row the.Id Optional (kind.Entry entry.Ed)) (ed_entry opinion text)
suits_ed opinion text is are =
    suits the.Id Optional (kind.Entry entry.Ed) (ed_entry opinion text) refl
    (λ p. (key_again p the.Id opinion text is are).1) (λ listed p. refl)
    (λ p. ap (says (λ (found : EdOpinion). value.Own (said.Ed found))) (key_again p the.Id opinion text is are).0)
