-- What is said by an entry of a vote that was written and is read.
use Rattle.std.proofs.Common.{◌≡◌, ℕ, ◌+◌, ◌/◌, ◌%◌, Bool, true, false, List, [], ◌∷◌, ◌++◌, Option, Some, None, refl}
use Rattle.std.proofs.{Common.{sym, ap, subst, ◌∙◌, arith}, lemmas.List.Elements.{All-head, All-tail}}
use Rattle.std.specs.{Prelude.{All, decimal, map, if◌then◌else◌}, List.join_with_byte}
use Rattle.dir_bytes.specs.FieldTexts.{address_text, base64_text, clock_text, date_text}
use Rattle.item_terms.specs.Words.{words_of}
use Rattle.dir_values.specs.FlagSets.{as_set, set_text}
use Rattle.frame_terms.specs.{Keywords.same, Rows.row, declared.{document.Taken.Taken, row.Count.TheVariants.Many}}
use Rattle.frame_terms.specs.declared.row.Count.TheVariants.{One, Optional}
use Rattle.frame_terms.specs.declared.keyword.Keyword.TheVariants as the
use Rattle.frame_values.specs.{Fields.span, Parts.{moment_of, part}, Values.{item_at, text_if, text_in, text_of_value}}
use Rattle.frame_values.specs.declared.{found.Span.Span, values.Value.Value}
use Rattle.frame_values.specs.declared.values.Value.TheVariants as value
use Rattle.frame_laws.proofs.{Entries.{after_one, all_taken}, ManyRows.row_of_each, Passing.EachPasses, ReadRows.IsRead}
use Rattle.frame_laws.proofs.{ReadRows.{Stand, item_of_row}, RowValues.{text_entry, text_said}, SaidRows.items_at}
use Rattle.frame_laws.proofs.{SaidRows.row_once, StandingParts.{part_of_part, rest_part}}
use Rattle.relay_entries.specs.{Fields.methods_in, Texts.{ed_text, methods_text, sha256_text}}
use Rattle.relay_entries.specs.declared.said.{Bandwidths.Bandwidths, EdOpinion.EdOpinion}
use Rattle.relay_entries.specs.declared.said.EdOpinion.TheVariants as opinion
use Rattle.relay_entries.specs.declared.said.EntryKind.TheVariants as entry
use Rattle.relay_entries.specs.declared.said.EntryValue.TheVariants as said
use Rattle.group_laws.proofs.{WrittenMethods.methods_in-text, WrittenRelays.relay_shape, WrittenDelays.as_set-text}
use Rattle.vote_terms.specs.declared.entry.{EntryFacts.EntryFacts, MicroFacts.MicroFacts}
use Rattle.vote_text.specs.Entries.{line_of, micro_line}
use Rattle.vote_frame.specs.declared.frame.VoteValue.{VoteValue}
use Rattle.vote_frame.specs.declared.frame.VoteValue.TheVariants as own
use Rattle.vote_entries.specs.{Entries.micro_in, Saying.{addresses_in, bandwidths_in, ed_in, micro_if, micros_in}}
use Rattle.vote_entries.specs.{Saying.onto_if, declared.row.KeptMicro.KeptMicro}
use Rattle.vote_laws.{specs.Again.{AreEntryFlags, IsMicroInRange}, proofs.EntryItems.micro_entry}
use Rattle.vote_laws.proofs.{EntryRows.{bandwidths_row, ed_if, entry_kind}, Heard.is_quiet, VoteItems.VoteEntry}
use Rattle.vote_laws.proofs.VoteItems.{VoteTaken}

-- what was taken of an entry
-- ---- addresses

-- where the texts of items stand
abbrev texts_if : List VoteTaken → List Span
texts_if [] = []
texts_if (one ∷ taken) = onto_if (text_of_value one.value) (texts_if taken)

-- those of addresses stand where the items of their keyword do
addresses_at : (taken : List VoteTaken) → addresses_in taken ≡ texts_if (items_at taken the.A)
addresses_at [] = refl
addresses_at (one ∷ taken) =
    by_test (same one.keyword the.A) one (addresses_in taken) (items_at taken the.A) (addresses_at taken)
  where
    by_test : (t : Bool) (one : VoteTaken) (found : List Span) (items : List VoteTaken) → found ≡ texts_if items
        → onto_if (if t then text_of_value one.value else None) found ≡ texts_if (if t then one ∷ items else items)
    by_test true one found items is = ap (onto_if (text_of_value one.value)) is
    by_test false one found items is = is

all_addresses : (limit : ℕ) (bytes : List ℕ) (place : ℕ) (texts : List (List ℕ))
    → Stand {V = Value VoteValue} limit bytes place (map (text_entry the.A) texts)
    → map (part bytes) (texts_if (all_taken place (map (text_entry the.A) texts))) ≡ texts
all_addresses limit bytes place [] stand = refl
all_addresses limit bytes place (text ∷ texts) stand =
    let next = after_one place (text_entry {W = VoteValue} the.A text) in
    ap (λ (t : List ℕ). t ∷ map (part bytes) (texts_if (all_taken next (map (text_entry the.A) texts))))
    (rest_part stand.in_place.0)
    ∙ ap (λ (l : List (List ℕ)). text ∷ l)
    (all_addresses limit bytes next texts (record { writable = stand.writable.1; in_place = stand.in_place.1 }))

-- ---- microdescriptors

pub micros_in-append : (front back : List VoteTaken) → micros_in (front ++ back) ≡ micros_in front ++ micros_in back
micros_in-append [] back = refl
micros_in-append (one ∷ front) back =
    ap (onto_if (micro_if one.value)) (micros_in-append front back)
    ∙ onto_append (micro_if one.value) (micros_in front) (micros_in back)
  where
    onto_append : (o : Option KeptMicro) (a b : List KeptMicro) → onto_if o (a ++ b) ≡ onto_if o a ++ b
    onto_append None a b = refl
    onto_append (Some line) a b = refl

no_micro : (v : Value VoteValue) → is_quiet v ≡ true → micro_if v ≡ None
no_micro value.Nothing is = refl
no_micro (value.Text text) is = refl
no_micro (value.Number number) is = refl
no_micro (value.Fingerprint identity) is = refl
no_micro (value.Object lines) is = refl
no_micro (value.Own (own.Delays a b)) is = refl
no_micro (value.Own (own.Source source)) is = refl
no_micro (value.Own (own.Random line read)) is = refl
no_micro (value.Own (own.Signature signature)) is = refl
no_micro (value.Own (own.Entry (said.Relay relay))) is = refl
no_micro (value.Own (own.Entry (said.Bandwidths w))) is = refl
no_micro (value.Own (own.Entry (said.Micro line))) is = absurd cc
no_micro (value.Own (own.Entry (said.Ed opinion))) is = refl

-- items that say none
pub quiet_none : (place : ℕ) (entries : List VoteEntry) → EachPasses is_quiet entries
    → micros_in (all_taken place entries) ≡ []
quiet_none place [] quiet = refl
quiet_none place (one ∷ entries) quiet =
    let next = after_one place one in
    ap (λ (o : Option KeptMicro). onto_if o (micros_in (all_taken next entries)))
    (no_micro (one.value place) (quiet.0 place))
    ∙ quiet_none next entries quiet.1

pub ed_none : (place : ℕ) (said : EdOpinion) (text : Option (List ℕ))
    → micros_in (all_taken place (ed_if said text)) ≡ []
ed_none place said None = refl
ed_none place said (Some text) = refl

-- what is kept of a line whose methods stand at a place
abbrev micro_kept : ℕ → MicroFacts → KeptMicro
micro_kept start line = record { methods = span start (methods_text line.methods); digest = line.digest }

-- the methods of a line that stands in its place
micro_back : (bytes : List ℕ) (start : ℕ) (line : MicroFacts) → IsMicroInRange line
    → part bytes (span start (micro_line line)) ≡ micro_line line → micro_in bytes (micro_kept start line) ≡ line
micro_back bytes start line are there =
    let methods = methods_text line.methods in
    let front : start + 0 ≡ start = omega arith in
    let text : part bytes (span start methods) ≡ methods =
    sym (ap (λ (n : ℕ). part bytes (span n methods)) front)
    ∙ part_of_part bytes start [] methods (sha256_text line.digest) there in
    let read = ap methods_in text ∙ methods_in-text line.methods are.methods.some are.methods.each in
    λ i. record { methods = read i; digest = line.digest }

pub all_micros : (limit : ℕ) (bytes : List ℕ) (place : ℕ) (lines : List MicroFacts) → All IsMicroInRange lines
    → Stand limit bytes place (map micro_entry lines)
    → map (micro_in bytes) (micros_in (all_taken place (map micro_entry lines))) ≡ lines
all_micros limit bytes place [] are stand = refl
all_micros limit bytes place (line ∷ lines) are stand =
    let next = after_one place (micro_entry line) in
    ap (λ (one : MicroFacts). one ∷ map (micro_in bytes) (micros_in (all_taken next (map micro_entry lines))))
    (micro_back bytes _ line (All-head IsMicroInRange line lines are) (rest_part stand.in_place.0))
    ∙ ap (λ (l : List MicroFacts). line ∷ l)
    (all_micros limit bytes next lines (All-tail IsMicroInRange line lines are)
    (record { writable = stand.writable.1; in_place = stand.in_place.1 }))

-- ---- the relay

-- the nickname of a relay whose line stands in its place
pub relay_name : (bytes : List ℕ) (start : ℕ) (e : EntryFacts)
    → part bytes (span start (line_of e)) ≡ line_of e → part bytes (span start e.nickname) ≡ e.nickname
relay_name bytes start e there =
    let name = e.nickname in
    let m = moment_of e.published in
    let back =
    32 ∷ join_with_byte 32
    (base64_text e.identity.0 ∷ base64_text e.digest.0 ∷ date_text (m / 86400) ∷ clock_text (m % 86400)
    ∷ address_text e.ip ∷ decimal e.or_port ∷ decimal e.dir_port ∷ []) in
    let shape = relay_shape e.nickname e.identity e.digest e.published e.ip e.or_port e.dir_port in
    let stands : part bytes (span start (name ++ back)) ≡ name ++ back =
    subst (λ (t : List ℕ). part bytes (span start t) ≡ t) shape there in
    let front : start + 0 ≡ start = omega arith in
    sym (ap (λ (n : ℕ). part bytes (span n name)) front) ∙ part_of_part bytes start [] name back stands

-- ---- what is read of each row

module _ {limit : ℕ} {bytes : List ℕ} {taken : List (Taken (Value VoteValue))} {place : ℕ} where
  pub addresses_said : (texts : List (List ℕ))
      → IsRead limit bytes taken place
      (row_of_each (row the.A Many (entry_kind entry.Address)) (text_entry the.A) texts)
      → map (part bytes) (addresses_in taken) ≡ texts
  addresses_said texts read =
      ap (map (part bytes)) (addresses_at taken ∙ ap texts_if read.items)
      ∙ all_addresses limit bytes place texts read.stand

  pub entry_flags_said : (flags : List (List ℕ)) → AreEntryFlags flags
      → IsRead limit bytes taken place
      (row_once (row the.S One (entry_kind entry.Flags)) (text_entry the.S (set_text flags)))
      → as_set (words_of (part bytes (text_in (text_if (item_at taken the.S))))) ≡ flags
  entry_flags_said flags are read =
      ap (λ (l : List ℕ). as_set (words_of l))
      (text_said (row the.S One (entry_kind entry.Flags)) (set_text flags) read)
      ∙ as_set-text flags are.ascend are.each

  pub bandwidths_said : (w : Option Bandwidths) → IsRead limit bytes taken place (bandwidths_row w)
      → bandwidths_in (item_at taken the.W) ≡ w
  bandwidths_said None read = ap bandwidths_in (item_of_row read)
  bandwidths_said (Some w) read = ap bandwidths_in (item_of_row read)

  pub ed_said : (said : EdOpinion) (text : Option (List ℕ)) → ed_text said ≡ text
      → IsRead limit bytes taken place
      (record { row = row the.Id Optional (entry_kind entry.Ed); entries = ed_if said text })
      → ed_in (item_at taken the.Id) ≡ said
  ed_said said (Some text) is read = ap ed_in (item_of_row read)
  ed_said (opinion.Key key) None is read = absurd cc
  ed_said opinion.None None is read = absurd cc
  ed_said opinion.Absent None is read = ap ed_in (item_of_row read)
