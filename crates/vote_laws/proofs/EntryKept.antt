-- What is kept of the entries of a vote that was written, and what they say.
use Rattle.std.proofs.Common.{◌≡◌, ℕ, true, List, [], ◌∷◌, ◌++◌, Option, refl, sym, ap, subst, ◌∙◌, append_assoc}
use Rattle.std.proofs.{Common.{append-nil, get_or}, lemmas.{Bool.and_from, List.Elements.{All-head, All-tail}}}
use Rattle.std.{proofs.lemmas.List.Folds.list_all-append, specs.{Prelude.{All, map, if◌then◌else◌}, List.fold}}
use Rattle.dir_values.{specs.Digests.identity_below, proofs.Orders.{AllPairs-head, AllPairs-tail}}
use Rattle.frame_terms.specs.{Keywords.same, declared.document.Group.Group}
use Rattle.frame_terms.specs.declared.keyword.Keyword.TheVariants as the
use Rattle.frame_values.specs.{Parts.{moment_of, part}, declared.values.Value.Value}
use Rattle.frame_laws.proofs.{Entries.{all_taken, taken_at}, Following.entries_all, Groups.groups_in, Passing.rows_pass}
use Rattle.frame_laws.proofs.{Places.after_all, ReadRows.{Stand, both_stand, item_of_row, row_read}}
use Rattle.frame_laws.proofs.{RowValues.text_if_said, SaidRows.entries_of, Sections.{end_of, entries_in, second_place}}
use Rattle.frame_laws.proofs.{Sections.{section_is_read, taken_in}, StandingParts.{once, rest_part}}
use Rattle.relay_entries.specs.Texts.{ed_text}
use Rattle.vote_terms.specs.{Entries.Ascending, declared.entry.EntryFacts.EntryFacts}
use Rattle.vote_frame.specs.{Tables.vote_tables, declared.frame.{VoteSection.VoteSection, VoteValue.VoteValue}}
use Rattle.vote_entries.specs.{Entries.{entry_in, micro_in}, Kept.{KeptEntry, entry_of, is_after}, Saying.micros_in}
use Rattle.vote_entries.specs.{Saying.relay_in, declared.row.KeptMicro.KeptMicro}
use Rattle.vote_doc.specs.{Kept.kept_with, declared.kept.Kept.Kept}
use Rattle.vote_laws.{specs.Again.IsEntryInRange, proofs.{EntryItems.{micro_entry, relay_entry}, EntryRows.ed_if}}
use Rattle.vote_laws.proofs.EntryRows.{entry_parts, entry_section, entry_written, front_rows, front_said, taken_parts}
use Rattle.vote_laws.proofs.EntrySays.{addresses_said, all_micros, bandwidths_said, ed_none, ed_said, entry_flags_said}
use Rattle.vote_laws.proofs.{EntrySays.{micros_in-append, quiet_none, relay_name}, Heard.{is_quiet, is_quiet_kind}}
use Rattle.vote_laws.proofs.{Heard.kinds_pass, VoteItems.{VoteEntry, VoteTaken}}

-- what was taken of a section
-- ---- the microdescriptors of an entry

-- where they begin
abbrev micros_place : ℕ → EntryFacts → ℕ
micros_place place e = after_all (second_place place (entry_section e)) (entries_of (front_rows e))

-- only the items of their row say some
micros_of : (place : ℕ) (e : EntryFacts) → IsEntryInRange e
    → micros_in (taken_in place (entry_section e))
    ≡ micros_in (all_taken (micros_place place e) (map micro_entry e.micros))
micros_of place e are =
    let second = second_place place (entry_section e) in
    let front = entries_of (front_rows e) in
    let lines = map micro_entry e.micros in
    let keys = ed_if e.ed (ed_text e.ed) in
    let next = after_all second front in
    let first = taken_at place (relay_entry e) in
    let before = all_taken second front in
    let found = all_taken next lines in
    let after = all_taken (after_all next lines) keys in
    let quiet = rows_pass vote_tables is_quiet is_quiet_kind kinds_pass (front_rows e) refl (front_said e are) in
    ap (λ (l : List VoteTaken). micros_in (first ∷ l))
    (ap (all_taken second) (sym (entry_parts e)) ∙ taken_parts second front lines keys)
    ∙ micros_in-append before (found ++ after)
    ∙ ap (λ (l : List KeptMicro). l ++ micros_in (found ++ after)) (quiet_none second front quiet)
    ∙ micros_in-append found after
    ∙ ap (λ (l : List KeptMicro). micros_in found ++ l) (ed_none (after_all next lines) e.ed (ed_text e.ed))
    ∙ append-nil (micros_in found)

micros_said : (limit : ℕ) (bytes : List ℕ) (place : ℕ) (e : EntryFacts) → IsEntryInRange e
    → Stand limit bytes place (entries_in (entry_section e))
    → map (micro_in bytes) (micros_in (taken_in place (entry_section e))) ≡ e.micros
micros_said limit bytes place e are stand =
    let first = relay_entry e in
    let front = entries_of (front_rows e) in
    let lines = map micro_entry e.micros in
    let keys = ed_if e.ed (ed_text e.ed) in
    let parted =
    subst (λ (l : List VoteEntry). Stand limit bytes place (first ∷ l)) (sym (entry_parts e)) stand in
    let behind = (both_stand limit bytes place (first ∷ front) (lines ++ keys) parted).back in
    let there = (both_stand limit bytes (micros_place place e) lines keys behind).front in
    ap (map (micro_in bytes)) (micros_of place e are)
    ∙ all_micros limit bytes (micros_place place e) e.micros are.micros there

-- ---- an entry

-- What was kept of an entry says what the entry says.
pub entry_says : (limit : ℕ) (bytes : List ℕ) (place : ℕ) (e : EntryFacts) → IsEntryInRange e
    → Stand limit bytes place (entries_in (entry_section e))
    → entry_in bytes (entry_of (taken_in place (entry_section e))) ≡ e
unfolding same
entry_says limit bytes place e are stand =
    let read = section_is_read vote_tables limit bytes place (entry_section e) [] (entry_written e are) stand in
    let relay = row_read the.R read refl in
    let found = item_of_row relay in
    let name = relay_name bytes _ e (rest_part relay.stand.in_place.0) in
    λ i. record {
      nickname =
          (ap (λ (o : Option VoteTaken). part bytes (relay_in o).nickname) found ∙ name) i;
      identity = ap (λ (o : Option VoteTaken). (relay_in o).identity) found i;
      digest = ap (λ (o : Option VoteTaken). (relay_in o).digest) found i;
      published =
          (ap (λ (o : Option VoteTaken). moment_of (relay_in o).published) found ∙ once e.published are.published) i;
      ip = ap (λ (o : Option VoteTaken). (relay_in o).ip) found i;
      or_port = ap (λ (o : Option VoteTaken). (relay_in o).or_port) found i;
      dir_port = ap (λ (o : Option VoteTaken). (relay_in o).dir_port) found i;
      addresses = addresses_said e.addresses (row_read the.A read refl) i;
      flags = entry_flags_said e.flags are.flags (row_read the.S read refl) i;
      version = text_if_said _ e.version (row_read the.V read refl) i;
      protocols = text_if_said _ e.protocols (row_read the.Pr read refl) i;
      bandwidths = bandwidths_said e.bandwidths (row_read the.W read refl) i;
      policy = text_if_said _ e.policy (row_read the.P read refl) i;
      micros = micros_said limit bytes place e are stand i;
      ed = ed_said e.ed (ed_text e.ed) refl (row_read the.Id read refl) i;
    }

-- ---- all entries

-- what is kept of entries of which the first begins at a place
abbrev pub kept_list : ℕ → List EntryFacts → List KeptEntry
kept_list place [] = []
kept_list place (e ∷ list) =
    entry_of (taken_in place (entry_section e)) ∷ kept_list (end_of place (entry_section e)) list

-- it says what they say
pub entries_say : (limit : ℕ) (bytes : List ℕ) (place : ℕ) (list : List EntryFacts) → All IsEntryInRange list
    → Stand limit bytes place (entries_all (map entry_section list))
    → map (entry_in bytes) (kept_list place list) ≡ list
entries_say limit bytes place [] are stand = refl
entries_say limit bytes place (e ∷ list) are stand =
    let next = end_of place (entry_section e) in
    let parts =
    both_stand limit bytes place (entries_in (entry_section e)) (entries_all (map entry_section list)) stand in
    ap (λ (one : EntryFacts). one ∷ map (entry_in bytes) (kept_list next list))
    (entry_says limit bytes place e (All-head IsEntryInRange e list are) parts.front)
    ∙ ap (λ (l : List EntryFacts). e ∷ l)
    (entries_say limit bytes next list (All-tail IsEntryInRange e list are) parts.back)

-- the relay of an entry is its first item's
relay_kept : (place : ℕ) (e : EntryFacts)
    → (entry_of (taken_in place (entry_section e))).relay.identity ≡ e.identity
unfolding same
relay_kept place e = refl

-- what is kept with one more section
abbrev pub keeps : Kept → Group VoteSection (Value VoteValue) → Kept
keeps kept group = kept_with kept group.section group.taken

-- an entry comes after those that are kept
abbrev ComesBehind : List KeptEntry → EntryFacts → Type 0
ComesBehind entries e = is_after entries e.identity ≡ true

one_kept : (kept : Kept) (place : ℕ) (e : EntryFacts) → ComesBehind kept.entries e
    → kept_with kept (entry_section e).name (taken_in place (entry_section e))
    ≡ record kept { entries = kept.entries ++ entry_of (taken_in place (entry_section e)) ∷ [] }
one_kept kept place e behind =
    let one = entry_of (taken_in place (entry_section e)) in
    ap (λ b. record kept { entries = if b then kept.entries ++ one ∷ [] else kept.entries })
    (ap (is_after kept.entries) (relay_kept place e) ∙ behind)

others_behind : (entries : List KeptEntry) (place : ℕ) (e : EntryFacts) (list : List EntryFacts)
    → All (ComesBehind entries) list
    → All (λ (later : EntryFacts). identity_below e.identity later.identity ≡ true) list
    → All (ComesBehind (entries ++ entry_of (taken_in place (entry_section e)) ∷ [])) list
others_behind entries place e list behind above =
    λ k d within. later_behind (get_or list k d) (behind k d within) (above k d within)
  where
    later_behind : (later : EntryFacts) → is_after entries later.identity ≡ true
        → identity_below e.identity later.identity ≡ true
        → is_after (entries ++ entry_of (taken_in place (entry_section e)) ∷ []) later.identity ≡ true
    later_behind later before below =
        let one = entry_of (taken_in place (entry_section e)) in
        list_all-append (λ (other : KeptEntry). identity_below other.relay.identity later.identity) entries (one ∷ [])
        ∙ and_from (is_after entries later.identity) (is_after (one ∷ []) later.identity) before
        (and_from (identity_below one.relay.identity later.identity) true
        (ap (λ k. identity_below k later.identity) (relay_kept place e) ∙ below) refl)

-- Entries that ascend, and come after those that are kept, are all kept.
pub entries_kept : (kept : Kept) (place : ℕ) (list : List EntryFacts)
    (more : List (Group VoteSection (Value VoteValue))) → All (ComesBehind kept.entries) list → Ascending list
    → fold keeps kept (groups_in place (map entry_section list) ++ more)
    ≡ fold keeps (record kept { entries = kept.entries ++ kept_list place list }) more
entries_kept kept place [] more behind up =
    ap (λ (l : List KeptEntry). fold keeps (record kept { entries = l }) more) (sym (append-nil kept.entries))
entries_kept kept place (e ∷ list) more behind up =
    let one = entry_of (taken_in place (entry_section e)) in
    let next = end_of place (entry_section e) in
    let entries = kept.entries ++ one ∷ [] in
    let rest = groups_in next (map entry_section list) ++ more in
    let first = All-head (ComesBehind kept.entries) e list behind in
    let others = All-tail (ComesBehind kept.entries) e list behind in
    let above =
    AllPairs-head (λ (earlier later : EntryFacts). identity_below earlier.identity later.identity ≡ true) e list up in
    ap (λ (k : Kept). fold keeps k rest) (one_kept kept place e first)
    ∙ entries_kept (record kept { entries = entries }) next list more
    (others_behind kept.entries place e list others above)
    (AllPairs-tail (λ (earlier later : EntryFacts). identity_below earlier.identity later.identity ≡ true) e list up)
    ∙ ap (λ (l : List KeptEntry). fold keeps (record kept { entries = l }) more)
    (append_assoc kept.entries (one ∷ []) (kept_list next list))
