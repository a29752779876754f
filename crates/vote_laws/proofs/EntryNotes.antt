-- What a vote remembers of its entries: how many there are, the last identity, and the Ed25519 keys.
use Rattle.std.proofs.Common.{◌≡◌, ℕ, suc, ◌+◌, ◌<◌, ◌≤◌, Bool, true, false, List, [], ◌∷◌, ◌++◌, length, Option, Some}
use Rattle.std.proofs.{Common.{None, Result, Ok, Err, refl, sym, ap, subst, ◌∙◌, arith}, lemmas.Bool.or_from}
use Rattle.std.proofs.lemmas.{Cmp.nat_list_cmp_total, List.Elements.{All-head, All-tail}, Slice.Eq.bytes_eq-Decides}
use Rattle.std.specs.{Prelude.{All, AllPairs, map, if◌then◌else◌}, Cmp.Lexicographic.{slice_cmp, texts_ties}}
use Rattle.std.specs.{Ordering.{eq_by_cmp, nat_cmp}, Str.bytes_eq}
use Rattle.std.specs.FinSet as set
use Rattle.dir_values.specs.{Digests.identity_below, declared.digest.Fingerprint.Fingerprint}
use Rattle.dir_values.proofs.Orders.{AllPairs-head, AllPairs-tail}
use Rattle.frame_terms.specs.declared.{document.Taken.Taken, fault.FrameFault.FrameFault}
use Rattle.frame_terms.specs.declared.fault.FrameReason.TheVariants.{DuplicateEd, Unsorted}
use Rattle.frame_values.specs.declared.values.Value.{Value}
use Rattle.frame_laws.proofs.{Entries.{after_one, all_taken, taken_at}, Following.{AreNext, MayFollow}}
use Rattle.frame_laws.proofs.{Passing.{notes_passing, rows_pass}, Places.after_all, Remembered.{Notes, notes_both}}
use Rattle.frame_laws.proofs.{SaidRows.entries_of, Sections.{end_of, second_place, taken_in}}
use Rattle.relay_entries.specs.{Listing.{fault_at, is_next, none_listed, with_key, with_relay}, Texts.ed_text}
use Rattle.relay_entries.specs.declared.{listed.Listed.Listed, said.EdOpinion.EdOpinion}
use Rattle.relay_entries.specs.declared.said.EdOpinion.TheVariants as opinion
use Rattle.vote_terms.specs.{Entries.Ascending, declared.entry.{EntryFacts.EntryFacts, MicroFacts.MicroFacts}}
use Rattle.vote_frame.specs.{Across.with_listed, Tables.vote_tables, declared.across.Across.Across}
use Rattle.vote_frame.specs.declared.frame.{VoteSection.VoteSection, VoteValue.VoteValue}
use Rattle.vote_frame.specs.declared.frame.VoteSection.TheVariants as section
use Rattle.vote_laws.{specs.Again.{AreEntriesInRange, DifferInKey, IsEntryInRange}, proofs.EntryItems.micro_entry}
use Rattle.vote_laws.proofs.{EntryItems.{relay_entry, relay_of_entry, suits_relay}, EntryRows.{ed_if, entry_parts}}
use Rattle.vote_laws.proofs.EntryRows.{entry_section, entry_written, front_rows, front_said, last_rows, next_follows}
use Rattle.vote_laws.proofs.{EntryRows.{relay_row, taken_parts}, Heard.{forgotten, is_quiet, is_quiet_kind, kinds_pass}}

-- ---- what is remembered after an entry

-- these relays are listed, and the shared random values stand as before
abbrev pub knowing : Across → Listed → Across
knowing across listed =
    record { listed = listed; has_previous = across.has_previous; has_current = across.has_current }

-- with an opinion of an Ed25519 identity
abbrev pub after_ed : Listed → EdOpinion → Listed
after_ed listed (opinion.Key key) = with_key listed key
after_ed listed opinion.None = listed
after_ed listed opinion.Absent = listed

-- with its relay
abbrev pub after_relay : Listed → EntryFacts → Listed
after_relay listed e = with_relay listed (relay_of_entry 0 e)

-- with an entry
abbrev pub entry_listed : Listed → EntryFacts → Listed
entry_listed listed e = after_ed (after_relay listed e) e.ed

-- with entries
abbrev pub all_listed : Listed → List EntryFacts → Listed
all_listed listed [] = listed
all_listed listed (e ∷ list) = all_listed (entry_listed listed e) list

-- ---- an entry may stand

-- no other entry has its key
abbrev pub IsFree : Listed → EdOpinion → Type 0
IsFree listed (opinion.Key key) = set.contains listed.keys key ≡ false
IsFree listed _ = Unit {0}

notes_relay : (across : Across) (listed : Listed) (place : ℕ) (e : EntryFacts) → is_next listed.last e.identity ≡ true
    → vote_tables.note (knowing across listed) (taken_at place (relay_entry e))
    ≡ Ok (knowing across (after_relay listed e))
notes_relay across listed place e is =
    let no : Result Listed FrameFault = Err (fault_at place Unsorted) in
    ap (λ b. with_listed (knowing across listed) (if b then Ok (after_relay listed e) else no)) is

notes_micros : (across : Across) (place : ℕ) (lines : List MicroFacts)
    → Notes vote_tables across (all_taken place (map micro_entry lines)) across
notes_micros across place [] = refl
notes_micros across place (line ∷ lines) =
    (across, refl, notes_micros across (after_one place (micro_entry line)) lines)

notes_ed : (across : Across) (listed : Listed) (place : ℕ) (said : EdOpinion) → IsFree listed said
    → Notes vote_tables (knowing across listed) (all_taken place (ed_if said (ed_text said)))
    (knowing across (after_ed listed said))
notes_ed across listed place (opinion.Key key) free =
    let no : Result Listed FrameFault = Err (fault_at place DuplicateEd) in (
      knowing across (with_key listed key),
      ap (λ b. with_listed (knowing across listed) (if b then no else Ok (with_key listed key))) free,
      refl,
    )
notes_ed across listed place opinion.None free = (knowing across listed, refl, refl)
notes_ed across listed place opinion.Absent free = refl

-- the items behind the relay's
notes_others : (across : Across) (listed : Listed) (place : ℕ) (e : EntryFacts) → IsEntryInRange e → IsFree listed e.ed
    → Notes vote_tables (knowing across listed) (all_taken place (entries_of (front_rows e ++ last_rows e)))
    (knowing across (after_ed listed e.ed))
notes_others across listed place e are free =
    let now = knowing across listed in
    let after = knowing across (after_ed listed e.ed) in
    let front = entries_of (front_rows e) in
    let micros = map micro_entry e.micros in
    let keys = ed_if e.ed (ed_text e.ed) in
    let next = after_all place front in
    let quiet = rows_pass vote_tables is_quiet is_quiet_kind kinds_pass (front_rows e) refl (front_said e are) in
    let last =
    notes_both vote_tables now now (all_taken next micros) (all_taken (after_all next micros) keys)
    after (notes_micros now next e.micros)
    (notes_ed across listed (after_all next micros) e.ed free) in
    let whole =
    notes_both vote_tables now now (all_taken place front)
    (all_taken next micros ++ all_taken (after_all next micros) keys) after
    (notes_passing vote_tables is_quiet forgotten now place front quiet) last in
    subst (λ (l : List (Taken (Value VoteValue))). Notes vote_tables now l after)
    (sym (taken_parts place front micros keys) ∙ ap (all_taken place) (entry_parts e)) whole

notes_entry : (across : Across) (listed : Listed) (place : ℕ) (e : EntryFacts) → IsEntryInRange e
    → is_next listed.last e.identity ≡ true → IsFree listed e.ed
    → Notes vote_tables (knowing across listed) (taken_in place (entry_section e))
    (knowing across (entry_listed listed e))
notes_entry across listed place e are is free = (
  knowing across (after_relay listed e),
  notes_relay across listed place e is,
  notes_others across (after_relay listed e) (second_place place (entry_section e)) e are (still listed e e.ed free),
)
  where
    still : (listed : Listed) (e : EntryFacts) (said : EdOpinion) → IsFree listed said
        → IsFree (after_relay listed e) said
    still listed e (opinion.Key key) free = free
    still listed e opinion.None free = tt
    still listed e opinion.Absent free = tt

-- ---- entries may stand one after the other

-- the first one comes after the last identity
abbrev pub ComesAfter : Option Fingerprint → List EntryFacts → Type 0
ComesAfter last [] = Unit {0}
ComesAfter last (e ∷ list) = is_next last e.identity ≡ true

-- entries may follow, where this is remembered of those before them
pub record MayStand (listed : Listed) (list : List EntryFacts) : Type 0 where
  pub each : All IsEntryInRange list
  pub ascending : Ascending list
  pub keys : AllPairs DifferInKey list
  pub room : listed.count + length list ≤ 65535
  pub comes : ComesAfter listed.last list
  pub free : All (λ (e : EntryFacts). IsFree listed e.ed) list

count_after : (listed : Listed) (e : EntryFacts) (said : EdOpinion)
    → (after_ed (after_relay listed e) said).count ≤ listed.count + 1
count_after listed e (opinion.Key key) = omega arith
count_after listed e opinion.None = omega arith
count_after listed e opinion.Absent = omega arith

last_after : (listed : Listed) (e : EntryFacts) (said : EdOpinion)
    → Some e.identity ≡ (after_ed (after_relay listed e) said).last
last_after listed e (opinion.Key key) = refl
last_after listed e opinion.None = refl
last_after listed e opinion.Absent = refl

comes_after : (e : EntryFacts) (list : List EntryFacts) → Ascending (e ∷ list) → ComesAfter (Some e.identity) list
comes_after e [] up = tt
comes_after e (next ∷ list) up =
    All-head (λ (later : EntryFacts). identity_below e.identity later.identity ≡ true) next list
    (AllPairs-head (λ (earlier later : EntryFacts). identity_below earlier.identity later.identity ≡ true) e
    (next ∷ list) up)

-- keys that differ are two in the order of keys
differ : (key other : List ℕ) → (key ≡ other → ⊥) → eq_by_cmp (slice_cmp nat_cmp) key other ≡ false
differ key other apart = sym (texts_ties key other) ∙ unequal (bytes_eq key other) refl
  where
    unequal : (b : Bool) → bytes_eq key other ≡ b → b ≡ false
    unequal true is = absurd (apart ((bytes_eq-Decides key other).0 is))
    unequal false is = refl

still_free : (listed : Listed) (e : EntryFacts) (said other : EdOpinion) → IsFree listed other
    → ((key : List ℕ) → said ≡ opinion.Key key → other ≡ opinion.Key key → ⊥)
    → IsFree (after_ed (after_relay listed e) said) other
still_free listed e (opinion.Key key) (opinion.Key other) free apart =
    set.contains-insert nat_list_cmp_total listed.keys key other
    ∙ or_from (eq_by_cmp (slice_cmp nat_cmp) other key) (set.contains listed.keys other)
    (differ other key (λ same. apart other (ap (λ k. opinion.Key k) (sym same)) refl)) free
still_free listed e opinion.None (opinion.Key other) free apart = free
still_free listed e opinion.Absent (opinion.Key other) free apart = free
still_free listed e said opinion.None free apart = tt
still_free listed e said opinion.Absent free apart = tt

-- after the first of them the others may stand
others_may : (listed : Listed) (e : EntryFacts) (list : List EntryFacts) → MayStand listed (e ∷ list)
    → MayStand (entry_listed listed e) list
others_may listed e list may =
    let IsFreeIn = λ (one : EntryFacts). IsFree listed one.ed in
    let apart = AllPairs-head DifferInKey e list may.keys in
    let room : listed.count + suc (length list) ≤ 65535 = may.room in
    let free = All-tail IsFreeIn e list may.free in
    record {
      each = All-tail IsEntryInRange e list may.each;
      ascending =
          AllPairs-tail (λ (earlier later : EntryFacts). identity_below earlier.identity later.identity ≡ true) e list
          may.ascending;
      keys = AllPairs-tail DifferInKey e list may.keys;
      room = more (entry_listed listed e).count listed.count (length list) (count_after listed e e.ed) room;
      comes =
          subst (λ (last : Option Fingerprint). ComesAfter last list) (last_after listed e e.ed)
          (comes_after e list may.ascending);
      free = λ k d within. still_free listed e e.ed _ (free k d within) (apart k d within);
    }
  where
    more : (now before n : ℕ) → now ≤ before + 1 → before + suc n ≤ 65535 → now + n ≤ 65535
    more now before n step room = omega (arith, step, room)

-- Entries that may stand follow one another, and the section before them.
pub entries_next : (across : Across) (listed : Listed) (before : VoteSection) (place : ℕ) (list : List EntryFacts)
    → MayFollow vote_tables before section.Entry relay_row → MayStand listed list
    → AreNext vote_tables (knowing across listed) before place (map entry_section list)
    (knowing across (all_listed listed list))
entries_next across listed before place [] follows may = refl
entries_next across listed before place (e ∷ list) follows may =
    let are = All-head IsEntryInRange e list may.each in
    let room : listed.count + suc (length list) ≤ 65535 = may.room in
    let few : listed.count < 65535 = omega (arith, room) in (
      knowing across (entry_listed listed e),
      record {
        follows = follows;
        written = entry_written e are;
        suits = suits_relay e are (knowing across listed) place few;
        notes =
            notes_entry across listed place e are may.comes
            (All-head (λ (one : EntryFacts). IsFree listed one.ed) e list may.free);
      },
      entries_next across (entry_listed listed e) section.Entry (end_of place (entry_section e)) list next_follows
          (others_may listed e list may),
    )

-- those of a vote in range may stand
pub all_may : (list : List EntryFacts) → AreEntriesInRange list → MayStand none_listed list
all_may list are = record {
  each = are.each;
  ascending = are.ascending;
  keys = are.keys;
  room = from_none (length list) are.count;
  comes = first list;
  free = λ k d within. none_taken _;
}
  where
    from_none : (n : ℕ) → n ≤ 65535 → 0 + n ≤ 65535
    from_none n few = omega (arith, few)

    first : (list : List EntryFacts) → ComesAfter None list
    first [] = tt
    first (e ∷ list) = refl

    none_taken : (said : EdOpinion) → IsFree none_listed said
    none_taken (opinion.Key key) = set.contains-empty (slice_cmp nat_cmp) key
    none_taken opinion.None = tt
    none_taken opinion.Absent = tt
