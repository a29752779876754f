-- An entry of a vote, row by row of its section's table.
use Rattle.std.proofs.Common.{◌≡◌, ℕ, List, [], ◌∷◌, ◌++◌, Option, Some, None, refl, sym, ap, ◌∙◌, append-nil}
use Rattle.std.specs.Prelude.{IfSome, map}
use Rattle.dir_values.specs.FlagSets.{set_text}
use Rattle.frame_terms.specs.{Keywords.same, Rows.row, declared.{document.Taken.Taken, keyword.Keyword.Keyword}}
use Rattle.frame_terms.specs.declared.row.{Count.TheVariants.{Many, One, Optional}, Row.Row}
use Rattle.frame_terms.specs.declared.keyword.Keyword.TheVariants as the
use Rattle.frame_laws.proofs.{Both.both_hold, Entries.all_taken, Following.{MayFollow, opener_follows}}
use Rattle.frame_laws.proofs.{Following.repeated_follows, ManyRows.{row_of_each, said_of_each}, Places.after_all}
use Rattle.frame_laws.proofs.{Places.all_taken-append, RowCounts.{entries_of-append, said_none, said_once}}
use Rattle.frame_laws.proofs.{RowValues.{row_if, said_any_if, text_entry}, SaidRows.{AreSaid, IsSaid, entries_of}}
use Rattle.frame_laws.proofs.{SaidRows.row_once, Sections.IsWritten}
use Rattle.relay_entries.specs.{Texts.ed_text, declared.said.{Bandwidths.Bandwidths, EdOpinion.EdOpinion}}
use Rattle.relay_entries.specs.declared.said.EntryKind.{EntryKind}
use Rattle.relay_entries.specs.declared.said.EntryKind.TheVariants as entry
use Rattle.group_laws.specs.Ranges.{AreBandwidthsInRange, IsAddressInRange, IsOpinionInRange}
use Rattle.vote_terms.specs.declared.entry.{EntryFacts.EntryFacts, MicroFacts.MicroFacts}
use Rattle.vote_frame.specs.{Tables.vote_tables, declared.frame.{VoteKind.VoteKind, VoteSection.TheVariants.Authority}}
use Rattle.vote_frame.specs.declared.frame.{VoteSection.TheVariants.Footer, VoteValue.VoteValue}
use Rattle.vote_frame.specs.declared.frame.VoteKind.TheVariants as kind
use Rattle.vote_frame.specs.declared.frame.VoteSection.TheVariants as section
use Rattle.frame_values.specs.declared.values.Value.{Value}
use Rattle.vote_laws.{specs.Again.{IsEntryInRange, IsMicroInRange}, proofs.EntryItems.{bandwidths_entry, ed_entry}}
use Rattle.vote_laws.proofs.EntryItems.{micro_entry, relay_entry, suits_address, suits_bandwidths, suits_ed}
use Rattle.vote_laws.proofs.{EntryItems.{suits_entry_flags, suits_entry_rest, suits_micro}, VoteItems.VoteEntry}
use Rattle.vote_laws.proofs.{VoteItems.{VotePart, VoteRow}, VoteLists.both_said}

-- ---- rows

-- a row that says this
abbrev pub entry_kind : EntryKind → VoteKind
entry_kind of = kind.Entry of

abbrev pub relay_row : Row VoteKind
relay_row = row the.R One (entry_kind entry.Relay)

-- the rest of a line, or none
abbrev pub entry_rest : Keyword → Option (List ℕ) → VoteRow
entry_rest keyword text = row_if (row keyword Optional (entry_kind entry.Rest)) text

-- bandwidths, or none
abbrev pub bandwidths_if : Option Bandwidths → List VoteEntry
bandwidths_if None = []
bandwidths_if (Some w) = bandwidths_entry w ∷ []

abbrev pub bandwidths_row : Option Bandwidths → VoteRow
bandwidths_row said =
    record { row = row the.W Optional (entry_kind entry.Bandwidths); entries = bandwidths_if said }

-- an Ed25519 identity, where there is a line of it
abbrev pub ed_if : EdOpinion → Option (List ℕ) → List VoteEntry
ed_if opinion None = []
ed_if opinion (Some text) = ed_entry opinion text ∷ []

abbrev pub ed_row : EdOpinion → VoteRow
ed_row opinion =
    record { row = row the.Id Optional (entry_kind entry.Ed); entries = ed_if opinion (ed_text opinion) }

abbrev pub micro_row : List MicroFacts → VoteRow
micro_row lines = row_of_each (row the.M Many (entry_kind entry.Micro)) micro_entry lines

-- the rows before its microdescriptors
abbrev pub front_rows : EntryFacts → List VoteRow
front_rows e =
    row_of_each (row the.A Many (entry_kind entry.Address)) (text_entry the.A) e.addresses
    ∷ row_once (row the.S One (entry_kind entry.Flags)) (text_entry the.S (set_text e.flags))
    ∷ entry_rest the.V e.version
    ∷ entry_rest the.Pr e.protocols
    ∷ bandwidths_row e.bandwidths
    ∷ entry_rest the.P e.policy
    ∷ []

-- its microdescriptors and its Ed25519 identity
abbrev pub last_rows : EntryFacts → List VoteRow
last_rows e = micro_row e.micros ∷ ed_row e.ed ∷ []

abbrev pub entry_section : EntryFacts → VotePart
entry_section e = record {
  name = section.Entry;
  first = relay_row;
  opener = relay_entry e;
  middle = front_rows e ++ last_rows e;
}

-- ---- what is said

said_rest : (keyword : Keyword) (text : Option (List ℕ)) → IsSaid vote_tables (entry_rest keyword text)
said_rest keyword text =
    said_any_if vote_tables (row keyword Optional (entry_kind entry.Rest)) text refl
    (λ t. suits_entry_rest keyword t)

said_bandwidths : (said : Option Bandwidths) → IfSome said AreBandwidthsInRange
    → IsSaid vote_tables (bandwidths_row said)
said_bandwidths None are = said_none vote_tables (row the.W Optional (entry_kind entry.Bandwidths)) refl
said_bandwidths (Some w) are =
    said_once vote_tables (row the.W Optional (entry_kind entry.Bandwidths)) (bandwidths_entry w)
    (suits_bandwidths w are)

said_ed_if : (opinion : EdOpinion) (text : Option (List ℕ)) → ed_text opinion ≡ text → IsOpinionInRange opinion
    → IsSaid vote_tables
    (record { row = row the.Id Optional (entry_kind entry.Ed); entries = ed_if opinion text })
said_ed_if opinion None is are = said_none vote_tables (row the.Id Optional (entry_kind entry.Ed)) refl
said_ed_if opinion (Some text) is are =
    said_once vote_tables (row the.Id Optional (entry_kind entry.Ed)) (ed_entry opinion text)
    (suits_ed opinion text is are)

pub front_said : (e : EntryFacts) → IsEntryInRange e → AreSaid vote_tables (front_rows e)
front_said e are =
    both_hold (said_of_each vote_tables (row the.A Many (entry_kind entry.Address)) (text_entry the.A) IsAddressInRange
    e.addresses refl refl are.addresses suits_address)
    (both_hold (said_once vote_tables _ _ (suits_entry_flags e.flags are.flags))
    (both_hold (said_rest the.V e.version)
    (both_hold (said_rest the.Pr e.protocols)
    (both_hold (said_bandwidths e.bandwidths are.bandwidths)
    (both_hold (said_rest the.P e.policy) tt)))))

last_said : (e : EntryFacts) → IsEntryInRange e → AreSaid vote_tables (last_rows e)
last_said e are =
    both_hold (said_of_each vote_tables (row the.M Many (entry_kind entry.Micro)) micro_entry IsMicroInRange e.micros
    refl refl are.micros suits_micro)
    (both_hold (said_ed_if e.ed (ed_text e.ed) refl are.ed) tt)

pub entry_written : (e : EntryFacts) → IsEntryInRange e → IsWritten vote_tables (entry_section e) []
unfolding same
entry_written e are = record {
  table = refl;
  apart = refl;
  plain = refl;
  opens = refl;
  said = both_said (front_rows e) (last_rows e) (front_said e are) (last_said e are);
}

-- ---- what may follow what

-- an entry may follow the section of the authority, and another entry
pub first_follows : MayFollow vote_tables Authority section.Entry relay_row
unfolding same
first_follows =
    opener_follows vote_tables Authority section.Entry relay_row refl
    (record { not_here = refl; opens = refl; passes_none = refl; row_there = refl })

pub next_follows : MayFollow vote_tables section.Entry section.Entry relay_row
unfolding same
next_follows =
    repeated_follows vote_tables section.Entry relay_row refl
    (record { row_there = refl; not_last = refl; begins_it = refl })

-- the footer may follow an entry
pub footer_after : MayFollow vote_tables section.Entry Footer (row the.DirectoryFooter One kind.Nothing)
unfolding same
footer_after =
    opener_follows vote_tables section.Entry Footer (row the.DirectoryFooter One kind.Nothing) refl
    (record { not_here = refl; opens = refl; passes_none = refl; row_there = refl })

-- ---- its items in three parts

pub entry_parts : (e : EntryFacts)
    → entries_of (front_rows e) ++ (map micro_entry e.micros ++ ed_if e.ed (ed_text e.ed))
    ≡ entries_of (front_rows e ++ last_rows e)
entry_parts e =
    ap (λ (l : List VoteEntry). entries_of (front_rows e) ++ (map micro_entry e.micros ++ l))
    (sym (append-nil (ed_if e.ed (ed_text e.ed))))
    ∙ sym (entries_of-append (front_rows e) (last_rows e))

pub taken_parts : (place : ℕ) (front middle back : List VoteEntry)
    → all_taken place (front ++ (middle ++ back))
    ≡ all_taken place front ++ (all_taken (after_all place front) middle
    ++ all_taken (after_all (after_all place front) middle) back)
taken_parts place front middle back =
    all_taken-append place front (middle ++ back)
    ∙ ap (λ (l : List (Taken (Value VoteValue))). all_taken place front ++ l)
    (all_taken-append (after_all place front) middle back)
