-- The shared random values of a vote, row by row: each is read as it was written, and remembered.
use Rattle.std.proofs.Common.{◌≡◌, ℕ, List, [], ◌∷◌, ◌++◌, Option, Some, None, Result, Ok, refl, ap, ◌∙◌}
use Rattle.std.specs.{Prelude.{IfSome, decimal, is_some, map, option_map}, Option.option_or}
use Rattle.dirdoc_grammar.specs.Writing.{IsLineRest}
use Rattle.frame_terms.specs.{Rows.row, declared.{document.Taken.Taken, row.{Count.TheVariants.Optional, Row.Row}}}
use Rattle.frame_values.specs.{Items.item_if, Values.item_at, declared.values.Value.Value}
use Rattle.frame_values.specs.declared.values.Value.TheVariants as value
use Rattle.frame_laws.proofs.{Entries.{all_taken, item_of}, Places.after_all, ReadRows.{IsRead, item_of_row}}
use Rattle.frame_laws.proofs.{Remembered.{Notes, notes_both}, RowCounts.{said_none, said_once}, RowValues.own_entry}
use Rattle.frame_laws.proofs.{SaidRows.IsSaid, Words.{two_words, word_of_number}}
use Rattle.group_laws.{specs.LineAgain.IsRandomInRange, proofs.WrittenRandoms.{random_again, word_of_value}}
use Rattle.value_laws.proofs.LineWords.{rest_of_words}
use Rattle.value_groups.specs.{Values.{padded_text, random_text}, declared.line.RandomLine.RandomLine}
use Rattle.value_groups.specs.declared.value.SharedRandom.{SharedRandom}
use Rattle.value_groups.specs.declared.line.RandomLine.TheVariants as line
use Rattle.vote_doc.specs.Saying.{random_in}
use Rattle.relay_entries.specs.Listing.{none_listed}
use Rattle.vote_frame.specs.{Across.{keyword_of, nothing_across}, Tables.vote_tables, declared.across.Across.Across}
use Rattle.vote_frame.specs.declared.frame.{VoteKind.VoteKind, VoteValue.VoteValue}
use Rattle.vote_frame.specs.declared.frame.VoteKind.TheVariants as kind
use Rattle.vote_frame.specs.declared.frame.VoteValue.TheVariants as own
use Rattle.vote_laws.proofs.VoteItems.{SuitsVote, VoteEntry, VoteRow, suits}

-- ---- rows

-- the row of a line
abbrev pub random_of_table : RandomLine → Row VoteKind
random_of_table of = row (keyword_of of) Optional (kind.Random of)

-- an item of a shared random value
abbrev pub random_entry : RandomLine → SharedRandom → VoteEntry
random_entry of random = own_entry (keyword_of of) (random_text random) (λ p. own.Random of (Ok random))

-- the same where there is one
abbrev pub random_if : RandomLine → Option SharedRandom → List VoteEntry
random_if of None = []
random_if of (Some random) = random_entry of random ∷ []

abbrev pub random_row : RandomLine → Option SharedRandom → VoteRow
random_row of random = record { row = random_of_table of; entries = random_if of random }

-- ---- they are read as they were written

suits_random : (of : RandomLine) (random : SharedRandom) → IsRandomInRange random
    → SuitsVote (random_of_table of) (random_entry of random)
suits_random of random are =
    suits (keyword_of of) Optional (kind.Random of) (random_entry of random) refl (λ p. refl) (λ listed p. refl)
    (λ p. ap (λ (read : Result SharedRandom ℕ). Ok (value.Own (own.Random of read)))
    (random_again p (keyword_of of) random are))

pub said_random : (of : RandomLine) (random : Option SharedRandom) → IfSome random IsRandomInRange
    → IsSaid vote_tables (random_row of random)
said_random of None are = said_none vote_tables (random_of_table of) refl
said_random of (Some random) are =
    said_once vote_tables (random_of_table of) (random_entry of random) (suits_random of random are)

pub random_said : {limit : ℕ} {bytes : List ℕ} {taken : List (Taken (Value VoteValue))} {place : ℕ} (of : RandomLine)
    (random : Option SharedRandom) → IsRead limit bytes taken place (random_row of random)
    → random_in (item_at taken (keyword_of of)) ≡ random
random_said of None read = ap random_in (item_of_row read)
random_said of (Some random) read = ap random_in (item_of_row read)

-- a value that the preamble has not and the section of the authority has
pub kept_random : {found other random : Option SharedRandom} → found ≡ None → other ≡ random
    → option_or found other ≡ random
kept_random {found} {other} {random} none is = ap (λ (o : Option SharedRandom). option_or o other) none ∙ is

-- ---- they are remembered

-- what is remembered where these two stand and no relay is listed
abbrev pub with_randoms : Option SharedRandom → Option SharedRandom → Across
with_randoms previous current =
    record { listed = none_listed; has_previous = is_some previous; has_current = is_some current }

notes_previous : (place : ℕ) (previous : Option SharedRandom)
    → Notes vote_tables nothing_across (all_taken place (random_if line.Previous previous))
    (with_randoms previous None)
notes_previous place None = refl
notes_previous place (Some random) = (with_randoms (Some random) None, refl, refl)

notes_current : (place : ℕ) (previous current : Option SharedRandom)
    → Notes vote_tables (with_randoms previous None) (all_taken place (random_if line.Current current))
    (with_randoms previous current)
notes_current place previous None = refl
notes_current place previous (Some random) = (with_randoms previous (Some random), refl, refl)

-- both lines
pub notes_randoms : (place : ℕ) (previous current : Option SharedRandom)
    → Notes vote_tables nothing_across
    (all_taken place (random_if line.Previous previous)
    ++ all_taken (after_all place (random_if line.Previous previous)) (random_if line.Current current))
    (with_randoms previous current)
notes_randoms place previous current =
    let front = random_if line.Previous previous in
    notes_both vote_tables nothing_across (with_randoms previous None) (all_taken place front)
    (all_taken (after_all place front) (random_if line.Current current)) (with_randoms previous current)
    (notes_previous place previous) (notes_current (after_all place front) previous current)

-- ---- the items are those of the text

pub random_items_are : (of : RandomLine) (random : Option SharedRandom)
    → map item_of (random_if of random) ≡ item_if (keyword_of of) (option_map random_text random)
random_items_are of None = refl
random_items_are of (Some random) = refl

-- the text of a value is the rest of a line
pub random_fills : (random : SharedRandom) → IsRandomInRange random → IsLineRest (random_text random)
random_fills random are =
    rest_of_words (decimal random.count ∷ padded_text random.value ∷ [])
    (two_words (decimal random.count) (padded_text random.value) (word_of_number random.count)
    (word_of_value random are))
