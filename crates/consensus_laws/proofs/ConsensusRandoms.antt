-- The shared random values of a consensus, row by row: each is read as it was written.
use Rattle.std.{proofs.Common.{◌≡◌, ℕ, List, [], ◌∷◌, ◌++◌, Option, Some, None, refl, ap}, specs.Prelude.IfSome}
use Rattle.std.specs.Prelude.{decimal, map, option_map}
use Rattle.dirdoc_grammar.specs.Writing.{items_text}
use Rattle.frame_terms.specs.{Keywords.text_of, Rows.row, declared.{document.Taken.Taken, keyword.Keyword.Keyword}}
use Rattle.frame_terms.specs.declared.row.{Count.TheVariants.Optional, Row.Row}
use Rattle.frame_values.specs.{Items.item_if, Values.item_at, declared.values.Value.Value}
use Rattle.frame_values.specs.declared.values.Value.TheVariants as value
use Rattle.frame_laws.proofs.{Both.both_hold, Entries.item_of, Passing.EachPasses, ReadRows.{IsRead, item_of_row}}
use Rattle.frame_laws.proofs.{RowCounts.{said_none, said_once}, RowValues.own_entry, Words.length-word}
use Rattle.frame_laws.proofs.Words.{word_of_number}
use Rattle.group_laws.{specs.LineAgain.IsRandomInRange, proofs.WrittenRandoms.random_again}
use Rattle.value_groups.specs.{Values.{padded_text, random_text}, declared.value.SharedRandom.SharedRandom}
use Rattle.consensus_terms.specs.{Texts.random_line, declared.flavour.Flavour.Flavour}
use Rattle.consensus_frame.specs.{Tables.consensus_tables, declared.rows.ConsensusKind.ConsensusKind}
use Rattle.consensus_frame.specs.declared.value.ConsensusValue.{ConsensusValue}
use Rattle.consensus_frame.specs.declared.rows.ConsensusKind.TheVariants as kind
use Rattle.consensus_frame.specs.declared.value.ConsensusValue.TheVariants as own
use Rattle.consensus_doc.specs.Saying.{random_in}
use Rattle.consensus_laws.proofs.ConsensusItems.{ConsensusEntry, ConsensusRow, IsSaidHere, says, suits}
use Rattle.consensus_laws.proofs.{LineTexts.lines_are, Quiet.is_quiet}

-- the row of a line
abbrev pub random_of_table : Keyword → Row ConsensusKind
random_of_table keyword = row keyword Optional kind.Random

-- an item of a shared random value
abbrev pub random_entry : Keyword → SharedRandom → ConsensusEntry
random_entry keyword random = own_entry keyword (random_text random) (λ p. own.Random random)

-- the same where there is one
abbrev pub random_if : Keyword → Option SharedRandom → List ConsensusEntry
random_if keyword None = []
random_if keyword (Some random) = random_entry keyword random ∷ []

abbrev pub random_row : Keyword → Option SharedRandom → ConsensusRow
random_row keyword random = record { row = random_of_table keyword; entries = random_if keyword random }

-- nothing is remembered of it
pub random_quiet : (keyword : Keyword) (random : Option SharedRandom) → EachPasses is_quiet (random_if keyword random)
random_quiet keyword None = tt
random_quiet keyword (Some random) = both_hold (λ place. refl) tt

pub said_random : (flavour : Flavour) (keyword : Keyword) (random : Option SharedRandom)
    → IfSome random IsRandomInRange → IsSaidHere flavour (random_row keyword random)
said_random flavour keyword None are = said_none (consensus_tables flavour) (random_of_table keyword) refl
said_random flavour keyword (Some random) are =
    said_once (consensus_tables flavour) (random_of_table keyword) (random_entry keyword random)
    (suits flavour keyword Optional kind.Random (random_entry keyword random) refl (λ p. refl)
    (λ across p. ap (says (λ (found : SharedRandom). value.Own (own.Random found))) (random_again p keyword random are)))

-- it is read as it was written
pub random_said : {limit : ℕ} {bytes : List ℕ} {taken : List (Taken (Value ConsensusValue))} {place : ℕ}
    (keyword : Keyword) (random : Option SharedRandom) → IsRead limit bytes taken place (random_row keyword random)
    → random_in (item_at taken keyword) ≡ random
random_said keyword None read = ap random_in (item_of_row read)
random_said keyword (Some random) read = ap random_in (item_of_row read)

-- ---- items and texts

-- its item is that of the text
pub random_items_are : (keyword : Keyword) (random : Option SharedRandom)
    → item_if keyword (option_map random_text random) ≡ map item_of (random_if keyword random)
random_items_are keyword None = refl
random_items_are keyword (Some random) = refl

-- its line is that of its item
pub random_is : (keyword : Keyword) (random : Option SharedRandom)
    → random_line (text_of keyword) random ≡ items_text (item_if keyword (option_map random_text random))
random_is keyword None = refl
random_is keyword (Some random) =
    lines_are keyword (decimal random.count ∷ padded_text random.value ∷ [])
    (length-word (decimal random.count) (word_of_number random.count))
