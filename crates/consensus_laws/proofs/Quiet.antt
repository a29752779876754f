-- Items of a consensus of which nothing is remembered: all but those that say who a relay is, and the signatures.
use Rattle.std.proofs.Common.{◌≡◌, ℕ, Bool, true, false, List, [], ◌∷◌, ◌++◌, Option, Some, None, Ok, refl}
use Rattle.frame_terms.specs.{Tables.Tables, declared.keyword.Keyword.Keyword}
use Rattle.frame_values.specs.declared.values.Value.{Value}
use Rattle.frame_values.specs.declared.values.Value.TheVariants as value
use Rattle.frame_laws.proofs.{Both.both_hold, Passing.{EachPasses, IsForgotten, both_pass}, RowValues.text_entry_if}
use Rattle.frame_laws.proofs.SaidRows.{AreSaid, RowSays, entries_of}
use Rattle.consensus_terms.specs.declared.flavour.Flavour.{Flavour}
use Rattle.consensus_frame.specs.{Tables.{consensus_tables, note_value}, declared.across.Across.Across}
use Rattle.consensus_frame.specs.declared.value.ConsensusValue.{ConsensusValue}
use Rattle.consensus_frame.specs.declared.value.ConsensusValue.TheVariants as own
use Rattle.consensus_laws.proofs.ConsensusItems.{ConsensusRow}

-- it says nothing of an entry, and is no signature
abbrev pub is_quiet : Value ConsensusValue → Bool
is_quiet (value.Own (own.Entry said)) = false
is_quiet (value.Own (own.Signature signature)) = false
is_quiet _ = true

unheard : (across : Across) (place : ℕ) (v : Value ConsensusValue) → is_quiet v ≡ true
    → note_value across place v ≡ Ok across
unheard across place value.Nothing is = refl
unheard across place (value.Text text) is = refl
unheard across place (value.Number number) is = refl
unheard across place (value.Fingerprint identity) is = refl
unheard across place (value.Object lines) is = refl
unheard across place (value.Own (own.Delays a b)) is = refl
unheard across place (value.Own (own.Source source)) is = refl
unheard across place (value.Own (own.Random random)) is = refl
unheard across place (value.Own (own.VoteDigest digest)) is = refl
unheard across place (value.Own (own.Bandwidth bandwidth)) is = refl
unheard across place (value.Own (own.MicroDigest digest)) is = refl
unheard across place (value.Own (own.Signature signature)) is = absurd cc
unheard across place (value.Own (own.Entry said)) is = absurd cc

pub forgotten : (flavour : Flavour) → IsForgotten (consensus_tables flavour) is_quiet
forgotten flavour across one is = unheard across one.place one.value is

-- ---- rows

-- the items of each row are such
abbrev pub AreQuiet : List ConsensusRow → Type 0
AreQuiet [] = Unit {0}
AreQuiet (says ∷ rows) = EachPasses is_quiet says.entries × AreQuiet rows

pub rows_quiet : (rows : List ConsensusRow) → AreQuiet rows → EachPasses is_quiet (entries_of rows)
rows_quiet [] quiet = tt
rows_quiet (says ∷ rows) quiet =
    both_pass is_quiet says.entries (entries_of rows) quiet.0 (rows_quiet rows quiet.1)

-- a text or none
pub text_quiet : (keyword : Keyword) (text : Option (List ℕ)) → EachPasses is_quiet (text_entry_if keyword text)
text_quiet keyword None = tt
text_quiet keyword (Some text) = both_hold (λ place. refl) tt

-- ---- the rows of two lists

module _ {S K V X : Type 0} where
  pub both_said : (tables : Tables S K V X) (front back : List (RowSays K V)) → AreSaid tables front
      → AreSaid tables back → AreSaid tables (front ++ back)
  both_said tables [] back a b = b
  both_said tables (one ∷ front) back a b = both_hold a.0 (both_said tables front back a.1 b)
