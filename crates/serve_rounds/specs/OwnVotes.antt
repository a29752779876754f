-- The vote that an authority makes at a board (dir-spec, "Voting timeline").
use Rattle.std.specs.Prelude.{◌≡◌, ℕ, Bool, List}
use Rattle.key_port.specs.{Answers.{Relation, Rules}, Signing.SignerSteps}
use Rattle.descriptor_doc.specs.declared.descriptor.Descriptor.{Descriptor}
use Rattle.flag_rules.specs.declared.{relay.RelayFacts.RelayFacts, ruling.Ruling.Ruling}
use Rattle.station_input.specs.declared.facts.StationFacts.{StationFacts}
use Rattle.lone_vote.specs.Alone.{IsVote}
use Rattle.vote_maker.specs.{Made.basis, Making.IsMade}
use Rattle.vote_terms.specs.{Acceptable.IsVerified, Votes.ReadVote}
use Rattle.period_terms.specs.{declared.entry.Entry.Entry, Histories.after}
use Rattle.period_laws.specs.Checked.{IsCheckedHistory}
use Rattle.serve_board.specs.{Boards.{Locks, Parts}, Stocks.{stock_after, AreKept}}
use Rattle.period_lock.specs.Turns.{entries}
use Rattle.serve_rounds.specs.Spans.{WasSeen}

-- The board was in the period that begins then, at some time between.
pub record IsPeriodOf (rules : Rules) (board : Locks) (from to : Parts) (valid_after : ℕ) : Type 0 where
  pub place : List (ℕ × Entry)
  pub seen : WasSeen from.state.seen to.state.seen place
  pub is_story : IsCheckedHistory rules board.state.start (entries place)
  pub begins : valid_after ≡ (after board.state.start (entries place)).valid_after

module _ {N : Type 0} (rules : Rules) (gives : Relation) (steps : SignerSteps N)
    (allows : RelayFacts → Ruling → Bool) (station : StationFacts) where
  -- The text is that of a vote that is made at a moment for a period, of what the authority is given and of these
  -- descriptors.
  abbrev pub IsTextMade : List Descriptor → ℕ → ℕ → List ℕ → Type 0
  IsTextMade descriptors valid_after now text =
      (old : N) × (new : N) × IsMade rules gives steps allows (basis station descriptors valid_after now) text old new

  -- The text is that of a vote that is made at a moment for a period, of what the authority is given and of the
  -- descriptors of the pool that stood at the board at some time between.
  pub record IsTextOfBoard (board : Locks) (from to : Parts) (valid_after now : ℕ) (text : List ℕ) : Type 0 where
    pub place : List (ℕ × Descriptor)
    pub seen : WasSeen from.pool.seen to.pool.seen place
    pub are_kept : AreKept rules board.pool.start (entries place)
    pub made : IsTextMade (stock_after board.pool.start (entries place)).descriptors valid_after now text

  -- The vote is the one that the authority made so at that moment for that period, with nothing but blank lines behind it, and
  -- it holds.
  pub record IsOwnVote (board : Locks) (from to : Parts) (valid_after now : ℕ) (vote : ReadVote) : Type 0 where
    pub text : List ℕ
    pub text_is : IsTextOfBoard board from to valid_after now text
    pub is : IsVote text vote
    pub verified : IsVerified rules vote
