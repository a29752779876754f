-- The moments that are read are those of the calendar (dir-spec, "Vote and consensus status document formats").
use Rattle.std.specs.Prelude.{◌≡◌, ℕ, Ok}
use Rattle.item_terms.specs.Items.{Item}
use Rattle.frame_values.specs.{Lines.time_of, Parts.moment_of}
use Rattle.relay_entries.specs.Lines as vote
use Rattle.relay_entries.specs.declared.said.RelayLine.{RelayLine}
use Rattle.consensus_terms.specs.declared.flavour.Flavour.{Flavour}
use Rattle.consensus_frame.specs.Lines as consensus

-- Nothing is cut off of a moment that is read: of the line of a date and a time of day, and of when the descriptor of a
-- relay was published, in a vote and in a consensus of either flavour.
pub record MomentsAreNotCapped : Type 0 where
  pub times : (item : Item) (moment : ℕ) → time_of item ≡ Ok moment → moment_of moment ≡ moment
  pub votes : (item : Item) (relay : RelayLine) → vote.relay_of item ≡ Ok relay
      → moment_of relay.published ≡ relay.published
  pub consensuses : (flavour : Flavour) (item : Item) (relay : RelayLine) → consensus.relay_of flavour item ≡ Ok relay
      → moment_of relay.published ≡ relay.published
