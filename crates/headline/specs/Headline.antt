-- What a run of `compute` that ends with its text says, and what a run of `serve` that ends with its report says.
use Rattle.std.specs.{Prelude.{◌≡◌, ℕ, true, List, length, All, Option, Ok, IsPermutation}, List.flat_map}
use Rattle.std.specs.Io.KnownBytes.{Appends}
use Rattle.key_port.specs.Answers.{Rules}
use Rattle.count_terms.specs.{Counts.over, declared.newest.Newest.Newest}
use Rattle.daemon_words.specs.declared.command.{Compute.Compute, Measures.Measures}
use Rattle.vote_terms.specs.{Votes.ReadVote, Held.{held, IsHeld}, Acceptable.IsAcceptable}
use Rattle.compute_terms.specs.Consensuses.{consensus}
use Rattle.compute_command.specs.{Answers.texts_of, Votes.votes_of}
use Rattle.station_input.specs.declared.facts.StationFacts.{StationFacts}
use Rattle.station_commands.specs.Order.{roster_in}
use Rattle.period_terms.specs.{declared.{entry.Entry.Entry, state.State.State}, Histories.{IsStart, after}}
use Rattle.period_lock.specs.Turns.{Knowledge, entries, entries_by}
use Rattle.serve_work.specs.Reports.{report_text}
use Rattle.serve_command.specs.Starting.{StandsIn}
use Rattle.headline.specs.Times.{IsRight}

-- ---- `compute`

-- The input is votes, each acceptable; of each member that of the greatest rank is held, and of different votes of that
-- rank the first; the held votes are of more than half of the roster; and what was written is the texts of the
-- consensus of the roster and of these votes alone, by the newest method that is known.
pub record IsComputedAlone (rules : Rules) (wanted : Compute) (bytes : List ℕ) (old new : Option (List ℕ))
    : Type 0 where
  pub votes : List ReadVote
  pub read : votes_of bytes ≡ Ok votes
  pub acceptable : All (λ vote. IsAcceptable rules wanted.roster wanted.valid_after vote) votes
  pub held_are : IsHeld votes (held votes)
  pub enough : over (length (held votes)) (length wanted.roster) ≡ true
  pub written :
      Appends old new (texts_of wanted.flavours (consensus wanted.newest (length wanted.roster) (held votes)))

-- ---- `serve`

-- The passes of an authority's workers left one list of changes: it has the own changes of each pass in their order,
-- and each change of it is one pass's. The state is what the list leads to from the start, and at each time it is
-- right: what `IsRight` says of the accepted votes, of what is computed of them, and of what is published.
pub record LeavesOneList (rules : Rules) (start : State) (passes : List (Knowledge State Entry)) (left : State)
    : Type 0 where
  pub story : List (ℕ × Entry)
  pub mine : All (λ pass. entries_by pass.number story ≡ pass.mine) passes
  pub whole : IsPermutation (flat_map (λ pass. pass.mine) passes) story
  pub left_is : left ≡ after start (entries story)
  pub right : IsRight rules start (entries story)

-- The input begins with what a station is given; its authority started, of the roster that stands there, knowing that
-- newest method, with a worker for each gate; and the report on the state that they left was written.
pub record ServesRightly (rules : Rules) (from : Measures) (newest : Newest) (bytes : List ℕ) (gates : ℕ)
    (old new : Option (List ℕ)) : Type 0 where
  pub now : ℕ
  pub given : StationFacts
  pub used : ℕ
  pub stands : StandsIn from newest now bytes given used
  pub start : State
  pub is_start : IsStart start
  pub roster_is : roster_in given ≡ Ok start.roster
  pub newest_is : start.newest ≡ given.newest
  pub passes : List (Knowledge State Entry)
  pub workers : length passes ≡ gates
  pub left : State
  pub one_list : LeavesOneList rules start passes left
  pub report : Appends old new (report_text left)
