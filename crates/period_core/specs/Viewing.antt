-- The state that an authority's parts make.
use Rattle.std.specs.Prelude.{ℕ, List, Option}
use Rattle.count_terms.specs.declared.newest.Newest.{Newest}
use Rattle.dir_values.specs.declared.digest.Fingerprint.{Fingerprint}
use Rattle.consensus_terms.specs.declared.{consensus.Consensus.Consensus, signature.SignatureLine.SignatureLine}
use Rattle.vote_terms.specs.Votes.{ReadVote}
use Rattle.period_terms.specs.declared.{change.Change.Change, stage.Stage.Stage, state.State.State}
use Rattle.vote_schedule.specs.Schedules.{Schedule}

-- the state of these parts
abbrev pub state_of : List Fingerprint → Fingerprint → Newest → Schedule → ℕ → Stage → List ReadVote → ℕ
    → Option Consensus → List SignatureLine → List SignatureLine
    → Option (List ℕ) → Option (List ℕ) → ℕ → ℕ → List Change → State
state_of roster own newest schedule valid_after stage votes vote_changes computed ns_lines micro_lines ns_current
    micro_current front base changes = record {
      roster = roster;
      own = own;
      newest = newest;
      schedule = schedule;
      valid_after = valid_after;
      stage = stage;
      votes = votes;
      vote_changes = vote_changes;
      computed = computed;
      ns_lines = ns_lines;
      micro_lines = micro_lines;
      ns_current = ns_current;
      micro_current = micro_current;
      front = front;
      base = base;
      changes = changes;
    }
