-- What is read as the current consensus was published.
use Rattle.std.{proofs.Common.{◌≡◌, ℕ, List, Option, Some, None, Result, Ok, Err, sym}, specs.Prelude.MatchResult}
use Rattle.dir_bytes.specs.declared.fault.Memory.{Memory}
use Rattle.key_port.specs.Answers.{Rules}
use Rattle.consensus_terms.specs.declared.flavour.Flavour.{Flavour}
use Rattle.period_lock.specs.Turns.{entries}
use Rattle.period_terms.specs.declared.name.Name.TheVariants as names
use Rattle.period_terms.specs.{declared.state.State.State, Readings.document_of}
use Rattle.period_laws.proofs.Currents.{were_published}
use Rattle.serve_board.specs.Boards.{Locks, Parts, Sees}
use Rattle.serve_answers.{specs.Finding.{IsPublished, ReadsCurrent}, proofs.Nothing.sees_adds}

module _ (rules : Rules) (board : Locks) (before then : Parts) (flavour : Flavour) where
  stood : (found : Option (List ℕ))
      → Sees rules board before then (λ state answer. answer ≡ document_of state (names.Current flavour)) found
      → IsPublished rules board before then flavour found
  stood None sees = tt
  stood (Some text) sees =
      λ begin. were_published rules board.state.start (entries then.state.seen) begin sees.takes.is_story flavour
      text (sym sees.takes.right_there)

  -- a copy of the current consensus is of one that was published
  pub copied : (result : Result (Option (List ℕ)) Memory)
      → Sees rules board before then
      (λ (state : State) (answer : Result (Option (List ℕ)) Memory).
      MatchResult answer (λ text. text ≡ document_of state (names.Current flavour)) (λ _. Unit {0})) result
      → ReadsCurrent rules board before then flavour result
  copied (Ok found) sees =
      let seen : Sees rules board before then
      (λ state answer. answer ≡ document_of state (names.Current flavour)) found = record {
        takes = record {
          longer = sees.takes.longer;
          right_there = sees.takes.right_there;
          mine = sees.takes.mine;
          is_story = sees.takes.is_story;
          owns = sees.takes.owns;
          number = sees.takes.number;
          of = sees.takes.of;
        };
        pool = sees.pool;
      } in
      (seen, stood found seen)
  copied (Err fault) sees = sees_adds rules board before then _ (Err fault) sees
