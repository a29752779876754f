-- From the clause of a run to the headline.
use Rattle.std.proofs.Common.{◌≡◌, ◌∙◌, ℕ, Bool, List, length, refl, sym, ap, subst, Option, Some, Ok, Err, arith}
use Rattle.std.{proofs.lemmas.List.length-map, specs.{Prelude.map, Io.KnownBytes.Appends}}
use Rattle.key_port.specs.{Answers.{Relation, Rules}, Signing.SignerSteps}
use Rattle.count_terms.specs.declared.newest.Newest.{Newest}
use Rattle.daemon_words.specs.declared.command.Command.TheVariants as command
use Rattle.daemon_words.specs.declared.command.{Compute.Compute, Measures.Measures}
use Rattle.dir_values.specs.declared.digest.Fingerprint.{Fingerprint}
use Rattle.exit_status.specs.{declared.status.Status.Status, Told.by_compute}
use Rattle.exit_status.specs.declared.status.Status.TheVariants as status
use Rattle.exit_status.specs.declared.status.Refusal.TheVariants as refusal
use Rattle.vote_terms.{specs.Votes.ReadVote, proofs.HeldLaw.{held_law, held_agree}}
use Rattle.compute_terms.specs.Consensuses.{consensus}
use Rattle.compute_command.{specs.Answers.{Computes, texts_of}, proofs.NotRefused.not_refused}
use Rattle.period_terms.specs.{declared.state.State.State, Histories.{IsStart, after}}
use Rattle.period_laws.specs.Checked.{IsCheckedHistory}
use Rattle.period_lock.specs.Turns.{entries}
use Rattle.serve_board.specs.Boards.{Locks, Parts}
use Rattle.station_commands.specs.Order.{roster_in}
use Rattle.serve_command.specs.Serving.{HasServed}
use Rattle.serve_command.specs.Passed.TheVariants as served
use Rattle.serve_work.specs.Serving.{LeavesBoard}
use Rattle.authority_daemon.specs.{Commands.{Answers, May}, Moments.Telling, Runs.{Ends, KeepsLimit, Told}}
use Rattle.authority_daemon.specs.{Served.EndsOn, World.IsRun}
use Rattle.headline.{proofs.Right.are_right, specs.Headline.{IsComputedAlone, LeavesOneList, ServesRightly}}
use Rattle.headline.specs.Laws.{ComputeSays, EndsForMemoryAlone, MajoritiesFailForMemoryAlone, ServeSays, TextsAgree}

-- ---- `compute`

alone_by : (rules : Rules) (wanted : Compute) (bytes text : List ℕ) (old new : Option (List ℕ))
    → Computes rules wanted bytes text → Appends old new text → IsComputedAlone rules wanted bytes old new
alone_by rules wanted bytes text old new is put = record {
  votes = is.votes;
  read = is.read;
  acceptable = is.acceptable;
  held_are = held_law is.votes;
  enough = is.enough;
  written = subst (λ (t : List ℕ). Appends old new t) is.written put;
}

pub compute_says : (S C V N G L : Type 0) (its : May N) → ComputeSays S C V N G L its
compute_says S C V N G L its wanted old new bytes left run =
    let told : Ends (Answers its (command.Compute wanted) new.last bytes old.signer
    new.signer) old.written new.written status.Done =
    subst (λ l. Told l (λ input. Ends (Answers its (command.Compute wanted) new.last input old.signer new.signer)
    old.written new.written status.Done)) left (run.ends (command.Compute wanted) refl) in
    alone_by its.rules wanted bytes told.0 old.written new.written told.1 told.2

-- A status of `compute` that meets the clauses of a run, where the input has to be answered.
pub fail_for_memory_alone : (S C V N G L : Type 0) (its : May N) → MajoritiesFailForMemoryAlone S C V N G L its
fail_for_memory_alone S C V N G L its wanted old new bytes s left within can is = by s is
  where
    by : (s : Status) → IsRun its (Some (command.Compute wanted)) old new s → EndsForMemoryAlone old new s
    by status.Done is = tt
    by status.Memory is = tt
    by status.BadWords is = absurd (cc is.words)
    by status.ReadFault is = is.source.cause refl
    by status.WriteFault is = is.sink.cause refl
    by status.TooLong is =
        let over = subst (λ l. Told l (λ input. KeepsLimit input status.TooLong)) left
        (is.limit (command.Compute wanted) refl) in absurd (omega (arith, over, within))
    by (status.Refused why) is =
        let refuses : Answers its (command.Compute wanted) new.last bytes old.signer new.signer (Err why) =
        subst (λ l. Told l (λ input. Ends (Answers its (command.Compute wanted) new.last input old.signer new.signer)
        old.written new.written (status.Refused why))) left (is.ends (command.Compute wanted) refl) in
        let same : why ≡ refusal.Verifier =
        refuses.1 ∙ ap by_compute (not_refused its.rules wanted bytes refuses.0 can refuses.2) in
        subst (λ w. EndsForMemoryAlone old new (status.Refused w)) (sym same)
        (is.verifier.cause (ap (λ w. status.Refused w) same))

pub texts_agree : TextsAgree
texts_agree rules wanted bytes others old new old' new' one other same apart =
    ap (λ (votes : List ReadVote). texts_of wanted.flavours (consensus wanted.newest (length wanted.roster) votes))
    (held_agree one.votes other.votes same apart)

-- ---- `serve`

-- the list that a board left
one_list : (rules : Rules) (start : State) (board : Locks) (HasDone : Parts → Parts → Type 0) (began : List Parts)
    (IsSuch : State → Type 0) (leaves : LeavesBoard rules board HasDone began IsSuch) → IsStart start
    → board.state.start ≡ start
    → LeavesOneList rules start (map (λ (p : Parts). p.state) leaves.ended) leaves.left
one_list rules start board HasDone began IsSuch leaves begin there =
    let ends = leaves.leaves.state in
    let is_story : IsCheckedHistory rules start (entries ends.story) =
    subst (λ (s : State). IsCheckedHistory rules s (entries ends.story)) there ends.stands_for.is_story in
    record {
      story = ends.story;
      mine = ends.mine;
      whole = ends.whole;
      left_is = subst (λ (s : State). leaves.left ≡ after s (entries ends.story)) there ends.stands_for.value_is;
      right = are_right rules start (entries ends.story) begin is_story;
    }

serves : {N C G : Type 0} (rules : Rules) (gives : Relation) (steps : SignerSteps N) (last : C → ℕ) (faults : G → ℕ)
    (closed : G → Bool) (from : Measures) (newest : Newest) (now : ℕ) (bytes : List ℕ) (gates gates' : List G)
    (old new : Option (List ℕ)) (before then : ℕ)
    → HasServed rules gives steps last faults closed from newest now bytes gates gates' old new before then served.Whole
    → ServesRightly rules from newest bytes (length gates) old new
serves rules gives steps last faults closed from newest now bytes gates gates' old new before then has =
    let leaves = has.serves.1 in
    let begins = has.starts.start_is in
    record {
      now = now;
      given = has.its.given;
      used = has.starts.used;
      stands = has.starts.stands;
      start = has.its.start;
      is_start = has.starts.is_start;
      roster_is = subst (λ (l : List Fingerprint). roster_in has.its.given ≡ Ok l)
          (sym (ap (λ (s : State). s.roster) begins.starts.1.2)) begins.members;
      newest_is = ap (λ (s : State). s.newest) begins.starts.1.2;
      passes = map (λ (p : Parts). p.state) leaves.ended;
      workers = length-map leaves.ended (λ (p : Parts). p.state) ∙ leaves.count ∙ has.is_board.length_is;
      left = leaves.left;
      one_list = one_list rules has.its.start has.board _ has.passes _ leaves has.starts.is_start has.is_board.state;
      report = leaves.such.0;
    }

pub serve_says : (S C V N G L : Type 0) (its : May N) (tells : Telling C G) → ServeSays S C V N G L its tells
serve_says S C V N G L its tells wanted old new bytes left run =
    let once = subst (λ (l : Option (List ℕ)). Told l (λ input. EndsOn its tells wanted old new input status.Done))
    left run.ends in
    serves its.rules its.gives its.steps tells.last tells.faults tells.closed wanted.bandwidths wanted.newest
    (tells.last once.clock) bytes old.gates new.gates old.written new.written old.write_faults new.write_faults once.is
