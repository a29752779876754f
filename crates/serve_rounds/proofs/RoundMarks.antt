-- What a round marks is what it says where it is done already.
use Rattle.std.{proofs.Common.{◌≡◌, ℕ, Bool, true, false, List, Option, None, refl, ap}, specs.Prelude.if◌then◌else◌}
use Rattle.vote_schedule.specs.declared.phase.Phase.TheVariants as phases
use Rattle.serve_rounds.specs.{declared.round.Round.Round, Plans.{marked_signatures, must_bring, marked_phase}}

-- ---- marks

already : (done : Bool) (round : Round) → round ≡ (if done then round else round)
already true round = refl
already false round = refl

abbrev fetched_now : Bool → Round → Round
fetched_now done round = record {
  valid_after = round.valid_after;
  voted = round.voted;
  fetched = done;
  signed = round.signed;
  posted = round.posted;
  gathered = round.gathered;
}

abbrev gathered_now : Bool → Round → Round
gathered_now done round = record {
  valid_after = round.valid_after;
  voted = round.voted;
  fetched = round.fetched;
  signed = round.signed;
  posted = round.posted;
  gathered = done;
}

-- what is done already
pub voted_already : (round : Round) → round ≡ marked_phase None phases.Voting round
voted_already round = already round.voted round

pub fetched_already : (vote : Option (List ℕ)) (round : Round) → round.fetched ≡ true
    → round ≡ marked_phase vote phases.Fetching round
fetched_already vote round done = ap (λ (is : Bool). fetched_now is round) done

pub gathered_already : (vote : Option (List ℕ)) (round : Round) → round.gathered ≡ true
    → round ≡ marked_phase vote phases.FetchingSignatures round
gathered_already vote round done = ap (λ (is : Bool). gathered_now is round) done

pub brought_already : (round : Round) → round ≡ marked_signatures None round
brought_already round = already (must_bring round) round

-- the branch of a test that is known
pub if_false : {A : Type 0} (test : Bool) (x y : A) → test ≡ false → (if test then x else y) ≡ y
if_false test x y isnt = ap (λ (t : Bool). if t then x else y) isnt

pub if_true : {A : Type 0} (test : Bool) (x y : A) → test ≡ true → (if test then x else y) ≡ x
if_true test x y holds = ap (λ (t : Bool). if t then x else y) holds
