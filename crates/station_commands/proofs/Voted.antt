-- The vote that is made of what a station is given, call by call.
use Rattle.std.proofs.Common.{◌≡◌, ℕ, ◌≤◌, List, Option, Some, Result, Ok, Err, refl, sym, subst}
use Rattle.std.{proofs.lemmas.Bool.false≢true, specs.{Global.Vec, Prelude.IfErr}}
use Rattle.dir_bytes.specs.Causes.{last_moment}
use Rattle.key_port.specs.{Answers.{Relation, Rules}, Signing.SignerSteps}
use Rattle.authority_certs.specs.declared.checking.CertAnswer.TheVariants as answer
use Rattle.flag_rules.specs.{Rules.{RuleAlike, list_allows}, declared.operator.OperatorRule.OperatorRule}
use Rattle.daemon_words.specs.{Stops.Answered, declared.stop.Stop.Stop}
use Rattle.daemon_words.specs.declared.stop.Stop.TheVariants as stop
use Rattle.station_input.specs.declared.facts.StationFacts.{StationFacts}
use Rattle.vote_pool.specs.Pools.{Pooled}
use Rattle.vote_schedule.specs.{Moments.{AnswersNext, valid_until}, Schedules.Schedule}
use Rattle.vote_maker.specs.{Made.{Basis, basis, schedule_in}, Making.{IsMade, RefusesToMake}}
use Rattle.vote_maker.specs.declared.refusal.MakeRefusal.{MakeRefusal}
use Rattle.vote_maker.specs.declared.refusal.MakeRefusal.TheVariants as make
use Rattle.station_commands.specs.{Order.IsInOrder, Told.make_refused, Voting.{GivesVote, HasPool, IsBasisOf}}
use Rattle.station_commands.specs.Voting.{IsBeforeSigner, IsOfStation}
use Rattle.station_commands.{specs.declared.refusal.MakeVoteRefusal.MakeVoteRefusal, proofs.Schedules.schedule_is}
use Rattle.station_commands.proofs.Stopping.{Ends, no_vote, unsigned, vote_not_of_station}
use Rattle.station_commands.specs.declared.refusal.MakeVoteRefusal.TheVariants as refusal

-- ---- one vote

module _ {N : Type 0} (rules : Rules) (gives : Relation) (steps : SignerSteps N) (its : Basis) (old new : N) where
  -- a vote was made under a list that the hook read
  pub voted : (list others : List OperatorRule) (text : Vec ℕ) → RuleAlike its.station.rules list → others ≡ list
      → IsMade rules gives steps (list_allows others) its text.items old new
      → GivesVote rules gives steps its (Ok text) old new
  voted list others text alike is made = record {
    rulings = others;
    alike = subst (λ (l : List OperatorRule). RuleAlike its.station.rules l) (sym is) alike;
    made = made;
  }

  -- none was made
  pub not_voted : (list others : List OperatorRule) (found : MakeRefusal) (why : Stop MakeVoteRefusal) → RuleAlike its.station.rules list
      → others ≡ list → RefusesToMake rules gives steps (list_allows others) its found old new
      → why ≡ make_refused found → GivesVote rules gives steps its (Err why) old new
  not_voted list others found stop.Memory alike is refuses told = tt
  not_voted list others found (stop.Refused why) alike is refuses told = record {
    rulings = others;
    alike = subst (λ (l : List OperatorRule). RuleAlike its.station.rules l) (sym is) alike;
    refusal = found;
    told = told;
    refused = refuses;
  }

  -- what is told of the verifier is that it failed
  pub failed_verifier : (rulings : List OperatorRule) (found : MakeRefusal)
      → RefusesToMake rules gives steps (list_allows rulings) its found old new
      → make_refused found ≡ stop.Refused refusal.Verifier → found ≡ make.VerifierFault
  failed_verifier rulings (make.OwnCert answer.Checked) refuses is = absurd (false≢true refuses.0)
  failed_verifier rulings (make.OwnCert answer.WrongFingerprint) refuses is = absurd (cc is)
  failed_verifier rulings (make.OwnCert (answer.Expired at expires)) refuses is = absurd (cc is)
  failed_verifier rulings (make.OwnCert answer.BadCertification) refuses is = absurd (cc is)
  failed_verifier rulings (make.OwnCert answer.BadCrosscert) refuses is = absurd (cc is)
  failed_verifier rulings (make.OwnCert answer.VerifierFault) refuses is = absurd (false≢true refuses.0)
  failed_verifier rulings make.SignerFault refuses is = absurd (cc is)
  failed_verifier rulings make.VerifierFault refuses is = refl
  failed_verifier rulings (make.TooLong count) refuses is = absurd (cc is)
  failed_verifier rulings make.Memory refuses is = absurd (cc is)

  -- where the answer is known, the vote is as given, and what was asked before
  pub unsigned_of : (result : Result (Vec ℕ) (Stop MakeVoteRefusal)) → GivesVote rules gives steps its result old new
      → IfErr result (λ why. IsBeforeSigner why → new ≡ old)
  unsigned_of (Ok text) is = tt
  unsigned_of (Err why) is = unsigned rules gives steps its old new why is

  pub unasked_of : {V : Type 0} (before after : V) (result : Result (Vec ℕ) (Stop MakeVoteRefusal))
      → GivesVote rules gives steps its result old new → IfErr result (λ why. IsOfStation why → after ≡ before)
  unasked_of before after (Ok text) is = tt
  unasked_of before after (Err why) is = λ of. absurd (vote_not_of_station rules gives steps its old new why is of)

-- what is told of the signer is that it failed
pub failed_signer : (found : MakeRefusal) → make_refused found ≡ stop.Refused refusal.Signer → found ≡ make.SignerFault
failed_signer (make.OwnCert answer.Checked) is = absurd (cc is)
failed_signer (make.OwnCert answer.WrongFingerprint) is = absurd (cc is)
failed_signer (make.OwnCert (answer.Expired at expires)) is = absurd (cc is)
failed_signer (make.OwnCert answer.BadCertification) is = absurd (cc is)
failed_signer (make.OwnCert answer.BadCrosscert) is = absurd (cc is)
failed_signer (make.OwnCert answer.VerifierFault) is = absurd (cc is)
failed_signer make.SignerFault is = refl
failed_signer make.VerifierFault is = absurd (cc is)
failed_signer (make.TooLong count) is = absurd (cc is)
failed_signer make.Memory is = absurd (cc is)

-- ---- what it is made of

-- a station in order, by its own schedule
pub in_order : (given : StationFacts) (schedule : Schedule) → IsInOrder given schedule → IsInOrder given (schedule_in given)
in_order given schedule order =
    subst (λ (s : Schedule). IsInOrder given s) (schedule_is given schedule order.scheduled) order

-- the next period is that of the same schedule
pub at_moment : (schedule own : Schedule) (now : ℕ) (next : Option ℕ) → schedule ≡ own → AnswersNext schedule 0 now next
    → AnswersNext own 0 now next
at_moment schedule own now next same is = subst (λ (s : Schedule). AnswersNext s 0 now next) same is

-- the life of what is made ends within the moments
pub within_moments : (schedule own : Schedule) (now valid_after : ℕ) → schedule ≡ own
    → AnswersNext schedule 0 now (Some valid_after) → valid_until own valid_after ≤ last_moment
within_moments schedule own now valid_after same is = (at_moment schedule own now (Some valid_after) same is).1

-- this is what a vote is made of
pub has_basis : (rules : Rules) (given : StationFacts) (used : ℕ) (bytes : List ℕ) (pool : Pooled) (schedule : Schedule)
    (now valid_after : ℕ) → schedule ≡ schedule_in given → HasPool rules given used bytes pool
    → AnswersNext schedule 0 now (Some valid_after)
    → IsBasisOf rules now given used bytes (basis given pool.descriptors valid_after now)
has_basis rules given used bytes pool schedule now valid_after same has next =
    let there = at_moment schedule (schedule_in given) now (Some valid_after) same next in
    record {
      pool = pool;
      has_pool = has;
      station_is = refl;
      descriptors_are = refl;
      next = there.0;
      life = there.1;
      moment_is = refl;
    }

-- what is answered is the vote, or why there is none
pub voted_at : {N : Type 0} (rules : Rules) (gives : Relation) (steps : SignerSteps N) (now : ℕ) (given : StationFacts)
    (used : ℕ) (bytes : List ℕ) (old new : N) (its : Basis) (result : Result (Vec ℕ) (Stop MakeVoteRefusal))
    → IsBasisOf rules now given used bytes its → GivesVote rules gives steps its result old new
    → Answered (Ends rules gives steps now given used bytes old new) result
voted_at rules gives steps now given used bytes old new its (Ok text) has is = (its, has, is)
voted_at rules gives steps now given used bytes old new its (Err why) has is =
    no_vote rules gives steps now given used bytes old new its why has is
