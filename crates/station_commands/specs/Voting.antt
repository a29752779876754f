-- The vote that is made of what a station is given, or why there is none.
use Rattle.std.specs.{Prelude.{◌≡◌, ◌⊎◌, ℕ, ◌≤◌, List, length, None, Result, Ok, Err}, Global.Vec}
use Rattle.dir_bytes.specs.Causes.{last_moment}
use Rattle.key_port.specs.{Answers.{Relation, Rules}, Signing.SignerSteps}
use Rattle.flag_rules.specs.{Rules.{RuleAlike, list_allows}, declared.operator.OperatorRule.OperatorRule}
use Rattle.count_terms.specs.declared.newest.Newest.{Newest}
use Rattle.frame_terms.specs.declared.fault.ReadRefusal.TheVariants as read
use Rattle.frame_terms.specs.declared.fault.FrameFault.{FrameFault}
use Rattle.daemon_words.specs.declared.stop.Stop.{Stop}
use Rattle.daemon_words.specs.declared.stop.Stop.TheVariants as stop
use Rattle.station_input.specs.{Reading.station_of, declared.facts.StationFacts.StationFacts}
use Rattle.vote_pool.specs.Pools.{Pooled}
use Rattle.vote_schedule.specs.Moments.{AnswersNext, IsNext, valid_until}
use Rattle.vote_maker.specs.{Made.{Basis, schedule_in}, Making.{IsMade, RefusesToMake}}
use Rattle.vote_maker.specs.declared.refusal.MakeRefusal.{MakeRefusal}
use Rattle.station_commands.specs.{Descriptors.{IsPoolOf, RefusesDescriptors}, Order.{IsInOrder, IsOutOfOrder}}
use Rattle.station_commands.specs.Told.{by_end, by_fault, by_order, by_pool, make_refused}
use Rattle.station_commands.specs.declared.refusal.{MakeVoteRefusal.MakeVoteRefusal, OrderWord.OrderWord}
use Rattle.station_commands.specs.declared.refusal.{PoolRefusal.PoolRefusal, StationRefusal.StationRefusal}
use Rattle.station_commands.specs.declared.refusal.MakeVoteRefusal.TheVariants as refusal
use Rattle.station_commands.specs.declared.refusal.StationRefusal.TheVariants as station

-- ---- of what the vote is made

-- What a station is given is in order, and the descriptors that stand in the input from a place on, each of which holds,
-- and for which the pool has room, make this pool.
pub record HasPool (rules : Rules) (given : StationFacts) (used : ℕ) (bytes : List ℕ) (pool : Pooled) : Type 0 where
  pub order : IsInOrder given (schedule_in given)
  pub pool_of : IsPoolOf rules given.newest used bytes pool

-- At this moment a consensus can still be made, the next of the schedule; this is what its vote is made of.
pub record IsBasisOf (rules : Rules) (now : ℕ) (given : StationFacts) (used : ℕ) (bytes : List ℕ) (its : Basis) : Type 0 where
  pub pool : Pooled
  pub has_pool : HasPool rules given used bytes pool
  pub station_is : its.station ≡ given
  pub descriptors_are : its.descriptors ≡ pool.descriptors
  pub next : IsNext (schedule_in given) 0 now its.valid_after
  pub life : valid_until (schedule_in given) its.valid_after ≤ last_moment
  pub moment_is : its.moment ≡ now

-- ---- the vote

-- A vote was made of its basis, under the rules of the station's operator.
pub record IsVoteOf {N : Type 0} (rules : Rules) (gives : Relation) (steps : SignerSteps N) (its : Basis)
    (text : List ℕ) (old new : N) : Type 0 where
  pub rulings : List OperatorRule
  pub alike : RuleAlike its.station.rules rulings
  pub made : IsMade rules gives steps (list_allows rulings) its text old new

-- None was made, and the command stops so.
pub record MakesNone {N : Type 0} (rules : Rules) (gives : Relation) (steps : SignerSteps N) (its : Basis)
    (why : Stop MakeVoteRefusal) (old new : N) : Type 0 where
  pub rulings : List OperatorRule
  pub alike : RuleAlike its.station.rules rulings
  pub refusal : MakeRefusal
  pub told : why ≡ make_refused refusal
  pub refused : RefusesToMake rules gives steps (list_allows rulings) its refusal old new

-- the vote of its basis, or why there is none
abbrev pub GivesVote : {N : Type 0} → Rules → Relation → SignerSteps N → Basis → Result (Vec ℕ) (Stop MakeVoteRefusal) → N → N
    → Type 0
GivesVote rules gives steps its (Ok text) old new = IsVoteOf rules gives steps its text.items old new
GivesVote rules gives steps its (Err stop.Memory) old new = Unit {0}
GivesVote rules gives steps its (Err (stop.Refused why)) old new =
    MakesNone rules gives steps its (stop.Refused why) old new

-- ---- what is answered for a station

-- why no vote is made at a moment for a station that is given this, of the descriptors from a place on, by the first that
-- applies: it is not in order; the descriptors are refused; there is no period any more; or no vote is made of its basis
abbrev pub RefusesVote : {N : Type 0} → Rules → Relation → SignerSteps N → ℕ → StationFacts → ℕ → List ℕ
    → MakeVoteRefusal → N → N → Type 0
RefusesVote rules gives steps now given used bytes why old new =
    ((word : OrderWord) × (why ≡ by_order word) × IsOutOfOrder given word)
    ⊎ (IsInOrder given (schedule_in given)
    × ((pool : PoolRefusal) × (why ≡ by_pool pool) × RefusesDescriptors rules given.newest used bytes pool))
    ⊎ ((pool : Pooled) × HasPool rules given used bytes pool × (why ≡ by_end)
    × AnswersNext (schedule_in given) 0 now None)
    ⊎ ((its : Basis) × IsBasisOf rules now given used bytes its
    × MakesNone rules gives steps its (stop.Refused why) old new)

-- what is answered for it: a signed vote, or a refusal
abbrev pub VoteAnswers : {N : Type 0} → Rules → Relation → SignerSteps N → ℕ → StationFacts → ℕ → List ℕ
    → Result (List ℕ) MakeVoteRefusal → N → N → Type 0
VoteAnswers rules gives steps now given used bytes (Ok text) old new =
    (its : Basis) × IsBasisOf rules now given used bytes its × IsVoteOf rules gives steps its text old new
VoteAnswers rules gives steps now given used bytes (Err why) old new =
    RefusesVote rules gives steps now given used bytes why old new

-- ---- the command

-- the answer is that the input does not begin with what a station is given
abbrev pub IsFaulty : Newest → List ℕ → Result (List ℕ) MakeVoteRefusal → Type 0
IsFaulty newest bytes answer =
    (fault : FrameFault) × (answer ≡ Err (by_fault fault)) × (station_of newest bytes ≡ Err (read.Frame fault))

-- what the command answers to an input at a moment, where this is the newest method that is known: why it does not
-- begin with what a station is given; or else what is answered for that station
abbrev pub MakeVoteAnswers : {N : Type 0} → Rules → Relation → SignerSteps N → Newest → ℕ → List ℕ
    → Result (List ℕ) MakeVoteRefusal → N → N → Type 0
MakeVoteAnswers rules gives steps newest now bytes answer old new =
    IsFaulty newest bytes answer
    ⊎ ((given : StationFacts) × (used : ℕ) × (station_of newest bytes ≡ Ok (given, used))
    × VoteAnswers rules gives steps now given used bytes answer old new)

-- ---- what is asked

-- what is refused before a descriptor is checked
abbrev pub IsBeforeDescriptors : StationRefusal → Type 0
IsBeforeDescriptors (station.Fault fault) = Unit {0}
IsBeforeDescriptors (station.Order why) = Unit {0}
IsBeforeDescriptors _ = ⊥

-- the same, of the command
abbrev pub IsOfStation : Stop MakeVoteRefusal → Type 0
IsOfStation (stop.Refused (refusal.Station why)) = IsBeforeDescriptors why
IsOfStation _ = ⊥

-- what is refused before the signer is asked
abbrev pub IsBeforeSigner : Stop MakeVoteRefusal → Type 0
IsBeforeSigner (stop.Refused (refusal.Station why)) = Unit {0}
IsBeforeSigner (stop.Refused refusal.Verifier) = Unit {0}
IsBeforeSigner _ = ⊥

-- ---- what the private functions give

-- what a station is given, and the place behind it, or its first fault, or there was no memory
abbrev pub GivesStation : Newest → List ℕ → Result (StationFacts × ℕ) (Stop FrameFault) → Type 0
GivesStation newest bytes (Ok (given, used)) = (station_of newest bytes ≡ Ok (given, used)) × (used ≤ length bytes)
GivesStation newest bytes (Err stop.Memory) = Unit {0}
GivesStation newest bytes (Err (stop.Refused fault)) = station_of newest bytes ≡ Err (read.Frame fault)
