-- Why the command stops, from why a call below it did.
use Rattle.std.proofs.Common.{◌≡◌, ℕ, ◌+◌, Bool, true, false, List, length, Result, Ok, Err, refl, sym, ap, subst, ◌∙◌}
use Rattle.std.{proofs.Common.{inl, inr, Option, Some, None}, specs.Global.Vec}
use Rattle.count_terms.specs.declared.newest.Newest.{Newest}
use Rattle.blank_lines.specs.Ends.{ends_at}
use Rattle.key_port.specs.{Answers.{Relation, Rules}, Signing.SignerSteps}
use Rattle.authority_certs.specs.declared.checking.CertAnswer.{CertAnswer}
use Rattle.frame_terms.specs.declared.fault.FrameFault.{FrameFault}
use Rattle.daemon_words.specs.{Stops.Answered, declared.stop.Stop.Stop}
use Rattle.daemon_words.specs.declared.stop.Stop.TheVariants as stop
use Rattle.station_input.specs.{Reading.station_of, declared.facts.StationFacts.StationFacts}
use Rattle.vote_pool.specs.Pools.{Pooled}
use Rattle.vote_maker.specs.{Made.{Basis, schedule_in}, declared.refusal.MakeRefusal.MakeRefusal, Making.RefusesToMake}
use Rattle.vote_maker.specs.declared.refusal.MakeRefusal.TheVariants as make
use Rattle.flag_rules.specs.{Rules.list_allows, declared.operator.OperatorRule.OperatorRule}
use Rattle.vote_schedule.specs.Moments.{AnswersNext}
use Rattle.station_commands.specs.{Descriptors.{FillsPool, GivesPool}, Order.{GivesSchedule, IsInOrder}, Reads.StopsAt}
use Rattle.station_commands.specs.Told.{by_end, by_word, cert_refused, cert_word, make_refused, of_fault, of_order}
use Rattle.station_commands.specs.{Told.of_pool, Voting.{GivesStation, GivesVote, HasPool, IsBasisOf, IsBeforeSigner}}
use Rattle.station_commands.specs.Voting.{IsOfStation, MakeVoteAnswers, VoteAnswers}
use Rattle.station_commands.specs.declared.refusal.{CertWord.CertWord, MakeVoteRefusal.MakeVoteRefusal}
use Rattle.station_commands.specs.declared.refusal.{OrderWord.OrderWord, PoolRefusal.PoolRefusal}
use Rattle.station_commands.proofs.Standing.{HaveBeenKept}
use Rattle.station_commands.specs.declared.refusal.MakeVoteRefusal.TheVariants as refusal
use Rattle.station_commands.specs.declared.refusal.PoolRefusal.TheVariants as descriptors

-- ---- descriptors

-- the descriptors are refused at the one where reading stops
pub stops_there : (rules : Rules) (newest : Newest) (start : ℕ) (bytes : List ℕ) (place number : ℕ) (pool : Pooled)
    (full : Bool) → HaveBeenKept rules newest start bytes place number pool full → ends_at place bytes ≡ false
    → (why : Stop PoolRefusal) → StopsAt rules newest place (number + 1) bytes why
    → GivesPool rules newest start bytes (Err why)
stops_there rules newest start bytes place number pool full have more stop.Memory stops = tt
stops_there rules newest start bytes place number pool full have more (stop.Refused (descriptors.Fault fault)) stops =
    record { descriptors = have.descriptors; last = place; hold = have.hold; more = more; fails = stops }
stops_there rules newest start bytes place number pool full have more (stop.Refused (descriptors.Descriptor k why)) stops = record {
  descriptors = have.descriptors;
  last = place;
  hold = have.hold;
  more = more;
  descriptor = stops.1.descriptor;
  next = stops.1.next;
  stands = stops.1.stands;
  number_is = stops.0 ∙ ap (λ (n : ℕ). n + 1) have.number_is;
  fails = stops.1.fails;
}
stops_there rules newest start bytes place number pool full have more (stop.Refused descriptors.Verifier) stops = (
  length have.descriptors + 1,
  record {
    descriptors = have.descriptors;
    last = place;
    hold = have.hold;
    more = more;
    descriptor = stops.descriptor;
    next = stops.next;
    stands = stops.stands;
    number_is = refl;
    fails = stops.fails;
  },
)
stops_there rules newest start bytes place number pool full have more (stop.Refused descriptors.Full) stops = absurd stops

-- one of them found the pool full
pub fills : (rules : Rules) (newest : Newest) (start : ℕ) (bytes : List ℕ) (place number : ℕ) (pool : Pooled)
    (full : Bool) → HaveBeenKept rules newest start bytes place number pool full → ends_at place bytes ≡ true → full ≡ true
    → FillsPool rules newest start bytes
fills rules newest start bytes place number pool full have ended found = record {
  descriptors = have.descriptors;
  last = place;
  hold = have.hold;
  ended = ended;
  full = sym have.full_is ∙ found;
}

-- none did: this is the pool
pub makes_pool : (rules : Rules) (newest : Newest) (start : ℕ) (bytes : List ℕ) (place number : ℕ) (pool : Pooled)
    (full : Bool) → HaveBeenKept rules newest start bytes place number pool full → ends_at place bytes ≡ true → full ≡ false
    → GivesPool rules newest start bytes (Ok pool)
makes_pool rules newest start bytes place number pool full have ended found = record {
  descriptors = have.descriptors;
  last = place;
  hold = have.hold;
  ended = ended;
  room = sym have.full_is ∙ found;
  pool_is = have.pool_is;
}

-- ---- what is answered for a station, call by call

module _ {N : Type 0} (rules : Rules) (gives : Relation) (steps : SignerSteps N) (now : ℕ) (given : StationFacts) (used : ℕ)
    (bytes : List ℕ) (old new : N) where
  -- what is answered for it
  abbrev pub Ends : Result (List ℕ) MakeVoteRefusal → Type 0
  Ends answer = VoteAnswers rules gives steps now given used bytes answer old new

  pub out_of_order : (why : Stop OrderWord) → GivesSchedule given (Err why) → Answered Ends (Err (of_order why))
  out_of_order stop.Memory is = tt
  out_of_order (stop.Refused word) is = inl (word, refl, is)

  pub no_descriptors : (why : Stop PoolRefusal) → IsInOrder given (schedule_in given)
      → GivesPool rules given.newest used bytes (Err why) → Answered Ends (Err (of_pool why))
  no_descriptors stop.Memory order is = tt
  no_descriptors (stop.Refused why) order is = inr (inl (order, (why, refl, is)))

  pub no_period : (pool : Pooled) → HasPool rules given used bytes pool → AnswersNext (schedule_in given) 0 now None
      → Answered Ends (Err (stop.Refused by_end))
  no_period pool has is = inr (inr (inl (pool, has, refl, is)))

  pub no_vote : (its : Basis) (why : Stop MakeVoteRefusal) → IsBasisOf rules now given used bytes its
      → GivesVote rules gives steps its (Err why) old new → Answered Ends (Err why)
  no_vote its stop.Memory basis is = tt
  no_vote its (stop.Refused why) basis is = inr (inr (inr (its, basis, is)))

-- ---- the command, call by call

module _ {N : Type 0} (rules : Rules) (gives : Relation) (steps : SignerSteps N) (newest : Newest) (now : ℕ)
    (bytes : List ℕ) (old new : N) where
  -- what the command answers
  abbrev pub Answers : Result (List ℕ) MakeVoteRefusal → Type 0
  Answers answer = MakeVoteAnswers rules gives steps newest now bytes answer old new

  pub faulty : (why : Stop FrameFault) → GivesStation newest bytes (Err why) → Answered Answers (Err (of_fault why))
  faulty stop.Memory is = tt
  faulty (stop.Refused fault) is = inl (fault, refl, is)

  pub answered : (given : StationFacts) (used : ℕ) (result : Result (Vec ℕ) (Stop MakeVoteRefusal))
      → station_of newest bytes ≡ Ok (given, used)
      → Answered (λ answer. VoteAnswers rules gives steps now given used bytes answer old new) result
      → Answered Answers result
  answered given used (Ok text) is told = inr (given, used, is, told)
  answered given used (Err stop.Memory) is told = tt
  answered given used (Err (stop.Refused why)) is told = inr (given, used, is, told)

-- ---- what is asked

-- what is told of a certificate is not of the station
by_word_not : (word : Option CertWord) → IsOfStation (stop.Refused (by_word word)) → ⊥
by_word_not (Some why) of = of
by_word_not None of = of

not_of_certificate : (found : CertAnswer) → IsOfStation (stop.Refused (cert_refused found)) → ⊥
not_of_certificate found of = by_word_not (cert_word found) of

module _ {N : Type 0} (rules : Rules) (gives : Relation) (steps : SignerSteps N) (its : Basis) (old new : N) where
  -- where the signer is not asked it is as it was
  unsigned_by : (rulings : List OperatorRule) (found : MakeRefusal) → IsBeforeSigner (make_refused found)
      → RefusesToMake rules gives steps (list_allows rulings) its found old new → new ≡ old
  unsigned_by rulings (make.OwnCert found) before refused = refused.2
  unsigned_by rulings make.SignerFault before refused = absurd before
  unsigned_by rulings make.VerifierFault before refused = refused.1
  unsigned_by rulings (make.TooLong count) before refused = absurd before
  unsigned_by rulings make.Memory before refused = absurd before

  pub unsigned : (why : Stop MakeVoteRefusal) → GivesVote rules gives steps its (Err why) old new
      → IsBeforeSigner why → new ≡ old
  unsigned stop.Memory is before = absurd before
  unsigned (stop.Refused why) is before =
      unsigned_by is.rulings is.refusal (subst IsBeforeSigner is.told before) is.refused

  of_station_by : (found : MakeRefusal) → IsOfStation (make_refused found) → ⊥
  of_station_by (make.OwnCert found) of = not_of_certificate found of
  of_station_by make.SignerFault of = of
  of_station_by make.VerifierFault of = of
  of_station_by (make.TooLong count) of = of
  of_station_by make.Memory of = of

  -- what is refused of a vote is not of the station
  pub vote_not_of_station : (why : Stop MakeVoteRefusal) → GivesVote rules gives steps its (Err why) old new
      → IsOfStation why → ⊥
  vote_not_of_station stop.Memory is of = of
  vote_not_of_station (stop.Refused why) is of = of_station_by is.refusal (subst IsOfStation is.told of)
