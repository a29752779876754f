-- Why serving does not begin, from why a call below stopped.
use Rattle.std.proofs.Common.{◌≡◌, ℕ, List, None, Err, refl, inl, inr}
use Rattle.key_port.specs.Answers.{Rules}
use Rattle.count_terms.specs.declared.newest.Newest.{Newest}
use Rattle.daemon_words.specs.declared.{command.Measures.Measures, stop.Stop.Stop}
use Rattle.daemon_words.specs.declared.stop.Stop.TheVariants as stop
use Rattle.station_input.specs.declared.facts.StationFacts.{StationFacts}
use Rattle.vote_pool.specs.Pools.{Pooled}
use Rattle.vote_schedule.specs.Moments.{AnswersNext}
use Rattle.vote_maker.specs.Made.{Basis, schedule_in}
use Rattle.station_commands.specs.{Descriptors.GivesPool, Order.{GivesSchedule, IsInOrder}, Voting.{HasPool, IsBasisOf}}
use Rattle.station_commands.specs.declared.refusal.{OrderWord.OrderWord, PoolRefusal.PoolRefusal}
use Rattle.station_commands.specs.declared.refusal.PoolRefusal.TheVariants as pools
use Rattle.serve_command.specs.{Private.StopsFor, Starting.{IsFaultyIn, RefusesCertificate, RefusesStation}}
use Rattle.serve_command.specs.{Starting.{RefusesToServe, StandsIn}, Told.{by_end, of_order, of_pool}}
use Rattle.serve_command.specs.declared.refusal.ServeRefusal.{ServeRefusal}
use Rattle.serve_command.specs.declared.refusal.ServeRefusal.TheVariants as refusal

-- ---- the station

module _ (rules : Rules) (now : ℕ) (given : StationFacts) (used : ℕ) (bytes : List ℕ) where
  pub out_of_order : (why : Stop OrderWord) → GivesSchedule given (Err why)
      → StopsFor (RefusesStation rules now given used bytes) (of_order why)
  out_of_order stop.Memory is = tt
  out_of_order (stop.Refused word) is = inl (word, refl, is)

  pub no_descriptors : (why : Stop PoolRefusal) → IsInOrder given (schedule_in given)
      → GivesPool rules given.newest used bytes (Err why)
      → StopsFor (RefusesStation rules now given used bytes) (of_pool why)
  no_descriptors stop.Memory order is = tt
  no_descriptors (stop.Refused why) order is = inr (inl (order, (why, refl, is)))

  pub no_period : (pool : Pooled) → HasPool rules given used bytes pool → AnswersNext (schedule_in given) 0 now None
      → StopsFor (RefusesStation rules now given used bytes) (stop.Refused by_end)
  no_period pool has is = inr (inr (inl (pool, has, refl, is)))

  pub no_certificate : (its : Basis) (why : Stop ServeRefusal) → IsBasisOf rules now given used bytes its
      → StopsFor (RefusesCertificate rules its.valid_after given.certificate) why
      → StopsFor (RefusesStation rules now given used bytes) why
  no_certificate its stop.Memory basis is = tt
  no_certificate its (stop.Refused why) basis is = inr (inr (inr (its, basis, is)))

-- ---- the input

module _ (rules : Rules) (from : Measures) (newest : Newest) (now : ℕ) (bytes : List ℕ) where
  pub no_station : (why : Stop ServeRefusal) → StopsFor (IsFaultyIn from newest now bytes) why
      → StopsFor (RefusesToServe rules from newest now bytes) why
  no_station stop.Memory is = tt
  no_station (stop.Refused why) is = inl is

  pub no_start : (given : StationFacts) (used : ℕ) (why : Stop ServeRefusal) → StandsIn from newest now bytes given used
      → StopsFor (RefusesStation rules now given used bytes) why
      → StopsFor (RefusesToServe rules from newest now bytes) why
  no_start given used stop.Memory stands is = tt
  no_start given used (stop.Refused why) stands is = inr (given, used, stands, is)
