-- What an authority starts with, of what its station is given, or why it does not.
use Rattle.std.specs.Prelude.{◌≡◌, ◌≢◌, ◌⊎◌, ℕ, List, None, Ok, Err}
use Rattle.dir_values.specs.declared.digest.Fingerprint.{Fingerprint}
use Rattle.key_port.specs.Answers.{Rules}
use Rattle.authority_certs.specs.{Checks.{Checks, IsCertified}, declared.cert.Cert.Cert}
use Rattle.authority_certs.specs.declared.checking.CertAnswer.{CertAnswer}
use Rattle.authority_certs.specs.declared.checking.CertAnswer.TheVariants as answer
use Rattle.bandwidth_file.specs.declared.file.BandFile.{BandFile}
use Rattle.count_terms.specs.declared.newest.Newest.{Newest}
use Rattle.daemon_words.specs.declared.command.Measures.{Measures}
use Rattle.daemon_words.specs.declared.command.Measures.TheVariants as measures
use Rattle.frame_terms.specs.declared.fault.FrameFault.{FrameFault}
use Rattle.frame_terms.specs.declared.fault.ReadRefusal.TheVariants as read
use Rattle.station_input.specs.{Reading.station_of, declared.facts.StationFacts.StationFacts}
use Rattle.vote_pool.specs.Pools.{Pooled}
use Rattle.vote_schedule.specs.Moments.{AnswersNext}
use Rattle.vote_maker.specs.Made.{Basis, schedule_in}
use Rattle.period_terms.specs.{declared.state.State.State, Histories.IsStart}
use Rattle.period_core.specs.Starting.{Starts}
use Rattle.station_commands.specs.{Descriptors.RefusesDescriptors, Order.{IsInOrder, IsOutOfOrder, roster_in}}
use Rattle.station_commands.specs.{Voting.{HasPool, IsBasisOf}, declared.refusal.OrderWord.OrderWord}
use Rattle.station_commands.specs.declared.refusal.PoolRefusal.{PoolRefusal}
use Rattle.station_commands.specs.{declared.file_refusal.BandwidthRefusal.BandwidthRefusal, WithFile.BeginsWithFile}
use Rattle.station_commands.specs.WithFile.{IsFaultyBehind, RefusesFile, station_behind}
use Rattle.serve_command.specs.Told.{by_end, by_fault, by_file, by_order, by_pool, cert_refused}
use Rattle.serve_command.specs.declared.refusal.ServeRefusal.{ServeRefusal}

-- ---- what a station is given

-- What a station is given stands behind a bandwidth file that is not too old at this moment, with the file's
-- bandwidths, up to this place.
pub record StandsBehind (newest : Newest) (now : ℕ) (bytes : List ℕ) (given : StationFacts) (used : ℕ) : Type 0 where
  pub file : BandFile
  pub start : ℕ
  pub begins : BeginsWithFile bytes now file start
  pub stands : station_behind newest file start bytes ≡ Ok (given, used)

-- what a station that knows this newest method is given stands in the input up to this place, by where its bandwidths
-- come from
abbrev pub StandsIn : Measures → Newest → ℕ → List ℕ → StationFacts → ℕ → Type 0
StandsIn measures.Station newest now bytes given used = station_of newest bytes ≡ Ok (given, used)
StandsIn measures.File newest now bytes given used = StandsBehind newest now bytes given used

-- ---- what an authority starts with

-- Its pool is that of the descriptors from a place on, the next period can still begin, and the own certificate holds
-- then.
pub record CanBegin (rules : Rules) (now : ℕ) (given : StationFacts) (used : ℕ) (bytes : List ℕ) (pool : Pooled)
    : Type 0 where
  pub its : Basis
  pub basis : IsBasisOf rules now given used bytes its
  pub pool_is : pool ≡ basis.pool
  pub certified : IsCertified rules its.valid_after given.certificate

-- The state is the one in which the authority of the station starts at this moment.
pub record IsStartOf (given : StationFacts) (now : ℕ) (state : State) : Type 0 where
  pub roster : List Fingerprint
  pub members : roster_in given ≡ Ok roster
  pub starts : Starts roster given.identity given.newest (schedule_in given) now (Ok state)

-- what an authority starts with: what its station is given, its state, and the pool of its descriptors
pub record Starting : Type 0 where
  pub given : StationFacts
  pub start : State
  pub pool : Pooled

-- It is what the input gives at this moment, where this is the newest method that is known.
pub record StartsAs (rules : Rules) (from : Measures) (newest : Newest) (now : ℕ) (bytes : List ℕ)
    (its : Starting) : Type 0 where
  pub used : ℕ
  pub stands : StandsIn from newest now bytes its.given used
  pub begins : CanBegin rules now its.given used bytes its.pool
  pub start_is : IsStartOf its.given now its.start
  pub is_start : IsStart its.start

-- ---- why it does not start

-- the input does not begin with what a station is given; or, where a bandwidth file has to stand in front, not with
-- one that counts at the moment, or not with both
abbrev pub IsFaultyIn : Measures → Newest → ℕ → List ℕ → ServeRefusal → Type 0
IsFaultyIn measures.Station newest now bytes why =
    (fault : FrameFault) × (why ≡ by_fault fault) × (station_of newest bytes ≡ Err (read.Frame fault))
IsFaultyIn measures.File newest now bytes why =
    ((own : BandwidthRefusal) × (why ≡ by_file own) × RefusesFile bytes now own)
    ⊎ ((file : BandFile) × (start : ℕ) × BeginsWithFile bytes now file start
    × ((fault : FrameFault) × (why ≡ by_fault fault) × IsFaultyBehind newest file start bytes fault))

-- The certificate does not hold then, or the verifier failed when it was asked, and this is told of it.
pub record RefusesCertificate (rules : Rules) (at : ℕ) (certificate : Cert) (why : ServeRefusal) : Type 0 where
  pub found : CertAnswer
  pub fails : found ≢ answer.Checked
  pub checks : Checks rules at certificate found
  pub told : why ≡ cert_refused found

-- why a station that is given this starts no authority at a moment, with the descriptors from a place on, by the
-- first that applies: it is not in order; the descriptors are refused; there is no period any more; or the own
-- certificate fails when the next period begins
abbrev pub RefusesStation : Rules → ℕ → StationFacts → ℕ → List ℕ → ServeRefusal → Type 0
RefusesStation rules now given used bytes why =
    ((word : OrderWord) × (why ≡ by_order word) × IsOutOfOrder given word)
    ⊎ (IsInOrder given (schedule_in given)
    × ((pool : PoolRefusal) × (why ≡ by_pool pool) × RefusesDescriptors rules given.newest used bytes pool))
    ⊎ ((pool : Pooled) × HasPool rules given used bytes pool × (why ≡ by_end)
    × AnswersNext (schedule_in given) 0 now None)
    ⊎ ((its : Basis) × IsBasisOf rules now given used bytes its
    × RefusesCertificate rules its.valid_after given.certificate why)

-- why an input starts no authority at a moment: it does not begin with what a station is given; or that starts none
abbrev pub RefusesToServe : Rules → Measures → Newest → ℕ → List ℕ → ServeRefusal → Type 0
RefusesToServe rules from newest now bytes why =
    IsFaultyIn from newest now bytes why
    ⊎ ((given : StationFacts) × (used : ℕ) × StandsIn from newest now bytes given used
    × RefusesStation rules now given used bytes why)
