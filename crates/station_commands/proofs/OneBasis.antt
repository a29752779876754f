-- A station has one basis at a moment, of the descriptors that it is given.
use Rattle.std.proofs.Common.{◌≡◌, ℕ, List, Result, Ok, Err, sym, ap, ◌∙◌, arith}
use Rattle.count_terms.specs.declared.newest.Newest.{Newest}
use Rattle.frame_terms.specs.declared.fault.ReadRefusal.{ReadRefusal}
use Rattle.key_port.specs.Answers.{Rules}
use Rattle.station_input.specs.{Reading.station_of, declared.facts.StationFacts.StationFacts}
use Rattle.vote_pool.specs.Pools.{Pooled}
use Rattle.vote_schedule.specs.{Moments.IsNext, Schedules.Schedule}
use Rattle.vote_maker.specs.Made.{Basis, basis, schedule_in}
use Rattle.station_commands.specs.{Descriptors.{IsPoolOf, no_pool, pool_with}, Voting.IsBasisOf}
use Rattle.station_commands.proofs.Chains.{one_chain}

-- the station that was read, and the place behind it
abbrev pub given_in : StationFacts → Result (StationFacts × ℕ) ReadRefusal → StationFacts
given_in other (Ok read) = read.0
given_in other (Err why) = other

abbrev pub used_in : Result (StationFacts × ℕ) ReadRefusal → ℕ
used_in (Ok read) = read.1
used_in (Err why) = 0

-- two readings of one input are of one station
pub one_station : (newest : Newest) (bytes : List ℕ) (a b : StationFacts) (m n : ℕ)
    → station_of newest bytes ≡ Ok (a, m)
    → station_of newest bytes ≡ Ok (b, n) → a ≡ b
one_station newest bytes a b m n first second = ap (given_in a) (sym first ∙ second)

pub one_used : (newest : Newest) (bytes : List ℕ) (a b : StationFacts) (m n : ℕ) → station_of newest bytes ≡ Ok (a, m)
    → station_of newest bytes ≡ Ok (b, n) → m ≡ n
one_used newest bytes a b m n first second = ap used_in (sym first ∙ second)

-- two pools of one input are one
one_pool : (rules : Rules) (newest : Newest) (start : ℕ) (bytes : List ℕ) (a b : Pooled) → IsPoolOf rules newest start bytes a
    → IsPoolOf rules newest start bytes b → a ≡ b
one_pool rules newest start bytes a b first second =
    let chain =
    one_chain newest bytes start second.descriptors first.descriptors second.last first.last second.hold.stand second.ended
    first.hold.stand first.ended in
    first.pool_is ∙ ap (pool_with no_pool) chain ∙ sym second.pool_is

-- the next moment is one
one_next : (schedule : Schedule) (now a b : ℕ) → IsNext schedule 0 now a → IsNext schedule 0 now b → a ≡ b
one_next schedule now a b first second =
    omega (arith, first.least b second.ahead, second.least a first.ahead)

-- so is the basis of a station
pub one_basis : (rules : Rules) (now : ℕ) (given : StationFacts) (used : ℕ) (bytes : List ℕ) (a b : Basis)
    → IsBasisOf rules now given used bytes a → IsBasisOf rules now given used bytes b → a ≡ b
one_basis rules now given used bytes a b first second =
    let station : a.station ≡ b.station = first.station_is ∙ sym second.station_is in
    let pool = one_pool rules given.newest used bytes first.pool second.pool first.has_pool.pool_of second.has_pool.pool_of in
    let descriptors : a.descriptors ≡ b.descriptors =
    first.descriptors_are ∙ ap (λ (p : Pooled). p.descriptors) pool ∙ sym second.descriptors_are in
    let next = one_next (schedule_in given) now a.valid_after b.valid_after first.next second.next in
    let moment : a.moment ≡ b.moment = first.moment_is ∙ sym second.moment_is in
    λ i. basis (station i) (descriptors i) (next i) (moment i)
