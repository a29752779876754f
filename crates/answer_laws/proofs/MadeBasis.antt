-- Of what `make-vote` makes a vote is such as the laws of made votes ask for.
use Rattle.std.proofs.Common.{◌≡◌, ℕ, ◌≤◌, List, [], ◌∷◌, drop, length, Result, Ok, Err, refl, sym, ap, ◌∙◌, subst}
use Rattle.std.{proofs.{Common.arith, lemmas.List.Elements.{All-cons, All-nil}}, specs.{Prelude.All, List.fold}}
use Rattle.base64.specs.GeneralPurpose.{IsBytes}
use Rattle.count_terms.specs.declared.newest.Newest.{Newest}
use Rattle.key_port.specs.Answers.{Rules}
use Rattle.frame_terms.specs.declared.fault.ReadRefusal.{ReadRefusal}
use Rattle.descriptor_doc.specs.{Reading.descriptor_under, declared.descriptor.Descriptor.Descriptor}
use Rattle.vote_pool.specs.Pools.{DescriptorsAscend, Pooled, most_relays, pool_after}
use Rattle.answer_laws.{specs.Newest.{AscendAndFit, pool_of}, proofs.{OneMoreHeld.pools_ascend, Members.all_held}}
use Rattle.answer_laws.proofs.Sound.{schedules_such}
use Rattle.dir_bytes.specs.Causes.{last_moment}
use Rattle.vote_schedule.specs.{Moments.valid_until, Schedules.IsSchedule}
use Rattle.station_input.specs.declared.facts.StationFacts.{StationFacts}
use Rattle.vote_maker.specs.Made.{Basis, schedule_in}
use Rattle.row_laws.proofs.ReadBytes.{bytes_drop}
use Rattle.maker_laws.specs.Given.{IsBasis, IsDescriptor, IsStation}
use Rattle.station_commands.specs.{Descriptors.{IsPoolOf, Stand, found_from, no_pool, pool_with}, Voting.IsBasisOf}

-- ---- the descriptors

-- what was read
abbrev descriptor_in : Descriptor → Result (Descriptor × ℕ) ReadRefusal → Descriptor
descriptor_in other (Ok read) = read.0
descriptor_in other (Err why) = other

read_by : (place : ℕ) (read : Result (Descriptor × ℕ) ReadRefusal) (one : Descriptor) (next : ℕ)
    → found_from place read ≡ Ok (one, next) → (used : ℕ) × (read ≡ Ok (one, used))
read_by place (Ok (found, used)) one next is =
    (used, ap (λ (r : Result (Descriptor × ℕ) ReadRefusal). Ok (descriptor_in found r, used)) is)
read_by place (Err why) one next is = absurd cc

-- each that stands in an input of bytes was read of such
were_read : (newest : Newest) (bytes : List ℕ) → IsBytes bytes → (start : ℕ) (list : List Descriptor) (last : ℕ)
    → Stand newest start list last bytes → All IsDescriptor list
were_read newest bytes are start [] last stand = All-nil IsDescriptor
were_read newest bytes are start (one ∷ list) last stand =
    let read = read_by start (descriptor_under newest (drop start bytes)) one stand.1 stand.2 in
    All-cons IsDescriptor one list
    (record {
      newest = newest;
      input = drop start bytes;
      bytes = bytes_drop start bytes are;
      used = read.0;
      read = read.1;
    })
    (were_read newest bytes are stand.1 list last stand.3)

-- the pool of descriptors is the one that they make when they are kept in turn
pool_is : (pool : Pooled) (list : List Descriptor) → pool_with pool list ≡ fold pool_after pool list
pool_is pool [] = refl
pool_is pool (one ∷ list) = pool_is (pool_after pool one) list

-- What the pool of an input of bytes holds.
record IsFit (pool : Pooled) : Type 0 where
  fits : AscendAndFit pool.descriptors
  read : All IsDescriptor pool.descriptors

fit : (rules : Rules) (newest : Newest) (start : ℕ) (bytes : List ℕ) (pool : Pooled) → IsBytes bytes
    → IsPoolOf rules newest start bytes pool → IsFit pool
fit rules newest start bytes pool are is =
    let all : pool ≡ pool_of is.descriptors = is.pool_is ∙ pool_is no_pool is.descriptors in
    subst IsFit (sym all) (record {
      fits = pools_ascend is.descriptors;
      read = all_held IsDescriptor no_pool is.descriptors
          (were_read newest bytes are start is.descriptors is.last is.hold.stand) (All-nil IsDescriptor);
    })

-- ---- the basis

pub of_basis : (rules : Rules) (now : ℕ) (given : StationFacts) (used : ℕ) (bytes : List ℕ) (its : Basis)
    → IsBytes bytes → IsBasisOf rules now given used bytes its → IsStation its.station → IsBasis its
of_basis rules now given used bytes its are is station =
    let held = fit rules given.newest used bytes is.pool are is.has_pool.pool_of in
    let same : given ≡ its.station = sym is.station_is in
    record {
      station = station;
      schedule =
          subst (λ (s : StationFacts). IsSchedule (schedule_in s)) same
          (schedules_such given.interval given.vote_seconds given.dist_seconds (schedule_in given)
          is.has_pool.order.scheduled).1;
      until =
          subst (λ (s : StationFacts). valid_until (schedule_in s) its.valid_after ≤ last_moment) same is.life;
      moment = omega (arith, is.moment_is, is.next.ahead.before, is.life);
      ascend = subst DescriptorsAscend (sym is.descriptors_are) held.fits.ascend;
      few = subst (λ (l : List Descriptor). length l ≤ most_relays) (sym is.descriptors_are) held.fits.few;
      descriptors = subst (All IsDescriptor) (sym is.descriptors_are) held.read;
    }
