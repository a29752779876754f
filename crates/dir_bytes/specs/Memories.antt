-- What a source, a sink and a clock in memory do at each call.
use Rattle.std.specs.Prelude.{◌≡◌, ℕ, ◌+◌, ◌-◌, ◌<◌, ◌≤◌, ◌==◌, ◌||◌, min, Bool, true, false, List, length, drop}
use Rattle.std.specs.{Prelude.{slice_index, vec_len, vec_capacity, EachIndex}, List.list_any}
use Rattle.dir_bytes.specs.declared.{source.ReadAnswer.ReadAnswer, sink.WriteAnswer.WriteAnswer}
use Rattle.dir_bytes.specs.declared.{memory_source.MemorySource.MemorySource, memory_sink.MemorySink.MemorySink}
use Rattle.dir_bytes.specs.{declared.memory_clock.MemoryClock.MemoryClock, Causes.{last_moment, next_count}}
use Rattle.dir_bytes.specs.declared.source.ReadAnswer.TheVariants as read
use Rattle.dir_bytes.specs.declared.sink.WriteAnswer.TheVariants as write

-- whether the call with this number is to fail
abbrev pub is_to_fail : List ℕ → ℕ → Bool
is_to_fail failing number = list_any (λ other. other == number) failing

-- the bytes that a source has left
abbrev pub bytes_left : MemorySource → List ℕ
bytes_left source = drop source.place source.bytes.items

-- a source of which nothing was read
pub record IsFreshSource (text places numbers : List ℕ) (source : MemorySource) : Type 0 where
  pub left : bytes_left source ≡ text
  pub place : source.place ≡ 0
  pub cuts : source.cuts.items ≡ places
  pub failing : source.failing.items ≡ numbers
  pub reads : source.reads ≡ 0
  pub faults : source.faults ≡ 0

-- a read fails exactly where its number stands among those that are to fail
abbrev pub FailsByNumber : MemorySource → ReadAnswer → Type 0
FailsByNumber old (read.Got n) = is_to_fail old.failing.items (next_count old.reads) ≡ false
FailsByNumber old read.End = is_to_fail old.failing.items (next_count old.reads) ≡ false
FailsByNumber old read.Failed = is_to_fail old.failing.items (next_count old.reads) ≡ true

-- a read gives no byte from beyond the next cut
abbrev pub StopsAtCuts : MemorySource → ReadAnswer → Type 0
StopsAtCuts old (read.Got n) =
    EachIndex old.cuts.items (λ k. old.place < slice_index old.cuts.items k → old.place + n ≤ slice_index old.cuts.items k)
StopsAtCuts old read.End = Unit {0}
StopsAtCuts old read.Failed = Unit {0}

-- one more read is counted, and what is to come stays
pub record IsNextSource (old new : MemorySource) : Type 0 where
  pub reads : new.reads ≡ next_count old.reads
  pub cuts : new.cuts.items ≡ old.cuts.items
  pub failing : new.failing.items ≡ old.failing.items

-- the bytes that a sink has room for
abbrev pub sink_room : MemorySink → ℕ
sink_room sink = vec_capacity sink.written - vec_len sink.written

-- a sink to which nothing was written beyond the bytes that it had
pub record IsFreshSink (text : List ℕ) (most : ℕ) (numbers : List ℕ) (sink : MemorySink) : Type 0 where
  pub written : sink.written.items ≡ text
  pub piece : sink.piece ≡ most
  pub failing : sink.failing.items ≡ numbers
  pub writes : sink.writes ≡ 0
  pub faults : sink.faults ≡ 0

-- a write takes what fits a piece and the room, and fails exactly where its number is to fail or there is no room
abbrev pub TakesAsTold : MemorySink → List ℕ → WriteAnswer → Type 0
TakesAsTold old bytes (write.Took n) =
    (is_to_fail old.failing.items (next_count old.writes) ≡ false) × (n ≡ min old.piece (min (sink_room old) (length bytes)))
TakesAsTold old bytes write.Failed = (is_to_fail old.failing.items (next_count old.writes) || (sink_room old == 0)) ≡ true

-- one more write is counted, no capacity is lost, and what is to come stays
pub record IsNextSink (old new : MemorySink) : Type 0 where
  pub writes : new.writes ≡ next_count old.writes
  pub piece : new.piece ≡ old.piece
  pub failing : new.failing.items ≡ old.failing.items
  pub capacity : vec_capacity old.written ≤ vec_capacity new.written

-- the moments of a clock
abbrev pub moments_of : MemoryClock → List ℕ
moments_of clock = clock.moments.items

-- what a clock answers next: its moments in order, the last one again and again
abbrev pub next_moment : MemoryClock → ℕ
next_moment clock = min (slice_index (moments_of clock) (min clock.asks (length (moments_of clock) - 1))) last_moment

-- the next moment is given, one more asking is counted, and what is to come stays
pub record IsNextClock (old : MemoryClock) (moment : ℕ) (new : MemoryClock) : Type 0 where
  pub next : moment ≡ next_moment old
  pub asks : new.asks ≡ next_count old.asks
  pub moments : moments_of new ≡ moments_of old
