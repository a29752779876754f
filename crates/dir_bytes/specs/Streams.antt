-- What a read takes off a source, and what a write adds to a sink.
use Rattle.std.specs.Prelude.{◌≡◌, ℕ, ◌<◌, ◌≤◌, List, [], length, take, Result, Ok, Err, Some, None}
use Rattle.std.specs.{declared.option.Option.Option, Global.Vec, Io.KnownBytes.{Appends, Consumes, Keeps, IsAtEnd}}
use Rattle.dir_bytes.specs.declared.{source.ReadAnswer.ReadAnswer, sink.WriteAnswer.WriteAnswer}
use Rattle.dir_bytes.specs.{declared.{reading.ReadAllFault.ReadAllFault, writing.WriteAll.WriteAll}, Causes.Rose}
use Rattle.dir_bytes.specs.Causes.{next_count}
use Rattle.dir_bytes.specs.declared.source.ReadAnswer.TheVariants as read
use Rattle.dir_bytes.specs.declared.sink.WriteAnswer.TheVariants as write
use Rattle.dir_bytes.specs.declared.reading.ReadAllFault.TheVariants as fault
use Rattle.dir_bytes.specs.declared.writing.WriteAll.TheVariants as all

-- a read gives at least one byte, and no more than there is room for
abbrev pub GivesWithin : ReadAnswer → ℕ → Type 0
GivesWithin (read.Got n) room = (0 < n) × (n ≤ room)
GivesWithin read.End room = Unit {0}
GivesWithin read.Failed room = Unit {0}

-- the bytes given come off the front of those left; `End` comes only where none is left, and a failed read takes none
abbrev pub TakesFrom : Option (List ℕ) → Option (List ℕ) → ReadAnswer → List ℕ → Type 0
TakesFrom old new (read.Got n) out = Consumes old new (take n out)
TakesFrom old new read.End out = Keeps old new × IsAtEnd old
TakesFrom old new read.Failed out = Keeps old new

-- the count of faults rose where the read failed, and else is as it was
abbrev pub CountsReads : ℕ → ℕ → ReadAnswer → Type 0
CountsReads before now (read.Got n) = now ≡ before
CountsReads before now read.End = now ≡ before
CountsReads before now read.Failed = Rose before now × (before ≤ now)

-- how many faults there are after a read of a source that had so many: one more where the read failed
abbrev pub faults_after_read : ℕ → ReadAnswer → ℕ
faults_after_read faults (read.Got n) = faults
faults_after_read faults read.End = faults
faults_after_read faults read.Failed = next_count faults

-- a write takes at least one byte, and no more than it was given
abbrev pub TakesWithin : WriteAnswer → ℕ → Type 0
TakesWithin (write.Took n) len = (0 < n) × (n ≤ len)
TakesWithin write.Failed len = Unit {0}

-- the bytes taken stand behind those that were written before, and a failed write adds none
abbrev pub AddsTo : Option (List ℕ) → Option (List ℕ) → WriteAnswer → List ℕ → Type 0
AddsTo old new (write.Took n) bytes = Appends old new (take n bytes)
AddsTo old new write.Failed bytes = Keeps old new

-- the count of faults rose where the write failed, and else is as it was
abbrev pub CountsWrites : ℕ → ℕ → WriteAnswer → Type 0
CountsWrites before now (write.Took n) = now ≡ before
CountsWrites before now write.Failed = Rose before now × (before ≤ now)

-- how many faults there are after a write to a sink that had so many: one more where the write failed
abbrev pub faults_after_write : ℕ → WriteAnswer → ℕ
faults_after_write faults (write.Took n) = faults
faults_after_write faults write.Failed = next_count faults

-- at most so many bytes were taken off the front of those left
abbrev pub TakesAtMost : Option (List ℕ) → Option (List ℕ) → ℕ → Type 0
TakesAtMost old new most = (taken : List ℕ) × Consumes old new taken × (length taken ≤ most)

-- what was read is all that was left, or more than the limit was left
abbrev pub ReadsAll : Option (List ℕ) → Option (List ℕ) → ℕ → Result (Vec ℕ) ReadAllFault → Type 0
ReadsAll None new limit result = Unit {0}
ReadsAll (Some bytes) new limit (Ok v) = (v.items ≡ bytes) × (new ≡ Some []) × (length bytes ≤ limit)
ReadsAll (Some bytes) new limit (Err fault.TooLong) = limit < length bytes
ReadsAll (Some bytes) new limit (Err fault.ReadFault) = Unit {0}
ReadsAll (Some bytes) new limit (Err fault.Memory) = Unit {0}

-- all bytes were written, or a front of them and the count of faults rose
abbrev pub WritesAll : Option (List ℕ) → Option (List ℕ) → ℕ → ℕ → List ℕ → WriteAll → Type 0
WritesAll old new before now bytes all.Done = Appends old new bytes × (now ≡ before)
WritesAll old new before now bytes (all.Failed sent) =
    Appends old new (take sent bytes) × (sent < length bytes) × Rose before now × (before ≤ now)
