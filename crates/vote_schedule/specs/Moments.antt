-- The moments of a period, by its schedule and the moment from which its consensus is valid (dir-spec, "Voting timeline").
use Rattle.std.specs.Prelude.{◌≡◌, ℕ, ◌+◌, ◌*◌, ◌-◌, ◌/◌, ◌%◌, ◌≤◌, ◌<◌, nat_le, Option, Some, None, if◌then◌else◌}
use Rattle.dir_bytes.specs.Causes.{last_moment}
use Rattle.vote_schedule.specs.{Schedules.Schedule, declared.phase.Phase.Phase}
use Rattle.vote_schedule.specs.declared.phase.Phase.TheVariants as phase

-- when votes are made
abbrev pub voting_begins : Schedule → ℕ → ℕ
voting_begins s valid_after = valid_after - s.dist - s.vote

-- from when on no vote is uploaded
abbrev pub upload_cutoff : Schedule → ℕ → ℕ
upload_cutoff s valid_after = valid_after - s.dist - s.vote / 2

-- from when on no vote is taken
abbrev pub freeze : Schedule → ℕ → ℕ
freeze s valid_after = valid_after - s.dist

-- when the signatures that lack are asked for
abbrev pub fetching_begins : Schedule → ℕ → ℕ
fetching_begins s valid_after = valid_after - s.dist / 2

-- until when a consensus is fresh: one interval behind its valid-after
abbrev pub fresh_until : Schedule → ℕ → ℕ
fresh_until s valid_after = valid_after + s.interval

-- until when a consensus is valid: three intervals behind its valid-after
abbrev pub valid_until : Schedule → ℕ → ℕ
valid_until s valid_after = valid_after + 3 * s.interval

-- the phase at a moment: the last one that has begun
abbrev pub phase_of : Schedule → ℕ → ℕ → Phase
phase_of s valid_after now =
    if nat_le valid_after now then phase.Past
    else if nat_le (fetching_begins s valid_after) now then phase.FetchingSignatures
    else if nat_le (freeze s valid_after) now then phase.Signing
    else if nat_le (upload_cutoff s valid_after) now then phase.Fetching
    else if nat_le (voting_begins s valid_after) now then phase.Voting
    else phase.Waiting

-- A multiple of the interval after a moment, whose votes can still be made.
pub record IsAhead (s : Schedule) (after now valid_after : ℕ) : Type 0 where
  pub multiple : valid_after % s.interval ≡ 0
  pub later : after < valid_after
  pub before : now + s.dist + s.vote ≤ valid_after

-- The least of these.
pub record IsNext (s : Schedule) (after now valid_after : ℕ) : Type 0 where
  pub ahead : IsAhead s after now valid_after
  pub least : (other : ℕ) → IsAhead s after now other → valid_after ≤ other

-- the next one is answered exactly where what is valid from it stays valid within the moments
abbrev pub AnswersNext : Schedule → ℕ → ℕ → Option ℕ → Type 0
AnswersNext s after now (Some valid_after) =
    IsNext s after now valid_after × (valid_until s valid_after ≤ last_moment)
AnswersNext s after now None =
    (valid_after : ℕ) → IsNext s after now valid_after → last_moment < valid_until s valid_after
