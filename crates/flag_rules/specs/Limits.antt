-- The numbers of the table of flags (dir-spec, "Assigning flags in a vote"; the numbers are this project's).
use Rattle.std.specs.Prelude.{ℕ}

-- for how long after it was found reachable a relay counts as reached: 45 minutes
abbrev pub reached_seconds : ℕ
reached_seconds = 2700

-- how many of the reached relays of an address are no Sybils
abbrev pub most_at_address : ℕ
most_at_address = 2

-- the age of a descriptor above which it is stale: 18 hours
abbrev pub fresh_seconds : ℕ
fresh_seconds = 64800

-- the mean time between failures that is enough for Stable, whatever the others have: 7 days
abbrev pub stable_seconds : ℕ
stable_seconds = 604800

-- the bandwidth that is enough for Fast, whatever the others have
abbrev pub fast_kilobytes : ℕ
fast_kilobytes = 100

-- for how long a relay is known that is familiar, whatever the others are: 8 days
abbrev pub familiar_seconds : ℕ
familiar_seconds = 691200

-- the bandwidth that is enough for Guard, whatever the others have
abbrev pub guard_kilobytes : ℕ
guard_kilobytes = 2000

-- the uptime that HSDir asks: 96 hours
abbrev pub hs_dir_seconds : ℕ
hs_dir_seconds = 345600
