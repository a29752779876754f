-- How many entries bytes hold at most.
use Rattle.std.specs.Prelude.{ℕ, ◌/◌, min}

-- a vote may have 65,535 entries, and none is shorter than 94 bytes
abbrev pub most_entries : ℕ → ℕ
most_entries bytes = min (bytes / 94) 65535
