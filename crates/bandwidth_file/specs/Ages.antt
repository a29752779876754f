-- How old a bandwidth file may be.
use Rattle.std.specs.Prelude.{ℕ, ◌+◌, ◌<◌}
use Rattle.bandwidth_file.specs.declared.file.BandFile.{BandFile}

-- how old a file may be that is voted on, in seconds: three days
abbrev pub max_age : ℕ
max_age = 259200

-- the file is too old at a moment: more than three days have passed since the time of measuring
abbrev pub IsOld : BandFile → ℕ → Type 0
IsOld file now = file.timestamp + max_age < now
