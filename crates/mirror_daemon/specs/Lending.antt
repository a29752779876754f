-- What the private functions of this crate say.
use Rattle.std.specs.{Prelude.{◌≡◌, List, [], String}, declared.option.Option.{Option, TheVariants.{Some, None}}}
use Rattle.std.specs.Global.{Global}
use Rattle.clap.specs.{Words.{found_of, rows_of}, declared.parser.matches.ArgMatches.ArgMatches}
use Rattle.mirror_daemon.specs.CommandLine.{faults, options}

-- what was read of words that are of the command line, or nothing of others
abbrev pub Matches : List (String Global) → Option ArgMatches → Type 0
Matches words (Some matches) = (faults words ≡ []) × (rows_of (found_of matches) ≡ options words)
Matches words None = faults words ≡ [] → ⊥
