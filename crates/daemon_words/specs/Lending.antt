-- What the private functions of this crate say.
use Rattle.std.specs.{Prelude.{◌≡◌, ℕ, List, [], String, IfOk, false}, declared.option.Option.Option}
use Rattle.std.specs.{declared.{option.Option.TheVariants.{Some, None}, result.Result.Result}, List.position_or_len}
use Rattle.std.specs.Global.{Global}
use Rattle.clap.specs.Words.{App, Rule, app_of, subcommand_rows_of, with_rule, with_subcommand}
use Rattle.clap.specs.declared.builder.command.Command.{Command, TheViews.out-Command}
use Rattle.clap.specs.declared.parser.matches.ArgMatches.{ArgMatches}
use Rattle.daemon_words.specs.{CommandLine.{faults, command_in}, Values.is_comma}

-- what was read of words that are of the command line, or nothing of others
abbrev pub Matches : List (String Global) → Option ArgMatches → Type 0
Matches words (Some matches) = (faults words ≡ []) × (subcommand_rows_of matches ≡ command_in words)
Matches words None = faults words ≡ [] → ⊥

-- clap reads the command as this one, and none of its arguments is global
unfoldable pub Reads : Command → App → Type 0
Reads command app = (app_of command ≡ app) × ((out-Command command).has_globals ≡ false)

module _ {E : Type 0} where
  -- the command with one more argument
  abbrev pub AddsRule : Rule → Command → Result Command E → Type 0
  AddsRule rule old result = (app : App) → Reads old app → IfOk result (λ new. Reads new (with_rule app rule))

  -- the command with one more below it
  abbrev pub AddsCommand : Command → Command → Result Command E → Type 0
  AddsCommand old sub result = (app below : App) → Reads old app → Reads sub below
      → IfOk result (λ new. Reads new (with_subcommand app below.top))

-- how many bytes stand in front of the first comma
abbrev pub word_len : List ℕ → ℕ
word_len text = position_or_len is_comma text
