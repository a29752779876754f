-- The command line, as clap reads it.
use Rattle.std.specs.{Prelude.{true, List, ℕ, String, string_bytes, map, Option, Some, codes}, Global.Global}
use Rattle.clap.specs.Words.{App, Kinds, Row, Rule, Text, fault_of, new_app, new_rule, subcommand_of, with_rule}
use Rattle.clap.specs.{Words.with_subcommand, declared.builder.action.ArgAction.TheVariants.{Set, SetTrue}}

-- an option that must stand once, as `--name value` or `--name=value`
abbrev pub needed_option : List ℕ → Rule
needed_option name = record (new_rule name) { long = Some name; required = true; action = Some Set }

-- an option that may stand once, as `--name value` or `--name=value`
abbrev pub free_option : List ℕ → Rule
free_option name = record (new_rule name) { long = Some name; action = Some Set }

-- an option that may stand once, without a value
abbrev pub flag : List ℕ → Rule
flag name = record (new_rule name) { long = Some name; action = Some SetTrue }

-- a word that must stand once, by itself
abbrev pub needed_word : List ℕ → Rule
needed_word name = record (new_rule name) { required = true; action = Some Set }

-- the command `compute` with its options, which stand in any order
abbrev pub compute : App
compute =
    with_rule (with_rule (with_rule (with_rule (new_app (codes "compute")) (needed_option (codes "authorities")))
    (needed_option (codes "valid-after"))) (free_option (codes "flavour"))) (free_option (codes "newest-method"))

-- the command `report` with its options, which stand in any order
abbrev pub report : App
report =
    with_rule (with_rule (new_app (codes "report")) (needed_option (codes "authorities"))) (needed_option (codes "valid-after"))

-- a command of this name that takes one kind of document
abbrev pub of_kind : List ℕ → App
of_kind name = with_rule (new_app name) (needed_word (codes "kind"))

-- the command `make-vote` with its options, which stand in any order
abbrev pub make_vote : App
make_vote =
    with_rule (with_rule (new_app (codes "make-vote")) (flag (codes "bandwidth"))) (free_option (codes "newest-method"))

-- the command `serve` with its options, which stand in any order
abbrev pub serve : App
serve =
    with_rule (with_rule (with_rule (new_app (codes "serve")) (needed_option (codes "listen")))
    (flag (codes "bandwidth")))
    (free_option (codes "newest-method"))

-- the command `rehearse` with three words, in this order
abbrev pub rehearse : App
rehearse =
    with_rule (with_rule (with_rule (new_app (codes "rehearse")) (needed_word (codes "seed")))
    (needed_word (codes "relays"))) (needed_word (codes "authorities"))

-- the program before its commands: the words do not begin with its name, a command must stand there, and no words ask for help
abbrev pub program : App
program = let plain = new_app (codes "authority_daemon") in record plain {
  top = record plain.top { no_binary_name = true; disable_help_flag = true; disable_help_subcommand = true; subcommand_required = true };
}

-- the program with its commands
abbrev pub command_line : App
command_line =
    with_subcommand (with_subcommand (with_subcommand (with_subcommand (with_subcommand (with_subcommand (with_subcommand
    program compute.top) (of_kind (codes "check")).top) (of_kind (codes "show")).top) make_vote.top) rehearse.top)
    report.top) serve.top

-- what is wrong with the words: nothing, where they are of this command line
unfoldable pub faults : List (String Global) → Kinds
faults words = fault_of command_line (map (λ word. string_bytes word) words)

-- the command that the words name, with the values of its options
unfoldable pub command_in : List (String Global) → Option (Text × List Row)
command_in words = subcommand_of command_line (map (λ word. string_bytes word) words)
