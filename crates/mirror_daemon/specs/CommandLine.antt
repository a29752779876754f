-- The command line, as clap reads it.
use Rattle.std.specs.{Prelude.{true, List, String, string_bytes, map, codes}, Global.Global}
use Rattle.clap.specs.Words.{App, Kinds, Row, fault_of, matches_of, new_app, with_rule}
use Rattle.daemon_words.specs.CommandLine.{needed_option}

-- the program before its options: the words do not begin with its name, and no words ask for help
abbrev pub program : App
program = let plain = new_app (codes "dirmirror") in record plain {
  top = record plain.top { no_binary_name = true; disable_help_flag = true };
}

-- the program with its options, which stand in any order, each once
abbrev pub command_line : App
command_line =
    with_rule (with_rule (with_rule program (needed_option (codes "authorities"))) (needed_option (codes "peers")))
    (needed_option (codes "listen"))

-- what is wrong with the words: nothing, where they are of this command line
unfoldable pub faults : List (String Global) → Kinds
faults words = fault_of command_line (map (λ word. string_bytes word) words)

-- the values of the options
unfoldable pub options : List (String Global) → List Row
options words = matches_of command_line (map (λ word. string_bytes word) words)
