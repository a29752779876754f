-- The command line is one that clap reads exactly.
use Rattle.std.proofs.Common.{◌≡◌, true, refl}
use Rattle.clap.{specs.Words.{is_simple, is_simple_and_free}, proofs.OnLiterals.clap_on_literals}
use Rattle.mirror_daemon.specs.CommandLine.{command_line}

pub simple : is_simple command_line ≡ true
unfolding clap_on_literals
simple = refl

pub simple_and_free : is_simple_and_free command_line ≡ true
unfolding clap_on_literals
simple_and_free = refl
