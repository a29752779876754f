use Rattle.daemon_words.proofs.Apps.{adds_command}
use Rattle.daemon_words.proofs.command_line.with_command.Goals as goal

pub returns : goal.returns
returns c = adds_command c.args.command c.args.below c.subcommand.result c.subcommand.ensures
