use Rattle.daemon_words.{specs.CommandLine.needed_option, proofs.Apps.adds_rule}
use Rattle.daemon_words.proofs.command_line.with_needed.Goals as goal

pub returns : goal.returns
returns c =
    adds_rule c.args.old c.needed_option.result (needed_option c.args.name.now) c.arg.result
    c.needed_option.ensures.rule c.needed_option.ensures.local c.arg.ensures
