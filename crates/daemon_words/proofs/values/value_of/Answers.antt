use Rattle.std.proofs.Common.{sym}
use Rattle.clap.specs.Words.{found_of}
use Rattle.daemon_words.proofs.Named.{option_is}
use Rattle.daemon_words.proofs.values.value_of.Goals as goal

pub returns : goal.returns
returns c = sym (option_is (found_of c.args.values.now) c.args.name.now _ c.get_str.ensures)
