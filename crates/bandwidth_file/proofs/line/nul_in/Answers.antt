use Rattle.dirdoc_grammar.proofs.FirstByte.{found_is}
use Rattle.bandwidth_file.proofs.line.nul_in.Goals as goal

pub returns-clause-nul : goal.returns-clause-nul
returns-clause-nul c = found_is 0 c.args.text.now c.memchr.result c.memchr.ensures
