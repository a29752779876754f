use Rattle.std.proofs.Common.{rules}
use Rattle.vote_feed.proofs.BlankLines.{by_lines}
use Rattle.vote_feed.proofs.blanks.Blank.is_lines.Goals as goal

pub returns-in-Lines : goal.returns-in-Lines
returns-in-Lines c = by_lines c.args.self _ (search rules)

pub returns-in-Within : goal.returns-in-Within
returns-in-Within c = by_lines c.args.self _ (search rules)
