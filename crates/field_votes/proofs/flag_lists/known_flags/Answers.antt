use Rattle.field_votes.specs.Flags.{listed_flags}
use Rattle.field_votes.proofs.flag_lists.known_flags.Goals as goal

pub returns : goal.returns
returns c = c.in_ok-add_own_flags.ensures.ok (listed_flags c.args.lists.now) c.in_ok-set.ensures
