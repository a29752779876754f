use Rattle.dir_values.proofs.Flags.{has_flag-as_set}
use Rattle.dir_values.proofs.flag_set.sets_have_their_flags.Goals as goal

pub returns : goal.returns
returns c = has_flag-as_set
