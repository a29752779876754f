use Rattle.std.specs.Prelude.{filter_map}
use Rattle.dir_values.proofs.Flags.{Ascend-as_set}
use Rattle.descriptor_frame.specs.Families.{member_of}
use Rattle.descriptor_frame.proofs.laws.families_ascend.Goals as goal

pub returns : goal.returns
returns c = λ names. Ascend-as_set (filter_map member_of names)
