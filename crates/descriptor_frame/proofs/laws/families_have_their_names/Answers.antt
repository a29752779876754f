use Rattle.std.{proofs.Common.◌∙◌, specs.Prelude.filter_map}
use Rattle.dir_values.proofs.Flags.{has_flag-as_set}
use Rattle.descriptor_frame.{specs.Families.member_of, proofs.Forms.forms_of_names}
use Rattle.descriptor_frame.proofs.laws.families_have_their_names.Goals as goal

pub returns : goal.returns
returns c = λ names text. has_flag-as_set (filter_map member_of names) text ∙ forms_of_names names text
