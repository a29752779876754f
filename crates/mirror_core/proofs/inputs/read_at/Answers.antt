use Rattle.mirror_core.proofs.Reading.{fits_there}
use Rattle.mirror_core.proofs.inputs.read_at.Goals as goal

pub fault_behind-requires : goal.fault_behind-requires
fault_behind-requires g c =
    fits_there c.args.bytes.now c.args.place c.in-Err-Frame.field-0 c.in-Err-Frame.fault c.requires.within c.requires.short
    c.in-Err-Frame.field-0-is c.in-Err-Frame.ensures.within
