use Rattle.std.proofs.Common.{◌-◌, length, take, drop}
use Rattle.descriptor_doc.proofs.KeptDescriptors.{fits_behind, front_is, reads_behind, rest_is, within_is}
use Rattle.descriptor_doc.proofs.reading.read.Goals as goal

pub refusal_behind-requires : goal.refusal_behind-requires
refusal_behind-requires c =
    let bytes = c.args.bytes.now in
    let n = c.front_of-front.result in
    let text = c.as_slice-2.result.now in
    fits_behind n (65536 - n) bytes (take (length text - n) (drop n text)) c.in-Err.refusal
    (within_is n bytes c.as_slice.result.now c.as_slice.ensures c.front_of-front.ensures.within)
    (rest_is n bytes text c.as_slice-2.ensures) c.requires c.in-Err.ensures

pub returns-in-Ok-own_descriptor : goal.returns-in-Ok-own_descriptor
returns-in-Ok-own_descriptor c =
    let bytes = c.args.bytes.now in
    let n = c.front_of-front.result in
    let text = c.as_slice-2.result.now in
    reads_behind n c.in-Ok.read.1 bytes (take (length text - n) (drop n text)) c.in-Ok.read.0
    c.in-Ok-own_descriptor.descriptor
    (front_is n bytes c.as_slice.result.now c.as_slice.ensures c.front_of-front.ensures.front)
    (within_is n bytes c.as_slice.result.now c.as_slice.ensures c.front_of-front.ensures.within)
    (rest_is n bytes text c.as_slice-2.ensures) c.in-Ok.ensures c.in-Ok-own_descriptor.ensures
