use Rattle.std.proofs.Common.{◌≡◌, ◌∙◌, ◌++◌, false}
use Rattle.compute_command.proofs.Beyonds.{fits_told, front_more, short_all}
use Rattle.compute_command.proofs.beyond.Beyond.feed.Goals as goal

pub take-requires-clause-at : goal.take-requires-clause-at
take-requires-clause-at c =
    let i = c.self.inside in
    let all : c.deref.result.now ≡ i.bytes.items ++ c.args.piece.now =
    c.deref.ensures.value ∙ c.in_ok-extend_from_slice.ensures.items in
    (front_more i.bytes.items c.args.piece.now c.deref.result.now i.cursor all c.self.invariant).reads

pub further-requires : goal.further-requires
further-requires c =
    let i = c.self.inside in
    let bytes = c.deref.result.now in
    let all : bytes ≡ i.bytes.items ++ c.args.piece.now =
    c.deref.ensures.value ∙ c.in_ok-extend_from_slice.ensures.items in
    fits_told c.args.start bytes i.cursor c.take.new.self false c.take.result c.fault_of.result c.fault_of.ensures
    (front_more i.bytes.items c.args.piece.now bytes i.cursor all c.self.invariant) c.take.ensures.takes
    c.take.ensures.order (short_all c.args.start i.bytes.items c.args.self.now c.args.piece.now bytes all c.self.view_is c.requires)

pub invariant_of-self-in_default : goal.invariant_of-self-in_default
invariant_of-self-in_default c =
    let i = c.self.inside in
    front_more i.bytes.items c.args.piece.now c.extend_from_slice.new.self.items i.cursor
    c.in_ok-extend_from_slice.ensures.items c.self.invariant
