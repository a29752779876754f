use Rattle.std.{proofs.Common.{◌∙◌, List, ℕ, Option, ap, subst, sym, true}, specs.Option.option_map}
use Rattle.frame_terms.specs.declared.fault.FrameFault.{FrameFault}
use Rattle.blank_lines.specs.Behind.{fault_behind}
use Rattle.compute_command.{specs.Beyonds.{EndsBeyond, ReadsFront}, proofs.Beyonds.{finished, fits_told, short_view}}
use Rattle.compute_command.proofs.beyond.Beyond.finish.Goals as goal

pub further-requires : goal.further-requires
further-requires c =
    let i = c.self.inside in
    let bytes = c.deref.result.now in
    fits_told c.args.start bytes i.cursor c.take.new.self true c.take.result c.fault_of.result c.fault_of.ensures
    (subst (λ (l : List ℕ). ReadsFront l i.cursor) (sym c.deref.ensures.value) c.self.invariant) c.take.ensures.takes
    c.take.ensures.order (short_view c.args.start bytes i.bytes.items c.args.self c.deref.ensures.value c.self.view_is c.requires)

pub returns : goal.returns
returns c =
    let i = c.self.inside in
    let bytes = c.deref.result.now in
    subst (λ (l : List ℕ). EndsBeyond c.args.start l c.further.result) (c.deref.ensures.value ∙ c.self.view_is)
    (finished c.args.start bytes i.cursor c.take.new.self c.take.result c.further.result
    (subst (λ (l : List ℕ). ReadsFront l i.cursor) (sym c.deref.ensures.value) c.self.invariant) c.take.ensures.takes
    (c.further.ensures ∙ ap (λ (o : Option FrameFault). option_map (fault_behind c.args.start) o) c.fault_of.ensures))
