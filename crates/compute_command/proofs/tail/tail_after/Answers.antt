use Rattle.std.{proofs.Common.{◌∙◌, drop, ap, sym}, specs.List.fold}
use Rattle.compute_command.{specs.{declared.tail.Tail.Tail, Tails.tail_with}, proofs.TailLines.others}
use Rattle.compute_command.proofs.tail.tail_after.Goals as goal

pub returns-in-Other : goal.returns-in-Other
returns-in-Other c =
    let rest = drop c.bytes.byte-index c.args.bytes.now in
    sym (others rest) ∙ ap (λ (t : Tail). fold tail_with t rest) (sym c.in-Other.is) ∙ c.bytes.invariant
