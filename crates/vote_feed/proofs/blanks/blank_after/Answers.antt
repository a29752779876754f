use Rattle.std.{proofs.{Common.{◌∙◌, drop, ap, arith, sym}, lemmas.Grind.common_steps}, specs.List.fold}
use Rattle.vote_feed.{specs.{declared.blanks.Blank.Blank, Blanks.blank_with}, proofs.BlankLines.{blank_behind, others}}
use Rattle.vote_feed.proofs.blanks.blank_after.Goals as goal

pub returns-in-Other : goal.returns-in-Other
returns-in-Other c =
    let rest = drop c.bytes.byte-index c.args.bytes.now in
    blank_behind c.args.blank _ c.args.bytes.now
    (sym (others rest) ∙ ap (λ (b : Blank). fold blank_with b rest) (sym c.in-Other.is) ∙ c.bytes.invariant)

pub returns : goal.returns
returns c = blank_behind c.args.blank c.bytes.blank c.args.bytes.now (grind (arith, common_steps))
