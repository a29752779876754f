use Rattle.std.proofs.{Common.{ℕ, length, take, sym, ap, ◌∙◌, arith}, lemmas.List.take_all}
use Rattle.dirdoc_grammar.proofs.FirstByte.{before_found, before_none}
use Rattle.blank_lines.proofs.keywords.line_text.Goals as goal

pub returns-in-Some : goal.returns-in-Some
returns-in-Some c = ap (λ (n : ℕ). take n c.args.rest.now) (sym (before_found 10 c.args.rest.now c.in-Some.len c.in-Some.ensures))

pub returns-in-None : goal.returns-in-None
returns-in-None c =
    sym (ap (λ (n : ℕ). take n c.args.rest.now) (before_none 10 c.args.rest.now c.in-None.ensures) ∙ take_all (length c.args.rest.now) c.args.rest.now (omega arith))
