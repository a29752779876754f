-- The lines of changes, one after another.
use Rattle.std.proofs.Common.{◌≡◌, ℕ, ◌-◌, List, [], ◌∷◌, ◌++◌, length, sym, ap, ◌∙◌, append_assoc, append-nil, arith}
use Rattle.period_terms.specs.declared.change.Change.{Change}
use Rattle.serve_work.specs.Reports.{change_line, change_lines}

-- a line more, of the first of the changes that are left
pub one_line : (front number : ℕ) (before after whole : List ℕ) (rest later : List Change) (change : Change)
    → rest ≡ change ∷ later → number ≡ front - length later → after ≡ before ++ change_line number change
    → before ++ change_lines front rest ≡ whole → after ++ change_lines front later ≡ whole
unfolding change_lines
one_line front number before after whole rest later change first is put was =
    ap (λ (l : List ℕ). l ++ change_lines front later) put
    ∙ append_assoc before (change_line number change) (change_lines front later)
    ∙ ap (λ (n : ℕ). before ++ (change_line n change ++ change_lines front later)) is
    ∙ sym (ap (λ (l : List Change). before ++ change_lines front l) first)
    ∙ was

-- no line is left where there are no changes
pub no_lines : (front : ℕ) (out whole : List ℕ) (rest : List Change) → length rest ≡ 0
    → out ++ change_lines front rest ≡ whole → out ≡ whole
unfolding change_lines
no_lines front out whole [] none was = sym (append-nil out) ∙ was
no_lines front out whole (change ∷ later) none was = absurd (omega (arith, none))
