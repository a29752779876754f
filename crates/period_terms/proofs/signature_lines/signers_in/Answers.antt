use Rattle.std.proofs.Common.{◌≡◌, ◌≤◌, ◌+◌, ◌<◌, ℕ, Bool, true, false, List, take, Some, ap, sym, ◌∙◌, arith, cond}
use Rattle.std.proofs.lemmas.{Option.{get_or_from_slice_get, slice_get_within}, List.Sums.count_by_more_yes}
use Rattle.std.{proofs.lemmas.List.Sums.count_by_more_no, specs.Prelude.{count_by, slice_get}}
use Rattle.period_terms.specs.States.{has_line}
use Rattle.period_terms.proofs.signature_lines.signers_in.Goals as goal

more_by : {X : Type 0} (b : Bool) (p : X → Bool) (xs : List X) (i n : ℕ) (x : X) → slice_get xs i ≡ Some x → p x ≡ b
    → n ≡ count_by p (take i xs)
    → cond b (n + 1) n ≡ count_by p (take (i + 1) xs)
more_by true p xs i n x at e c = ap (λ (y : ℕ). y + 1) c
    ∙ sym (count_by_more_yes p xs i x (slice_get_within xs i x at) (ap p (get_or_from_slice_get xs i x x at) ∙ e))
more_by false p xs i n x at e c = c ∙ sym (count_by_more_no p xs i x (slice_get_within xs i x at)
    (ap p (get_or_from_slice_get xs i x x at) ∙ e))

few_by : (b : Bool) (n i m : ℕ) → m ≡ cond b (n + 1) n → n ≤ i → m ≤ i + 1
few_by true n i m e h = omega (arith, e, h)
few_by false n i m e h = omega (arith, e, h)

pub members-preserved : goal.members-preserved
members-preserved c = record {
  count = c.one_more-count.ensures ∙ more_by c.has_line.result (λ member. has_line c.args.lines.now member)
      c.args.roster.now c.members.i c.members.count c.member.result c.member.ensures (sym c.has_line.ensures)
      c.members.invariant.count;
  within = few_by c.has_line.result c.members.count c.members.i _ c.one_more-count.ensures c.members.invariant.within;
}
