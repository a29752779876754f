use Rattle.std.proofs.Common.{rules, ◌≡◌, ℕ, ◌-◌, true, false, cond, List, ◌∷◌, sym, ap, ◌∙◌, arith, Bool}
use Rattle.std.specs.Prelude.{filter}
use Rattle.list_values.specs.{Masks.is_set, NumberSets.{numbers_from, ranges_of, with_number}}
use Rattle.list_values.proofs.NumberLists.{from_end, filter_before}
use Rattle.list_values.proofs.runs.runs_of.Goals as goal

pub numbers-init : goal.numbers-init
numbers-init c = record {
  value = sym (ap (λ (l : List ℕ). ranges_of (filter (is_set c.args.mask) l)) from_end);
  left = omega arith;
  room = omega arith;
  within = omega arith;
}

pub numbers-preserved-then-is_set : goal.numbers-preserved-then-is_set
numbers-preserved-then-is_set c =
    let left = c.numbers.left in
    let rest = filter (is_set c.args.mask) (numbers_from left) in
    let is : is_set c.args.mask (left - 1) ≡ true = search rules in
    record {
      value = c.put_in_front.ensures.value ∙ ap (with_number (left - 1)) c.numbers.invariant.value
          ∙ sym (ap ranges_of (filter_before (is_set c.args.mask) left (search rules) c.numbers.invariant.left
          ∙ ap (λ (b : Bool). cond b ((left - 1) ∷ rest) rest) is));
      left = search rules;
      room = search rules;
      within = search rules;
    }

pub numbers-preserved : goal.numbers-preserved
numbers-preserved c =
    let left = c.numbers.left in
    let rest = filter (is_set c.args.mask) (numbers_from left) in
    let is : is_set c.args.mask (left - 1) ≡ false = search rules in
    record {
      value = c.numbers.invariant.value
          ∙ sym (ap ranges_of (filter_before (is_set c.args.mask) left (search rules) c.numbers.invariant.left
          ∙ ap (λ (b : Bool). cond b ((left - 1) ∷ rest) rest) is));
      left = search rules;
      room = search rules;
      within = search rules;
    }
