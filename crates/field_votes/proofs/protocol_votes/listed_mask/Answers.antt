use Rattle.std.proofs.Common.{rules, ◌≡◌, ℕ, suc, ◌+◌, ◌*◌, ◌%◌, ◌^◌, Bool, true, false, sym, ap, ◌∙◌, arith}
use Rattle.std.specs.Prelude.{bit_or, if◌then◌else◌}
use Rattle.field_votes.{specs.{Lists.is_listed_number, Private.mask_below}, proofs.ListedMasks.{start, step}}
use Rattle.field_votes.proofs.protocol_votes.listed_mask.Goals.{then-is_listed_number, else-is_listed_number}
use Rattle.field_votes.proofs.protocol_votes.listed_mask.Goals as goal

pub numbers-init : goal.numbers-init
numbers-init c = record {
  mask = sym (start (is_listed_number c.args.least c.args.lists.now c.args.name.now));
  within = omega arith;
}

pub numbers-preserved : goal.numbers-preserved
numbers-preserved c =
    let test : ℕ → Bool = is_listed_number c.args.least c.args.lists.now c.args.name.now in
    let n = c.numbers.number in
    let one : suc n ≡ n + 1 = omega arith in
    let before = mask_below test n in
    let next : (b : Bool) → test n ≡ b → (if b then bit_or before (1 * 2 ^ n % 2 ^ 64) else before) ≡ mask_below test (n + 1) =
    λ b is. ap (λ (t : Bool). if t then bit_or before (1 * 2 ^ n % 2 ^ 64) else before) (sym is)
    ∙ sym (step test n) ∙ ap (mask_below test) one in
    record {
      mask = elim c.if-is_listed_number.branch [
        | then-is_listed_number w ↦
            w.mask-is ∙ ap (λ (m : ℕ). bit_or m (1 * 2 ^ n % 2 ^ 64)) c.numbers.invariant.mask
            ∙ next true (sym c.is_listed_number.ensures ∙ w.if-is_listed_number.true)
        | else-is_listed_number w ↦
            w.mask-is ∙ c.numbers.invariant.mask
            ∙ next false (sym c.is_listed_number.ensures ∙ w.if-is_listed_number.false)
      ];
      within = search rules;
    }
