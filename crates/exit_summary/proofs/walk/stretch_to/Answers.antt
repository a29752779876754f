use Rattle.std.{proofs.Common.{rules, ℕ, ◌+◌, ◌∙◌, ap, drop, arith}, specs.Prelude.filter}
use Rattle.exit_summary.{specs.Policies.covers, proofs.Walks.{Covers, accepted_from, decides, adds, too_many, walked}}
use Rattle.exit_summary.proofs.Walks.{count_is}
use Rattle.exit_summary.proofs.walk.stretch_to.Goals as goal

pub returns-then-is_every-clause-same : goal.returns-then-is_every-clause-same
returns-then-is_every-clause-same c = λ other above within.
    let items = c.args.items.now in
    let i = c.loop-i.i in
    let max = c.max-first-in-loop-i.ensures in
    let high = c.if-item-port.false in
    let its : Covers items i other =
    record { there = c.loop-i-test.true; low = omega (arith, above, max); high = omega (arith, high, within) } in
    c.loop-i.invariant.same other (omega (arith, above, max)) within
    ∙ decides c.loop-i.rejected items i other its c.loop-i.invariant.few (search rules)

pub returns-then-count-rejected-clause-same : goal.returns-then-count-rejected-clause-same
returns-then-count-rejected-clause-same c = λ other above within.
    let items = c.args.items.now in
    let i = c.loop-i.i in
    let rejected = c.loop-i.rejected in
    let count = c.count_at-count.result in
    let max = c.max-first-in-loop-i.ensures in
    let high = c.if-item-port.false in
    let many = c.if-count-rejected.true in
    let few = c.loop-i.invariant.few in
    let its : Covers items i other =
    record { there = c.loop-i-test.true; low = omega (arith, above, max); high = omega (arith, high, within) } in
    let is = count_is items c.args.counts.now i count c.loop-i-test.true c.requires.counts c.count_at-count.ensures in
    c.loop-i.invariant.same other (omega (arith, above, max)) within
    ∙ adds rejected items i other its (search rules)
    ∙ ap (λ (n : ℕ). accepted_from (rejected + n) items (i + 1) other) is
    ∙ too_many (rejected + count) (filter (covers other) (drop (i + 1) items)) (omega (arith, many, few))

pub loop-i-preserved : goal.loop-i-preserved
loop-i-preserved c = record {
  from_one = search rules;
  within = search rules;
  few = let fits = c.if-count-rejected.false in let few = c.loop-i.invariant.few in omega (arith, fits, few);
  same = λ other above within.
      let items = c.args.items.now in
      let i = c.loop-i.i in
      let rejected = c.loop-i.rejected in
      let count = c.count_at-count.result in
      let max = c.max-first-in-loop-i.ensures in
      let high = c.if-item-port.false in
      let its : Covers items i other =
      record { there = c.loop-i-test.true; low = omega (arith, above, max); high = omega (arith, high, within) } in
      let is = count_is items c.args.counts.now i count c.loop-i-test.true c.requires.counts c.count_at-count.ensures
      in
      c.loop-i.invariant.same other (omega (arith, above, max)) within
      ∙ adds rejected items i other its (search rules)
      ∙ ap (λ (n : ℕ). accepted_from (rejected + n) items (i + 1) other) is;
}

pub returns-clause-same : goal.returns-clause-same
returns-clause-same c = λ other above within.
    let items = c.args.items.now in
    let i = c.loop-i.i in
    let all = c.loop-i-test.false in
    c.loop-i.invariant.same other above within
    ∙ walked c.loop-i.rejected items i other (omega (arith, all)) c.loop-i.invariant.few
