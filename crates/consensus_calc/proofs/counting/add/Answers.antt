use Rattle.std.proofs.{Common.{◌≡◌, ◌+◌, ◌<◌, rules, ◌∙◌, ap, ℕ, length, get_or, false, arith}, lemmas.List.get_or_read}
use Rattle.consensus_calc.{specs.Counting.one_if, proofs.Counts.{add_step, behind_step, front_is}}
use Rattle.consensus_calc.proofs.counting.add.Goals as goal

pub overflow_add-index_mut : goal.overflow_add-index_mut
overflow_add-index_mut c =
    let items = c.counts.counts.items in
    let lt : c.counts.i < length items = omega (arith, c.args.counts.now.ok.0, c.counts.invariant.long) in
    let is : c.index_mut.result.now ≡ get_or c.args.counts.now.items c.counts.i 0 =
    get_or_read items _ _ lt c.index_mut.ensures.value 0 ∙ front_is items c.args.counts.now.items c.counts.i lt c.counts.invariant.long c.counts.invariant.behind in
    omega (arith, is, c.one_if.ensures.within, c.requires.room c.counts.i)

pub counts-preserved : goal.counts-preserved
counts-preserved c =
    let items = c.counts.counts.items in
    let old = c.args.counts.now.items in
    let lt : c.counts.i < length items = omega (arith, c.args.counts.now.ok.0, c.counts.invariant.long) in
    let is : c.index_mut.result.now + c.one_if.result ≡ get_or items c.counts.i 0 + one_if (get_or c.args.first.now c.counts.i false) (get_or c.args.second.now c.counts.i false) =
    ap (λ (n : ℕ). n + c.one_if.result) (get_or_read items _ _ lt c.index_mut.ensures.value 0) ∙ ap (λ (n : ℕ). get_or items c.counts.i 0 + n) c.one_if.ensures.value in
    record {
      counts = add_step c.args.first.now c.args.second.now items c.counts.i (c.index_mut.result.now + c.one_if.result) lt (omega (arith, c.requires.first, c.counts.invariant.long)) (omega (arith, c.requires.second, c.counts.invariant.long)) is ∙ c.counts.invariant.counts;
      long = search rules;
      behind = behind_step items old c.counts.i (c.index_mut.result.now + c.one_if.result) lt c.counts.invariant.long c.counts.invariant.behind;
    }
