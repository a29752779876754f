use Rattle.std.proofs.Common.{◌≡◌, ◌≤◌, ℕ, List, [], ◌∷◌, ◌++◌, length, ap, sym, ◌∙◌, subst, arith}
use Rattle.std.{proofs.lemmas.List.{length_push, Elements.All-push}, specs.Prelude.All}
use Rattle.period_lock.specs.Turns.{AreDealt, newcomer}
use Rattle.serve_board.{specs.{Boards.{Parts, IsPair}, Passes.DifferInNumber}, proofs.Pairing.{without_last, pair_of}}
use Rattle.serve_board.proofs.Pairing.{numbers_above, numbers_differ}
use Rattle.serve_board.proofs.opening.pair.Goals as goal

pub passes-preserved : goal.passes-preserved
passes-preserved g c =
    let inv = c.passes.invariant in
    let here =
    without_last c.args.state.now (length c.passes.states.items) c.passes.states.items c.pop.new.self.items
    c.in-Some.state c.in-Some.ensures.items inv.states in
    let there =
    without_last c.args.pool.now (length c.passes.states.items) c.passes.pools.items c.pop-in-Some.new.self.items
    c.in-Some-pop.pool c.in-Some-pop.ensures.items inv.pools in
    let n : ℕ = length c.pop.new.self.items in
    let same : length c.pop-in-Some.new.self.items ≡ n = omega (arith, here.count_is, there.count_is) in
    let pass : Parts = record { state = c.in-Some.state; pool = c.in-Some-pop.pool } in
    let number : c.in-Some.state.number ≡ n = ap (λ k. k.number) here.last_is in
    let pushed : c.push_reserved.new.self.items ≡ c.passes.passes.items ++ pass ∷ [] = c.push_reserved.ensures.items in
    record {
      states = here.dealt;
      pools = subst (λ (m : ℕ). AreDealt c.args.pool.now m c.pop-in-Some.new.self.items) same there.dealt;
      count =
          omega (
            arith,
            inv.count,
            here.count_is,
            ap (λ (l : List Parts). length l) pushed,
            length_push c.passes.passes.items pass,
          );
      room = omega (arith, inv.room, c.push_reserved.ensures.capacity);
      pairs =
          subst (λ (l : List Parts). All (IsPair c.args.state.now c.args.pool.now) l) (sym pushed)
          (All-push (IsPair c.args.state.now c.args.pool.now) c.passes.passes.items pass inv.pairs
          (pair_of c.args.state.now c.args.pool.now n c.in-Some.state c.in-Some-pop.pool here.last_is
          (there.last_is ∙ ap (λ (m : ℕ). newcomer c.args.pool.now m) same)));
      above =
          subst (λ (l : List Parts). All (λ p. n ≤ p.state.number) l) (sym pushed)
          (numbers_above n (length c.passes.states.items) c.passes.passes.items pass number here.count_is inv.above);
      numbers =
          subst DifferInNumber (sym pushed)
          (numbers_differ n (length c.passes.states.items) c.passes.passes.items pass number here.count_is inv.above
          inv.numbers);
    }
