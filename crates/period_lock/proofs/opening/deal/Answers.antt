use Rattle.std.proofs.Common.{◌≡◌, ℕ, ◌+◌, ◌-◌, suc, ap, sym, ◌∙◌, subst, arith, refl}
use Rattle.period_lock.{specs.Kept.{fresh_part, IsFree}, proofs.{Parting.split_allowed, Dealing.dealt_push}}
use Rattle.period_lock.proofs.Dealing.{given_away, left_over, last_one}
use Rattle.period_lock.proofs.opening.deal.Goals as goal

pub split_seat-seat-requires : goal.split_seat-seat-requires
split_seat-seat-requires g c =
    let key = c.args.table.now.shared.key in
    let start = g.T.Storied.start_of key.begun.value in
    let count = c.args.count in
    let left : ℕ = count - 1 - c.loop-number.number in
    let seat = ap (λ m. m.0) c.loop-number.invariant.seat in (
      c.loop-number.invariant.fits ∙ c.requires.fits,
      omega (arith, c.requires.table.0),
      split_allowed g.T.Storied.stands (g.T.Storied.front_of start) start key.passes c.loop-number.first.id
          c.loop-number.first.me.0 (fresh_part (count - 1)) c.loop-number.number left seat
          (omega (arith, c.loop-number-test.true)),
    )

pub new_pass-requires-clause-seat : goal.new_pass-requires-clause-seat
new_pass-requires-clause-seat g c =
    let start = g.T.Storied.start_of c.args.table.now.shared.key.begun.value in
    let count = c.args.count in
    let number = c.loop-number.number in
    let free : IsFree start (fresh_part number) c.split_seat-seat.result.me =
    given_away start (fresh_part (count - 1)) number (count - 1 - number) (count - 1 - (number + 1))
    c.loop-number.first.me c.split_seat-seat.result.me c.loop-number.invariant.seat
    (omega (arith, c.loop-number-test.true))
    c.split_seat-seat.ensures.4 in
    subst (λ n. IsFree start (fresh_part n) c.split_seat-seat.result.me) (sym (ap (λ m. m.0.own.number) free)) free

pub loop-number-preserved : goal.loop-number-preserved
loop-number-preserved g c =
    let start = g.T.Storied.start_of c.args.table.now.shared.key.begun.value in
    let count = c.args.count in
    let number = c.loop-number.number in
    let split = c.split_seat-seat in
    let more : count - 1 - number ≡ suc (count - 1 - (number + 1)) = omega (arith, c.loop-number-test.true) in
    let free = given_away start (fresh_part (count - 1)) number (count - 1 - number) (count - 1 - (number + 1))
    c.loop-number.first.me split.result.me c.loop-number.invariant.seat more split.ensures.4 in
    record {
      fits = split.ensures.0 ∙ c.loop-number.invariant.fits;
      seat = left_over start (fresh_part (count - 1)) number (count - 1 - number) (number + 1)
          (count - 1 - (number + 1)) c.loop-number.first.me split.new.seat.me c.loop-number.invariant.seat more
          (omega arith) split.ensures.2;
      dealt = dealt_push _ number _ (number + 1) c.loop-number.passes.items c.push_reserved.new.self.items
          c.new_pass.result c.loop-number.invariant.dealt c.new_pass.ensures (ap (λ m. m.0.own.number) free)
          c.push_reserved.ensures.items refl;
      room = omega (arith, c.loop-number.invariant.room, c.push_reserved.ensures.capacity);
    }

pub new_pass-requires-2-clause-seat : goal.new_pass-requires-2-clause-seat
new_pass-requires-2-clause-seat g c =
    let start = g.T.Storied.start_of c.args.table.now.shared.key.begun.value in
    let count = c.args.count in
    let free : IsFree start (fresh_part (count - 1)) c.loop-number.first.me =
    last_one start (fresh_part (count - 1)) c.loop-number.number (count - 1 - c.loop-number.number)
    c.loop-number.first.me c.loop-number.invariant.seat (omega (arith, c.loop-number-test.false)) in
    subst (λ n. IsFree start (fresh_part n) c.loop-number.first.me) (sym (ap (λ m. m.0.own.number) free)) free

pub returns : goal.returns
returns g c =
    let start = g.T.Storied.start_of c.args.table.now.shared.key.begun.value in
    let count = c.args.count in
    let number = c.loop-number.number in
    let last : number ≡ count - 1 = omega (arith, c.loop-number-test.false, c.loop-number.auto.number-end) in
    let free : IsFree start (fresh_part (count - 1)) c.loop-number.first.me =
    last_one start (fresh_part (count - 1)) number (count - 1 - number) c.loop-number.first.me
    c.loop-number.invariant.seat (omega (arith, last)) in
    let all : number + 1 ≡ count = omega (arith, last, c.requires.count.0) in
    dealt_push _ number _ count c.loop-number.passes.items c.push_reserved-2.new.self.items c.new_pass-2.result
    c.loop-number.invariant.dealt c.new_pass-2.ensures (ap (λ m. m.0.own.number) free ∙ sym last)
    c.push_reserved-2.ensures.items all
