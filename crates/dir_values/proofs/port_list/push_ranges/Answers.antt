use Rattle.std.proofs.Common.{rules, ◌≡◌, ◌++◌, ◌∷◌, [], take, vec_len, arith}
use Rattle.dir_values.proofs.PortEntries.{length-entries, front_kept}
use Rattle.dir_values.proofs.port_list.push_ranges.Goals as goal

pub returns-in_err-push-clause-room : goal.returns-in_err-push-clause-room
returns-in_err-push-clause-room c = λ room.
    let more = length-entries c.loop-range.separator c.args.ranges.now c.loop-range.range-index (search rules) in
    let left = c.loop-range.invariant.left in
    let capacity = c.loop-range.invariant.capacity in
    let full = c.in_err-push.ensures.full in
    absurd (omega (arith, more, left, capacity, full, room))

pub returns-in_err-push_range-clause-err : goal.returns-in_err-push_range-clause-err
returns-in_err-push_range-clause-err c =
    let start = c.args.out.now.items in
    let pushed : c.push.new.self.items ≡ c.loop-range.out.items ++ c.loop-range.separator ∷ [] = search rules in
    let kept : take (vec_len c.args.out.now) c.push_range.new.out.items ≡ start =
    front_kept (vec_len c.args.out.now) (vec_len c.push.new.self) start c.loop-range.out.items c.push.new.self.items
    c.push_range.new.out.items c.loop-range.separator
    c.loop-range.invariant.front (search rules) pushed (search rules) (search rules) in
    search rules
