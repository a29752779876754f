use Rattle.std.{proofs.Common.{◌≡◌, ◌+◌, ◌++◌, length, sym, subst}, specs.Prelude.option_to_list}
use Rattle.period_lock.{specs.Turns.entries, proofs.Turns.{kept_after, seen_after}}
use Rattle.period_lock.proofs.lock.Shared.turn.Goals as goal

pub give_back-requires-clause-stands : goal.give_back-requires-clause-stands
give_back-requires-clause-stands g c =
    let begun = g.T.Storied.start_of c.self.inside.table.shared.key.begun.value in
    let taken = c.take-value.ensures.taken in
    let entry = g.E.Event.entry_of c.of-asked.result.value c.apply-reply.result c.apply-reply.new.self in
    subst (λ l. g.T.Storied.stands c.apply-reply.new.state begun l)
    (sym (seen_after g.T.Storied.stands begun c.pass.inside.seat.me.0.own entry c.take-value.result
    c.take-value.new.seat.me c.count.new.seat.me c.count.new.seat.me taken c.count.ensures.counted))
    (subst (λ e. g.T.Storied.stands c.apply-reply.new.state begun
    (entries taken.seen ++ option_to_list (g.E.Event.entry_of e c.apply-reply.result c.apply-reply.new.self)))
    (sym c.of-asked.ensures)
    (c.apply-reply.ensures.story _ _ taken.stands_for))

pub invariant_of-pass : goal.invariant_of-pass
invariant_of-pass g c =
    let begun = g.T.Storied.start_of c.self.inside.table.shared.key.begun.value in
    let taken = c.take-value.ensures.taken in
    let entry = g.E.Event.entry_of c.of-asked.result.value c.apply-reply.result c.apply-reply.new.self in
    let after : c.front-after.result ≡ g.T.Storied.front_of begun + length
    (entries taken.seen ++ option_to_list entry) =
    subst
    (λ e. c.front-after.result ≡ g.T.Storied.front_of begun + length
    (entries taken.seen ++ option_to_list (g.E.Event.entry_of e c.apply-reply.result c.apply-reply.new.self)))
    (sym c.of-asked.ensures)
    (c.front-after.ensures _ _ (c.apply-reply.ensures.story _ _ taken.stands_for)) in
    kept_after g.T.Storied.stands begun c.pass.inside.seat.me.0.own entry c.take-value.result c.take-value.new.seat.me
    c.count.new.seat.me c.give_back.new.seat.me g.T.Storied.front_of c.front-after.result taken
    c.count.ensures.counted c.give_back.ensures.free after
