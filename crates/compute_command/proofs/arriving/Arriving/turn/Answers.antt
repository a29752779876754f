use Rattle.std.proofs.Common.{◌+◌, arith, refl, subst}
use Rattle.key_port.specs.Answers.{rules}
use Rattle.compute_command.{specs.{declared.rest.Turn.Turn, Rests.room_behind}, proofs.Asking.{asked_ended, asked_same}}
use Rattle.compute_command.proofs.Arrivals.{TurnsBehind, behind_short, ends_short, may_check, no_vote_ends, vote_ended}
use Rattle.compute_command.proofs.arriving.Arriving.turn.Goals as goal

pub check-requires-clause-few : goal.check-requires-clause-few
check-requires-clause-few g c =
    may_check (rules g.V.Verifier.may_accept g.V.Verifier.may_refuse) c.args.wanted.now c.args.self
    c.args.piece.now c.in-Vote.vote c.in-Vote.length c.in-Vote.taken c.requires
    (subst (λ (t : Turn). TurnsBehind c.args.self c.args.piece.now t) c.in-Vote.is c.in_ok-rest.ensures)

pub overflow_add-start : goal.overflow_add-start
overflow_add-start g c =
    let short =
    ends_short (rules g.V.Verifier.may_accept g.V.Verifier.may_refuse) c.args.wanted.now c.args.self
    c.args.piece.now c.in-Vote.vote c.in-Vote.length c.in-Vote.taken c.requires
    (subst (λ (t : Turn). TurnsBehind c.args.self c.args.piece.now t) c.in-Vote.is c.in_ok-rest.ensures) in
    omega (arith, short)

pub returns-in-On-clause-turns : goal.returns-in-On-clause-turns
returns-in-On-clause-turns g c =
    let its = (rules g.V.Verifier.may_accept g.V.Verifier.may_refuse) in
    let old = c.args.self in
    let piece = c.args.piece.now in
    λ bytes is short.
    no_vote_ends its c.args.wanted.now bytes piece old _ c.in-On.taken is refl refl
    (subst (λ (t : Turn). TurnsBehind old piece t) c.in-On.is c.in_ok-rest.ensures (room_behind is.votes) is.behind is.rest
    (behind_short its c.args.wanted.now bytes old _ is short))

pub returns-in_ok-next-in-Vote-clause-turns : goal.returns-in_ok-next-in-Vote-clause-turns
returns-in_ok-next-in-Vote-clause-turns g c =
    let its = (rules g.V.Verifier.may_accept g.V.Verifier.may_refuse) in
    let old = c.args.self in
    let piece = c.args.piece.now in
    let next = c.in_ok-next-in-Vote in
    λ bytes is short.
    vote_ended its c.args.wanted.now bytes piece old next.next c.check.new.self c.in-Vote.vote c.in-Vote.length
    (old.start + c.in-Vote.length) c.in-Vote.taken is
    (subst (λ (t : Turn). TurnsBehind old piece t) c.in-Vote.is c.in_ok-rest.ensures (room_behind is.votes) is.behind
    is.rest (behind_short its c.args.wanted.now bytes old _ is short)) refl c.check.ensures.checked next.ensures.begins
    next.ensures.same

pub returns-in-On-clause-asked : goal.returns-in-On-clause-asked
returns-in-On-clause-asked g c =
    let its = (rules g.V.Verifier.may_accept g.V.Verifier.may_refuse) in
    let old = c.args.self in
    let piece = c.args.piece.now in
    λ bytes start asked short.
    asked_same g.V.Verifier.steps its c.args.wanted.now bytes piece old _ c.in-On.taken start c.args.verifier.now asked refl
    refl
    (subst (λ (t : Turn). TurnsBehind old piece t) c.in-On.is c.in_ok-rest.ensures (room_behind asked.0.votes)
    asked.0.behind asked.0.rest (behind_short its c.args.wanted.now bytes old _ asked.0 short))

pub returns-in_ok-next-in-Vote-clause-asked : goal.returns-in_ok-next-in-Vote-clause-asked
returns-in_ok-next-in-Vote-clause-asked g c =
    let its = (rules g.V.Verifier.may_accept g.V.Verifier.may_refuse) in
    let old = c.args.self in
    let piece = c.args.piece.now in
    let next = c.in_ok-next-in-Vote in
    λ bytes start asked short.
    asked_ended g.V.Verifier.steps its c.args.wanted.now bytes piece old next.next c.check.new.self c.in-Vote.vote
    c.in-Vote.length (old.start + c.in-Vote.length) c.in-Vote.taken start c.args.verifier.now c.check.new.verifier asked
    (subst (λ (t : Turn). TurnsBehind old piece t) c.in-Vote.is c.in_ok-rest.ensures (room_behind asked.0.votes)
    asked.0.behind asked.0.rest (behind_short its c.args.wanted.now bytes old _ asked.0 short)) refl
    c.check.ensures.checked next.ensures.begins next.ensures.same c.check.ensures.asked
