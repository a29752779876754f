use Rattle.std.proofs.Common.{◌∙◌, ◌-◌, ◌++◌, ℕ, List, [], length, take, drop, append-nil, refl, subst, sym}
use Rattle.key_port.specs.Answers.{rules}
use Rattle.compute_command.{specs.Arriving.IsArriving, proofs.Asking.{asked_all, asked_first, asked_on}}
use Rattle.compute_command.proofs.Arrivals.{all_taken, parts_on, rest_is, smaller, so_on, turn_takes}
use Rattle.compute_command.proofs.arriving.Arriving.take.Goals as goal

pub turns-init : goal.turns-init
turns-init g c = record {
  done = [];
  parts = refl;
  arrives = λ bytes is short.
      subst (λ (l : List ℕ). IsArriving (rules g.V.Verifier.may_accept g.V.Verifier.may_refuse)
      c.args.wanted.now l c.args.self) (sym (append-nil bytes)) is;
  faults = λ before tells. tells;
  asked = asked_first g.V.Verifier.steps (rules g.V.Verifier.may_accept g.V.Verifier.may_refuse) c.args.wanted.now
      c.args.self _ c.args.verifier.now;
}

pub slice_bounds-left-count : goal.slice_bounds-left-count
slice_bounds-left-count g c =
    let l = c.turns in
    (turn_takes (rules g.V.Verifier.may_accept g.V.Verifier.may_refuse) c.args.wanted.now c.args.self l.now
    c.args.piece.now l.invariant.done l.left.now l.invariant.parts c.requires l.invariant.arrives c.in_ok-next.next
    c.in_ok-next.taken c.in_ok-next.ensures.turns).within

pub slice_bounds-left-start : goal.slice_bounds-left-start
slice_bounds-left-start g c =
    let l = c.turns in
    (turn_takes (rules g.V.Verifier.may_accept g.V.Verifier.may_refuse) c.args.wanted.now c.args.self l.now
    c.args.piece.now l.invariant.done l.left.now l.invariant.parts c.requires l.invariant.arrives c.in_ok-next.next
    c.in_ok-next.taken c.in_ok-next.ensures.turns).within

pub turns-smaller : goal.turns-smaller
turns-smaller g c =
    let l = c.turns in
    smaller l.left.now c.in_ok-next.taken
    (turn_takes (rules g.V.Verifier.may_accept g.V.Verifier.may_refuse) c.args.wanted.now c.args.self l.now
    c.args.piece.now l.invariant.done l.left.now l.invariant.parts c.requires l.invariant.arrives c.in_ok-next.next
    c.in_ok-next.taken c.in_ok-next.ensures.turns) (sym c.is_empty.ensures ∙ c.turns-test.true)

pub turns-preserved : goal.turns-preserved
turns-preserved g c =
    let l = c.turns in
    let left = l.left.now in
    let taken = c.in_ok-next.taken in
    record {
      done = l.invariant.done ++ take taken left;
      parts = parts_on c.args.piece.now l.invariant.done left (take (length left - taken) (drop taken left)) taken
          l.invariant.parts (rest_is left (take (length left - taken) (drop taken left)) taken refl);
      arrives = so_on (rules g.V.Verifier.may_accept g.V.Verifier.may_refuse) c.args.wanted.now c.args.self
          l.now c.args.piece.now l.invariant.done left l.invariant.parts c.requires l.invariant.arrives c.in_ok-next.next
          taken c.in_ok-next.ensures.turns;
      faults = λ before tells. c.in_ok-next.ensures.faults before (l.invariant.faults before tells);
      asked = asked_on g.V.Verifier.steps (rules g.V.Verifier.may_accept g.V.Verifier.may_refuse) c.args.wanted.now
          c.args.self l.now c.args.piece.now l.invariant.done left l.invariant.parts c.args.verifier.now l.verifier
          l.invariant.asked c.in_ok-next.next taken c.turn.new.verifier c.in_ok-next.ensures.asked;
    }

pub returns-clause-arrives : goal.returns-clause-arrives
returns-clause-arrives g c =
    let l = c.turns in
    all_taken (rules g.V.Verifier.may_accept g.V.Verifier.may_refuse) c.args.wanted.now c.args.self l.now
    c.args.piece.now l.invariant.done l.left.now l.invariant.parts c.requires l.invariant.arrives
    (sym c.is_empty.ensures ∙ c.turns-test.false)

pub returns-clause-asked : goal.returns-clause-asked
returns-clause-asked g c =
    let l = c.turns in
    asked_all g.V.Verifier.steps (rules g.V.Verifier.may_accept g.V.Verifier.may_refuse) c.args.wanted.now c.args.self
    l.now c.args.piece.now l.invariant.done l.left.now l.invariant.parts c.args.verifier.now l.verifier l.invariant.asked
    (sym c.is_empty.ensures ∙ c.turns-test.false)
