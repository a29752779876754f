use Rattle.std.proofs.Common.{◌∙◌, ◌+◌, ◌-◌, ◌++◌, ℕ, List, take, ap, arith, refl, subst, sym}
use Rattle.vote_terms.specs.Votes.{max_vote}
use Rattle.vote_feed.specs.{Blanks.blank_of, declared.fed.Fed.Fed, Feeding.{Feeds, IsOpen}, Lending.taken_of}
use Rattle.vote_feed.proofs.Feeding.{all_kept, feeds_view, few_then, fits_room, kept_anew, kept_open, kept_then}
use Rattle.vote_feed.proofs.Feeding.{kept_within, none_beside}
use Rattle.vote_feed.proofs.feeder.VoteFeeder.go_on.Goals as goal

pub make_ready-requires-clause-open_ : goal.make_ready-requires-clause-open_
make_ready-requires-clause-open_ c =
    let i = c.self.inside in
    subst (λ (l : List ℕ). IsOpen l) (sym c.deref.ensures.value)
    (kept_open i.state i.bytes.items c.args.self.now i.beside i.machine.cursor i.machine.reader.across
    i.machine.reader.state i.machine.kept c.self.invariant.knows c.self.view_is c.requires)

pub invariant_of-self : goal.invariant_of-self
invariant_of-self c =
    let i = c.self.inside in
    let new = c.make_ready.new.machine in
    kept_anew i.state i.bytes.items i.bytes.items i.beside i.blank i.machine.cursor new.cursor i.machine.reader.across
    new.reader.across i.machine.reader.state new.reader.state i.machine.kept new.kept c.self.invariant
    (subst (λ (l : List ℕ). IsOpen l) (sym c.self.view_is) c.requires) refl

pub put_beside-self-inside-requires : goal.put_beside-self-inside-requires
put_beside-self-inside-requires c =
    let i = c.self.inside in
    let new = c.take_in.new.machine in
    let few =
    few_then c.in_ok-intake.intake i.bytes.items c.within_room-part.result.now c.take_in.new.bytes.items new.cursor
    new.reader.across new.reader.state new.kept c.in_ok-intake.ensures.ok
    (fits_room max_vote i.bytes.items c.args.piece.now c.within_room-part.result.now c.len.result
    (omega (arith, c.len.ensures, i.bytes.ok.0)) c.within_room-part.ensures
    (kept_within i.bytes.items i.beside c.self.invariant.within)) in
    omega (arith, few, c.take_in.new.bytes.ok.0)

pub invariant_of-self-in_err-intake : goal.invariant_of-self-in_err-intake
invariant_of-self-in_err-intake c =
    let i = c.self.inside in
    let new = c.take_in.new.machine in
    kept_anew i.state i.bytes.items c.take_in.new.bytes.items i.beside i.blank i.machine.cursor new.cursor
    i.machine.reader.across new.reader.across i.machine.reader.state new.reader.state i.machine.kept new.kept
    c.self.invariant
    (subst (λ (l : List ℕ). IsOpen l) (sym c.self.view_is) c.requires) c.in_err-intake.ensures.err

pub invariant_of-self-2 : goal.invariant_of-self-2
invariant_of-self-2 c =
    let i = c.self.inside in
    let new = c.take_in.new.machine in
    let beside = c.put_beside-self-inside in
    let unknown = subst (λ (l : List ℕ). IsOpen l) (sym c.self.view_is) c.requires in
    let none =
    none_beside i.state i.bytes.items i.beside i.machine.cursor i.machine.reader.across i.machine.reader.state
    i.machine.kept c.self.invariant.knows unknown in
    kept_then c.in_ok-intake.intake i.bytes.items c.within_room-part.result.now c.take_in.new.bytes.items
    beside.new.bytes.items beside.result i.blank c.blank_after-self-inside.result c.state_of-self-inside.result
    new.cursor new.reader.across new.reader.state new.kept c.in_ok-intake.ensures.ok beside.ensures.same
    beside.ensures.within
    (λ few. beside.ensures.none (omega (arith, few, c.take_in.new.bytes.ok.0)))
    (c.self.invariant.blanks ∙ ap (λ (l : List ℕ). blank_of l) (all_kept i.bytes.items i.beside none))
    (λ front was.
    c.blank_after-self-inside.ensures front was
    ∙ ap (λ (l : List ℕ). blank_of (front ++ l)) c.taken_part.ensures)
    c.state_of-self-inside.ensures

pub returns-clause-fed : goal.returns-clause-fed
returns-clause-fed c =
    let i = c.self.inside in
    let new = c.take_in.new.machine in
    let unknown = subst (λ (l : List ℕ). IsOpen l) (sym c.self.view_is) c.requires in
    let none =
    none_beside i.state i.bytes.items i.beside i.machine.cursor i.machine.reader.across i.machine.reader.state
    i.machine.kept c.self.invariant.knows unknown in
    let now = taken_of c.put_beside-self-inside.new.bytes.items c.put_beside-self-inside.result in
    subst (λ (f : Fed). Feeds c.args.self.now c.args.piece.now now f) (sym c.fed_of.ensures)
    (feeds_view c.in_ok-intake.intake i.bytes.items c.args.self.now c.args.piece.now c.within_room-part.result.now
    c.take_in.new.bytes.items now new.cursor new.reader.across new.reader.state new.kept c.in_ok-intake.ensures.ok
    (c.within_room-part.ensures
    ∙ ap (λ (n : ℕ). take (max_vote + 1 - n) c.args.piece.now) (omega (arith, c.len.ensures, i.bytes.ok.0)))
    (kept_within i.bytes.items i.beside c.self.invariant.within)
    (sym (all_kept i.bytes.items i.beside none) ∙ c.self.view_is)
    (sym c.put_beside-self-inside.ensures.same))
