use Rattle.std.proofs.Common.{◌<◌, ◌≤◌, inr, sym, subst, arith, true, ◌≡◌}
use Rattle.dir_values.specs.Rosters.{has_member}
use Rattle.period_terms.specs.{declared.state.State.State, Offers.most_vote_changes}
use Rattle.period_core.{specs.Judging.Beats, proofs.Standings.{few_votes, room_to_keep, told_vote, with_vote_stands}}
use Rattle.period_core.proofs.state.PeriodState.keep.Goals as goal

pub place-requires : goal.place-requires
place-requires g c = inr (omega (arith, few_votes _ c.self.invariant.0, c.self.invariant.1))

pub add-requires-clause-room : goal.add-requires-clause-room
add-requires-clause-room g c =
    let some = subst (λ (s : State). s.vote_changes < most_vote_changes) (sym c.self.view_is) c.requires.some in
    omega (arith, room_to_keep _ c.self.invariant.0 some, c.self.invariant.4)

pub invariant_of-self : goal.invariant_of-self
invariant_of-self g c =
    let some = subst (λ (s : State). s.vote_changes < most_vote_changes) (sym c.self.view_is) c.requires.some in
    let member = subst (λ (s : State). has_member s.roster c.args.held.says.identity ≡ true) (sym c.self.view_is)
    c.requires.member in
    let beats = subst (λ (s : State). Beats s.votes c.args.held) (sym c.self.view_is) c.requires.beats in (
      rw (c.place.ensures.votes, c.add.ensures.front, c.add.ensures.base, c.add.ensures.changes)
          (with_vote_stands _ c.args.held _ (told_vote c.args.held _ _ _ _ _ _ c.identity.ensures c.vote.ensures c.published.ensures.value c.vote-2.ensures
          c.of.ensures c.rank.ensures) beats
          c.self.invariant.0 member some),
      rw c.place.ensures.votes c.self.invariant.1,
      c.self.invariant.2,
      c.self.invariant.3,
      omega (arith, c.add.ensures.capacity, c.self.invariant.4),
    )
