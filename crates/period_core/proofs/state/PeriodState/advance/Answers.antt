use Rattle.std.proofs.Common.{◌≡◌, ◌<◌, ◌≤◌, ℕ, ap, sym, ◌∙◌, subst}
use Rattle.period_terms.specs.declared.state.State.{State}
use Rattle.vote_schedule.specs.Moments as schedule_moments
use Rattle.period_core.proofs.Rounding.{voting_early, voting_late, frozen, signed_early, signed_late, ended_early}
use Rattle.period_core.proofs.Rounding.{ended_late, if_ok}
use Rattle.period_core.proofs.state.PeriodState.advance.Goals as goal

pub returns-then-now-freeze-clause-step : goal.returns-then-now-freeze-clause-step
returns-then-now-freeze-clause-step g c =
    let at = sym (ap (λ (s : State). s.stage) c.self.view_is) ∙ c.in-Voting.is in
    let e = c.freeze.ensures ∙ ap (λ (s : State). schedule_moments.freeze s.schedule s.valid_after) c.self.view_is in
    voting_early _ _ c.args.self.now c.args.now at (subst (λ (x : ℕ). c.args.now < x) e c.if-now-freeze.true)

pub returns-then-now-self-clause-step : goal.returns-then-now-self-clause-step
returns-then-now-self-clause-step g c =
    let at = sym (ap (λ (s : State). s.stage) c.self.view_is) ∙ c.in-Signed.is in
    let e = ap (λ (s : State). s.valid_after) c.self.view_is in
    signed_early _ _ c.args.self.now c.args.now at (subst (λ (x : ℕ). c.args.now < x) e c.if-now-self.true)

pub returns-then-now-self-2-clause-step : goal.returns-then-now-self-2-clause-step
returns-then-now-self-2-clause-step g c =
    let at = sym (ap (λ (s : State). s.stage) c.self.view_is) ∙ c.in-Ended.is in
    let e = ap (λ (s : State). s.valid_after) c.self.view_is in
    ended_early _ _ c.args.self.now c.args.now at (subst (λ (x : ℕ). c.args.now < x) e c.if-now-self-2.true)

pub returns-else-now-freeze-clause-step : goal.returns-else-now-freeze-clause-step
returns-else-now-freeze-clause-step g c =
    let at = sym (ap (λ (s : State). s.stage) c.self.view_is) ∙ c.in-Voting.is in
    let e = c.freeze.ensures ∙ ap (λ (s : State). schedule_moments.freeze s.schedule s.valid_after) c.self.view_is in
    voting_late _ _ c.args.self.now c.freeze-in-Voting.new.self c.args.now at (subst (λ (x : ℕ). x ≤ c.args.now) e
    c.if-now-freeze.false) c.freeze-in-Voting.ensures

pub returns-in-Frozen-clause-step : goal.returns-in-Frozen-clause-step
returns-in-Frozen-clause-step g c =
    let at = sym (ap (λ (s : State). s.stage) c.self.view_is) ∙ c.in-Frozen.is in
    if_ok c.make.result _ _ (λ a k. frozen _ _ c.args.self.now c.make.new.self c.args.now a at k) c.make.ensures.step

pub returns-else-now-self-clause-step : goal.returns-else-now-self-clause-step
returns-else-now-self-clause-step g c =
    let at = sym (ap (λ (s : State). s.stage) c.self.view_is) ∙ c.in-Signed.is in
    let e = ap (λ (s : State). s.valid_after) c.self.view_is in
    if_ok c.publish.result _ _ (λ a k. signed_late _ _ c.args.self.now c.publish.new.self c.args.now a at
    (subst (λ (x : ℕ). x ≤ c.args.now) e c.if-now-self.false) k) c.publish.ensures.step

pub returns-else-now-self-2-clause-step : goal.returns-else-now-self-2-clause-step
returns-else-now-self-2-clause-step g c =
    let at = sym (ap (λ (s : State). s.stage) c.self.view_is) ∙ c.in-Ended.is in
    let e = ap (λ (s : State). s.valid_after) c.self.view_is in
    ended_late _ _ c.args.self.now c.begin.new.self c.args.now c.begin.result at (subst (λ (x : ℕ). x ≤ c.args.now) e
    c.if-now-self-2.false) c.begin.ensures.step
