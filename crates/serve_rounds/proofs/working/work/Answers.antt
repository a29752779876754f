use Rattle.std.proofs.Common.{◌∙◌, ℕ, sym, subst}
use Rattle.key_port.specs.Answers as keys
use Rattle.serve_board.proofs.Going.{goes_on, goes_sees}
use Rattle.serve_rounds.specs.{Duties.IsRound, declared.round.Round.Round, Exchanges.{BringsSignatures, DoesPhase}}
use Rattle.serve_rounds.{specs.{Plans.phase_in, Spans.Since, OwnVotes.IsPeriodOf}, proofs.Adding.{adds_same, adds_sees}}
use Rattle.serve_rounds.proofs.{Adding.{adds_still, here_since, none_same, since_here}, Lasting.period_earlier}
use Rattle.serve_rounds.proofs.{Lasting.{period_later, period_seen, round_lasts}, Exchanges.brings_earlier}
use Rattle.serve_rounds.proofs.Exchanges.{brings_later, does_earlier}
use Rattle.serve_rounds.proofs.working.work.Goals as goal

pub returns-clause-adds : goal.returns-clause-adds
returns-clause-adds g c = λ a adds.
    let given = c.args.given.now in
    let lent = c.args.lent.now in
    let its = keys.rules g.V.Verifier.may_accept g.V.Verifier.may_refuse in
    let board = given.board.now in
    let allows = g.W.Rules.allows given.ruler.now in
    let P = IsRound its g.N.Signer.may_give g.N.Signer.steps allows given.station.now board given.moment in
    let lasts = round_lasts its g.N.Signer.may_give g.N.Signer.steps allows given.station.now board given.moment in
    let read = c.valid_after-valid_after in
    let posted = c.post_once.new.lent.pass.now in
    let before = adds_still P lasts a read.new.pass posted
    (adds_sees P lasts its board a lent.pass.now read.new.pass adds _ _ read.ensures.reading)
    c.post_once.ensures.none in
    let period = period_earlier its board a lent.pass.now posted read.result adds.goes
    (period_later its board lent.pass.now read.new.pass posted read.result
    (c.post_once.ensures.none read.new.pass (none_same read.new.pass)).goes
    (period_seen its board lent.pass.now read.new.pass read.result read.ensures.reading)) in
    here_since P a c.work_in_phase.new.lent.pass.now
    (c.work_in_phase.ensures.adds a before.goes
    (subst (IsPeriodOf its board a posted) (sym (c.post_once.ensures.round ∙ c.turn_to.ensures.period)) period) a
    (since_here P a posted before))

pub returns-clause-asks : goal.returns-clause-asks
returns-clause-asks g c =
    let given = c.args.given.now in
    let lent = c.args.lent.now in
    let its = keys.rules g.V.Verifier.may_accept g.V.Verifier.may_refuse in
    let gives = g.N.Signer.may_give in
    let steps = g.N.Signer.steps in
    let allows = g.W.Rules.allows given.ruler.now in
    let board = given.board.now in
    let station = given.station.now in
    let exchanges = g.L.Link.steps in
    let P = IsRound its gives steps allows station board given.moment in
    let read = c.valid_after-valid_after in
    let a = lent.pass.now in
    let b = read.new.pass in
    let p = c.post_once.new.lent.pass.now in
    let d = c.work_in_phase.new.lent.pass.now in
    let ab = goes_sees its board a b _ read.result read.ensures.reading in
    let bp = (c.post_once.ensures.none b (none_same b)).goes in
    let ap = goes_on a b p ab bp in
    let seen = period_seen its board a b read.result read.ensures.reading in
    let same = c.post_once.ensures.round ∙ c.turn_to.ensures.period in
    let there = subst (IsPeriodOf its board a p) (sym same) (period_later its board a b p read.result bp seen) in
    let pd = (c.work_in_phase.ensures.adds a ap there p (adds_same (Since a P) p)).goes in
    let bd = goes_on b p d bp pd in
    let does = does_earlier its gives steps allows station board exchanges a p d _ given.moment _ _ _ _ ap
    c.work_in_phase.ensures.does in
    record {
      valid_after = read.result;
      period = period_later its board a b d read.result bd seen;
      marked = c.post_once.new.round;
      between = c.post_once.new.lent.link.now;
      brings =
          subst (λ (r : Round). BringsSignatures its station board exchanges a d r c.post_once.new.round lent.link.now
          c.post_once.new.lent.link.now)
          c.turn_to.ensures.is
          (brings_earlier its station board exchanges a b d _ _ _ _ ab
          (brings_later its station board exchanges b p d _ _ _ _ pd c.post_once.ensures.brings));
      does =
          subst (λ (n : ℕ). DoesPhase its gives steps allows station board exchanges a d
          (phase_in station n given.moment) given.moment c.post_once.new.round c.work_in_phase.new.round
          c.post_once.new.lent.link.now c.work_in_phase.new.lent.link.now) same does;
    }
