use Rattle.std.proofs.Common.{None, inl, inr, subst, sym, ◌∙◌}
use Rattle.key_port.specs.Answers as keys
use Rattle.serve_rounds.specs.{Duties.{IsFetched, IsGathered, IsOwn, IsRound}, Exchanges.{DoesPhase, IsDue}}
use Rattle.serve_rounds.{specs.{Plans.peers_of, Spans.{Anywhere, Since}}, proofs.Adding.adds_part}
use Rattle.serve_rounds.proofs.{Lasting.{round_lasts, since_lasts}, AskedOfPlans.gathers_due}
use Rattle.vote_schedule.specs.declared.phase.Phase.{Phase}
use Rattle.serve_rounds.proofs.working.work_in_phase.Goals as goal

pub returns-in-Voting-clause-adds : goal.returns-in-Voting-clause-adds
returns-in-Voting-clause-adds g c = λ from goes period a adds.
    let given = c.args.given.now in
    let its = keys.rules g.V.Verifier.may_accept g.V.Verifier.may_refuse in
    let allows = g.W.Rules.allows given.ruler.now in
    let R = IsRound its g.N.Signer.may_give g.N.Signer.steps allows given.station.now given.board.now given.moment in
    let lasts = since_lasts from R (round_lasts its g.N.Signer.may_give g.N.Signer.steps allows given.station.now
    given.board.now given.moment) in
    let P = IsOwn its g.N.Signer.may_give g.N.Signer.steps allows given.station.now given.board.now given.moment in
    adds_part (Since from P) (Since from R) lasts a c.args.lent.now.pass.now c.vote_once.new.lent.pass.now
    (λ entry is. inl is) adds
    (λ x before. c.vote_once.ensures.adds from goes period x before)

pub returns-in-Fetching-clause-adds : goal.returns-in-Fetching-clause-adds
returns-in-Fetching-clause-adds g c = λ from goes period a adds.
    let given = c.args.given.now in
    let its = keys.rules g.V.Verifier.may_accept g.V.Verifier.may_refuse in
    let allows = g.W.Rules.allows given.ruler.now in
    let R = IsRound its g.N.Signer.may_give g.N.Signer.steps allows given.station.now given.board.now given.moment in
    let lasts = since_lasts from R (round_lasts its g.N.Signer.may_give g.N.Signer.steps allows given.station.now
    given.board.now given.moment) in
    adds_part (Anywhere (IsFetched its given.moment)) (Since from R) lasts a c.args.lent.now.pass.now
    c.fetch_once.new.lent.pass.now
    (λ entry is. inr (inl is)) adds c.fetch_once.ensures.adds

pub returns-in-FetchingSignatures-clause-adds : goal.returns-in-FetchingSignatures-clause-adds
returns-in-FetchingSignatures-clause-adds g c = λ from goes period a adds.
    let given = c.args.given.now in
    let its = keys.rules g.V.Verifier.may_accept g.V.Verifier.may_refuse in
    let allows = g.W.Rules.allows given.ruler.now in
    let R = IsRound its g.N.Signer.may_give g.N.Signer.steps allows given.station.now given.board.now given.moment in
    let lasts = since_lasts from R (round_lasts its g.N.Signer.may_give g.N.Signer.steps allows given.station.now
    given.board.now given.moment) in
    adds_part (Anywhere (IsGathered its)) (Since from R) lasts a c.args.lent.now.pass.now
    c.gather_once.new.lent.pass.now
    (λ entry is. inr (inr is)) adds c.gather_once.ensures.adds

pub returns-in-Voting-clause-does : goal.returns-in-Voting-clause-does
returns-in-Voting-clause-does g c =
    let given = c.args.given.now in
    let lent = c.args.lent.now in
    let its = keys.rules g.V.Verifier.may_accept g.V.Verifier.may_refuse in
    subst (λ (p : Phase). DoesPhase its g.N.Signer.may_give g.N.Signer.steps (g.W.Rules.allows given.ruler.now)
    given.station.now given.board.now g.L.Link.steps lent.pass.now c.vote_once.new.lent.pass.now p given.moment
    c.args.round.now c.vote_once.new.round lent.link.now c.vote_once.new.lent.link.now)
    (sym c.in-Voting.is ∙ c.phase_of.ensures) c.vote_once.ensures.does

pub returns-in-Fetching-clause-does : goal.returns-in-Fetching-clause-does
returns-in-Fetching-clause-does g c =
    let given = c.args.given.now in
    let lent = c.args.lent.now in
    let its = keys.rules g.V.Verifier.may_accept g.V.Verifier.may_refuse in
    subst (λ (p : Phase). DoesPhase its g.N.Signer.may_give g.N.Signer.steps (g.W.Rules.allows given.ruler.now)
    given.station.now given.board.now g.L.Link.steps lent.pass.now c.fetch_once.new.lent.pass.now p given.moment
    c.args.round.now c.fetch_once.new.round lent.link.now c.fetch_once.new.lent.link.now)
    (sym c.in-Fetching.is ∙ c.phase_of.ensures)
    record { vote = None; is_own = tt; asked = c.fetch_once.ensures.asks; marks = c.fetch_once.ensures.marks }

pub returns-in-FetchingSignatures-clause-does : goal.returns-in-FetchingSignatures-clause-does
returns-in-FetchingSignatures-clause-does g c =
    let given = c.args.given.now in
    let lent = c.args.lent.now in
    let its = keys.rules g.V.Verifier.may_accept g.V.Verifier.may_refuse in
    subst (λ (p : Phase). DoesPhase its g.N.Signer.may_give g.N.Signer.steps (g.W.Rules.allows given.ruler.now)
    given.station.now given.board.now g.L.Link.steps lent.pass.now c.gather_once.new.lent.pass.now p given.moment
    c.args.round.now c.gather_once.new.round lent.link.now c.gather_once.new.lent.link.now)
    (sym c.in-FetchingSignatures.is ∙ c.phase_of.ensures)
    record {
      vote = None;
      is_own = tt;
      asked =
          gathers_due g.L.Link.steps (IsDue its given.board.now lent.pass.now c.gather_once.new.lent.pass.now) tt
          (peers_of given.station.now) c.args.round.now.gathered lent.link.now c.gather_once.new.lent.link.now
          c.gather_once.ensures.asks;
      marks = c.gather_once.ensures.marks;
    }
