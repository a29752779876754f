use Rattle.std.proofs.Common.{ℕ, rules, subst, sym}
use Rattle.key_port.specs.Answers as keys
use Rattle.serve_board.proofs.Going.{goes_on}
use Rattle.serve_rounds.{specs.{Duties.{IsRound, Duties}, Exchanges.AsksPeers}, proofs.Exchanges.asks_earlier}
use Rattle.serve_rounds.proofs.{Exchanges.signed_later, Adding.{adds_advanced, adds_same}, Kept.both_there}
use Rattle.serve_rounds.proofs.working.duties.Goals as goal

pub returns-clause-duties : goal.returns-clause-duties
returns-clause-duties g c =
    let its = keys.rules g.V.Verifier.may_accept g.V.Verifier.may_refuse in
    let allows = g.R.Rules.allows c.args.hook.now.rules in
    let station = c.args.station.now in
    let board = c.args.board.now in
    let first = c.args.pass.now in
    let answer = c.advance_all-answer.result.0 in
    let P = IsRound its g.N.Signer.may_give g.N.Signer.steps allows station board c.now-now.result in
    let between = c.advance_all-answer.new.pass in
    both_there (λ pass n. Duties its g.N.Signer.may_give g.N.Signer.steps allows station board first pass n answer)
    c.work.new.lent.pass.now c.now-now.result (search rules) (sym c.now-now.ensures.last) record {
      to = between;
      advanced = c.advance_all-answer.ensures.advanced;
      ended = c.work.ensures.adds between (adds_same P between);
    }

pub returns-clause-goes : goal.returns-clause-goes
returns-clause-goes g c =
    let told = returns-clause-duties g c in
    goes_on c.args.pass.now told.to _
    (adds_advanced g.N.Signer.may_give (keys.rules g.V.Verifier.may_accept g.V.Verifier.may_refuse) c.args.board.now _
    c.args.pass.now told.to c.advance_all-answer.result.0 told.advanced).goes told.ended.goes

pub returns-clause-asked : goal.returns-clause-asked
returns-clause-asked g c =
    let its = keys.rules g.V.Verifier.may_accept g.V.Verifier.may_refuse in
    let gives = g.N.Signer.may_give in
    let by_signer = g.N.Signer.steps in
    let by_link = g.L.Link.steps in
    let allows = g.R.Rules.allows c.args.hook.now.rules in
    let station = c.args.station.now in
    let board = c.args.board.now in
    let a = c.args.pass.now in
    let b = c.advance_all-answer.new.pass in
    let d = c.work.new.lent.pass.now in
    let now = c.now-now.result in
    let P = IsRound its gives by_signer allows station board now in
    let bd = (c.work.ensures.adds b (adds_same P b)).goes in
    let ab = (adds_advanced gives its board now a b c.advance_all-answer.result.0
    c.advance_all-answer.ensures.advanced).goes in
    both_there
    (λ pass link. AsksPeers its gives by_signer allows station board by_link a pass (g.C.Clock.last c.now-now.new.self)
    c.args.round.now c.work.new.round c.args.link.now link) d c.work.new.lent.link.now (search rules) (search rules)
    (subst (λ (n : ℕ). AsksPeers its gives by_signer allows station board by_link a d n c.args.round.now
    c.work.new.round c.args.link.now c.work.new.lent.link.now) (sym c.now-now.ensures.last) record {
      signed = c.advance_all-answer.result.1;
      signs = λ is. signed_later a b d bd (c.advance_all-answer.ensures.signed is);
      asks =
          asks_earlier its gives by_signer allows station board by_link a b d now _ _ _ _ _ ab c.work.ensures.asks;
    })
