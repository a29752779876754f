use Rattle.std.{proofs.Common.{List, [], None, Some, ap, refl, subst, sym}, specs.Prelude.codes}
use Rattle.key_port.specs.Answers as keys
use Rattle.vote_schedule.specs.declared.phase.Phase.TheVariants as phases
use Rattle.dir_http.specs.Responses.{post_text}
use Rattle.serve_rounds.specs.{Exchanges.{AsksSome, IsDue, Whatever}, Plans.{Planned, PostVote, peers_of}}
use Rattle.serve_rounds.{specs.Plans.{plan_of_phase, to_each, with_vote}, proofs.AskedOfPlans.{asks_none, each_due}}
use Rattle.serve_rounds.proofs.RoundMarks.{if_false, voted_already}
use Rattle.serve_rounds.proofs.voting.vote_once.Goals as goal

pub returns-then-round-clause-does : goal.returns-then-round-clause-does
returns-then-round-clause-does g c =
    let given = c.args.given.now in
    let lent = c.args.lent.now in
    record {
      vote = None;
      is_own = tt;
      asked =
          asks_none g.L.Link.steps
          (IsDue (keys.rules g.V.Verifier.may_accept g.V.Verifier.may_refuse) given.board.now lent.pass.now
          lent.pass.now)
          (plan_of_phase given.station.now None phases.Voting c.args.round.now) lent.link.now;
      marks = voted_already c.args.round.now;
    }

pub returns-in_default-clause-does : goal.returns-in_default-clause-does
returns-in_default-clause-does g c =
    let given = c.args.given.now in
    let its = keys.rules g.V.Verifier.may_accept g.V.Verifier.may_refuse in
    let old = c.args.lent.now in
    let new = c.offer_own.new.lent in
    let Due = IsDue its given.board.now old.pass.now new.pass.now in
    let plan = plan_of_phase given.station.now None phases.Voting c.args.round.now in
    record {
      vote = None;
      is_own = tt;
      asked =
          subst (AsksSome g.L.Link.steps Due plan old.link.now) (sym c.offer_own.ensures.link)
          (asks_none g.L.Link.steps Due plan old.link.now);
      marks = voted_already c.args.round.now;
    }

pub returns-clause-does : goal.returns-clause-does
returns-clause-does g c =
    let given = c.args.given.now in
    let its = keys.rules g.V.Verifier.may_accept g.V.Verifier.may_refuse in
    let old = c.args.lent.now in
    let new = c.offer_own.new.lent in
    let then = c.post_to_peers.new.link in
    let Due = IsDue its given.board.now old.pass.now new.pass.now in
    let text = c.in-Some.text.items in
    let round = c.args.round.now in
    let peers = peers_of given.station.now in
    record {
      vote = Some text;
      is_own = c.in-Some.ensures.text;
      asked =
          subst (λ (p : List Planned). AsksSome g.L.Link.steps Due p old.link.now then)
          (sym (if_false round.voted [] (to_each peers (PostVote text)) c.if-round.false))
          (each_due g.L.Link.steps Due (PostVote text) tt peers old.link.now then
          (subst (λ link. AsksSome g.L.Link.steps Whatever (to_each peers (PostVote text)) link then)
          c.offer_own.ensures.link
          (c.post_to_peers.ensures.asks (PostVote text)
          (ap (post_text (codes "/tor/post/vote")) (sym c.deref.ensures.value)) refl)));
      marks = sym (if_false round.voted round (with_vote (Some text) round) c.if-round.false);
    }
