use Rattle.std.proofs.Common.{◌≡◌, ◌∙◌, ℕ, Bool, List, [], Option, None, Some, Ok, ap, refl, subst, sym, true}
use Rattle.std.specs.Prelude.{codes}
use Rattle.key_port.specs.Answers as keys
use Rattle.dir_http.specs.Responses.{post_text}
use Rattle.serve_rounds.specs.{Exchanges.{AsksSome, IsDue}, Plans.{Planned, PostSignatures, must_bring, peers_of}}
use Rattle.serve_rounds.{specs.Plans.{plan_of_signatures, to_each, with_signatures}, proofs.AskedOfPlans.asks_none}
use Rattle.serve_rounds.proofs.{AskedOfPlans.each_due, RoundMarks.{brought_already, if_true}, Exchanges.held_there}
use Rattle.serve_rounds.proofs.signatures.post_once.Goals as goal

pub returns-then-not-must_bring-clause-brings : goal.returns-then-not-must_bring-clause-brings
returns-then-not-must_bring-clause-brings g c =
    let given = c.args.given.now in
    let lent = c.args.lent.now in
    record {
      held = None;
      are_held = tt;
      asked =
          asks_none g.L.Link.steps
          (IsDue (keys.rules g.V.Verifier.may_accept g.V.Verifier.may_refuse) given.board.now lent.pass.now
          lent.pass.now)
          (plan_of_signatures given.station.now None c.args.round.now) lent.link.now;
      marks = brought_already c.args.round.now;
    }

pub returns-in_default-clause-brings : goal.returns-in_default-clause-brings
returns-in_default-clause-brings g c =
    let given = c.args.given.now in
    let lent = c.args.lent.now in
    record {
      held = None;
      are_held = tt;
      asked =
          asks_none g.L.Link.steps
          (IsDue (keys.rules g.V.Verifier.may_accept g.V.Verifier.may_refuse) given.board.now lent.pass.now
          c.signatures_held.new.pass) (plan_of_signatures given.station.now None c.args.round.now) lent.link.now;
      marks = brought_already c.args.round.now;
    }

pub returns-clause-brings : goal.returns-clause-brings
returns-clause-brings g c =
    let given = c.args.given.now in
    let lent = c.args.lent.now in
    let its = keys.rules g.V.Verifier.may_accept g.V.Verifier.may_refuse in
    let Due = IsDue its given.board.now lent.pass.now c.signatures_held.new.pass in
    let text = c.in-Ok-Some.text in
    let round = c.args.round.now in
    let must = subst (λ (b : Bool). b ≡ true) c.must_bring.ensures c.if-not-must_bring.false in
    let peers = peers_of given.station.now in
    record {
      held = Some text;
      are_held =
          held_there its given.board.now lent.pass.now c.signatures_held.new.pass c.signatures_held.result text
          c.signatures_held.ensures.reading
          (c.in-Ok-Some.is ∙ ap (λ (o : Option (List ℕ)). Ok o) c.in-Ok-Some.field-0-is);
      asked =
          subst (λ (p : List Planned). AsksSome g.L.Link.steps Due p lent.link.now c.post_to_peers.new.link)
          (sym (if_true (must_bring round) (to_each peers (PostSignatures text)) [] must))
          (each_due g.L.Link.steps Due (PostSignatures text) tt peers lent.link.now c.post_to_peers.new.link
          (c.post_to_peers.ensures.asks (PostSignatures text)
          (ap (post_text (codes "/tor/post/consensus-signature")) (sym c.as_bytes.ensures)) refl));
      marks = sym (if_true (must_bring round) (with_signatures (Some text) round) round must);
    }
