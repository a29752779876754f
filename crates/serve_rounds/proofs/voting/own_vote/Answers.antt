use Rattle.std.proofs.Common.{List, ℕ, refl, sym, subst}
use Rattle.key_port.specs.Answers.{rules}
use Rattle.lone_vote.specs.Alone.{IsFound, IsVote}
use Rattle.serve_rounds.specs.OwnVotes.{IsOwnVote}
use Rattle.serve_rounds.proofs.voting.own_vote.Goals as goal

pub returns-in-Ok-clause-own : goal.returns-in-Ok-clause-own
returns-in-Ok-clause-own g c =
    let given = c.args.given.now in
    subst (IsOwnVote (rules g.V.Verifier.may_accept g.V.Verifier.may_refuse) g.N.Signer.may_give g.N.Signer.steps
    (g.W.Rules.allows given.ruler.now) given.station.now given.board.now c.args.lent.now.pass.now
    c.own_text.new.lent.pass.now
    c.args.valid_after given.moment)
    (sym c.in-Ok.ensures.accepted.0) record {
      text = c.in-Some.text.items;
      text_is = c.in-Some.ensures.text;
      is = subst (λ (b : List ℕ). IsVote b c.in-Ok-Some.vote) c.deref.ensures.value
          (subst (IsFound (IsVote c.deref.result.now)) c.in-Ok-Some.field-0-is c.in-Ok-Some.ensures);
      verified = c.in-Ok.ensures.accepted.1.verified;
    }

pub returns-in-Ok-clause-text : goal.returns-in-Ok-clause-text
returns-in-Ok-clause-text g c = record {
  vote = c.in-Ok-Some.vote;
  own = record {
    text = c.in-Some.text.items;
    text_is = c.in-Some.ensures.text;
    is = subst (λ (b : List ℕ). IsVote b c.in-Ok-Some.vote) c.deref.ensures.value
        (subst (IsFound (IsVote c.deref.result.now)) c.in-Ok-Some.field-0-is c.in-Ok-Some.ensures);
    verified = c.in-Ok.ensures.accepted.1.verified;
  };
  same = refl;
}
