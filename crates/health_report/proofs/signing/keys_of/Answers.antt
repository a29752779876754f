use Rattle.std.proofs.{Common.{◌<◌, ◌∙◌, length, map, ap, take_all, arith}, lemmas.List.length-map}
use Rattle.health_report.{specs.Signers.key_of, proofs.VoteKeys.one_more_vote_key}
use Rattle.health_report.proofs.signing.keys_of.Goals as goal

pub votes-preserved : goal.votes-preserved
votes-preserved c =
    let votes = c.args.votes.now.votes in
    let lt : c.votes.number < length votes = omega arith in
    one_more_vote_key votes c.votes.number c.vote.result.now c.in_ok-key_of.field-0 c.votes.keys.items c.push.new.self.items lt c.vote.ensures
    (c.in_ok-key_of.ensures ∙ ap key_of c.vote-in-votes.ensures) c.votes.invariant c.in_ok-push.ensures.items

pub returns : goal.returns
returns c =
    let votes = c.args.votes.now.votes in
    c.votes.invariant ∙ take_all c.votes.number (map key_of votes) (omega (arith, length-map votes key_of))
