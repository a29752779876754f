use Rattle.std.proofs.Common.{◌∙◌, ap}
use Rattle.vote_terms.specs.Votes.{ReadVote}
use Rattle.health_report.proofs.OpinionPlaces.{opinion_is}
use Rattle.health_report.proofs.opinions.opinion_at.Goals as goal

pub returns : goal.returns
returns c =
    opinion_is c.args.votes.now.votes c.args.at.now c.entry_at-entry.result c.vote.result.now _ c.entry_at-entry.ensures
    c.vote.ensures (c.identity-authority.ensures ∙ ap (λ (v : ReadVote). v.says.identity) c.vote-vote.ensures)
    (c.in_ok-flags.ensures ∙ c.flags-text.ensures.set)
