use Rattle.std.proofs.Common.{◌∙◌}
use Rattle.vote_feed.{specs.Lending.taken_of, proofs.Votes.vote_kept}
use Rattle.vote_feed.proofs.finishing.whole_vote.Goals as goal

pub returns-in-Ok : goal.returns-in-Ok
returns-in-Ok c =
    vote_kept (taken_of c.args.bytes.items c.args.beside) c.in_ok-bytes-2.bytes c.args.kept c.in-Ok.vote c.len-count.result
    c.requires.whole (c.in_ok-bytes-2.ensures.ok ∙ c.in_ok-bytes.ensures) c.in-Ok.ensures c.len-count.ensures.value
