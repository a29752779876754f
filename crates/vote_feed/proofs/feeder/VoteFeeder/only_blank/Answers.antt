use Rattle.std.proofs.Common.{◌∙◌, ap}
use Rattle.vote_feed.specs.{Feeding.are_blank_lines, Lending.taken_of}
use Rattle.vote_feed.proofs.feeder.VoteFeeder.only_blank.Goals as goal

pub returns : goal.returns
returns c =
    let i = c.self.inside in
    c.is_lines.ensures (taken_of i.bytes.items i.beside) c.self.invariant.blanks ∙ ap are_blank_lines c.self.view_is
