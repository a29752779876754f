use Rattle.std.proofs.Common.{◌-◌, ◌∙◌, [], ap, arith, drop, length, length-drop, take_all}
use Rattle.vote_feed.specs.Blanks.{blank_of}
use Rattle.lone_vote.proofs.coming.blank_behind.Goals as goal

pub returns : goal.returns
returns c =
    let piece = c.args.piece.now in
    c.blank_after.ensures [] c.new.ensures
    ∙ ap blank_of (take_all (length piece - c.args.taken) (drop c.args.taken piece)
    (omega (arith, length-drop c.args.taken piece)))
