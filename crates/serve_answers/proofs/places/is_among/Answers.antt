use Rattle.std.proofs.Common.{◌∙◌}
use Rattle.serve_answers.proofs.Placing.{search_tells}
use Rattle.serve_answers.proofs.places.is_among.Goals as goal

pub returns : goal.returns
returns c =
    c.is_ok.ensures.value
    ∙ search_tells c.args.sorted.now c.args.digest.now c.requires c.binary_search.result c.binary_search.ensures.bound
    c.binary_search.ensures.position
