use Rattle.std.proofs.{Common.{◌∙◌, ap, drop}, lemmas.List.take_rest}
use Rattle.descriptor_frame.proofs.certificate.extensions_of.Goals as goal

pub returns : goal.returns
returns c = take_rest c.covered_part-covered.result.now 40 ∙ ap (drop 40) c.covered_part-covered.ensures
