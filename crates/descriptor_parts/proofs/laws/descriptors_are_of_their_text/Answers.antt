use Rattle.descriptor_parts.proofs.OfText.{of_text}
use Rattle.descriptor_parts.proofs.laws.descriptors_are_of_their_text.Goals as goal

pub returns : goal.returns
returns c = of_text
