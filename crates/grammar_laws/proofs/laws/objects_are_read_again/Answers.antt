use Rattle.grammar_laws.proofs.WrittenBytes.{decoded-body_text}
use Rattle.grammar_laws.proofs.laws.objects_are_read_again.Goals as goal

pub returns : goal.returns
returns c = decoded-body_text
