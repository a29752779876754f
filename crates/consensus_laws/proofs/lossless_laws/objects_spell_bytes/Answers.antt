use Rattle.consensus_laws.proofs.SoundObjects.{objects_spelled}
use Rattle.consensus_laws.proofs.lossless_laws.objects_spell_bytes.Goals as goal

pub returns : goal.returns
returns c = objects_spelled
