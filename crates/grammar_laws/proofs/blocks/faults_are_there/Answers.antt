use Rattle.grammar_laws.proofs.{BlockFronts.fault_is_there, BlockReading.fault_is_found}
use Rattle.grammar_laws.proofs.blocks.faults_are_there.Goals as goal

pub returns : goal.returns
returns c = λ start limit bytes items fault. (fault_is_there start limit bytes items fault, fault_is_found start limit bytes items fault)
