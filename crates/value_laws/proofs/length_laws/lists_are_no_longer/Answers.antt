use Rattle.value_laws.proofs.{ParamLengths.params_no_longer, ProtocolLengths.protocols_no_longer}
use Rattle.value_laws.proofs.VersionLengths.{versions_no_longer}
use Rattle.value_laws.proofs.length_laws.lists_are_no_longer.Goals as goal

pub returns-clause-params : goal.returns-clause-params
returns-clause-params c = params_no_longer

pub returns-clause-versions : goal.returns-clause-versions
returns-clause-versions c = versions_no_longer

pub returns-clause-protocols : goal.returns-clause-protocols
returns-clause-protocols c = protocols_no_longer
