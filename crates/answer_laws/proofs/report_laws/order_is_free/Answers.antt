use Rattle.answer_laws.proofs.Agreement.{free}
use Rattle.answer_laws.proofs.report_laws.order_is_free.Goals as goal

pub returns : goal.returns
returns c = free
