use Rattle.answer_laws.proofs.Agreement.{agree}
use Rattle.answer_laws.proofs.report_laws.reports_agree.Goals as goal

pub returns : goal.returns
returns c = agree
