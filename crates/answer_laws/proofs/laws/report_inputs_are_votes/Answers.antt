use Rattle.answer_laws.proofs.ReportStanding as law
use Rattle.answer_laws.proofs.laws.report_inputs_are_votes.Goals as goal

pub returns : goal.returns
returns c = law.report_inputs_are_votes
