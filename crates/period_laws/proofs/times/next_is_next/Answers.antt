use Rattle.period_terms.proofs.NextPeriods as law
use Rattle.period_laws.proofs.times.next_is_next.Goals as goal

pub returns : goal.returns
returns c = law.next_is_next
