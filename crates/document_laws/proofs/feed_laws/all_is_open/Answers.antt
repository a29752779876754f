use Rattle.document_laws.proofs.Opening.{all_is_open}
use Rattle.document_laws.proofs.feed_laws.all_is_open.Goals as goal

pub returns : goal.returns
returns g c tables = all_is_open _ tables
