use Rattle.mirror_core.proofs.UsedBytes.{have_bytes}
use Rattle.mirror_core.proofs.laws.documents_have_bytes.Goals as goal

pub returns : goal.returns
returns g c with_ tables = have_bytes with_ tables
