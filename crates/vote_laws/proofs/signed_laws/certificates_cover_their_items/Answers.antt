use Rattle.vote_laws.proofs.Certificates.{certificates_cover_their_items}
use Rattle.vote_laws.proofs.signed_laws.certificates_cover_their_items.Goals as goal

pub returns : goal.returns
returns c = certificates_cover_their_items
