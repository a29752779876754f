use Rattle.vote_laws.proofs.SignedVotes.{votes_sign_their_items}
use Rattle.vote_laws.proofs.signed_laws.votes_sign_their_items.Goals as goal

pub returns : goal.returns
returns c = votes_sign_their_items
