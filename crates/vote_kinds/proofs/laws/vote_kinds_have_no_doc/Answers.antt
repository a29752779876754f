use Rattle.vote_kinds.proofs.NoDocVotes.{vote_kinds_have_no_doc}
use Rattle.vote_kinds.proofs.laws.vote_kinds_have_no_doc.Goals as goal

pub returns : goal.returns
returns c = vote_kinds_have_no_doc
