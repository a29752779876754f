use Rattle.std.proofs.Common.{List, ap}
use Rattle.vote_terms.{specs.Votes.ReadVote, proofs.HeldLaw.held_agree}
use Rattle.compute_terms.specs.Consensuses.{consensus}
use Rattle.consensus_terms.specs.Texts.{unsigned}
use Rattle.answer_laws.proofs.compute_laws.texts_agree.Goals as goal

pub returns : goal.returns
returns c = λ newest roster flavour l m same apart.
    ap (λ (votes : List ReadVote). unsigned flavour (consensus newest roster votes)) (held_agree l m same apart)
