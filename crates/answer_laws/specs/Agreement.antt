-- Reports under a verifier that may give each question one answer alone.
use Rattle.std.specs.Prelude.{◌≡◌, ℕ, List}
use Rattle.dir_values.specs.declared.digest.Fingerprint.{Fingerprint}
use Rattle.key_port.specs.Answers.{Rules, ExactlyOneHolds}
use Rattle.vote_terms.specs.{Held.{RanksApart, SameMembers, held}, Votes.ReadVote}
use Rattle.consensus_terms.specs.declared.consensus.SignedConsensus.{SignedConsensus}
use Rattle.health_report.specs.Reports.{IsReport}

-- There is one report of a roster, votes and a consensus alone.
abbrev pub ReportsAgree : Type 0
ReportsAgree = (rules : Rules) (roster : List Fingerprint) (votes : List ReadVote) (consensus : SignedConsensus)
    (bytes one other : List ℕ) → ExactlyOneHolds rules.may_accept rules.may_refuse
    → IsReport rules roster votes consensus bytes one → IsReport rules roster votes consensus bytes other → one ≡ other

-- There is one report alone of what is held of votes, whatever their order and however often each comes.
abbrev pub OrderIsFree : Type 0
OrderIsFree = (rules : Rules) (roster : List Fingerprint) (l m : List ReadVote) (consensus : SignedConsensus)
    (bytes one other : List ℕ) → ExactlyOneHolds rules.may_accept rules.may_refuse → SameMembers l m → RanksApart l
    → IsReport rules roster (held l) consensus bytes one → IsReport rules roster (held m) consensus bytes other
    → one ≡ other
