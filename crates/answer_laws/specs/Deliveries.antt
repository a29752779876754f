-- What is held of votes that come in several lists, in any order and however often.
use Rattle.std.specs.Prelude.{◌≡◌, ℕ, List, ◌++◌}
use Rattle.vote_terms.specs.{Votes.ReadVote, Held.{IsHeld, RanksApart, SameMembers, held}}
use Rattle.count_terms.specs.declared.newest.Newest.{Newest}
use Rattle.compute_terms.specs.Consensuses.{consensus}
use Rattle.consensus_terms.specs.{Texts.unsigned, declared.flavour.Flavour.Flavour}

-- Of any two lists of which `IsHeld` says that they are held of a list, the members are the same.
abbrev pub HeldAlike : Type 0
HeldAlike = (list g h : List ReadVote) → IsHeld list g → IsHeld list h → SameMembers g h

-- What is held of two lists, one behind the other, is what is held of the votes that are held of each.
abbrev pub HeldOfLists : Type 0
HeldOfLists = (l m : List ReadVote) → IsHeld (l ++ m) (held (held l ++ held m))

-- Of lists with the same members the consensus has the same text in each flavour, whatever the newest method that is
-- known and the size of the roster.
abbrev pub TextsAgree : Type 0
TextsAgree = (newest : Newest) (roster : ℕ) (flavour : Flavour) (l m : List ReadVote) → SameMembers l m → RanksApart l
    → unsigned flavour (consensus newest roster (held l)) ≡ unsigned flavour (consensus newest roster (held m))
