-- What rulings make of a vote.
use Rattle.std.specs.Prelude.{◌≡◌, ℕ, true, false, List, All, Some, slice_get}
use Rattle.dir_values.specs.Digests.{same_identity}
use Rattle.descriptor_doc.specs.declared.descriptor.Descriptor.{Descriptor}
use Rattle.flag_rules.specs.{Rules.{AreAllowed, list_allows}, Rulings.is_reject}
use Rattle.flag_rules.specs.declared.{operator.OperatorRule.OperatorRule, ruling.Ruling.Ruling}
use Rattle.vote_pool.specs.Pools.{DescriptorsAscend}
use Rattle.vote_terms.specs.declared.entry.EntryFacts.{EntryFacts}
use Rattle.vote_maker.specs.Made.{Basis, made, relays_in}

-- A relay that is rejected has no entry, so is never Valid.
abbrev pub RejectedRelaysHaveNoEntry : Type 0
RejectedRelaysHaveNoEntry =
    (its : Basis) (rulings : List Ruling) (place : ℕ) (d : Descriptor) (ruling : Ruling)
    → DescriptorsAscend its.descriptors → slice_get its.descriptors place ≡ Some d
    → slice_get rulings place ≡ Some ruling → is_reject ruling ≡ true
    → All (λ (entry : EntryFacts). same_identity entry.identity d.identity ≡ false) (made its rulings).entries

-- Under the rules of an operator what is made is one.
abbrev pub OperatorsMakeOneVote : Type 0
OperatorsMakeOneVote =
    (its : Basis) (rules : List OperatorRule) (one other : List Ruling)
    → AreAllowed (list_allows rules) (relays_in its) one → AreAllowed (list_allows rules) (relays_in its) other
    → made its one ≡ made its other
