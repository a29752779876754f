-- The flags that a consensus knows and those of its relays are names, ascending.
use Rattle.std.proofs.{Common.{◌≡◌, ℕ, Bool, true, false, List, [], ◌∷◌, ◌++◌, refl}, lemmas.List.Elements.All-append}
use Rattle.std.{proofs.lemmas.List.Elements.{All-cons, All-filter, All-nil}, specs.Prelude.{All, codes, filter, not}}
use Rattle.std.specs.Prelude.{◌&&◌, if◌then◌else◌}
use Rattle.dir_values.{specs.FlagSets.{as_set, has_flag, is_name, with_flag}, proofs.Flags.Ascend-as_set}
use Rattle.dir_values.proofs.Flags.{Ascend-with_flag}
use Rattle.group_laws.specs.LineAgain.{AreFlagsInRange}
use Rattle.vote_terms.specs.Votes.{ReadVote}
use Rattle.consensus_terms.specs.Methods.{is_34_or_later}
use Rattle.compute_terms.specs.{Flags.{known_flags, listed_flags, with_own_by, with_own_flags}, Listings.Listing}
use Rattle.compute_terms.specs.RelayFlags.{flags_in_middle, is_set, middle_flags, router_flags, set_flags, suits_middle}
use Rattle.compute_terms.specs.declared.identity.EdPart.{EdPart}
use Rattle.vote_laws.proofs.FlagSets.{All-as_set, All-with_flag}
use Rattle.computed_laws.proofs.Kept.{All-flat_map}

abbrev pub IsName : List ℕ → Type 0
IsName flag = is_name flag ≡ true

-- votes know names
abbrev pub KnowNames : List ReadVote → Type 0
KnowNames votes = All (λ (vote : ReadVote). All IsName vote.says.known_flags) votes

with_own : (b : Bool) (flags : List (List ℕ)) → All IsName flags
    → All IsName (flags ++ codes "NoEdConsensus" ∷ (if b then codes "BadExit" ∷ [] else []))
with_own b flags all =
    let more : List (List ℕ) = if b then codes "BadExit" ∷ [] else [] in
    All-append IsName flags (codes "NoEdConsensus" ∷ more) all
    (All-cons IsName (codes "NoEdConsensus") more refl (bad_exit b))
  where
    bad_exit : (b : Bool) → All IsName (if b then codes "BadExit" ∷ [] else [])
    bad_exit true = All-cons IsName (codes "BadExit") [] refl (All-nil IsName)
    bad_exit false = All-nil IsName

-- the set of names is in range
set_in_range : (flags : List (List ℕ)) → All IsName flags → AreFlagsInRange (as_set flags)
set_in_range flags all = record { ascend = Ascend-as_set flags; each = All-as_set IsName flags all }

-- by 34 on, and by 32 and 33
own_by : (b : Bool) (flags : List (List ℕ)) → All IsName flags
    → All IsName (if b then flags ++ codes "NoEdConsensus" ∷ [] else with_own_flags flags)
own_by true flags all = with_own false flags all
own_by false flags all = with_own (has_flag flags (codes "MiddleOnly")) flags all

pub known_in_range : (method : ℕ) (votes : List ReadVote) → KnowNames votes → AreFlagsInRange (known_flags method votes)
known_in_range method votes all =
    let listed = listed_flags votes in
    set_in_range (with_own_by method listed)
    (own_by (is_34_or_later method) listed
    (All-flat_map IsName (λ (vote : ReadVote). vote.says.known_flags) votes all))

middle : (b : Bool) (flags : List (List ℕ)) → AreFlagsInRange flags
    → AreFlagsInRange (if b then as_set (filter suits_middle flags) else middle_flags flags)
middle b flags are = by b (set_in_range (filter suits_middle flags) (All-filter suits_middle IsName flags are.each))
  where
    kept : List (List ℕ)
    kept = as_set (filter suits_middle flags)

    by : (b : Bool) → AreFlagsInRange kept → AreFlagsInRange (if b then kept else with_flag kept (codes "BadExit"))
    by true its = its
    by false its = record {
      ascend = Ascend-with_flag kept (codes "BadExit") its.ascend;
      each = All-with_flag IsName kept (codes "BadExit") its.each refl;
    }

adjusted : (b : Bool) (method : ℕ) (known flags : List (List ℕ)) → AreFlagsInRange flags
    → AreFlagsInRange (if b then flags_in_middle method known flags else flags)
adjusted true method known flags are =
    middle (is_34_or_later method && not (has_flag known (codes "BadExit"))) flags are
adjusted false method known flags are = are

-- the flags of a relay
pub relay_flags_in_range : (method : ℕ) (votes : List ReadVote) (ed : EdPart) (members : List Listing) → KnowNames votes
    → AreFlagsInRange (router_flags method votes ed members)
relay_flags_in_range method votes ed members all =
    let known = known_in_range method votes all in
    let set = set_in_range (filter (is_set votes ed members) (known_flags method votes))
    (All-filter (is_set votes ed members) IsName (known_flags method votes) known.each) in
    adjusted (has_flag (set_flags method votes ed members) (codes "MiddleOnly")) method (known_flags method votes)
    (set_flags method votes ed members) set
