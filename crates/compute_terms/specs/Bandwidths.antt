-- The bandwidth of a relay (dir-spec, "Computing a consensus from a set of votes").
use Rattle.std.specs.Prelude.{ℕ, nat_le, min, Bool, true, false, List, [], ◌∷◌, length, count_by, Option, Some, None}
use Rattle.std.specs.{Prelude.{is_some, if◌then◌else◌}, List.{filter_map, list_any}}
use Rattle.vote_terms.specs.{Votes.ReadVote, declared.entry.EntryFacts.EntryFacts, Entries.{bandwidth_of, measured_of}}
use Rattle.consensus_terms.specs.declared.router.Bandwidth.{Bandwidth}
use Rattle.count_terms.specs.Counts.{low_median}

-- how many votes must measure
abbrev pub measures_needed : ℕ
measures_needed = 3

-- what entries say was measured
abbrev pub measured_values : List EntryFacts → List ℕ
measured_values entries = filter_map measured_of entries

-- what entries say that the relay says
abbrev pub bandwidth_values : List EntryFacts → List ℕ
bandwidth_values entries = filter_map bandwidth_of entries

-- a value under a cap, where there is one
abbrev pub capped_value : Option ℕ → ℕ → ℕ
capped_value None value = value
capped_value (Some most) value = min value most

-- the bandwidth of a relay that too few votes measure: the low median of what they say of it, under the cap
abbrev pub unmeasured_bandwidth : Option ℕ → List ℕ → Option Bandwidth
unmeasured_bandwidth most [] = None
unmeasured_bandwidth most (first ∷ rest) =
    Some (record { value = capped_value most (low_median (first ∷ rest)); unmeasured = true })

-- the bandwidth of a relay: the low median of what votes measured, where enough do
abbrev pub relay_bandwidth : Option ℕ → List EntryFacts → Option Bandwidth
relay_bandwidth most entries =
    if nat_le measures_needed (length (measured_values entries))
    then Some (record { value = low_median (measured_values entries); unmeasured = false })
    else unmeasured_bandwidth most (bandwidth_values entries)

-- whether a vote measures some relay
abbrev pub measures : ReadVote → Bool
measures vote = list_any (λ (e : EntryFacts). is_some (measured_of e)) vote.says.entries

-- what a bandwidth that is not measured may be at most: this limit, if there is one, where enough votes measure
abbrev pub cap_of : Option ℕ → List ReadVote → Option ℕ
cap_of limit votes = if nat_le measures_needed (count_by measures votes) then limit else None
