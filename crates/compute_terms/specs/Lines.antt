-- The lines of a relay that are chosen one by one (dir-spec, "Computing a consensus from a set of votes").
use Rattle.std.specs.Prelude.{ℕ, nat_eq, Bool, not, ◌&&◌, List, codes, Option, Some, None, if◌then◌else◌}
use Rattle.std.specs.{List.{filter_map, starts_with}, Str.bytes_eq, declared.cmp.Ordering.Ordering, Ordering.is_eq}
use Rattle.dir_values.specs.{declared.digest.{Digest1.Digest1, Digest2.Digest2}, Versions.named_order}
use Rattle.vote_terms.specs.{declared.entry.EntryFacts.EntryFacts, Entries.{first_address, micro_for}}
use Rattle.count_terms.specs.Choosing.{chosen, text_order}
use Rattle.consensus_terms.specs.Methods.{is_34_or_later}
use Rattle.compute_terms.specs.Tuples.{Tuple, tuple_of, tuple_order}

-- the order of digests by their bytes
abbrev pub digest_order : Digest2 → Digest2 → Ordering
digest_order a b = text_order a.0 b.0

-- the `v` line: the value that stands most often, and of those that stand as often the most recent version
abbrev pub chosen_version : List EntryFacts → Option (List ℕ)
chosen_version entries = chosen named_order (filter_map (λ (e : EntryFacts). e.version) entries)

-- the `pr` line: the value that stands most often, and of those that stand as often the greatest by its bytes
abbrev pub chosen_protocols : List EntryFacts → Option (List ℕ)
chosen_protocols entries = chosen text_order (filter_map (λ (e : EntryFacts). e.protocols) entries)

-- the `p` line of an entry that has this digest
abbrev pub policy_with : Digest1 → EntryFacts → Option (List ℕ)
policy_with digest e = if bytes_eq e.digest.0 digest.0 then e.policy else None

-- the `p` line: in the same way, among the entries with this digest
abbrev pub chosen_policy : Digest1 → List EntryFacts → Option (List ℕ)
chosen_policy digest entries = chosen text_order (filter_map (policy_with digest) entries)

-- the digest of the microdescriptor of an entry that has this digest
abbrev pub micro_with : ℕ → Digest1 → EntryFacts → Option Digest2
micro_with method digest e = if bytes_eq e.digest.0 digest.0 then micro_for method e else None

-- the `m` line: in the same way, among the entries with this digest
abbrev pub chosen_micro : ℕ → Digest1 → List EntryFacts → Option Digest2
chosen_micro method digest entries = chosen digest_order (filter_map (micro_with method digest) entries)

-- whether an address is one of IPv6, which stands in brackets
abbrev pub is_ipv6 : List ℕ → Bool
is_ipv6 address = starts_with nat_eq address (codes "[")

-- the address of an `a` line, where it counts by this method: from 34 on only one of IPv6 does
abbrev pub counted_address : ℕ → Option (List ℕ) → Option (List ℕ)
counted_address method None = None
counted_address method (Some address) = if is_34_or_later method && not (is_ipv6 address) then None else Some address

-- the first `a` line of an entry that has this tuple, where it counts
abbrev pub address_with : ℕ → Tuple → EntryFacts → Option (List ℕ)
address_with method tuple e =
    if is_eq (tuple_order (tuple_of e) tuple) then counted_address method (first_address e) else None

-- the `a` line: in the same way, among the entries with this tuple
abbrev pub chosen_address : ℕ → Tuple → List EntryFacts → Option (List ℕ)
chosen_address method tuple entries = chosen text_order (filter_map (address_with method tuple) entries)
