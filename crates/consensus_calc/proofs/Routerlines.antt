-- What is said of a relay by what was chosen is what a consensus says of it.
use Rattle.std.{proofs.Common.{◌≡◌, ℕ, List, Option, Some, None, refl}, specs.Prelude.option_map}
use Rattle.dir_values.specs.declared.digest.Fingerprint.{Fingerprint}
use Rattle.vote_terms.specs.declared.entry.EntryFacts.{EntryFacts}
use Rattle.compute_terms.specs.{Bandwidths.relay_bandwidth, Routers.routerline_of, Tuples.Tuple}
use Rattle.relay_select.specs.Choices.{choice_of}
use Rattle.consensus_calc.specs.Routerlines.{routerline_with}

pub by_choice : (method : ℕ) (most : Option ℕ) (rsa : Fingerprint) (flags : List (List ℕ)) (entries : List EntryFacts) (tuple : Option Tuple)
    → option_map (routerline_with rsa flags (relay_bandwidth most entries)) (option_map (choice_of method entries) tuple) ≡ option_map (routerline_of method most rsa flags entries) tuple
by_choice method most rsa flags entries None = refl
by_choice method most rsa flags entries (Some tuple) = refl
