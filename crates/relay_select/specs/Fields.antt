-- What an entry says in a line.
use Rattle.std.specs.Prelude.{ℕ, List, Option}
use Rattle.vote_terms.specs.declared.entry.EntryFacts.{EntryFacts}
use Rattle.compute_terms.specs.Lines.{policy_with}
use Rattle.relay_select.specs.declared.lines.Field.{Field, TheVariants.{Protocols, Policy}}

abbrev pub field_text : Field → EntryFacts → Option (List ℕ)
field_text Protocols e = e.protocols
field_text (Policy digest) e = policy_with digest e
