-- What items of a vote alone say, in its sections. Where an item is not there, its value is nothing.
use Rattle.std.specs.Prelude.{ℕ, Option, Some, None, Ok}
use Rattle.frame_terms.specs.declared.document.Taken.{Taken}
use Rattle.frame_values.specs.declared.{values.Value.Value, found.{DirSource.DirSource, VoteSignature.VoteSignature}}
use Rattle.frame_values.specs.Values.{own_in, nowhere, no_digest}
use Rattle.vote_frame.specs.declared.frame.VoteValue.{VoteValue, TheVariants.{Delays, Source, Random, Signature}}
use Rattle.value_groups.specs.declared.value.SharedRandom.{SharedRandom}

-- the two numbers of seconds that a value is, and 0 of another kind
abbrev pub delays_of_value : Option VoteValue → ℕ × ℕ
delays_of_value (Some (Delays vote dist)) = (vote, dist)
delays_of_value _ = (0, 0)

-- the seconds for exchanging votes, and those for exchanging signatures
abbrev pub delays_in : Option (Taken (Value VoteValue)) → ℕ × ℕ
delays_in item = delays_of_value (own_in item)

-- an authority of which nothing is known
abbrev pub no_source : DirSource
no_source = record { nickname = nowhere; identity = record { 0 = no_digest }; address = nowhere; ip = 0; dir_port = 0; or_port = 0 }

-- the authority that a value speaks of
abbrev pub source_of_value : Option VoteValue → DirSource
source_of_value (Some (Source source)) = source
source_of_value _ = no_source

-- the authority that an item speaks of
abbrev pub source_in : Option (Taken (Value VoteValue)) → DirSource
source_in item = source_of_value (own_in item)

-- the shared random value that a value is
abbrev pub random_of_value : Option VoteValue → Option SharedRandom
random_of_value (Some (Random line (Ok random))) = Some random
random_of_value _ = None

-- the shared random value that an item has
abbrev pub random_in : Option (Taken (Value VoteValue)) → Option SharedRandom
random_in item = random_of_value (own_in item)

-- a signature of nothing
abbrev pub no_signature : VoteSignature
no_signature = record { algorithm = None; identity = record { 0 = no_digest }; key_digest = record { 0 = no_digest }; signature = nowhere }

-- the signature that a value is
abbrev pub signature_of_value : Option VoteValue → VoteSignature
signature_of_value (Some (Signature signature)) = signature
signature_of_value _ = no_signature

-- the signature that an item has
abbrev pub signature_in : Option (Taken (Value VoteValue)) → VoteSignature
signature_in item = signature_of_value (own_in item)
