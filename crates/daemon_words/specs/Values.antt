-- The values of the options.
use Rattle.std.specs.Prelude.{ℕ, ◌==◌, ◌&&◌, Bool, List, [], ◌∷◌, length, slice_index, slice_range, Option, Some, None}
use Rattle.std.specs.{Prelude.{option_and_then, if◌then◌else◌}, List.slice_split, Result.result_ok}
use Rattle.dir_bytes.specs.Fields as fields
use Rattle.dir_values.specs.{Digests.fingerprint, Rosters.roster_of, declared.digest.Fingerprint.Fingerprint}

abbrev pub is_comma : ℕ → Bool
is_comma byte = byte == 44

-- an identity in front of others, where all were read
abbrev pub before : Option Fingerprint → Option (List Fingerprint) → Option (List Fingerprint)
before (Some member) (Some others) = Some (member ∷ others)
before _ _ = None

-- the identities that fingerprints spell, if each text is one
abbrev pub identities : List (List ℕ) → Option (List Fingerprint)
identities [] = Some []
identities (text ∷ rest) = before (fingerprint text) (identities rest)

-- the identities that fingerprints spell with one comma between them
abbrev pub members : List ℕ → Option (List Fingerprint)
members text = identities (slice_split is_comma text)

-- the same, where they are a roster: 1 to 32, each once
abbrev pub roster : List ℕ → Option (List Fingerprint)
roster text = option_and_then (λ list. result_ok (roster_of list)) (members text)

-- the moment of a date and a time of day with one space between them
abbrev pub moment : List ℕ → Option ℕ
moment text =
    if length text == 19 && slice_index text 10 == 32 then fields.moment (slice_range text 0 10) (slice_range text 11 19) else None
