-- The list of digests by which microdescriptors are asked for.
use Rattle.std.specs.Prelude.{◌≡◌, ℕ, ◌==◌, nat_le, Bool, List, [], ◌∷◌, length, if◌then◌else◌, Option, Some, None}
use Rattle.std.specs.{Borrow.Bor, List.slice_split}
use Rattle.dir_bytes.specs.Fields.{base64}

-- the most digests that one request may ask for
abbrev pub digest_limit : ℕ
digest_limit = 92

-- a hyphen stands between two digests
abbrev pub is_hyphen : ℕ → Bool
is_hyphen byte = byte == 45

-- the parts of a list between its hyphens
abbrev pub parts_of : List ℕ → List (List ℕ)
parts_of text = slice_split is_hyphen text

-- a digest and the others, if each was spelled
abbrev pub with_others : Option (List ℕ) → Option (List (List ℕ)) → Option (List (List ℕ))
with_others None others = None
with_others (Some digest) None = None
with_others (Some digest) (Some others) = Some (digest ∷ others)

-- the digests that the parts spell, if each spells 32 bytes in base64 without `=`
abbrev pub digests_of : List (List ℕ) → Option (List (List ℕ))
digests_of [] = Some []
digests_of (part ∷ parts) = with_others (base64 32 part) (digests_of parts)

-- the digests of a list of at most 92
abbrev pub digest_list : List ℕ → Option (List (List ℕ))
digest_list text = if nat_le (length (parts_of text)) digest_limit then digests_of (parts_of text) else None

-- a part comes off the front of a list, and what stands behind its hyphen is left, if there is one
abbrev pub SplitsOff : List ℕ → List ℕ → Option (Bor (List ℕ)) → Type 0
SplitsOff text part None = parts_of text ≡ part ∷ []
SplitsOff text part (Some behind) = parts_of text ≡ part ∷ parts_of behind.now
