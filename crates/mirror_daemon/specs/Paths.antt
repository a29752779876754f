-- What a mirror asks its peers for (dir-spec, "General-use HTTP URLs").
use Rattle.std.specs.{Prelude.{ℕ, List, [], ◌∷◌, ◌++◌, codes}, List.flat_map}
use Rattle.dir_values.specs.{Digests.digest2_text, declared.digest.Digest2.Digest2}

-- a digest behind a hyphen
abbrev pub behind_hyphen : Digest2 → List ℕ
behind_hyphen digest = 45 ∷ digest2_text digest

-- digests, each behind a hyphen
abbrev pub behind_hyphens : List Digest2 → List ℕ
behind_hyphens digests = flat_map behind_hyphen digests

-- digests with one hyphen between them
abbrev pub hyphenated_digests : List Digest2 → List ℕ
hyphenated_digests [] = []
hyphenated_digests (first ∷ others) = digest2_text first ++ behind_hyphens others

-- the path of the microdescriptors of some digests
abbrev pub micros_path : List Digest2 → List ℕ
micros_path digests = codes "/tor/micro/d/" ++ hyphenated_digests digests
