-- The line of the own authority in its votes (dir-spec, "Vote and consensus status document formats", `dir-source`).
use Rattle.std.specs.Prelude.{ℕ, nat_le, Bool, List, [], ◌∷◌, ◌++◌, length, codes, decimal}
use Rattle.dir_bytes.specs.FieldTexts.{address_text, hex_text}
use Rattle.item_terms.specs.{Bytes.{line_feed, space}, Faults.max_line}
use Rattle.dir_values.specs.declared.digest.Fingerprint.{Fingerprint}
use Rattle.frame_values.specs.declared.found.DirSource.{DirSource}

-- the keyword of the line, and by which names an authority is known
abbrev pub names_part : List ℕ → List ℕ → Fingerprint → List ℕ
names_part nickname host identity =
    codes "dir-source" ++ space ∷ nickname ++ space ∷ hex_text identity.0 ++ space ∷ host

-- where it is reached, and the NL
abbrev pub ports_part : DirSource → List ℕ
ports_part source =
    space ∷ address_text source.ip ++ space ∷ decimal source.dir_port ++ space ∷ decimal source.or_port ++ line_feed ∷ []

-- the `dir-source` line of an authority with this nickname and host name, with its NL
abbrev pub source_line : List ℕ → List ℕ → DirSource → List ℕ
source_line nickname host source = names_part nickname host source.identity ++ ports_part source

-- whether it is no longer than a line may be
abbrev pub fits_line : List ℕ → List ℕ → DirSource → Bool
fits_line nickname host source = nat_le (length (source_line nickname host source)) max_line
