-- The texts of versions that are borrowed from where they stand.
use Rattle.std.specs.Prelude.{ℕ, List, map}
use Rattle.field_votes.specs.declared.version_text.VersionText.{VersionText}

-- the texts that are borrowed
abbrev pub texts_in : List VersionText → List (List ℕ)
texts_in borrowed = map (λ (version : VersionText). version.text.now) borrowed
