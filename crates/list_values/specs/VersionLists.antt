-- Lists of versions of Tor (dir-spec, the `client-versions` and `server-versions` lines).
use Rattle.std.specs.Prelude.{ℕ, Bool, List, [], ◌∷◌, is_some, Option, Some, None, Result, if◌then◌else◌}
use Rattle.std.specs.List.{list_all, join_with_byte}
use Rattle.item_terms.specs.Bytes.{comma}
use Rattle.dir_values.specs.{Arguments.{Argument, arguments_at}, FlagSets.unless_wrong, Versions.version_of}
use Rattle.dir_values.specs.declared.refusal.ValueRefusal.{ValueRefusal}
use Rattle.list_values.specs.Parts.{parts_of}

-- whether a text is a version
abbrev pub is_version : List ℕ → Bool
is_version text = is_some (version_of text)

-- whether each part of a text between its commas is a version
abbrev pub are_versions : List ℕ → Bool
are_versions text = list_all is_version (parts_of text)

-- the place of the first argument, if it is no list of versions; further ones are ignored
abbrev pub wrong_version_list : List Argument → Option ℕ
wrong_version_list [] = None
wrong_version_list (first ∷ rest) = if are_versions first.text then None else Some first.place

-- the versions of the first argument, in their order, and no version where there is no argument
abbrev pub versions_in : List Argument → List (List ℕ)
versions_in [] = []
versions_in (first ∷ rest) = parts_of first.text

-- the versions that a text spells
abbrev pub version_list : List ℕ → Result (List (List ℕ)) ValueRefusal
version_list text = unless_wrong (wrong_version_list (arguments_at 0 text)) (versions_in (arguments_at 0 text))

-- versions with commas between them
abbrev pub versions_text : List (List ℕ) → List ℕ
versions_text versions = join_with_byte comma versions
