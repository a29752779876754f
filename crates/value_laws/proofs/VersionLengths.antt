-- The canonical text of the versions of Tor that a text lists is no longer than that text.
use Rattle.std.proofs.Common.{ℕ, ◌+◌, ◌≤◌, Bool, true, false, List, [], ◌∷◌, length, Some, None, sym, ap, subst, arith}
use Rattle.std.{proofs.lemmas.List.Splits.join_with_byte-slice_split, specs.Prelude.if◌then◌else◌}
use Rattle.item_terms.specs.Bytes.{comma}
use Rattle.dir_values.specs.{Arguments.{Argument, arguments_at, texts_of}, FlagSets.unless_wrong}
use Rattle.dir_values.proofs.ArgumentWords.{arguments_words}
use Rattle.list_values.specs.{Parts.parts_of, VersionLists.{are_versions, versions_text}}
use Rattle.list_values.specs.VersionLists as version
use Rattle.value_groups.specs.Listed.{members_of}
use Rattle.value_laws.{specs.Lengths.VersionsAreNoLonger, proofs.Rooms.{room, words_room}}

-- the parts of the first argument with commas between them are that argument
made_of : (n : ℕ) (arguments : List Argument) → room (texts_of arguments) ≤ n + 1
    → length (versions_text (members_of
    (unless_wrong (version.wrong_version_list arguments) (version.versions_in arguments)))) ≤ n
made_of n [] few = omega arith
made_of n (first ∷ rest) few = by (are_versions first.text)
  where
    by : (t : Bool)
        → length (versions_text (members_of
        (unless_wrong (if t then None else Some first.place) (parts_of first.text)))) ≤ n
    by true =
        let same = ap (λ (l : List ℕ). length l) (join_with_byte-slice_split comma first.text) in
        omega (arith, few, same)
    by false = omega arith

pub versions_no_longer : VersionsAreNoLonger
versions_no_longer text =
    made_of (length text) (arguments_at 0 text)
    (subst (λ (l : List (List ℕ)). room l ≤ length text + 1) (sym (arguments_words 0 text)) (words_room text))
