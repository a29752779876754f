-- The section and the place behind one more line.
use Rattle.std.proofs.Common.{◌≡◌, ℕ, ◌+◌, Bool, true, false, cond, not, ◌||◌, List, [], ◌∷◌, ◌++◌, refl, ap, ◌∙◌}
use Rattle.std.proofs.{Common.{arith, if◌then◌else◌}, lemmas.List.{append-nil, Elements.filter-append}}
use Rattle.std.{proofs.lemmas.List.Folds.list_any-append, specs.List.{filter, list_any}}
use Rattle.item_terms.specs.{Lines.{Line, size}, Words.is_blank_line}
use Rattle.bandwidth_file.specs.{declared.section.Section.Section, Lines.place_of, Files.{is_filled, ends_header}}
use Rattle.bandwidth_file.specs.{Files.{section_behind, section_of}, Lending.next_section}
use Rattle.bandwidth_file.specs.declared.section.Section.TheVariants as section

abbrev line_ends_header : Line → Bool
line_ends_header line = ends_header line.text

abbrev by_ends : Bool → Section
by_ends ended = if ended then section.Relays else section.Headers

either : (a : Bool) (text : List ℕ) → by_ends (a || (ends_header text || false)) ≡ next_section (by_ends a) text
either true text = refl
either false text = elim (ends_header text) as (λ b. by_ends (b || false) ≡ by_ends b) [
  | true ↦ refl
  | false ↦ refl
]

-- one more line with more than blanks
filled : (before : List Line) (line : Line) → section_behind (before ++ line ∷ []) ≡ next_section (section_behind before) line.text
filled [] line = refl
filled (first ∷ rest) line = ap by_ends (list_any-append line_ends_header rest (line ∷ [])) ∙ either (list_any line_ends_header rest) line.text

-- one more line
pub section_grows : (before : List Line) (line : Line) (blank : Bool) → is_blank_line line.text ≡ blank
    → section_of (before ++ line ∷ []) ≡ (if blank then section_of before else next_section (section_of before) line.text)
section_grows before line true is =
    ap section_behind (filter-append is_filled before (line ∷ []))
    ∙ ap (λ (b : Bool). section_behind (filter is_filled before ++ cond (not b) (line ∷ []) [])) is
    ∙ ap section_behind (append-nil (filter is_filled before))
section_grows before line false is =
    ap section_behind (filter-append is_filled before (line ∷ []))
    ∙ ap (λ (b : Bool). section_behind (filter is_filled before ++ cond (not b) (line ∷ []) [])) is
    ∙ filled (filter is_filled before) line

pub place_grows : (before : List Line) (line : Line) → place_of (before ++ line ∷ []) ≡ place_of before + size line
place_grows [] line = omega arith
place_grows (first ∷ rest) line = let later = place_grows rest line in omega (arith, later)
