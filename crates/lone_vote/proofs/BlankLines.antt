-- Behind a document stands nothing but blank lines exactly where all of these lines are blank.
use Rattle.std.proofs.Common.{◌≡◌, ◌∙◌, ℕ, ◌+◌, Bool, true, false, List, [], ◌∷◌, ◌++◌, length, Some, None, refl, ap}
use Rattle.std.{proofs.{Math.Seq.drop-append_seam, lemmas.Bool.and_parts}, specs.Prelude.{◌&&◌, if◌then◌else◌}}
use Rattle.std.specs.List.{list_all}
use Rattle.item_terms.specs.{Lines.{Line, lines, size}, Words.is_blank_line}
use Rattle.blank_lines.specs.Blanks.{after_blanks, first_other, is_blank}

abbrev all_blank : List Line → Bool
all_blank ls = list_all (λ (line : Line). line.ended && is_blank_line line.text) ls

pub none_other : (place : ℕ) (ls : List Line) → all_blank ls ≡ true → first_other place ls ≡ None
unfolding first_other
none_other place [] all = refl
none_other place (line ∷ rest) all =
    let parts = and_parts (line.ended && is_blank_line line.text) (all_blank rest) all in
    let here = and_parts line.ended (is_blank_line line.text) parts.0 in
    let blank : is_blank line ≡ true = ap (λ (t : Bool). t && line.ended) here.1 ∙ here.0 in
    ap (λ (t : Bool). if t then first_other (place + size line) rest else Some place) blank
    ∙ none_other (place + size line) rest parts.1

pub no_other : (place : ℕ) (ls : List Line) → first_other place ls ≡ None → all_blank ls ≡ true
unfolding first_other
no_other place [] none = refl
no_other place (line ∷ rest) none = by (is_blank line) refl none (no_other (place + size line) rest)
  where
    by : (t : Bool) → is_blank line ≡ t → (if t then first_other (place + size line) rest else Some place) ≡ None
        → (first_other (place + size line) rest ≡ None → all_blank rest ≡ true) → all_blank (line ∷ rest) ≡ true
    by false is none on = absurd (cc none)
    by true is none on =
        let parts = and_parts (is_blank_line line.text) line.ended is in
        ap (λ (t : Bool). (t && is_blank_line line.text) && all_blank rest) parts.1
        ∙ ap (λ (t : Bool). t && all_blank rest) parts.0 ∙ on none

-- the lines behind the first of two parts
pub lines_behind : (own rest : List ℕ)
    → after_blanks (length own) (own ++ rest) ≡ first_other (length own) (lines rest)
lines_behind own rest =
    ap (λ (l : List ℕ). first_other (length own) (lines l)) (drop-append_seam own rest)
