-- Which bytes are blank lines.
use Rattle.std.proofs.Common.{◌≡◌, ◌∙◌, ℕ, Bool, true, false, List, [], ◌∷◌, ◌++◌, refl, sym, ap}
use Rattle.std.{proofs.lemmas.List.Sums.fold-append, specs.{Prelude.{◌==◌, ◌&&◌, if◌then◌else◌}, List.{fold, list_all}}}
use Rattle.item_terms.specs.{Lines.{Line, lines, onto}, Words.{is_blank, is_blank_line}}
use Rattle.vote_feed.specs.{declared.blanks.Blank.{Blank, TheVariants.{Lines, Within, Other}}, Blanks.blank_by}
use Rattle.vote_feed.specs.{Blanks.{blank_of, blank_with, is_lines}, Feeding.are_blank_lines}

abbrev all_blank : List Line → Bool
all_blank ls = list_all (λ (line : Line). line.ended && is_blank_line line.text) ls

abbrev empty : Line
empty = record { text = []; ended = true }

-- behind another byte nothing changes
pub others : (bytes : List ℕ) → fold blank_with Other bytes ≡ Other
others [] = refl
others (b ∷ bytes) = others bytes

-- a byte in front of the first line
blank_front : (b : ℕ) (ls : List Line) → is_blank b ≡ true → all_blank (onto b ls) ≡ all_blank (onto 32 ls)
blank_front b [] is = refl
blank_front b (line ∷ ls) is =
    ap (λ (t : Bool). (line.ended && (t && list_all is_blank line.text)) && all_blank ls) is

never : (t : Bool) → (t && false) ≡ false
never true = refl
never false = refl

dark_front : (b : ℕ) (ls : List Line) → is_blank b ≡ false → all_blank (onto b ls) ≡ false
dark_front b [] is = refl
dark_front b (line ∷ ls) is =
    ap (λ (t : Bool). (line.ended && (t && list_all is_blank line.text)) && all_blank ls) is
    ∙ ap (λ (t : Bool). t && all_blank ls) (never line.ended)

twice : (b : ℕ) (ls : List Line) → all_blank (onto 32 (onto b ls)) ≡ all_blank (onto b ls)
twice b [] = refl
twice b (line ∷ ls) = refl

before : (b : ℕ) (ls : List Line) (nl : Bool)
    → all_blank (onto 32 (if nl then empty ∷ ls else onto b ls)) ≡ all_blank (if nl then empty ∷ ls else onto b ls)
before b ls true = refl
before b ls false = twice b ls

by_byte : (b : ℕ) (bytes : List ℕ) (nl blank : Bool) → is_blank b ≡ blank
    → is_lines (fold blank_with Lines bytes) ≡ all_blank (lines bytes)
    → is_lines (fold blank_with Within bytes) ≡ all_blank (onto 32 (lines bytes))
    → is_lines (fold blank_with (if nl then Lines else if blank then Within else Other) bytes)
    ≡ all_blank (if nl then empty ∷ lines bytes else onto b (lines bytes))
by_byte b bytes true blank is whole within = whole
by_byte b bytes false true is whole within = within ∙ sym (blank_front b (lines bytes) is)
by_byte b bytes false false is whole within =
    ap is_lines (others bytes) ∙ sym (dark_front b (lines bytes) is)

both_states_tell_blank_lines : (bytes : List ℕ) → (is_lines (fold blank_with Lines bytes) ≡ all_blank (lines bytes))
    × (is_lines (fold blank_with Within bytes) ≡ all_blank (onto 32 (lines bytes)))
both_states_tell_blank_lines [] = (refl, refl)
both_states_tell_blank_lines (b ∷ bytes) =
    let h = both_states_tell_blank_lines bytes in
    let one : is_lines (fold blank_with (blank_by b) bytes) ≡ all_blank (lines (b ∷ bytes)) =
    by_byte b bytes (b == 10) (is_blank b) refl h.0 h.1 in
    (one, one ∙ sym (before b (lines bytes) (b == 10)))

pub blank_lines : (bytes : List ℕ) → is_lines (blank_of bytes) ≡ are_blank_lines bytes
blank_lines bytes = (both_states_tell_blank_lines bytes).0

pub by_lines : (blank : Blank) (lines_ : Bool) → lines_ ≡ is_lines blank
    → (bytes : List ℕ) → blank ≡ blank_of bytes → lines_ ≡ are_blank_lines bytes
by_lines blank lines_ is bytes of = is ∙ ap is_lines of ∙ blank_lines bytes

-- with these behind them
pub blank_behind : (old new : Blank) (part : List ℕ) → new ≡ fold blank_with old part
    → (front : List ℕ) → old ≡ blank_of front → new ≡ blank_of (front ++ part)
blank_behind old new part is front was =
    is ∙ ap (λ (b : Blank). fold blank_with b part) was ∙ sym (fold-append blank_with Lines front part)
