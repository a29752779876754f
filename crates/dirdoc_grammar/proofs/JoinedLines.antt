-- The lines of an object without their NLs, one line after the other.
use Rattle.std.proofs.Common.{◌≡◌, ℕ, zero, suc, ◌+◌, ◌<◌, Bool, true, false, cond, List, [], ◌∷◌, ◌++◌, length, ◌-◌}
use Rattle.std.proofs.Common.{get_or, take, drop, Option, Some, None, refl, sym, ap, ◌∙◌, append_assoc, arith}
use Rattle.std.specs.Prelude.{not}
use Rattle.memchr.specs.Find.{IsFirstByte, is_byte}
use Rattle.item_terms.specs.Base64Text.{joined_text}
use Rattle.dirdoc_grammar.proofs.{FirstByte.not_true, FirstLine.whole_rest}

-- no byte up to a place is a NL
abbrev pub NoneBelow : ℕ → List ℕ → Type 0
NoneBelow k bytes = (j : ℕ) → j < k → is_byte 10 (get_or bytes j 0) ≡ false

-- what a search says that has found a NL, or none
pub none_below : (bytes : List ℕ) (k : ℕ) → IsFirstByte (is_byte 10) bytes (Some k) → NoneBelow k bytes
none_below bytes k found j lt = not_true (is_byte 10 (get_or bytes j 0)) (found.0.before j (omega arith) lt)

pub none_at_all : (bytes : List ℕ) → IsFirstByte (is_byte 10) bytes None → NoneBelow (length bytes) bytes
none_at_all bytes none j lt = not_true (is_byte 10 (get_or bytes j 0)) (none j (omega arith) lt)

-- a line and its NL
line_off : (k : ℕ) (bytes : List ℕ) → k < length bytes → NoneBelow k bytes → is_byte 10 (get_or bytes k 0) ≡ true → joined_text bytes ≡ take k bytes ++ joined_text (drop (suc k) bytes)
line_off k [] inside none nl = absurd (omega arith)
line_off zero (b ∷ bytes) inside none nl = ap (λ (t : Bool). cond (not t) (b ∷ joined_text bytes) (joined_text bytes)) nl
line_off (suc k) (b ∷ bytes) inside none nl =
    ap (λ (t : Bool). cond (not t) (b ∷ joined_text bytes) (joined_text bytes)) (none 0 (omega arith))
    ∙ ap (λ (l : List ℕ). b ∷ l) (line_off k bytes (omega arith) (λ j lt. none (suc j) (omega arith)) nl)

-- a text with no NL
no_line : (bytes : List ℕ) → NoneBelow (length bytes) bytes → joined_text bytes ≡ bytes
no_line [] none = refl
no_line (b ∷ bytes) none =
    ap (λ (t : Bool). cond (not t) (b ∷ joined_text bytes) (joined_text bytes)) (none 0 (omega arith))
    ∙ ap (λ (l : List ℕ). b ∷ l) (no_line bytes (λ j lt. none (suc j) (omega arith)))

-- the same where a search has found the NL, or none
pub joined_at : (bytes : List ℕ) (k : ℕ) → IsFirstByte (is_byte 10) bytes (Some k) → joined_text bytes ≡ take k bytes ++ joined_text (drop (k + 1) bytes)
joined_at bytes k found =
    let after : suc k ≡ k + 1 = omega arith in
    line_off k bytes found.0.high (none_below bytes k found) found.1
    ∙ ap (λ (n : ℕ). take k bytes ++ joined_text (drop n bytes)) after

pub joined_none : (bytes : List ℕ) → IsFirstByte (is_byte 10) bytes None → joined_text bytes ≡ bytes
joined_none bytes none = no_line bytes (none_at_all bytes none)

-- a turn of the loop that joins the lines, and its end
pub one_turn : (bytes out new whole : List ℕ) (k : ℕ) → IsFirstByte (is_byte 10) bytes (Some k) → new ≡ out ++ take k bytes → out ++ joined_text bytes ≡ whole
    → new ++ joined_text (take (length bytes - (k + 1)) (drop (k + 1) bytes)) ≡ whole
one_turn bytes out new whole k found written before =
    let others : List ℕ = drop (k + 1) bytes in
    ap (λ (l : List ℕ). new ++ joined_text l) (whole_rest (k + 1) bytes)
    ∙ ap (λ (l : List ℕ). l ++ joined_text others) written
    ∙ append_assoc out (take k bytes) (joined_text others)
    ∙ ap (λ (l : List ℕ). out ++ l) (sym (joined_at bytes k found))
    ∙ before

pub after_lines : (found : Option ℕ) (bytes out new whole : List ℕ) → IsFirstByte (is_byte 10) bytes found → ((k : ℕ) → found ≡ Some k → ⊥) → new ≡ out ++ bytes → out ++ joined_text bytes ≡ whole → new ≡ whole
after_lines None bytes out new whole is none written before = written ∙ ap (λ (l : List ℕ). out ++ l) (sym (joined_none bytes is)) ∙ before
after_lines (Some k) bytes out new whole is none written before = absurd (none k refl)
