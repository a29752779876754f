-- The sizes of an object's lines, one line after the other.
use Rattle.std.proofs.Common.{◌≡◌, ℕ, zero, suc, ◌+◌, ◌-◌, ◌<◌, ◌≤◌, ◌⊎◌, Bool, true, false, cond, List, [], ◌∷◌}
use Rattle.std.proofs.Common.{length, get_or, take, drop, Option, Some, None, refl, sym, ap, ◌∙◌, inl, inr, arith}
use Rattle.std.{proofs.lemmas.Bool.{le-leb, lt-leb}, specs.Prelude.{◌==◌, ◌&&◌, nat_le}}
use Rattle.memchr.specs.Find.{IsFirstByte, is_byte}
use Rattle.item_terms.specs.Base64Text.{lines_fit}
use Rattle.dirdoc_grammar.proofs.{FirstLine.whole_rest, JoinedLines.{NoneBelow, none_below, none_at_all}}

-- a line of n bytes fits, and so do the lines after it
abbrev line_fits : ℕ → List ℕ → Bool
line_fits n after = nat_le 1 n && nat_le n 64 && lines_fit 0 after

-- a line and its NL, of which count bytes have been read
line_off : (k count n : ℕ) (bytes : List ℕ) → n ≡ count + k → k < length bytes → NoneBelow k bytes → is_byte 10 (get_or bytes k 0) ≡ true → lines_fit count bytes ≡ line_fits n (drop (suc k) bytes)
line_off k count n [] e inside none nl = absurd (omega arith)
line_off zero count n (b ∷ bytes) e inside none nl =
    let same : count ≡ n = omega arith in
    ap (λ (t : Bool). cond t (line_fits count bytes) (lines_fit (count + 1) bytes)) nl ∙ ap (λ (m : ℕ). line_fits m bytes) same
line_off (suc k) count n (b ∷ bytes) e inside none nl =
    ap (λ (t : Bool). cond t (line_fits count bytes) (lines_fit (count + 1) bytes)) (none 0 (omega arith))
    ∙ line_off k (count + 1) n bytes (omega arith) (omega arith) (λ j lt. none (suc j) (omega arith)) nl

-- a text with no NL
no_line : (count n : ℕ) (bytes : List ℕ) → n ≡ count + length bytes → NoneBelow (length bytes) bytes → lines_fit count bytes ≡ (n == 0)
no_line count n [] e none = let same : count ≡ n = omega arith in ap (λ (m : ℕ). m == 0) same
no_line count n (b ∷ bytes) e none =
    ap (λ (t : Bool). cond t (line_fits count bytes) (lines_fit (count + 1) bytes)) (none 0 (omega arith))
    ∙ no_line (count + 1) n bytes (omega arith) (λ j lt. none (suc j) (omega arith))

line_at : (bytes : List ℕ) (k : ℕ) → IsFirstByte (is_byte 10) bytes (Some k) → lines_fit 0 bytes ≡ line_fits k (drop (k + 1) bytes)
line_at bytes k found =
    let after : suc k ≡ k + 1 = omega arith in
    line_off k 0 k bytes (omega arith) found.0.high (none_below bytes k found) found.1 ∙ ap (λ (n : ℕ). line_fits k (drop n bytes)) after

-- a turn of the loop over the lines: one of a size that may be, and one of another
pub one_turn : (bytes whole : List ℕ) (k : ℕ) → IsFirstByte (is_byte 10) bytes (Some k) → 1 ≤ k → k ≤ 64 → lines_fit 0 bytes ≡ lines_fit 0 whole
    → lines_fit 0 (take (length bytes - (k + 1)) (drop (k + 1) bytes)) ≡ lines_fit 0 whole
one_turn bytes whole k found some few before =
    let others : List ℕ = drop (k + 1) bytes in
    let fits : line_fits k others ≡ lines_fit 0 others = ap (λ (t : Bool). t && nat_le k 64 && lines_fit 0 others) (le-leb 1 k some) ∙ ap (λ (t : Bool). t && lines_fit 0 others) (le-leb k 64 few) in
    ap (lines_fit 0) (whole_rest (k + 1) bytes) ∙ sym fits ∙ sym (line_at bytes k found) ∙ before

never_fits : (k : ℕ) (others : List ℕ) → (k < 1) ⊎ ((1 ≤ k) × (64 < k)) → line_fits k others ≡ false
never_fits k others (inl none) = ap (λ (t : Bool). t && nat_le k 64 && lines_fit 0 others) (lt-leb 1 k none)
never_fits k others (inr many) =
    ap (λ (t : Bool). t && nat_le k 64 && lines_fit 0 others) (le-leb 1 k many.0) ∙ ap (λ (t : Bool). t && lines_fit 0 others) (lt-leb k 64 many.1)

pub no_turn : (bytes whole : List ℕ) (k : ℕ) → IsFirstByte (is_byte 10) bytes (Some k) → (k < 1) ⊎ ((1 ≤ k) × (64 < k)) → lines_fit 0 bytes ≡ lines_fit 0 whole → false ≡ lines_fit 0 whole
no_turn bytes whole k found wrong before = sym (never_fits k (drop (k + 1) bytes) wrong) ∙ sym (line_at bytes k found) ∙ before

-- its end
pub after_lines : (found : Option ℕ) (bytes whole : List ℕ) → IsFirstByte (is_byte 10) bytes found → ((k : ℕ) → found ≡ Some k → ⊥) → lines_fit 0 bytes ≡ lines_fit 0 whole → (length bytes == 0) ≡ lines_fit 0 whole
after_lines None bytes whole is none before = sym (no_line 0 (length bytes) bytes (omega arith) (none_at_all bytes is)) ∙ before
after_lines (Some k) bytes whole is none before = absurd (none k refl)
