-- Whole groups of base64 without padding, in front of a text.
use Rattle.std.proofs.Common.{◌≡◌, ℕ, ◌-◌, ◌≤◌, Bool, true, false, cond, List, [], ◌∷◌, length, get_or, take, drop}
use Rattle.std.proofs.{Common.{refl, sym, ap, ◌∙◌, arith}, lemmas.Bool.{and_parts, false≢true, ne_eqb}}
use Rattle.std.specs.Prelude.{◌==◌, ◌&&◌, nat_le, not}
use Rattle.item_terms.specs.Base64Text.{joined_text}
use Rattle.dirdoc_grammar.specs.{declared.base64_text.Group.TheVariants.Start, Groups.{symbol, goes_on}}
use Rattle.dirdoc_grammar.proofs.{Base64Encodings.IsSymbol, Base64Groups.four_symbols, FirstLine.whole_rest}

-- a symbol is none of the other bytes
not_other : (n b : ℕ) → nat_le (symbol n) 63 ≡ false → IsSymbol b → (b == n) ≡ false
not_other n b none is = ne_eqb b n (λ e. false≢true (sym none ∙ sym (ap (λ (m : ℕ). nat_le (symbol m) 63) e) ∙ is))

-- it is no NL
symbol_stays : (b : ℕ) (bytes : List ℕ) → IsSymbol b → joined_text (b ∷ bytes) ≡ b ∷ joined_text bytes
symbol_stays b bytes is = ap (λ (t : Bool). cond (not t) (b ∷ joined_text bytes) (joined_text bytes)) (not_other 10 b refl is)

four_stay : (a b c d : ℕ) (bytes : List ℕ) → IsSymbol a → IsSymbol b → IsSymbol c → IsSymbol d → joined_text (a ∷ b ∷ c ∷ d ∷ bytes) ≡ a ∷ b ∷ c ∷ d ∷ joined_text bytes
four_stay a b c d bytes sa sb sc sd =
    symbol_stays a (b ∷ c ∷ d ∷ bytes) sa
    ∙ ap (λ (l : List ℕ). a ∷ l) (symbol_stays b (c ∷ d ∷ bytes) sb)
    ∙ ap (λ (l : List ℕ). a ∷ b ∷ l) (symbol_stays c (d ∷ bytes) sc)
    ∙ ap (λ (l : List ℕ). a ∷ b ∷ c ∷ l) (symbol_stays d bytes sd)

group_off : (a b c d : ℕ) (bytes : List ℕ) → IsSymbol a → IsSymbol b → IsSymbol c → IsSymbol d → goes_on Start (joined_text (a ∷ b ∷ c ∷ d ∷ bytes)) ≡ goes_on Start (joined_text bytes)
group_off a b c d bytes sa sb sc sd =
    ap (goes_on Start) (four_stay a b c d bytes sa sb sc sd) ∙ four_symbols a b c d (joined_text bytes) sa sb sc (not_other 61 c refl sc) sd (not_other 61 d refl sd)

first_four : (bytes : List ℕ) → 4 ≤ length bytes → IsSymbol (get_or bytes 0 0) → IsSymbol (get_or bytes 1 0) → IsSymbol (get_or bytes 2 0) → IsSymbol (get_or bytes 3 0)
    → goes_on Start (joined_text bytes) ≡ goes_on Start (joined_text (drop 4 bytes))
first_four [] four sa sb sc sd = absurd (omega arith)
first_four (a ∷ []) four sa sb sc sd = absurd (omega arith)
first_four (a ∷ b ∷ []) four sa sb sc sd = absurd (omega arith)
first_four (a ∷ b ∷ c ∷ []) four sa sb sc sd = absurd (omega arith)
first_four (a ∷ b ∷ c ∷ d ∷ bytes) four sa sb sc sd = group_off a b c d bytes sa sb sc sd

-- a turn of the loop over the groups
pub one_turn : (bytes whole : List ℕ) (p q r s : Bool) → 4 ≤ length bytes
    → p ≡ nat_le (symbol (get_or bytes 0 0)) 63 → q ≡ nat_le (symbol (get_or bytes 1 0)) 63 → r ≡ nat_le (symbol (get_or bytes 2 0)) 63 → s ≡ nat_le (symbol (get_or bytes 3 0)) 63
    → ((p && q) && r) && s ≡ true → goes_on Start (joined_text bytes) ≡ goes_on Start (joined_text whole) → goes_on Start (joined_text (take (length bytes - 4) (drop 4 bytes))) ≡ goes_on Start (joined_text whole)
one_turn bytes whole p q r s four ep eq er es all before =
    let last = and_parts ((p && q) && r) s all in
    let third = and_parts (p && q) r last.0 in
    let first = and_parts p q third.0 in
    ap (λ (l : List ℕ). goes_on Start (joined_text l)) (whole_rest 4 bytes)
    ∙ sym (first_four bytes four (sym ep ∙ first.0) (sym eq ∙ first.1) (sym er ∙ third.1) (sym es ∙ last.1))
    ∙ before
