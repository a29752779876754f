-- The bytes of an object that is written: its lines are base64 of 64 characters, and its first and last line say its words.
use Rattle.std.proofs.Common.{◌≡◌, ℕ, ◌+◌, ◌-◌, ◌<◌, Bool, true, false, cond, List, [], ◌∷◌, ◌++◌, length, take, drop}
use Rattle.std.proofs.{Common.{Option, Some, None, Result, Ok, refl, sym, ap, ◌∙◌, arith}, lemmas.Bool.and_parts}
use Rattle.std.proofs.lemmas.{Bool.{eq-eqb, eqb-true, false≢true, le-leb}, List.{drop_at, length-append}}
use Rattle.std.proofs.{lemmas.List.{take-append-drop, take_at, Folds.list_all-append}, Math.Bool.or-true}
use Rattle.std.specs.{Prelude.{◌==◌, nat_le, nat_eq, not, ◌&&◌, ◌||◌, is_ok, option_and_then}, List.list_all}
use Rattle.std.specs.Result.{result_ok}
use lib.Pointwise.{bytes_decides, pointwise}
use Rattle.base64.specs.{declared.decode.DecodeError.DecodeError, Engines.standard, GeneralPurpose.{IsBytes, decode_of}}
use Rattle.base64.proofs.EngineFacts.{decode_of-encode_of}
use Rattle.item_terms.specs.{Base64Text.{is_base64, is_body, is_inside, joined_text, lines_fit}, Words.are_words}
use Rattle.item_terms.specs.Words.{begin_words, begins, dashes, ends, if_words, is_dashes, is_end_line, is_word_byte}
use Rattle.item_terms.specs.Words.{strip, strip_end}
use Rattle.dirdoc_grammar.specs.Bodies.{base64_of, begin_line, body_text, decoded_bytes, end_line, in_lines}
use Rattle.dirdoc_grammar.proofs.Symbols.{base64_symbols, is_symbol}

-- ---- bytes of one kind are none of another

differs_by : (same : Bool) (p : ℕ → Bool) (x b : ℕ) → (b == x) ≡ same → p x ≡ false → p b ≡ true → same ≡ false
differs_by true p x b is bad good = absurd (false≢true (sym bad ∙ ap p (sym (eqb-true b x is)) ∙ good))
differs_by false p x b is bad good = refl

pub differs : (p : ℕ → Bool) (x b : ℕ) → p x ≡ false → p b ≡ true → (b == x) ≡ false
differs p x b bad good = differs_by (b == x) p x b refl bad good

pub avoids : (p : ℕ → Bool) (x : ℕ) (text : List ℕ) → p x ≡ false → list_all p text ≡ true → list_all (λ b. not (b == x)) text ≡ true
avoids p x [] bad all = refl
avoids p x (b ∷ text) bad all =
    let parts = and_parts (p b) (list_all p text) all in
    ap (λ (t : Bool). not t && list_all (λ b. not (b == x)) text) (differs p x b bad parts.0) ∙ avoids p x text bad parts.1

pub all_taken : (p : ℕ → Bool) (n : ℕ) (text : List ℕ) → list_all p text ≡ true → (list_all p (take n text) ≡ true) × (list_all p (drop n text) ≡ true)
all_taken p n text all = and_parts (list_all p (take n text)) (list_all p (drop n text)) (sym (list_all-append p (take n text) (drop n text)) ∙ ap (list_all p) (take-append-drop n text) ∙ all)

pub all_joined : (p : ℕ → Bool) (a b : List ℕ) → list_all p a ≡ true → list_all p b ≡ true → list_all p (a ++ b) ≡ true
all_joined p a b all more = list_all-append p a b ∙ ap (λ (t : Bool). t && list_all p b) all ∙ more

-- ---- its lines have 1 to 64 characters

abbrev NoNl : List ℕ → Type 0
NoNl text = list_all (λ b. not (b == 10)) text ≡ true

not_false : (t : Bool) → not t ≡ true → t ≡ false
not_false true h = absurd (false≢true h)
not_false false h = refl

ended_line : (none : Bool) (count : ℕ) → (count == 0) ≡ none → count < 64 → lines_fit count (cond none [] (10 ∷ [])) ≡ true
ended_line true count is short = is
ended_line false count is short = grind (arith, le-leb 1 count, le-leb count 64)

fits_by : (full : Bool) (count b : ℕ) (text : List ℕ) → (b == 10) ≡ false → count < 64 → lines_fit 0 (in_lines 0 text) ≡ true → (full ≡ false → lines_fit (count + 1) (in_lines (count + 1) text) ≡ true)
    → lines_fit count (cond full (b ∷ 10 ∷ in_lines 0 text) (b ∷ in_lines (count + 1) text)) ≡ true
fits_by true count b text other short next same =
    let line : List ℕ = 10 ∷ in_lines 0 text in
    ap (λ (t : Bool). cond t (nat_le 1 count && nat_le count 64 && lines_fit 0 line) (lines_fit (count + 1) line)) other
    ∙ ap (λ (t : Bool). t && nat_le (count + 1) 64 && lines_fit 0 (in_lines 0 text)) (le-leb 1 (count + 1) (omega arith))
    ∙ ap (λ (t : Bool). t && lines_fit 0 (in_lines 0 text)) (le-leb (count + 1) 64 (omega arith))
    ∙ next
fits_by false count b text other short next same =
    let line : List ℕ = in_lines (count + 1) text in
    ap (λ (t : Bool). cond t (nat_le 1 count && nat_le count 64 && lines_fit 0 line) (lines_fit (count + 1) line)) other ∙ same refl

not_full : (count : ℕ) → count < 64 → (count + 1 == 64) ≡ false → count + 1 < 64
not_full count short e = omega (arith, λ (h : count + 1 ≡ 64). false≢true (sym e ∙ eq-eqb (count + 1) 64 h))

in_lines_fit : (count : ℕ) (text : List ℕ) → NoNl text → count < 64 → lines_fit count (in_lines count text) ≡ true
in_lines_fit count [] no_nl short = ended_line (count == 0) count refl short
in_lines_fit count (b ∷ text) no_nl short =
    let parts = and_parts (not (b == 10)) (list_all (λ b. not (b == 10)) text) no_nl in
    fits_by (count + 1 == 64) count b text (not_false (b == 10) parts.0) short (in_lines_fit 0 text parts.1 (omega arith))
    (λ e. in_lines_fit (count + 1) text parts.1 (not_full count short e))

-- ---- and joined they are the text

joined_end : (none : Bool) → joined_text (cond none [] (10 ∷ [])) ≡ []
joined_end true = refl
joined_end false = refl

joined_by : (full : Bool) (count b : ℕ) (text : List ℕ) → is_inside b ≡ true → joined_text (in_lines 0 text) ≡ text → joined_text (in_lines (count + 1) text) ≡ text
    → joined_text (cond full (b ∷ 10 ∷ in_lines 0 text) (b ∷ in_lines (count + 1) text)) ≡ b ∷ text
joined_by true count b text inside next same = ap (λ (t : Bool). cond t (b ∷ joined_text (in_lines 0 text)) (joined_text (in_lines 0 text))) inside ∙ ap (λ (l : List ℕ). b ∷ l) next
joined_by false count b text inside next same = ap (λ (t : Bool). cond t (b ∷ joined_text (in_lines (count + 1) text)) (joined_text (in_lines (count + 1) text))) inside ∙ ap (λ (l : List ℕ). b ∷ l) same

joined-in_lines : (count : ℕ) (text : List ℕ) → NoNl text → joined_text (in_lines count text) ≡ text
joined-in_lines count [] no_nl = joined_end (count == 0)
joined-in_lines count (b ∷ text) no_nl =
    let parts = and_parts (not (b == 10)) (list_all (λ b. not (b == 10)) text) no_nl in
    joined_by (count + 1 == 64) count b text parts.0 (joined-in_lines 0 text parts.1) (joined-in_lines (count + 1) text parts.1)

-- ---- a body that was written

no_nl_in : (bytes : List ℕ) → IsBytes bytes → NoNl (base64_of bytes)
no_nl_in bytes fit = avoids is_symbol 10 (base64_of bytes) refl (base64_symbols bytes fit)

joined-body_text : (bytes : List ℕ) → IsBytes bytes → joined_text (body_text bytes) ≡ base64_of bytes
joined-body_text bytes fit = joined-in_lines 0 (base64_of bytes) (no_nl_in bytes fit)

spells : (bytes : List ℕ) → IsBytes bytes → decode_of standard (base64_of bytes) ≡ Ok bytes
unfolding base64_of
spells bytes fit = decode_of-encode_of standard bytes refl fit

is_base64_text : (bytes : List ℕ) → IsBytes bytes → is_base64 (joined_text (body_text bytes)) ≡ true
unfolding is_base64
is_base64_text bytes fit =
    ap (λ (l : List ℕ). is_ok (decode_of standard l)) (joined-body_text bytes fit) ∙ ap (λ (r : Result (List ℕ) DecodeError). is_ok r) (spells bytes fit)

-- the lines of an object that is written are a body
pub body_is_body : (bytes : List ℕ) → IsBytes bytes → is_body (body_text bytes) ≡ true
body_is_body bytes fit =
    ap (λ (t : Bool). t && is_base64 (joined_text (body_text bytes))) (in_lines_fit 0 (base64_of bytes) (no_nl_in bytes fit) (omega arith)) ∙ is_base64_text bytes fit

-- and they spell its bytes
pub decoded-body_text : (bytes : List ℕ) → IsBytes bytes → decoded_bytes (body_text bytes) ≡ Some bytes
unfolding decoded_bytes
decoded-body_text bytes fit =
    ap (λ (l : List ℕ). result_ok (decode_of standard l)) (joined-body_text bytes fit) ∙ ap (λ (r : Result (List ℕ) DecodeError). result_ok r) (spells bytes fit)

-- ---- the first and the last line

-- a byte of words
abbrev pub is_words_byte : ℕ → Bool
is_words_byte b = is_word_byte b || (b == 32)

words_by : (space at_start : Bool) (b : ℕ) (text : List ℕ) → (b == 32) ≡ space → cond space (not at_start && are_words true text) (is_word_byte b && are_words false text) ≡ true
    → ((next : Bool) → are_words next text ≡ true → list_all is_words_byte text ≡ true) → list_all is_words_byte (b ∷ text) ≡ true
words_by true at_start b text is h more =
    ap (λ (t : Bool). (is_word_byte b || t) && list_all is_words_byte text) is ∙ ap (λ (t : Bool). t && list_all is_words_byte text) (or-true (is_word_byte b))
    ∙ more true (and_parts (not at_start) (are_words true text) h).1
words_by false at_start b text is h more =
    let parts = and_parts (is_word_byte b) (are_words false text) h in
    ap (λ (t : Bool). (t || (b == 32)) && list_all is_words_byte text) parts.0 ∙ more false parts.1

words_bytes : (at_start : Bool) (text : List ℕ) → are_words at_start text ≡ true → list_all is_words_byte text ≡ true
words_bytes at_start [] h = refl
words_bytes at_start (b ∷ text) h = words_by (b == 32) at_start b text refl h (λ next. words_bytes next text)

-- both lines have nothing but such bytes
pub begin_bytes : (words : List ℕ) → are_words true words ≡ true → list_all is_words_byte (begin_line words) ≡ true
begin_bytes words h = all_joined is_words_byte (begins ++ words) dashes (all_joined is_words_byte begins words refl (words_bytes true words h)) refl

pub end_bytes : (words : List ℕ) → are_words true words ≡ true → list_all is_words_byte (end_line words) ≡ true
end_bytes words h = all_joined is_words_byte (ends ++ words) dashes (all_joined is_words_byte ends words refl (words_bytes true words h)) refl

alike : (text : List ℕ) → pointwise nat_eq text text ≡ true
alike text = (bytes_decides text text).1 refl

strip_front : (front text : List ℕ) → strip front (front ++ text) ≡ Some text
strip_front front text =
    ap (λ (l : List ℕ). cond (pointwise nat_eq l front) (Some (drop (length front) (front ++ text))) None) (take_at front text (length front) refl)
    ∙ ap (λ (t : Bool). cond t (Some (drop (length front) (front ++ text))) None) (alike front)
    ∙ ap (λ (l : List ℕ). Some l) (drop_at front text (length front) refl)

strip_back : (text back : List ℕ) → strip_end back (text ++ back) ≡ Some text
strip_back text back =
    let n : length (text ++ back) - length back ≡ length text = omega (arith, length-append text back) in
    ap (λ (k : ℕ). cond (pointwise nat_eq (drop k (text ++ back)) back) (Some (take k (text ++ back))) None) n
    ∙ ap (λ (l : List ℕ). cond (pointwise nat_eq l back) (Some (take (length text) (text ++ back))) None) (drop_at text back (length text) refl)
    ∙ ap (λ (t : Bool). cond t (Some (take (length text) (text ++ back))) None) (alike back)
    ∙ ap (λ (l : List ℕ). Some l) (take_at text back (length text) refl)

-- the first line says the words
pub begin_words-begin_line : (words : List ℕ) → are_words true words ≡ true → begin_words (begin_line words) ≡ Some words
begin_words-begin_line words h =
    ap (λ (o : Option (List ℕ)). option_and_then if_words (option_and_then (strip_end dashes) o)) (strip_front begins (words ++ dashes))
    ∙ ap (λ (o : Option (List ℕ)). option_and_then if_words o) (strip_back words dashes)
    ∙ ap (λ (t : Bool). cond t (Some words) None) h

-- the last line ends the object of its words
pub ends_object : (words : List ℕ) → is_end_line words (end_line words) ≡ true
ends_object words =
    ap (λ (o : Option (List ℕ)). is_dashes (option_and_then (strip words) o)) (strip_front ends (words ++ dashes))
    ∙ ap (λ (o : Option (List ℕ)). is_dashes o) (strip_front words dashes)
