-- The lines of an object that is written.
use Rattle.std.proofs.Common.{◌≡◌, ℕ, zero, suc, ◌+◌, ◌-◌, ◌*◌, ◌/◌, ◌%◌, ◌<◌, ◌≤◌, Bool, true, false, cond, List, []}
use Rattle.std.proofs.Common.{◌∷◌, ◌++◌, length, take, drop, Result, Ok, Err, refl, sym, ap, ◌∙◌, append_assoc, arith}
use Rattle.std.proofs.{Common.{inl, inr, length-take}, lemmas.Bool.{cases_lt, eq-eqb, eqb-false, eqb-true, ne_eqb}}
use Rattle.std.proofs.lemmas.List.{append-nil, drop_all, drop_at, length-append, length-replicate, take-append-drop}
use Rattle.std.{proofs.lemmas.List.{take_all, take_at}, specs.Prelude.{◌==◌, min, replicate, OnOk}}
use Rattle.base64.{specs.{Engines.standard, Rfc4648.{encode_symbols, padding_len}}, proofs.EngineFacts.encode_of-append}
use Rattle.base64.proofs.{EngineFacts.encode_of-nil, RoundTrip.length-encode_symbols}
use Rattle.dirdoc_grammar.specs.Bodies.{base64_of, body_text, in_lines}

-- ---- base64 with padding

pub base64_of-nil : base64_of [] ≡ []
unfolding base64_of
base64_of-nil = encode_of-nil standard

pub length-base64_of : (bytes : List ℕ) → length (base64_of bytes) ≡ (4 * length bytes + 2) / 3 + (3 - length bytes % 3) % 3
unfolding base64_of
length-base64_of bytes =
    let pad : List ℕ = replicate (padding_len (length bytes)) 61 in
    length-append (encode_symbols standard.encode_table bytes) pad
    ∙ ap (λ (n : ℕ). n + length pad) (length-encode_symbols standard.encode_table bytes)
    ∙ ap (λ (n : ℕ). (4 * length bytes + 2) / 3 + n) (length-replicate (padding_len (length bytes)) 61)

-- 48 bytes are a whole number of groups, so that what follows them is spelled alone
base64_of-append : (a b : List ℕ) → length a ≡ 48 → base64_of (a ++ b) ≡ base64_of a ++ base64_of b
unfolding base64_of
base64_of-append a b n = encode_of-append standard a b (omega (arith, n))

-- ---- lines of 64

-- a line that has count characters and lacks suc n takes as many as there are
fills : (n count b : ℕ) (text : List ℕ) → count + suc n ≡ 64 → in_lines count (b ∷ text) ≡ take (suc n) (b ∷ text) ++ 10 ∷ in_lines 0 (drop (suc n) (b ∷ text))
fills zero count b text e = ap (λ (t : Bool). cond t (b ∷ 10 ∷ in_lines 0 text) (b ∷ in_lines (count + 1) text)) (eq-eqb (count + 1) 64 (omega (arith, e)))
fills (suc n) count b [] e =
    ap (λ (t : Bool). cond t (b ∷ 10 ∷ in_lines 0 []) (b ∷ in_lines (count + 1) [])) (ne_eqb (count + 1) 64 (λ h. omega (arith, e, h)))
    ∙ ap (λ (t : Bool). b ∷ cond t [] (10 ∷ [])) (ne_eqb (count + 1) 0 (λ h. omega (arith, h)))
fills (suc n) count b (c ∷ more) e =
    ap (λ (t : Bool). cond t (b ∷ 10 ∷ in_lines 0 (c ∷ more)) (b ∷ in_lines (count + 1) (c ∷ more))) (ne_eqb (count + 1) 64 (λ h. omega (arith, e, h)))
    ∙ ap (λ (l : List ℕ). b ∷ l) (fills n (count + 1) c more (omega (arith, e)))

pub first_of_lines : (text : List ℕ) → 0 < length text → in_lines 0 text ≡ take 64 text ++ 10 ∷ in_lines 0 (drop 64 text)
first_of_lines [] some = absurd (omega arith)
first_of_lines (b ∷ text) some = fills 63 0 b text refl

-- a piece of 64 characters is a line
whole_line : (piece more : List ℕ) → length piece ≡ 64 → in_lines 0 (piece ++ more) ≡ piece ++ 10 ∷ in_lines 0 more
whole_line piece more n =
    first_of_lines (piece ++ more) (omega (arith, n, length-append piece more))
    ∙ ap (λ (l : List ℕ). l ++ 10 ∷ in_lines 0 (drop 64 (piece ++ more))) (take_at piece more 64 n)
    ∙ ap (λ (l : List ℕ). piece ++ 10 ∷ in_lines 0 l) (drop_at piece more 64 n)

-- a piece of no more, with nothing after it, is the last line
last_line : (piece : List ℕ) → 0 < length piece → length piece ≤ 64 → in_lines 0 piece ≡ piece ++ 10 ∷ []
last_line piece some short =
    first_of_lines piece some
    ∙ ap (λ (l : List ℕ). l ++ 10 ∷ in_lines 0 (drop 64 piece)) (take_all 64 piece short)
    ∙ ap (λ (l : List ℕ). piece ++ 10 ∷ in_lines 0 l) (drop_all 64 piece short)

-- ---- a line of 48 bytes, or of those that are left

one_line : (bytes : List ℕ) → 48 ≤ length bytes → body_text bytes ≡ base64_of (take 48 bytes) ++ 10 ∷ body_text (drop 48 bytes)
one_line bytes enough =
    let n : length (take 48 bytes) ≡ 48 = omega (arith, length-take 48 bytes) in
    ap body_text (sym (take-append-drop 48 bytes))
    ∙ ap (in_lines 0) (base64_of-append (take 48 bytes) (drop 48 bytes) n)
    ∙ whole_line (base64_of (take 48 bytes)) (base64_of (drop 48 bytes)) (omega (arith, n, length-base64_of (take 48 bytes)))

last_bytes : (bytes : List ℕ) → 0 < length bytes → length bytes < 48 → body_text bytes ≡ base64_of bytes ++ 10 ∷ []
last_bytes bytes some short =
    let n = length-base64_of bytes in
    last_line (base64_of bytes) (omega (arith, n)) (omega (arith, n))

pub body_text_more : (bytes : List ℕ) → 0 < length bytes → body_text bytes ≡ base64_of (take (min (length bytes) 48) bytes) ++ 10 ∷ body_text (drop (min (length bytes) 48) bytes)
body_text_more bytes some = elim (cases_lt (length bytes) 48) [
  | inl lt ↦
      let n : min (length bytes) 48 ≡ length bytes = omega arith in
      let none : in_lines 0 (base64_of (drop (length bytes) bytes)) ≡ [] = ap (λ (l : List ℕ). in_lines 0 (base64_of l)) (drop_all (length bytes) bytes (omega arith)) ∙ ap (in_lines 0) base64_of-nil in
      last_bytes bytes some lt
      ∙ ap (λ (l : List ℕ). base64_of l ++ 10 ∷ []) (sym (take_all (length bytes) bytes (omega arith)))
      ∙ ap (λ (l : List ℕ). base64_of (take (length bytes) bytes) ++ 10 ∷ l) (sym none)
      ∙ ap (λ (k : ℕ). base64_of (take k bytes) ++ 10 ∷ body_text (drop k bytes)) (sym n)
  | inr ge ↦
      let n : min (length bytes) 48 ≡ 48 = omega arith in
      one_line bytes ge ∙ ap (λ (k : ℕ). base64_of (take k bytes) ++ 10 ∷ body_text (drop k bytes)) (sym n)
]

pub body_text-nil : body_text [] ≡ []
body_text-nil = ap (in_lines 0) base64_of-nil

-- ---- a turn of the loop that writes the lines, and its end

pub one_turn : (bytes line others out new whole : List ℕ) (n : ℕ) → (length bytes == 0) ≡ false → n ≡ min (length bytes) 48 → line ≡ take n bytes → others ≡ drop n bytes → new ≡ out ++ base64_of line ++ 10 ∷ []
    → out ++ body_text bytes ≡ whole → new ++ body_text others ≡ whole
one_turn bytes line others out new whole n test e front back written before =
    let some : 0 < length bytes = omega (arith, eqb-false (length bytes) 0 test) in
    let more : body_text bytes ≡ base64_of line ++ 10 ∷ body_text others = rw (front, back, e) (body_text_more bytes some) in
    ap (λ (l : List ℕ). l ++ body_text others) written
    ∙ append_assoc (out ++ base64_of line) (10 ∷ []) (body_text others)
    ∙ append_assoc out (base64_of line) (10 ∷ body_text others)
    ∙ ap (λ (l : List ℕ). out ++ l) (sym more)
    ∙ before

pub after_lines : (bytes out whole : List ℕ) → (length bytes == 0) ≡ true → out ++ body_text bytes ≡ whole → out ≡ whole
after_lines [] out whole none before = sym (ap (λ (l : List ℕ). out ++ l) body_text-nil ∙ append-nil out) ∙ before
after_lines (b ∷ bytes) out whole none before = absurd (omega (arith, eqb-true (length (b ∷ bytes)) 0 none))

-- ---- the parts of an object, one after the other

pub parts_joined : {A E : Type 0} (r : Result A E) (out first lines whole begin body end : List ℕ) → first ≡ out ++ begin ++ 10 ∷ [] → lines ≡ first ++ body → OnOk r (whole ≡ lines ++ end ++ 10 ∷ [])
    → OnOk r (whole ≡ out ++ (begin ++ 10 ∷ (body ++ end ++ 10 ∷ [])))
parts_joined (Ok x) out first lines whole begin body end a b c =
    let front : List ℕ = out ++ begin ++ 10 ∷ [] in
    c
    ∙ ap (λ (l : List ℕ). l ++ end ++ 10 ∷ []) (b ∙ ap (λ (l : List ℕ). l ++ body) a)
    ∙ ap (λ (l : List ℕ). l ++ 10 ∷ []) (append_assoc front body end)
    ∙ append_assoc front (body ++ end) (10 ∷ [])
    ∙ append_assoc (out ++ begin) (10 ∷ []) (body ++ end ++ 10 ∷ [])
    ∙ append_assoc out begin (10 ∷ (body ++ end ++ 10 ∷ []))
parts_joined (Err x) out first lines whole begin body end a b c = tt
