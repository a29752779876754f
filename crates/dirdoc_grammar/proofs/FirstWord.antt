-- The words of a text are its first word and the words of what follows it.
use Rattle.std.proofs.Common.{◌≡◌, ℕ, suc, ◌+◌, ◌-◌, ◌<◌, Bool, true, false, cond, List, [], ◌∷◌, length, take, drop}
use Rattle.std.proofs.{Common.{refl, sym, ap, subst, ◌∙◌, arith}, lemmas.Bool.{eqb-true, eqb-false}}
use Rattle.std.specs.{Prelude.{not, ◌==◌}, List.prefix_len}
use Rattle.item_terms.specs.Words.{is_blank, ends_or_blank, onto_word, words_of}
use Rattle.dirdoc_grammar.proofs.FirstLine.{whole_rest}

abbrev pub is_dark : ℕ → Bool
is_dark b = not (is_blank b)

-- the first bytes as a word, and the words of the others
abbrev pub first_rest : ℕ → List ℕ → List (List ℕ)
first_rest n text = take n text ∷ words_of (drop n text)

abbrev grown : ℕ → ℕ → List ℕ → List (List ℕ)
grown b n text = (b ∷ take n text) ∷ words_of (drop n text)

first_rest-one : (b n : ℕ) (text : List ℕ) → first_rest (1 + n) (b ∷ text) ≡ grown b n text
first_rest-one b n text = let one : 1 + n ≡ suc n = omega arith in ap (λ (k : ℕ). first_rest k (b ∷ text)) one

by_next : (blank : Bool) (b c : ℕ) (text : List ℕ) → is_blank c ≡ blank → (is_blank c ≡ false → words_of (c ∷ text) ≡ first_rest (prefix_len is_dark (c ∷ text)) (c ∷ text))
    → cond blank ((b ∷ []) ∷ words_of (c ∷ text)) (onto_word b (words_of (c ∷ text))) ≡ grown b (prefix_len is_dark (c ∷ text)) (c ∷ text)
by_next true b c text is before = sym (ap (λ (t : Bool). grown b (cond (not t) (1 + prefix_len is_dark text) 0) (c ∷ text)) is)
by_next false b c text is before = ap (onto_word b) (before is)

-- a text that begins with no blank begins with its first word
words_of-first : (b : ℕ) (text : List ℕ) → is_blank b ≡ false → words_of (b ∷ text) ≡ first_rest (prefix_len is_dark (b ∷ text)) (b ∷ text)
words_of-first b [] is =
    ap (λ (t : Bool). cond t [] ((b ∷ []) ∷ [])) is ∙ sym (ap (λ (t : Bool). first_rest (cond (not t) 1 0) (b ∷ [])) is)
words_of-first b (c ∷ text) is =
    let n = prefix_len is_dark (c ∷ text) in
    ap (λ (t : Bool). cond t (words_of (c ∷ text)) (cond (is_blank c) ((b ∷ []) ∷ words_of (c ∷ text)) (onto_word b (words_of (c ∷ text))))) is
    ∙ by_next (is_blank c) b c text refl (words_of-first c text)
    ∙ sym (first_rest-one b n (c ∷ text))
    ∙ sym (ap (λ (t : Bool). first_rest (cond (not t) (1 + n) 0) (b ∷ c ∷ text)) is)

-- these are the words of a text whose first blanks are left out
abbrev AreWords : List ℕ → List (List ℕ) → Type 0
AreWords [] words = words ≡ []
AreWords (b ∷ text) words = words ≡ first_rest (prefix_len is_dark (b ∷ text)) (b ∷ text)

by_blank : (blank : Bool) (b : ℕ) (text : List ℕ) → is_blank b ≡ blank → AreWords (drop (prefix_len is_blank text) text) (words_of text)
    → AreWords (drop (cond blank (1 + prefix_len is_blank text) 0) (b ∷ text)) (words_of (b ∷ text))
by_blank true b text is before =
    let n = prefix_len is_blank text in
    let one : suc n ≡ 1 + n = omega arith in
    let same : words_of text ≡ words_of (b ∷ text) = sym (ap (λ (t : Bool). cond t (words_of text) (cond (ends_or_blank text) ((b ∷ []) ∷ words_of text) (onto_word b (words_of text)))) is) in
    subst (λ (k : ℕ). AreWords (drop k (b ∷ text)) (words_of (b ∷ text))) one (subst (λ (w : List (List ℕ)). AreWords (drop n text) w) same before)
by_blank false b text is before = words_of-first b text is

words_after_blanks : (text : List ℕ) → AreWords (drop (prefix_len is_blank text) text) (words_of text)
words_after_blanks [] = refl
words_after_blanks (b ∷ text) = by_blank (is_blank b) b text refl (words_after_blanks text)

none_of : (rest : List ℕ) (words : List (List ℕ)) → AreWords rest words → length rest ≡ 0 → words ≡ []
none_of [] words h e = h
none_of (b ∷ rest) words h e = absurd (omega arith)

some_of : (rest : List ℕ) (words : List (List ℕ)) → AreWords rest words → 0 < length rest → words ≡ first_rest (prefix_len is_dark rest) rest
some_of [] words h lt = absurd (omega arith)
some_of (b ∷ rest) words h lt = h

-- what `&text[n..]` is, where n blanks stand in front
abbrev pub after_blanks : ℕ → List ℕ → List ℕ
after_blanks n text = take (length text - n) (drop n text)

words_here : (n : ℕ) (text : List ℕ) → n ≡ prefix_len is_blank text → AreWords (after_blanks n text) (words_of text)
words_here n text e =
    subst (λ (r : List ℕ). AreWords r (words_of text)) (sym (whole_rest n text)) (subst (λ (k : ℕ). AreWords (drop k text) (words_of text)) (sym e) (words_after_blanks text))

pub no_word : (n : ℕ) (text : List ℕ) → n ≡ prefix_len is_blank text → (length (after_blanks n text) == 0) ≡ true → words_of text ≡ []
no_word n text e none = none_of (after_blanks n text) (words_of text) (words_here n text e) (eqb-true _ 0 none)

pub one_word : (n k : ℕ) (text word after : List ℕ) → n ≡ prefix_len is_blank text → (length (after_blanks n text) == 0) ≡ false → k ≡ prefix_len is_dark (after_blanks n text)
    → word ≡ take k (after_blanks n text) → after ≡ drop k (after_blanks n text) → words_of text ≡ word ∷ words_of after
one_word n k text word after e some len front back =
    some_of (after_blanks n text) (words_of text) (words_here n text e) (let h = eqb-false _ 0 some in omega arith)
    ∙ ap (λ (i : ℕ). first_rest i (after_blanks n text)) (sym len)
    ∙ ap (λ (w : List ℕ). w ∷ words_of (drop k (after_blanks n text))) (sym front)
    ∙ ap (λ (r : List ℕ). word ∷ words_of r) (sym back)
