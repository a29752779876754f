-- The first argument of a text, and what is left after it.
use Rattle.std.proofs.Common.{◌≡◌, ℕ, suc, ◌+◌, Bool, true, false, List, [], ◌∷◌, length, take, drop, refl, sym, ap}
use Rattle.std.{proofs.Common.{ap₂, ◌∙◌, subst, arith}, specs.Prelude.{if◌then◌else◌, not}}
use Rattle.item_terms.specs.Words.{is_blank}
use Rattle.dir_values.specs.{Arguments.{Argument, arguments_at, onto}, Lending.{blanks, word_len}}

-- blanks in front are passed over
after_blanks : (place : ℕ) (text : List ℕ) → arguments_at place text ≡ arguments_at (place + blanks text) (drop (blanks text) text)
unfolding arguments_at
after_blanks place [] = refl
after_blanks place (byte ∷ text) =
    let by : (b : Bool) → is_blank byte ≡ b → arguments_at place (byte ∷ text) ≡ arguments_at (place + (if b then 1 + blanks text else 0)) (drop (if b then 1 + blanks text else 0) (byte ∷ text)) =
    λ b. elim b as (λ b. is_blank byte ≡ b → arguments_at place (byte ∷ text) ≡ arguments_at (place + (if b then 1 + blanks text else 0)) (drop (if b then 1 + blanks text else 0) (byte ∷ text))) [
      | true ↦ λ is.
          let first : arguments_at place (byte ∷ text) ≡ arguments_at (place + 1) text = rw is refl in
          let one : 1 + blanks text ≡ suc (blanks text) = omega arith in
          let there : (place + 1) + blanks text ≡ place + (1 + blanks text) = omega arith in
          first ∙ after_blanks (place + 1) text ∙ ap (λ (n : ℕ). arguments_at n (drop (blanks text) text)) there
          ∙ ap (λ (n : ℕ). arguments_at (place + (1 + blanks text)) (drop n (byte ∷ text))) (sym one)
      | false ↦ λ is. let same : place ≡ place + 0 = omega arith in ap (λ (n : ℕ). arguments_at n (byte ∷ text)) same
    ] in
    by (is_blank byte) refl

-- a first argument, and those of what is left
abbrev first_of : ℕ → List ℕ → ℕ → List ℕ → List Argument
first_of place word next rest = record { place = place; text = word } ∷ arguments_at next rest

-- a byte that is no blank begins an argument
word_first : (place byte : ℕ) (text : List ℕ) → is_blank byte ≡ false → arguments_at place (byte ∷ text) ≡ first_of place (byte ∷ take (word_len text) text) (place + 1 + word_len text) (drop (word_len text) text)
unfolding arguments_at
word_first place byte [] is = rw is refl
word_first place byte (next ∷ text) is =
    let by : (b : Bool) → is_blank next ≡ b → arguments_at place (byte ∷ next ∷ text)
    ≡ first_of place (byte ∷ take (if not b then 1 + word_len text else 0) (next ∷ text)) (place + 1 + (if not b then 1 + word_len text else 0)) (drop (if not b then 1 + word_len text else 0) (next ∷ text)) =
    λ b. elim b as (λ b. is_blank next ≡ b → arguments_at place (byte ∷ next ∷ text)
    ≡ first_of place (byte ∷ take (if not b then 1 + word_len text else 0) (next ∷ text)) (place + 1 + (if not b then 1 + word_len text else 0)) (drop (if not b then 1 + word_len text else 0) (next ∷ text))) [
      | true ↦ λ blank.
          let same : place + 1 ≡ place + 1 + 0 = omega arith in
          let first : arguments_at place (byte ∷ next ∷ text) ≡ first_of place (byte ∷ []) (place + 1) (next ∷ text) = rw (is, blank) refl in
          first ∙ ap (λ (n : ℕ). first_of place (byte ∷ []) n (next ∷ text)) same
      | false ↦ λ word.
          let first : arguments_at place (byte ∷ next ∷ text) ≡ onto place byte (arguments_at (place + 1) (next ∷ text)) = rw (is, word) refl in
          let one : suc (word_len text) ≡ 1 + word_len text = omega arith in
          let there : place + 1 + 1 + word_len text ≡ place + 1 + (1 + word_len text) = omega arith in
          first ∙ ap (λ (l : List Argument). onto place byte l) (word_first (place + 1) next text word)
          ∙ ap (λ (n : ℕ). first_of place (byte ∷ next ∷ take (word_len text) text) n (drop (word_len text) text)) there
          ∙ ap (λ (n : ℕ). first_of place (byte ∷ take n (next ∷ text)) (place + 1 + (1 + word_len text)) (drop n (next ∷ text))) one
    ] in
    by (is_blank next) refl

-- no blank stands in front once the blanks are passed over
not_blank : (text rest : List ℕ) (byte : ℕ) → drop (blanks text) text ≡ byte ∷ rest → is_blank byte ≡ false
not_blank [] rest byte = λ is. absurd cc
not_blank (first ∷ text) rest byte =
    let by : (b : Bool) → is_blank first ≡ b → drop (if b then 1 + blanks text else 0) (first ∷ text) ≡ byte ∷ rest → is_blank byte ≡ false =
    λ b. elim b as (λ b. is_blank first ≡ b → drop (if b then 1 + blanks text else 0) (first ∷ text) ≡ byte ∷ rest → is_blank byte ≡ false) [
      | true ↦ λ blank is. let one : 1 + blanks text ≡ suc (blanks text) = omega arith in
          not_blank text rest byte (subst (λ (n : ℕ). drop n (first ∷ text) ≡ byte ∷ rest) one is)
      | false ↦ λ word is. let same : first ≡ byte = cc in subst (λ (n : ℕ). is_blank n ≡ false) same word
    ] in
    by (is_blank first) refl

-- the argument in front of a text that begins with no blank
word_at : (place : ℕ) (text : List ℕ) → ((byte : ℕ) (rest : List ℕ) → text ≡ byte ∷ rest → is_blank byte ≡ false) → (word_len text ≡ 0 → ⊥)
    → arguments_at place text ≡ first_of place (take (word_len text) text) (place + word_len text) (drop (word_len text) text)
word_at place [] word some = absurd (some refl)
word_at place (byte ∷ text) word some =
    let is : is_blank byte ≡ false = word byte text refl in
    let count : word_len (byte ∷ text) ≡ suc (word_len text) = rw is (omega arith) in
    let there : place + 1 + word_len text ≡ place + suc (word_len text) = omega arith in
    word_first place byte text is
    ∙ ap (λ (n : ℕ). first_of place (byte ∷ take (word_len text) text) n (drop (word_len text) text)) there
    ∙ ap (λ (n : ℕ). first_of place (take n (byte ∷ text)) (place + n) (drop n (byte ∷ text))) (sym count)

none_at : (place : ℕ) (text : List ℕ) → ((byte : ℕ) (rest : List ℕ) → text ≡ byte ∷ rest → is_blank byte ≡ false) → word_len text ≡ 0 → text ≡ []
none_at place [] word none = refl
none_at place (byte ∷ text) word none =
    let is : is_blank byte ≡ false = word byte text refl in
    let count : word_len (byte ∷ text) ≡ suc (word_len text) = rw is (omega arith) in
    absurd (omega arith)

-- no argument is left where no word stands after the blanks
pub none_left : (place next n len : ℕ) (text rest word after : List ℕ) → n ≡ blanks text → rest ≡ drop n text → len ≡ word_len rest → length word ≡ len → after ≡ drop len rest
    → length word ≡ 0 → (arguments_at place text ≡ []) × (arguments_at next after ≡ [])
unfolding arguments_at
none_left place next n len text rest word after count is word_count word_is after_is none =
    let is' : rest ≡ drop (blanks text) text = is ∙ ap (λ (k : ℕ). drop k text) count in
    let no_word : word_len rest ≡ 0 = cc in
    let nothing : rest ≡ [] = none_at place rest (λ byte more e. not_blank text more byte (sym is' ∙ e)) no_word in
    let no_rest : after ≡ [] = after_is ∙ ap₂ (λ (k : ℕ) (l : List ℕ). drop k l) (word_count ∙ no_word) nothing in
    (after_blanks place text ∙ ap (λ (l : List ℕ). arguments_at (place + blanks text) l) (sym is' ∙ nothing), ap (λ (l : List ℕ). arguments_at next l) no_rest)

-- the first argument is the word after the blanks
pub one_taken : (place n len : ℕ) (text passed rest word after : List ℕ) → n ≡ blanks text → length passed ≡ n → rest ≡ drop n text
    → len ≡ word_len rest → word ≡ take len rest → length word ≡ len → after ≡ drop len rest → (length word ≡ 0 → ⊥)
    → arguments_at place text ≡ record { place = place + length passed; text = word } ∷ arguments_at (place + length passed + length word) after
one_taken place n len text passed rest word after count passed_is is word_count word_is word_length after_is some =
    let is' : drop (blanks text) text ≡ rest = ap (λ (k : ℕ). drop k text) (sym count) ∙ sym is in
    let there : blanks text ≡ length passed = sym count ∙ sym passed_is in
    let ends : word_len rest ≡ length word = sym word_count ∙ sym word_length in
    let word_is' : take (word_len rest) rest ≡ word = ap (λ (k : ℕ). take k rest) (sym word_count) ∙ sym word_is in
    let after_is' : drop (word_len rest) rest ≡ after = ap (λ (k : ℕ). drop k rest) (sym word_count) ∙ sym after_is in
    after_blanks place text ∙ ap₂ (λ (k : ℕ) (l : List ℕ). arguments_at (place + k) l) there is'
    ∙ word_at (place + length passed) rest (λ byte more e. not_blank text more byte (is' ∙ e)) (λ e. some (sym ends ∙ e))
    ∙ ap₂ (λ (w l : List ℕ). first_of (place + length passed) w (place + length passed + word_len rest) l) word_is' after_is'
    ∙ ap (λ (k : ℕ). first_of (place + length passed) word (place + length passed + k) after) ends
