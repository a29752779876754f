-- What is joined of two rests of a keyword line, with a space between them, is the rest of a line.
use Rattle.std.proofs.Common.{◌≡◌, ℕ, suc, ◌+◌, ◌-◌, ◌<◌, min, Bool, true, false, cond, List, [], ◌∷◌, ◌++◌, length}
use Rattle.std.proofs.Common.{take, drop, get_or, refl, sym, ap, ◌∙◌, arith, length-append, length-take, length-drop}
use Rattle.std.proofs.lemmas.{Bool.{and_from, and_parts, false≢true, not-true, false_from_ne_true}, List.take_all}
use Rattle.std.proofs.lemmas.List.{append-nil, Folds.list_all-append, Sums.{suffix_len-le-length, suffix_len-take_no}}
use Rattle.std.{proofs.lemmas.List.Sums.suffix_len-take_yes, specs.{Prelude.{not, ◌==◌, ◌&&◌}, List.list_all}}
use Rattle.std.specs.List.{prefix_len, suffix_len}
use Rattle.item_terms.specs.Words.{trim, trim_end, is_blank}
use Rattle.dirdoc_grammar.specs.{Writers.{is_argument, is_argument_byte}, Writing.{IsLineRest, tail}}

-- ---- outer blanks

-- no blank stands in front, and none at the end
record IsBare (text : List ℕ) : Type 0 where
  front : prefix_len is_blank text ≡ 0
  back : suffix_len is_blank text ≡ 0

-- a text without outer blanks is trimmed
trimmed_if_bare : (text : List ℕ) → IsBare text → trim text ≡ text
trimmed_if_bare text bare =
    ap (λ (n : ℕ). trim_end (drop n text)) bare.front ∙ ap (λ (n : ℕ). take (length text - n) text) bare.back ∙ take_all (length text - 0) text (omega arith)

-- and what is trimmed has none
bare_if_trimmed : (text : List ℕ) → 0 < length text → trim text ≡ text → IsBare text
bare_if_trimmed text some trimmed =
    let n = prefix_len is_blank text in
    let t = drop n text in
    let k = suffix_len is_blank t in
    let whole : length (take (length t - k) t) ≡ length text = ap (λ (l : List ℕ). length l) trimmed in
    let cut : length (take (length t - k) t) ≡ min (length t - k) (length t) = length-take (length t - k) t in
    let dropped : length t ≡ length text - n = length-drop n text in
    let front : n ≡ 0 = omega (arith, some, whole, cut, dropped) in
    let back : k ≡ 0 = omega (arith, some, whole, cut, dropped, suffix_len-le-length is_blank t) in
    record { front = front; back = sym (ap (λ (i : ℕ). suffix_len is_blank (drop i text)) front) ∙ back }

-- the last byte is no blank
abbrev EndsDark : List ℕ → Type 0
EndsDark text = is_blank (get_or text (length text - 1) 0) ≡ false

no_back : (text : List ℕ) → 0 < length text → EndsDark text → suffix_len is_blank text ≡ 0
no_back text some ends =
    ap (suffix_len is_blank) (sym (take_all (length text) text (omega arith))) ∙ suffix_len-take_no is_blank text (length text) 0 some (omega arith) ends

ends_dark : (text : List ℕ) → 0 < length text → suffix_len is_blank text ≡ 0 → EndsDark text
ends_dark text some back =
    let same : suffix_len is_blank (take (length text) text) ≡ suffix_len is_blank text = ap (suffix_len is_blank) (take_all (length text) text (omega arith)) in
    false_from_ne_true (is_blank (get_or text (length text - 1) 0))
    (λ e. let more = suffix_len-take_yes is_blank text (length text) 0 some (omega arith) e in omega (arith, more, same, back))

-- the first byte is no blank
front_dark : (b : ℕ) (text : List ℕ) → prefix_len is_blank (b ∷ text) ≡ 0 → is_blank b ≡ false
front_dark b text front = false_from_ne_true (is_blank b) (λ e. let one : prefix_len is_blank (b ∷ text) ≡ 1 + prefix_len is_blank text = ap (λ (t : Bool). cond t (1 + prefix_len is_blank text) 0) e in omega (arith, one, front))

no_front : (b : ℕ) (text : List ℕ) → is_blank b ≡ false → prefix_len is_blank (b ∷ text) ≡ 0
no_front b text dark = ap (λ (t : Bool). cond t (1 + prefix_len is_blank text) 0) dark

more_ends : (front rest : List ℕ) → 0 < length rest → get_or (front ++ 32 ∷ rest) (length (front ++ 32 ∷ rest) - 1) 0 ≡ get_or rest (length rest - 1) 0
more_ends [] rest some = let one : suc (length rest) - 1 ≡ suc (length rest - 1) = omega arith in ap (λ (n : ℕ). get_or (32 ∷ rest) n 0) one
more_ends (b ∷ front) rest some =
    let text = front ++ 32 ∷ rest in
    let one : suc (length text) - 1 ≡ suc (length text - 1) = omega (arith, length-append front (32 ∷ rest)) in
    ap (λ (n : ℕ). get_or (b ∷ text) n 0) one ∙ more_ends front rest some

-- ---- two rests

-- the two, with a space between them where neither is empty
abbrev pub joined : List ℕ → List ℕ → List ℕ
joined [] more = more
joined (b ∷ args) more = (b ∷ args) ++ tail more

-- behind a keyword they stand one after the other
pub tail-joined : (args more : List ℕ) → tail (joined args more) ≡ tail args ++ tail more
tail-joined [] more = refl
tail-joined (b ∷ args) more = refl

-- both have bytes
two_spaced_rests_are_a_rest : (b : ℕ) (args : List ℕ) (c : ℕ) (more : List ℕ) → IsLineRest (b ∷ args) → IsLineRest (c ∷ more) → IsLineRest ((b ∷ args) ++ 32 ∷ c ∷ more)
two_spaced_rests_are_a_rest b args c more first second =
    let text = (b ∷ args) ++ 32 ∷ c ∷ more in
    let bare = bare_if_trimmed (b ∷ args) (omega arith) first.trimmed in
    let bare_more = bare_if_trimmed (c ∷ more) (omega arith) second.trimmed in
    let some : 0 < length (c ∷ more) = omega arith in
    let long : 0 < length text = omega arith in
    let ends : EndsDark text = ap is_blank (more_ends (b ∷ args) (c ∷ more) some) ∙ ends_dark (c ∷ more) some bare_more.back in
    record {
      no_nl = list_all-append (λ b. not (b == 10)) (b ∷ args) (32 ∷ c ∷ more) ∙ and_from _ _ first.no_nl second.no_nl;
      no_nul = list_all-append (λ b. not (b == 0)) (b ∷ args) (32 ∷ c ∷ more) ∙ and_from _ _ first.no_nul second.no_nul;
      trimmed = trimmed_if_bare text (record { front = no_front b (args ++ 32 ∷ c ∷ more) (front_dark b args bare.front); back = no_back text long ends });
    }

pub rest_of_joined : (args more : List ℕ) → IsLineRest args → IsLineRest more → IsLineRest (joined args more)
rest_of_joined [] more first second = second
rest_of_joined (b ∷ args) [] first second = rw (append-nil (b ∷ args)) first
rest_of_joined (b ∷ args) (c ∷ more) first second = two_spaced_rests_are_a_rest b args c more first second

-- nothing may be the rest of a line
pub rest_of_nothing : IsLineRest []
rest_of_nothing = record { no_nl = refl; no_nul = refl; trimmed = refl }

-- ---- an argument

-- what three tests tell that all pass
all_three : (x y z : Bool) → x && y && z ≡ true → (x ≡ true) × (y ≡ true) × (z ≡ true)
all_three true true true e = (refl, refl, refl)
all_three true true false e = absurd cc
all_three true false z e = absurd cc
all_three false y z e = absurd cc

-- a byte of an argument is no blank, no NL and no NUL
no_blank : (b : ℕ) → is_argument_byte b ≡ true → is_blank b ≡ false
no_blank b is = not-true (is_blank b) (all_three (not (is_blank b)) (not (b == 10)) (not (b == 0)) is).0

no_nl : (b : ℕ) → is_argument_byte b ≡ true → not (b == 10) ≡ true
no_nl b is = (all_three (not (is_blank b)) (not (b == 10)) (not (b == 0)) is).1

no_nul : (b : ℕ) → is_argument_byte b ≡ true → not (b == 0) ≡ true
no_nul b is = (all_three (not (is_blank b)) (not (b == 10)) (not (b == 0)) is).2

-- what passes one test passes another
weaker : (p q : ℕ → Bool) → ((b : ℕ) → p b ≡ true → q b ≡ true) → (text : List ℕ) → list_all p text ≡ true → list_all q text ≡ true
weaker p q more [] all = refl
weaker p q more (b ∷ text) all = let parts = and_parts (p b) (list_all p text) all in and_from _ _ (more b parts.0) (weaker p q more text parts.1)

last_dark : (b : ℕ) (text : List ℕ) → list_all is_argument_byte (b ∷ text) ≡ true → EndsDark (b ∷ text)
last_dark b [] all = no_blank b (and_parts (is_argument_byte b) true all).0
last_dark b (c ∷ text) all =
    let one : length (b ∷ c ∷ text) - 1 ≡ suc (length (c ∷ text) - 1) = omega arith in
    ap (λ (n : ℕ). is_blank (get_or (b ∷ c ∷ text) n 0)) one ∙ last_dark c text (and_parts (is_argument_byte b) (list_all is_argument_byte (c ∷ text)) all).1

-- an argument may be the rest of a line
pub rest_of_argument : (bytes : List ℕ) → is_argument bytes ≡ true → IsLineRest bytes
rest_of_argument [] is = absurd (false≢true is)
rest_of_argument (b ∷ bytes) is =
    let dark = no_blank b (and_parts (is_argument_byte b) (list_all is_argument_byte bytes) is).0 in
    record {
      no_nl = weaker is_argument_byte (λ b. not (b == 10)) no_nl (b ∷ bytes) is;
      no_nul = weaker is_argument_byte (λ b. not (b == 0)) no_nul (b ∷ bytes) is;
      trimmed = trimmed_if_bare (b ∷ bytes) (record { front = no_front b bytes dark; back = no_back (b ∷ bytes) (omega arith) (last_dark b bytes is) });
    }

-- and stands behind a space
pub tail-argument : (bytes : List ℕ) → is_argument bytes ≡ true → 32 ∷ bytes ≡ tail bytes
tail-argument [] is = absurd (false≢true is)
tail-argument (b ∷ bytes) is = refl
