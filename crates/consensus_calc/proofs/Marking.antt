-- Marking the flags that stand in a list, one word after the other.
use Rattle.std.proofs.Common.{◌≡◌, ℕ, zero, suc, ◌<◌, Bool, true, false, ◌||◌, List, [], ◌∷◌, Some, length, map, set}
use Rattle.std.proofs.{Common.{replicate, refl, sym, ap, ◌∙◌, subst, arith}, lemmas.Cmp.nat_list_cmp_total}
use Rattle.std.{proofs.lemmas.{Cmp.tied_itself, Bool.false≢true, Option.same_Some}, specs.Prelude.{All, slice_get}}
use Rattle.std.specs.{Str.bytes_eq, Cmp.Lexicographic.bytes_decides}
use Rattle.dir_values.specs.{Digests.{is_less, bytes_below}, FlagSets.{has_flag, as_set, Ascend}}
use Rattle.dir_values.proofs.{Flags.has_flag-as_set, Orders.{same_text, AllPairs-head, AllPairs-tail}}
use Rattle.consensus_calc.specs.Marks.{flag_marks}

abbrev Below : List ℕ → List ℕ → Type 0
Below a b = bytes_below a b ≡ true

or_false : (a : Bool) → (a || false) ≡ a
or_false true = refl
or_false false = refl

or_assoc : (a b c : Bool) → ((a || b) || c) ≡ (a || (b || c))
or_assoc true b c = refl
or_assoc false b c = refl

-- one word, and then others
pub marked_more : (flags : List (List ℕ)) (marks : List Bool) (word : List ℕ) (words : List (List ℕ)) → flag_marks flags (flag_marks flags marks (word ∷ [])) words ≡ flag_marks flags marks (word ∷ words)
marked_more [] marks word words = refl
marked_more (flag ∷ flags) [] word words = refl
marked_more (flag ∷ flags) (mark ∷ marks) word words =
    let here : ((mark || (bytes_eq word flag || false)) || has_flag words flag) ≡ (mark || (bytes_eq word flag || has_flag words flag)) =
    ap (λ (b : Bool). (mark || b) || has_flag words flag) (or_false (bytes_eq word flag)) ∙ or_assoc mark (bytes_eq word flag) (has_flag words flag) in
    rw (here, marked_more flags marks word words) refl

pub length-marked : (flags : List (List ℕ)) (marks : List Bool) (words : List (List ℕ)) → length marks ≡ length flags → length (flag_marks flags marks words) ≡ length flags
length-marked [] marks words same = refl
length-marked (flag ∷ flags) [] words same = absurd (omega (arith, same))
length-marked (flag ∷ flags) (mark ∷ marks) words same = omega (arith, length-marked flags marks words (omega (arith, same)))

-- no word marks nothing
pub marked_none : (flags : List (List ℕ)) (marks : List Bool) → length marks ≡ length flags → flag_marks flags marks [] ≡ marks
marked_none [] [] same = refl
marked_none [] (mark ∷ marks) same = absurd (omega (arith, same))
marked_none (flag ∷ flags) [] same = absurd (omega (arith, same))
marked_none (flag ∷ flags) (mark ∷ marks) same = rw (or_false mark, marked_none flags marks (omega (arith, same))) refl

-- what is marked of nothing
pub marked_start : (flags : List (List ℕ)) (words : List (List ℕ)) → flag_marks flags (replicate (length flags) false) words ≡ map (λ flag. has_flag words flag) flags
marked_start [] words = refl
marked_start (flag ∷ flags) words = ap (λ (l : List Bool). has_flag words flag ∷ l) (marked_start flags words)

-- marks by a list are marks by its set
pub marks_of_set : (flags words : List (List ℕ)) → map (λ flag. has_flag words flag) flags ≡ map (λ flag. has_flag (as_set words) flag) flags
marks_of_set [] words = refl
marks_of_set (flag ∷ flags) words = rw (has_flag-as_set words flag, marks_of_set flags words) refl

not_itself : (a : List ℕ) → Below a a → ⊥
not_itself a h = false≢true (sym (ap is_less (tied_itself nat_list_cmp_total a)) ∙ h)

apart_by : (b : Bool) (x y : List ℕ) → bytes_eq y x ≡ b → Below x y → bytes_eq y x ≡ false
apart_by true x y e h = absurd (not_itself x (subst (λ (t : List ℕ). Below x t) (same_text y x e) h))
apart_by false x y e h = e

eq_back_by : (b : Bool) (x y : List ℕ) → bytes_eq x y ≡ b → bytes_eq y x ≡ false → bytes_eq x y ≡ false
eq_back_by true x y e h = absurd (false≢true (sym h ∙ rw (same_text x y e) ((bytes_decides y y).1 refl)))
eq_back_by false x y e h = e

or_parts : (a b : Bool) → (a || b) ≡ false → (a ≡ false) × (b ≡ false)
or_parts true b h = absurd (false≢true (sym h))
or_parts false b h = (refl, h)

-- a word that is no flag marks nothing
pub marked_absent : (flags : List (List ℕ)) (marks : List Bool) (word : List ℕ) → length marks ≡ length flags → has_flag flags word ≡ false → marks ≡ flag_marks flags marks (word ∷ [])
marked_absent [] [] word same h = refl
marked_absent [] (mark ∷ marks) word same h = absurd (omega (arith, same))
marked_absent (flag ∷ flags) [] word same h = absurd (omega (arith, same))
marked_absent (flag ∷ flags) (mark ∷ marks) word same h =
    let parts = or_parts (bytes_eq flag word) (has_flag flags word) h in
    let here : bytes_eq word flag ≡ false = eq_back_by _ word flag refl parts.0 in
    let more : marks ≡ flag_marks flags marks (word ∷ []) = marked_absent flags marks word (omega (arith, same)) parts.1 in
    let first : (mark || (bytes_eq word flag || false)) ≡ mark = rw here (or_false mark) in
    rw (first, ← more) refl

behind_absent : (flag : List ℕ) (flags : List (List ℕ)) → All (Below flag) flags → has_flag flags flag ≡ false
behind_absent flag [] all = refl
behind_absent flag (other ∷ flags) all =
    let here : bytes_eq other flag ≡ false = apart_by _ flag other refl (all zero other (omega arith)) in
    rw here (behind_absent flag flags (λ k d lt. all (suc k) d (omega (arith, lt))))

at_all : (P : List ℕ → Type 0) (xs : List (List ℕ)) (i : ℕ) (x : List ℕ) → All P xs → slice_get xs i ≡ Some x → P x
at_all P [] i x all e = absurd cc
at_all P (y ∷ ys) zero x all e = subst P (same_Some y x e) (all zero y (omega arith))
at_all P (y ∷ ys) (suc i) x all e = at_all P ys i x (λ k d lt. all (suc k) d (omega (arith, lt))) e

-- a word that is the flag at a place marks that place
pub marked_at : (flags : List (List ℕ)) (marks : List Bool) (i : ℕ) (word : List ℕ) → Ascend flags → length marks ≡ length flags → slice_get flags i ≡ Some word → set marks i true ≡ flag_marks flags marks (word ∷ [])
marked_at [] marks i word up same e = absurd cc
marked_at (flag ∷ flags) [] i word up same e = absurd (omega (arith, same))
marked_at (flag ∷ flags) (mark ∷ marks) zero word up same e =
    let is : word ≡ flag = sym (same_Some flag word e) in
    let rest : marks ≡ flag_marks flags marks (flag ∷ []) = marked_absent flags marks flag (omega (arith, same)) (behind_absent flag flags (AllPairs-head Below flag flags up)) in
    rw (is, (bytes_decides flag flag).1 refl) (rw (sym rest) (first mark))
  where
    first : (m : Bool) → true ∷ marks ≡ (m || true) ∷ marks
    first true = refl
    first false = refl
marked_at (flag ∷ flags) (mark ∷ marks) (suc i) word up same e =
    let before : Below flag word = at_all (Below flag) flags i word (AllPairs-head Below flag flags up) e in
    let other : bytes_eq word flag ≡ false = apart_by _ flag word refl before in
    let first : (mark || (bytes_eq word flag || false)) ≡ mark = rw other (or_false mark) in
    rw first (ap (λ (l : List Bool). mark ∷ l) (marked_at flags marks i word (AllPairs-tail Below flag flags up) (omega (arith, same)) e))

pub length_start : (flags : List (List ℕ)) → length (replicate (length flags) false) ≡ length flags
length_start [] = refl
length_start (flag ∷ flags) = omega (arith, length_start flags)
