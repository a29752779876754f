-- Texts on a page, one after another.
use Rattle.std.proofs.Common.{◌≡◌, ℕ, ◌+◌, ◌-◌, ◌^◌, ◌<◌, ◌≤◌, Bool, true, false, nat_le, List, [], ◌∷◌, ◌++◌, length}
use Rattle.std.proofs.Common.{get_or, take, Some, None, Option, refl, sym, ap, subst, ◌∙◌, append_assoc, arith}
use Rattle.std.proofs.{Common.length-append, lemmas.{Bool.Decides.nat_tests, Grind.flat_map-append, List.append-nil}}
use Rattle.std.proofs.lemmas.{List.{flat_map_more, take_more}, Option.{get_or_from_slice_get, slice_get_within}}
use Rattle.std.specs.{Prelude.{option_map, unwrap_or, IfSome, slice_get}, List.flat_map}
use Rattle.text_page.specs.Pages.{Sheet, sheet_with, with_text, blank, room_behind, count_of, counted_length}

-- a text behind another, where there is one
appended_in_two_parts : (text : Option (List ℕ)) (first second : List ℕ)
    → option_map (λ before. before ++ second) (option_map (λ before. before ++ first) text) ≡ option_map (λ before. before ++ (first ++ second)) text
appended_in_two_parts None first second = refl
appended_in_two_parts (Some text) first second = ap Some (append_assoc text first second)

fits_after : (room first second : ℕ) (b : Bool) → nat_le first room ≡ true → nat_le second (room - first) ≡ b → nat_le (first + second) room ≡ b
fits_after room first second b p q = grind (arith, nat_tests)

spills_before : (room first second : ℕ) → nat_le first room ≡ false → nat_le (first + second) room ≡ false
spills_before room first second p = grind (arith, nat_tests)

joined_by : (a b : Bool) (sheet : Sheet) (first second : List ℕ) → nat_le (length first) sheet.left ≡ a → nat_le (length second) (sheet.left - length first) ≡ b
    → with_text (sheet_with sheet first) second ≡ sheet_with sheet (first ++ second)
unfolding with_text
joined_by true true sheet first second p q =
    let whole : nat_le (length (first ++ second)) sheet.left ≡ true = rw length-append (fits_after sheet.left (length first) (length second) true p q) in
    let left : sheet.left - length first - length second ≡ sheet.left - length (first ++ second) = omega (arith, length-append first second) in
    rw (p, q, whole, appended_in_two_parts sheet.text first second, left) refl
joined_by true false sheet first second p q =
    let whole : nat_le (length (first ++ second)) sheet.left ≡ false = rw length-append (fits_after sheet.left (length first) (length second) false p q) in
    rw (p, q, whole) refl
joined_by false b sheet first second p q =
    let whole : nat_le (length (first ++ second)) sheet.left ≡ false = rw length-append (spills_before sheet.left (length first) (length second) p) in
    rw (p, whole) refl

-- two texts are put there as one
pub with_text-joined : (page : Option Sheet) (first second : List ℕ) → with_text (with_text page first) second ≡ with_text page (first ++ second)
unfolding with_text
with_text-joined None first second = refl
with_text-joined (Some sheet) first second = joined_by _ _ sheet first second refl refl

nothing_behind : (text : Option (List ℕ)) → option_map (λ before. before ++ []) text ≡ text
nothing_behind None = refl
nothing_behind (Some text) = ap Some (append-nil text)

-- nothing changes nothing
pub with_text-nothing : (page : Option Sheet) → with_text page [] ≡ page
unfolding with_text
with_text-nothing None = refl
with_text-nothing (Some sheet) =
    let fits : nat_le 0 sheet.left ≡ true = grind (arith, nat_tests) in
    let same : sheet.left - 0 ≡ sheet.left = omega arith in
    rw (fits, nothing_behind sheet.text, same) refl

-- a text behind another
pub also : (start before after : Option Sheet) (first second : List ℕ) → before ≡ with_text start first → after ≡ with_text before second → after ≡ with_text start (first ++ second)
also start before after first second p q = q ∙ ap (λ (page : Option Sheet). with_text page second) p ∙ with_text-joined start first second

-- a text that is another one
pub same_text : (start after : Option Sheet) (shown text : List ℕ) → shown ≡ text → after ≡ with_text start shown → after ≡ with_text start text
same_text start after shown text is p = p ∙ ap (λ (l : List ℕ). with_text start l) is

-- a list of no members, whose text is none
pub no_list : {X : Type 0} (start : Option Sheet) (text_of : List X → List ℕ) (xs : List X) → text_of [] ≡ [] → length xs ≡ 0 → start ≡ with_text start (text_of xs)
no_list start text_of [] none empty = sym (ap (λ (l : List ℕ). with_text start l) none ∙ with_text-nothing start)
no_list start text_of (x ∷ xs) none empty = absurd (omega (arith, empty))

-- one piece more, of pieces that are put there one after another
pub one_more_piece_put : {X : Type 0} (f : X → List ℕ) (start before after : Option Sheet) (xs : List X) (i : ℕ) (x : X) → i < length xs → x ≡ get_or xs i x
    → before ≡ with_text start (flat_map f (take i xs)) → after ≡ with_text before (f x) → after ≡ with_text start (flat_map f (take (i + 1) xs))
one_more_piece_put {X} f start before after xs i x lt is p q =
    let more : flat_map f (take i xs) ++ f x ≡ flat_map f (take (i + 1) xs) =
    flat_map_more f [] (take i xs) x ∙ ap (λ (l : List X). flat_map f l) (ap (λ (y : X). take i xs ++ y ∷ []) is ∙ sym (take_more xs i x lt)) in
    q ∙ ap (λ (page : Option Sheet). with_text page (f x)) p ∙ with_text-joined start (flat_map f (take i xs)) (f x) ∙ ap (λ (l : List ℕ). with_text start l) more

-- the same, where the piece is known by its look-up
pub one_more_at : {X : Type 0} (f : X → List ℕ) (start before after : Option Sheet) (xs : List X) (i : ℕ) (x : X) → slice_get xs i ≡ Some x
    → before ≡ with_text start (flat_map f (take i xs)) → after ≡ with_text before (f x) → after ≡ with_text start (flat_map f (take (i + 1) xs))
one_more_at f start before after xs i x at p q =
    one_more_piece_put f start before after xs i x (slice_get_within xs i x at) (sym (get_or_from_slice_get xs i x x at)) p q

-- a text for which there is room is put there whole
pub with_text-whole : (sheet : Sheet) (text : List ℕ) → length text ≤ sheet.left
    → with_text (Some sheet) text ≡ Some (record { text = option_map (λ before. before ++ text) sheet.text; left = sheet.left - length text })
unfolding with_text
with_text-whole sheet text room =
    let fits : nat_le (length text) sheet.left ≡ true = grind (arith, nat_tests) in
    rw fits refl

pub ruleset pages = (with_text-joined, with_text-nothing, append_assoc, append-nil, flat_map-append)

-- what is counted of a text is its length
counted_by : (b : Bool) (text : List ℕ) → nat_le (length text) (2 ^ 64 - 1) ≡ b → count_of (with_text (Some blank) text) ≡ counted_length text
unfolding with_text
counted_by true text fits =
    let back : 2 ^ 64 - 1 - (2 ^ 64 - 1 - length text) ≡ length text = grind (arith, nat_tests) in
    rw (fits, back) refl
counted_by false text fits = rw fits refl

pub count_is_length : (text : List ℕ) → count_of (with_text (Some blank) text) ≡ counted_length text
count_is_length text = counted_by _ text refl

pub ruleset whole = (with_text-whole, count_is_length)

-- what a vector holds that took a text into its room
pub text_whole : (page : Option Sheet) (before text after : List ℕ) (left : ℕ) → page ≡ with_text (Some (room_behind before left)) text
    → length text ≤ left → IfSome page (λ sheet. Some after ≡ sheet.text) → after ≡ before ++ text
text_whole page before text after left is room holds =
    let put = is ∙ with_text-whole (room_behind before left) text room in
    ap (λ (o : Option (List ℕ)). unwrap_or o []) (subst (λ (p : Option Sheet). IfSome p (λ sheet. Some after ≡ sheet.text)) put holds)

-- it has all its room still
pub capacity_kept : (page : Option Sheet) (before text after : List ℕ) (len capacity new_len new_capacity : ℕ)
    → page ≡ with_text (Some (room_behind before (capacity - len))) text → len ≡ length before → new_len ≡ length after
    → len + length text ≤ capacity → IfSome page (λ sheet. Some after ≡ sheet.text) → IfSome page (λ sheet. new_len + sheet.left ≤ new_capacity)
    → capacity ≤ new_capacity
capacity_kept page before text after len capacity new_len new_capacity is is_len is_new room holds left =
    let fits : length text ≤ capacity - len = omega (arith, room) in
    let put = is ∙ with_text-whole (room_behind before (capacity - len)) text fits in
    let more : new_len + (capacity - len - length text) ≤ new_capacity =
    subst (λ (p : Option Sheet). IfSome p (λ sheet. new_len + sheet.left ≤ new_capacity)) put left in
    let whole = text_whole page before text after (capacity - len) is fits holds in
    let size : length after ≡ length before + length text = ap (λ (l : List ℕ). length l) whole ∙ length-append before text in
    omega (arith, more, is_len, is_new, size, room)
