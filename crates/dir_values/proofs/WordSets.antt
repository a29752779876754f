-- The keys of a tree of borrowed words, as a set of words.
use Rattle.std.proofs.{Common.{◌≡◌, ℕ, Bool, List, [], ◌∷◌, refl, sym, ap, ap₂, ◌∙◌}, lemmas.Cmp.nat_list_cmp_total}
use Rattle.std.specs.{Prelude.{if◌then◌else◌, ◌||◌}, Borrow.Bor, BTreeSet.insert_key, BTreeMap.is_at, List.list_any}
use Rattle.std.specs.{Str.bytes_eq, Cmp.Lexicographic.{slice_cmp, texts_ties}, declared.cmp.Ordering.Ordering}
use Rattle.std.specs.{declared.cmp.Ordering.TheVariants.{Less, Equal, Greater}, Ordering.{nat_cmp, ordering_reverse}}
use Rattle.std.specs.Ordering.{is_eq, match_ordering}
use Rattle.dir_values.specs.{Digests.is_less, FlagSets.{with_flag, has_flag}, WordSets.words_in}

-- the order of borrowed words
abbrev pub borrowed_order : Bor (List ℕ) → Bor (List ℕ) → Ordering
borrowed_order a b = slice_cmp nat_cmp a.now b.now

-- how a word stands to the first of others, seen from that one
turned : (o p : Ordering) (same : Bool) (first word : List ℕ) (rest more : List (List ℕ)) → p ≡ ordering_reverse o → same ≡ is_eq p
    → match_ordering o (word ∷ first ∷ rest) (first ∷ rest) (first ∷ more)
    ≡ (if is_less p then first ∷ more else if same then first ∷ rest else word ∷ first ∷ rest)
turned Less p same first word rest more is same_is = rw (same_is, is) refl
turned Equal p same first word rest more is same_is = rw (same_is, is) refl
turned Greater p same first word rest more is same_is = rw is refl

through : (o : Ordering) (a b c : List (Bor (List ℕ))) → words_in (match_ordering o a b c) ≡ match_ordering o (words_in a) (words_in b) (words_in c)
through Less a b c = refl
through Equal a b c = refl
through Greater a b c = refl

-- one more key is one more word
pub words_with : (keys : List (Bor (List ℕ))) (word : Bor (List ℕ)) → words_in (insert_key borrowed_order keys word) ≡ with_flag (words_in keys) word.now
words_with [] word = refl
words_with (first ∷ rest) word =
    through (borrowed_order word first) (word ∷ first ∷ rest) (first ∷ rest) (first ∷ insert_key borrowed_order rest word)
    ∙ ap (λ (l : List (List ℕ)). match_ordering (borrowed_order word first) (word.now ∷ first.now ∷ words_in rest) (first.now ∷ words_in rest) (first.now ∷ l)) (words_with rest word)
    ∙ turned (borrowed_order word first) (borrowed_order first word) (bytes_eq first.now word.now) first.now word.now (words_in rest) (with_flag (words_in rest) word.now)
    (nat_list_cmp_total.antisymm first.now word.now) (texts_ties first.now word.now)

tie_back : (o : Ordering) → is_eq (ordering_reverse o) ≡ is_eq o
tie_back Less = refl
tie_back Equal = refl
tie_back Greater = refl

-- texts tie exactly where they are one
pub ties_as_one : (first word : List ℕ) → is_eq (slice_cmp nat_cmp word first) ≡ bytes_eq first word
ties_as_one first word =
    ap is_eq (nat_list_cmp_total.antisymm word first) ∙ tie_back (slice_cmp nat_cmp first word) ∙ sym (texts_ties first word)

-- a key that ties is the word
pub words_have : (keys : List (Bor (List ℕ))) (word : Bor (List ℕ)) → list_any (is_at (borrowed_order word)) keys ≡ has_flag (words_in keys) word.now
words_have [] word = refl
words_have (first ∷ rest) word = ap₂ (λ (a b : Bool). a || b) (ties_as_one first.now word.now) (words_have rest word)
