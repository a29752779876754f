-- An item that stands in a section has the text of its row's keyword.
use Rattle.std.proofs.Common.{◌≡◌, ℕ, Bool, true, false, List, [], ◌∷◌, ◌++◌, Some, None, refl, sym, ap, ◌∙◌}
use Rattle.std.{proofs.lemmas.Bool.false≢true, specs.{Prelude.{◌≢◌, ◌||◌, nat_eq, if◌then◌else◌}, List.find}}
use Rattle.std.specs.{List.list_any, Cmp.Lexicographic.same_text}
use lib.Pointwise.{pointwise}
use Rattle.item_terms.specs.Items.{Item}
use Rattle.frame_terms.specs.declared.{document.Taken.Taken, keyword.Keyword.Keyword}
use Rattle.frame_terms.specs.{Keywords.{known_keywords as every, same, text_of, word_of}, Sections.{row_of, stands}}
use Rattle.frame_terms.specs.Tables.{Tables}
use Rattle.frame_values.specs.Values.{item_at}
use Rattle.frame_laws.proofs.KnownWords.{known, one_keyword, same-refl, same-sym}
use Rattle.document_laws.{specs.Items.IsItemOf, proofs.Openers.row_of-same}

-- ---- the first of a list that passes a test

find_passes : {A : Type 0} (p : A → Bool) (list : List A) (a : A) → find p list ≡ Some a → p a ≡ true
find_passes p [] a e = absurd (cc (e))
find_passes p (b ∷ list) a e = by_test (p b) refl (find_passes p list a) e
  where
    by_test : (test : Bool) → p b ≡ test → (find p list ≡ Some a → p a ≡ true)
        → (if test then Some b else find p list) ≡ Some a → p a ≡ true
    by_test true is others e = cc (is, e)
    by_test false is others e = others e

-- the last one, where no other passes
find_last : {A : Type 0} (p : A → Bool) (front : List A) (a : A) → list_any p front ≡ false → p a ≡ true
    → find p (front ++ a ∷ []) ≡ Some a
find_last p [] a none is = ap (λ (t : Bool). if t then Some a else None) is
find_last p (b ∷ front) a none is = by_test (p b) none (λ no_. find_last p front a no_ is)
  where
    by_test : (test : Bool) → (test || list_any p front) ≡ false
        → (list_any p front ≡ false → find p (front ++ a ∷ []) ≡ Some a)
        → (if test then Some b else find p (front ++ a ∷ [])) ≡ Some a
    by_test true e others = absurd (false≢true (sym e))
    by_test false e others = others e

module _ {V : Type 0} where
  -- the first item is found by its keyword
  pub item_at-first : (wanted : Keyword) (one : Taken V) (taken : List (Taken V)) → same wanted one.keyword ≡ true
      → item_at (one ∷ taken) wanted ≡ Some one
  item_at-first wanted one taken is =
      ap (λ (t : Bool). if t then Some one else item_at taken wanted) (same-sym one.keyword wanted ∙ is)

  -- and the last one, where none of its keyword stands before it
  pub item_at-last : (wanted : Keyword) (front : List (Taken V)) (one : Taken V) → stands wanted front ≡ false
      → same wanted one.keyword ≡ true → item_at (front ++ one ∷ []) wanted ≡ Some one
  item_at-last wanted front one none is =
      find_last (λ (other : Taken V). same other.keyword wanted) front one none (same-sym one.keyword wanted ∙ is)

-- ---- keywords and their texts

-- a text that is read as a keyword is its text
text_of_word : (text : List ℕ) (keyword : Keyword) → word_of text ≡ Some keyword → text ≡ text_of keyword
unfolding word_of
text_of_word text keyword e =
    same_text text (text_of keyword) (sym (find_passes (λ word. pointwise nat_eq text (text_of word)) every keyword e))

-- keywords with one text are one
one_text : (a b : Keyword) → text_of a ≡ text_of b → Some a ≡ Some b
one_text a b e = sym (known a) ∙ ap word_of e ∙ known b

-- ---- an item of a section

module _ {S K V X : Type 0} (tables : Tables S K V X) (remembered : X) (section : S) (item : Item) (one : Taken V)
    (said : IsItemOf tables remembered section item one) where
  -- its keyword is that of its row, and that of its text
  pub keyword_is : one.keyword ≡ said.keyword
  keyword_is =
      ap (λ (o : Taken V). o.keyword) said.stands
      ∙ one_keyword said.row.keyword said.keyword
      (row_of-same (tables.rows section) said.keyword said.row said.has_row)

  pub text_is : item.keyword ≡ text_of one.keyword
  text_is = text_of_word item.keyword said.keyword said.known ∙ ap text_of (sym keyword_is)

  -- one of this keyword
  pub text_as : (wanted : Keyword) → same wanted one.keyword ≡ true → item.keyword ≡ text_of wanted
  text_as wanted is = text_is ∙ ap text_of (sym (one_keyword wanted one.keyword is))

  -- one of another
  pub other_text : (wanted : Keyword) → same wanted one.keyword ≡ false → item.keyword ≢ text_of wanted
  other_text wanted no_ e =
      let one_ : Some wanted ≡ Some one.keyword = one_text wanted one.keyword (sym e ∙ text_is) in
      let keyword : wanted ≡ one.keyword = cc (one_) in
      false≢true (sym no_ ∙ ap (λ (k : Keyword). same wanted k) (sym keyword) ∙ same-refl wanted)

  -- the row of one of this keyword
  pub row_as : (wanted : Keyword) → same wanted one.keyword ≡ true → row_of (tables.rows section) wanted ≡ Some said.row
  row_as wanted is =
      ap (λ (k : Keyword). row_of (tables.rows section) k) (one_keyword wanted one.keyword is ∙ keyword_is)
      ∙ said.has_row
