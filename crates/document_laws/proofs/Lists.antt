-- The sections of a table that follow one another.
use Rattle.std.proofs.Common.{◌≡◌, ℕ, ◌+◌, Bool, true, false, List, [], ◌∷◌, ◌++◌, Some, None, refl, suc, ap, subst}
use Rattle.std.{proofs.Common.{◌∙◌, arith}, specs.{Prelude.{cond, drop, map, not, if◌then◌else◌}, List.AllByRecursion}}
use Rattle.std.specs.List.{IsDistinct}
use Rattle.frame_terms.specs.{declared.{keyword.Keyword.Keyword, section.Again.Again}, Keywords.same, Order.after}
use Rattle.frame_terms.specs.Order.{following_sections, must_open, opened_by, opener, passed_over, place_of, repeats}
use Rattle.frame_terms.specs.Tables.{Tables}
use Rattle.frame_terms.specs.declared.section.Again.TheVariants as again
use Rattle.frame_laws.proofs.KnownWords.{same-refl}
use Rattle.document_laws.specs.Order.{AreInOrder, MayStand}

-- where a section repeats, none may stand
pub may_none : (more : Again) → repeats more ≡ true → MayStand more 0
may_none again.Nothing is = absurd (cc (is))
may_none again.Section is = tt
may_none again.Document is = absurd (cc (is))

module _ {S K V X : Type 0} (tables : Tables S K V X) where
  -- ---- those that follow a section

  -- a section whose opener differs from those of more differs from each
  differs : (keyword : Keyword) (front : List S) (section : S) (rest : List S)
      → AllByRecursion (λ other. same keyword other ≡ false)
      (map (λ other. opener tables other) (front ++ section ∷ rest)) → same keyword (opener tables section) ≡ false
  differs keyword [] section rest each = each.0
  differs keyword (other ∷ front) section rest each = differs keyword front section rest each.1

  after_is : (front : List S) (section : S) (rest : List S)
      → IsDistinct same (map (λ other. opener tables other) (front ++ section ∷ rest))
      → after tables section (front ++ section ∷ rest) ≡ rest
  unfolding IsDistinct
  after_is [] section rest apart =
      ap (λ (t : Bool). drop (cond (not t) (1 + place_of tables section rest) 0 + 1) (section ∷ rest))
      (same-refl (opener tables section))
  after_is (other ∷ front) section rest apart =
      let list = front ++ section ∷ rest in
      let place = place_of tables section list in
      let further : 1 + place + 1 ≡ suc (place + 1) = omega arith in
      ap (λ (t : Bool). drop (cond (not t) (1 + place) 0 + 1) (other ∷ list))
      (differs (opener tables other) front section rest apart.0)
      ∙ ap (λ (n : ℕ). drop n (other ∷ list)) further
      ∙ after_is front section rest apart.1

  -- the sections of a document are some, this one, and those that follow it
  pub following_is : (front : List S) (section : S) (rest : List S) → tables.sections ≡ front ++ section ∷ rest
      → IsDistinct same (map (λ other. opener tables other) tables.sections) → following_sections tables section ≡ rest
  following_is front section rest e apart =
      ap (λ (list : List S). after tables section list) e
      ∙ after_is front section rest
      (subst (λ (list : List S). IsDistinct same (map (λ other. opener tables other) list)) e apart)

  -- ---- those that are left out

  -- sections that repeat
  abbrev pub AllRepeat : List S → Type 0
  AllRepeat sections = AllByRecursion (λ section. repeats ((tables.shape section).again) ≡ true) sections

  -- of a list, the sections before one of them, and those after it
  pub record IsAfter (list : List S) (next : S) : Type 0 where
    pub skipped : List S
    pub rest : List S
    pub parts : list ≡ skipped ++ next ∷ rest
    pub repeat : AllRepeat skipped

  pub opened_after : (keyword : Keyword) (list : List S) (next : S) → opened_by tables keyword list ≡ Some next
      → passed_over tables keyword list ≡ None → IsAfter list next
  opened_after keyword [] next opened passes = absurd (cc (opened))
  opened_after keyword (section ∷ list) next opened passes =
      by_tests (same (opener tables section) keyword) (repeats ((tables.shape section).again)) refl opened passes
      (opened_after keyword list next)
    where
      by_tests : (opens more : Bool) → repeats ((tables.shape section).again) ≡ more
          → (if opens then Some section else opened_by tables keyword list) ≡ Some next
          → (if opens then None else if more then passed_over tables keyword list else Some (opener tables section))
          ≡ None
          → (opened_by tables keyword list ≡ Some next → passed_over tables keyword list ≡ None → IsAfter list next)
          → IsAfter (section ∷ list) next
      by_tests true more is opened passes others =
          record { skipped = []; rest = list; parts = ap (λ (s : S). s ∷ list) (cc (opened)); repeat = tt }
      by_tests false true is opened passes others =
          let later = others opened passes in
          record {
            skipped = section ∷ later.skipped;
            rest = later.rest;
            parts = ap (λ (l : List S). section ∷ l) later.parts;
            repeat = (is, later.repeat);
          }
      by_tests false false is opened passes others = absurd (cc (passes))

  -- ---- sections in order

  -- what stands in the order of a table does so where sections that repeat are left out
  pub in_order_skipped : (skipped table standing : List S) → AllRepeat skipped → AreInOrder tables table standing
      → AreInOrder tables (skipped ++ table) standing
  in_order_skipped [] table standing repeat in_order = in_order
  in_order_skipped (section ∷ skipped) table standing repeat in_order = (
    0,
    standing,
    refl,
    may_none ((tables.shape section).again) repeat.0,
    in_order_skipped skipped table standing repeat.1 in_order,
  )

  -- nothing stands of sections that need not
  pub in_order_none : (table : List S) → must_open tables table ≡ None → AreInOrder tables table []
  in_order_none [] none = refl
  in_order_none (section ∷ table) none =
      by_test (repeats ((tables.shape section).again)) refl none (in_order_none table)
    where
      by_test : (more : Bool) → repeats ((tables.shape section).again) ≡ more
          → (if more then must_open tables table else Some (opener tables section)) ≡ None
          → (must_open tables table ≡ None → AreInOrder tables table []) → AreInOrder tables (section ∷ table) []
      by_test true is none others = (0, [], refl, may_none ((tables.shape section).again) is, others none)
      by_test false is none others = absurd (cc (none))
