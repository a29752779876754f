-- What the opener of a section opens behind another.
use Rattle.std.proofs.Common.{◌≡◌, Bool, true, false, List, [], ◌∷◌, ◌++◌, Some, None, sym, ap, subst, ◌∙◌}
use Rattle.std.{proofs.Common.append_assoc, specs.{Prelude.{map, if◌then◌else◌}, List.{AllByRecursion, IsDistinct}}}
use Rattle.frame_terms.specs.{declared.keyword.Keyword.Keyword, Keywords.same, Order.{following_sections, opened_by}}
use Rattle.frame_terms.specs.{Order.{opener, passed_over, repeats}, Sections.row_of, Tables.Tables}
use Rattle.frame_laws.proofs.KnownWords.{same-sym, same-through}
use Rattle.document_laws.proofs.{Lists.{AllRepeat, IsAfter}, Openers.row_of-one, Parts.IsListed, Places.follows}
use Rattle.document_laws.specs.Clear.{AreClear}

module _ {S K V X : Type 0} (tables : Tables S K V X) (clear : AreClear tables) where
  -- of sections of which no two have one keyword, those behind some
  apart_behind : (front list : List S) → IsDistinct same (map (λ other. opener tables other) (front ++ list))
      → IsDistinct same (map (λ other. opener tables other) list)
  unfolding IsDistinct
  apart_behind [] list apart = apart
  apart_behind (section ∷ front) list apart = apart_behind front list apart.1

  -- the first differs from one behind it
  differs : (keyword : Keyword) (front : List S) (section : S) (rest : List S)
      → AllByRecursion (λ other. same keyword other ≡ false)
      (map (λ other. opener tables other) (front ++ section ∷ rest)) → same keyword (opener tables section) ≡ false
  differs keyword [] section rest each = each.0
  differs keyword (other ∷ front) section rest each = differs keyword front section rest each.1

  opens_first : (keyword : Keyword) (skipped : List S) (next : S) (rest : List S)
      → IsDistinct same (map (λ other. opener tables other) (skipped ++ next ∷ rest))
      → same (opener tables next) keyword ≡ true → AllRepeat tables skipped
      → (opened_by tables keyword (skipped ++ next ∷ rest) ≡ Some next)
      × (passed_over tables keyword (skipped ++ next ∷ rest) ≡ None)
  unfolding IsDistinct
  opens_first keyword [] next rest apart is repeat = (
    ap (λ (t : Bool). if t then Some next else opened_by tables keyword rest) is,
    ap (λ (t : Bool). if t then None else if repeats ((tables.shape next).again) then passed_over tables keyword rest
        else Some (opener tables next)) is,
  )
  opens_first keyword (section ∷ skipped) next rest apart is repeat =
      let list = skipped ++ next ∷ rest in
      let others = opens_first keyword skipped next rest apart.1 is repeat.1 in
      let not_this : same (opener tables section) keyword ≡ false =
      same-sym (opener tables section) keyword
      ∙ sym (same-through (opener tables next) keyword (opener tables section) is)
      ∙ same-sym (opener tables next) (opener tables section)
      ∙ differs (opener tables section) skipped next rest apart.0 in (
        ap (λ (t : Bool). if t then Some section else opened_by tables keyword list) not_this ∙ others.0,
        ap (λ (t : Bool). if t then None else if repeats ((tables.shape section).again)
            then passed_over tables keyword list else Some (opener tables section)) not_this
            ∙ ap (λ (t : Bool). if t then passed_over tables keyword list else Some (opener tables section)) repeat.0
            ∙ others.1,
      )

  -- a keyword that is the opener of a section behind another: it opens that, and is none of the other
  pub record IsOpened (section next : S) (keyword : Keyword) : Type 0 where
    pub not_here : row_of (tables.rows section) keyword ≡ None
    pub opened : opened_by tables keyword (following_sections tables section) ≡ Some next
    pub passes_none : passed_over tables keyword (following_sections tables section) ≡ None

  no_row_for : (section : S) (keyword : Keyword) (skipped : List S) (next : S) (rest : List S)
      → AllByRecursion (λ (later : S). row_of (tables.rows section) (opener tables later) ≡ None) (skipped ++ next ∷ rest)
      → same (opener tables next) keyword ≡ true → row_of (tables.rows section) keyword ≡ None
  no_row_for section keyword [] next rest apart is =
      sym (row_of-one (tables.rows section) (opener tables next) keyword is) ∙ apart.0
  no_row_for section keyword (other ∷ skipped) next rest apart is =
      no_row_for section keyword skipped next rest apart.1 is

  pub is_opened : (section next : S) (keyword : Keyword) → IsListed tables section
      → IsAfter tables (following_sections tables section) next → same (opener tables next) keyword ≡ true
      → IsOpened section next keyword
  is_opened section next keyword listed is_after is =
      let parts : tables.sections ≡ (listed.front ++ section ∷ []) ++ (is_after.skipped ++ next ∷ is_after.rest) =
      listed.parts
      ∙ ap (λ (l : List S). listed.front ++ section ∷ l)
      (sym (follows tables clear section listed) ∙ is_after.parts)
      ∙ sym (append_assoc listed.front (section ∷ []) (is_after.skipped ++ next ∷ is_after.rest)) in
      let opens = opens_first keyword is_after.skipped next is_after.rest
      (apart_behind (listed.front ++ section ∷ []) (is_after.skipped ++ next ∷ is_after.rest)
      (subst (λ (l : List S). IsDistinct same (map (λ other. opener tables other) l)) parts clear.sound.apart))
      is is_after.repeat in
      record {
        not_here = no_row_for section keyword is_after.skipped next is_after.rest
            (subst (λ (l : List S).
            AllByRecursion (λ (later : S). row_of (tables.rows section) (opener tables later) ≡ None) l)
            is_after.parts (clear.openers_apart section)) is;
        opened = ap (λ (l : List S). opened_by tables keyword l) is_after.parts ∙ opens.0;
        passes_none = ap (λ (l : List S). passed_over tables keyword l) is_after.parts ∙ opens.1;
      }
