-- The sections that stand behind one, in the order of their table.
use Rattle.std.proofs.Common.{◌≡◌, ℕ, zero, suc, Bool, true, false, List, [], ◌∷◌, ◌++◌, Some, None, refl, sym, ap}
use Rattle.std.{proofs.Common.{subst, ◌∙◌, append_assoc, inl, inr}, specs.Prelude.{◌⊎◌, replicate, if◌then◌else◌}}
use Rattle.frame_terms.specs.{declared.section.Again.Again, Order.{following_sections, must_open, opener, repeats}}
use Rattle.frame_terms.specs.Tables.{Tables}
use Rattle.frame_terms.specs.declared.section.Again.TheVariants as again
use Rattle.document_laws.{specs.{Order.{AreInOrder, MayStand}, Clear.AreClear}, proofs.{Lists.IsAfter, Parts.IsListed}}
use Rattle.document_laws.proofs.Places.{follows}

-- ---- so many of a section

-- none stands of one that repeats alone
none_may : (more : Again) → MayStand more 0 → repeats more ≡ true
none_may again.Nothing may = absurd (cc (may))
none_may again.Section may = refl
none_may again.Document may = absurd (cc (may))

-- more than one stand of one that repeats alone
more_may : (more : Again) (number : ℕ) → MayStand more (suc number) → (number ≡ 0) ⊎ (more ≡ again.Section)
more_may again.Nothing number may = inl (cc (may))
more_may again.Section number may = inr refl
more_may again.Document number may = inl (cc (may))

no_list : {A : Type 0} (a : A) (list : List A) → a ∷ list ≡ [] → ⊥
no_list a list e = absurd (cc (e))

module _ {S K V X : Type 0} (tables : Tables S K V X) where
  -- the names of sections that stand behind one: more of its name, where it repeats, and those that follow it
  pub record ComeBehind (section : S) (standing : List S) : Type 0 where
    pub number : ℕ
    pub others : List S
    pub are : standing ≡ replicate number section ++ others
    pub may : (number ≡ 0) ⊎ ((tables.shape section).again ≡ again.Section)
    pub in_order : AreInOrder tables (following_sections tables section) others

  -- the next of a list that stands, and those behind it
  record HasNext (list : List S) (next : S) (names : List S) : Type 0 where
    pub is_after : IsAfter tables list next
    pub number : ℕ
    pub others : List S
    pub are : names ≡ replicate number next ++ others
    pub may : (number ≡ 0) ⊎ ((tables.shape next).again ≡ again.Section)
    pub in_order : AreInOrder tables is_after.rest others

  find_next : (list : List S) (next : S) (names : List S) → AreInOrder tables list (next ∷ names)
      → HasNext list next names
  find_next [] next names in_order = absurd (no_list next names in_order)
  find_next (section ∷ list) next names (number, others, e, may, in_order) =
      by_number number e may (λ order. find_next list next names order)
    where
      by_number : (number : ℕ) → next ∷ names ≡ replicate number section ++ others
          → MayStand ((tables.shape section).again) number
          → (AreInOrder tables list (next ∷ names) → HasNext list next names) → HasNext (section ∷ list) next names
      by_number zero e may further =
          let later = further (subst (λ (l : List S). AreInOrder tables list l) (sym e) in_order) in
          record {
            is_after = record {
              skipped = section ∷ later.is_after.skipped;
              rest = later.is_after.rest;
              parts = ap (λ (l : List S). section ∷ l) later.is_after.parts;
              repeat = (none_may ((tables.shape section).again) may, later.is_after.repeat);
            };
            number = later.number;
            others = later.others;
            are = later.are;
            may = later.may;
            in_order = later.in_order;
          }
      by_number (suc n) e may further =
          let is : section ≡ next = cc (e) in
          let names_are : names ≡ replicate n section ++ others = cc (e) in
          record {
            is_after = record {
              skipped = [];
              rest = list;
              parts = ap (λ (s : S). s ∷ list) is;
              repeat = tt;
            };
            number = n;
            others = others;
            are = names_are ∙ ap (λ (s : S). replicate n s ++ others) is;
            may = subst (λ (s : S). (n ≡ 0) ⊎ ((tables.shape s).again ≡ again.Section)) is
                (more_may ((tables.shape section).again) n may);
            in_order = in_order;
          }

  -- nothing stands of sections of which none has to
  none_must : (list : List S) → AreInOrder tables list [] → must_open tables list ≡ None
  none_must [] in_order = refl
  none_must (section ∷ list) (number, others, e, may, in_order) =
      by_number number e may (λ order. none_must list order)
    where
      by_number : (number : ℕ) → [] ≡ replicate number section ++ others
          → MayStand ((tables.shape section).again) number
          → (AreInOrder tables list [] → must_open tables list ≡ None) → must_open tables (section ∷ list) ≡ None
      by_number zero e may further =
          ap (λ (t : Bool). if t then must_open tables list else Some (opener tables section))
          (none_may ((tables.shape section).again) may)
          ∙ further (subst (λ (l : List S). AreInOrder tables list l) (sym e) in_order)
      by_number (suc n) e may further = absurd (no_list section (replicate n section ++ others) (sym e))

  -- nothing stands behind a section: none has to
  pub last_must : (section : S) → ComeBehind section [] → must_open tables (following_sections tables section) ≡ None
  last_must section behind = by_number behind.number behind.are
    where
      by_number : (number : ℕ) → [] ≡ replicate number section ++ behind.others
          → must_open tables (following_sections tables section) ≡ None
      by_number zero e =
          none_must (following_sections tables section)
          (subst (λ (l : List S). AreInOrder tables (following_sections tables section) l) (sym e) behind.in_order)
      by_number (suc n) e = absurd (no_list section (replicate n section ++ behind.others) (sym e))

module _ {S K V X : Type 0} (tables : Tables S K V X) (clear : AreClear tables) where
  -- the next section that stands behind one
  pub record GoesOn (section next : S) (names : List S) : Type 0 where
    pub listed : IsListed tables next
    pub behind : ComeBehind tables next names
    pub how : ((next ≡ section) × ((tables.shape section).again ≡ again.Section))
        ⊎ IsAfter tables (following_sections tables section) next

  -- a section that follows one is one of the document's
  listed_next : (section next : S) → IsListed tables section → IsAfter tables (following_sections tables section) next
      → IsListed tables next
  listed_next section next listed is = record {
    front = listed.front ++ section ∷ is.skipped;
    rest = is.rest;
    parts = listed.parts
        ∙ ap (λ (l : List S). listed.front ++ section ∷ l) (sym (follows tables clear section listed) ∙ is.parts)
        ∙ sym (append_assoc listed.front (section ∷ is.skipped) (next ∷ is.rest));
  }

  pub next_goes : (section next : S) (names : List S) → IsListed tables section → ComeBehind tables section (next ∷ names)
      → GoesOn section next names
  unfolding find_next listed_next
  next_goes section next names listed behind = by_number behind.number behind.are behind.may
    where
      by_number : (number : ℕ) → next ∷ names ≡ replicate number section ++ behind.others
          → (number ≡ 0) ⊎ ((tables.shape section).again ≡ again.Section) → GoesOn section next names
      by_number zero e may =
          let later = find_next tables (following_sections tables section) next names
          (subst (λ (l : List S). AreInOrder tables (following_sections tables section) l) (sym e) behind.in_order) in
          let listed_ = listed_next section next listed later.is_after in
          record {
            listed = listed_;
            behind = record {
              number = later.number;
              others = later.others;
              are = later.are;
              may = later.may;
              in_order = subst (λ (l : List S). AreInOrder tables l later.others)
                  (sym (follows tables clear next listed_)) later.in_order;
            };
            how = inr later.is_after;
          }
      by_number (suc n) e (inl none) = absurd (cc (none))
      by_number (suc n) e (inr repeats_) =
          let is : next ≡ section = cc (e) in
          let names_are : names ≡ replicate n section ++ behind.others = cc (e) in
          record {
            listed = subst (λ (s : S). IsListed tables s) (sym is) listed;
            behind = subst (λ (s : S). ComeBehind tables s names) (sym is) (record {
              number = n;
              others = behind.others;
              are = names_are;
              may = inr repeats_;
              in_order = behind.in_order;
            });
            how = inl (is, repeats_);
          }

  -- a section that stands once and that none follows is the last
  pub none_goes : (section next : S) (names : List S) → repeats ((tables.shape section).again) ≡ false
      → following_sections tables section ≡ [] → ComeBehind tables section (next ∷ names) → ⊥
  none_goes section next names once none behind = by_number behind.number behind.are behind.may
    where
      by_number : (number : ℕ) → next ∷ names ≡ replicate number section ++ behind.others
          → (number ≡ 0) ⊎ ((tables.shape section).again ≡ again.Section) → ⊥
      by_number zero e may =
          no_list next names
          (e ∙ subst (λ (l : List S). AreInOrder tables l behind.others) none behind.in_order)
      by_number (suc n) e (inl none_) = absurd (cc (none_))
      by_number (suc n) e (inr repeats_) = absurd (cc (once, repeats_))

  -- ---- the first

  -- the first section stands, and then those behind it
  pub record BeginsWith (standing : List S) : Type 0 where
    pub names : List S
    pub are : standing ≡ tables.first ∷ names
    pub behind : ComeBehind tables tables.first names

  pub first_is_listed : IsListed tables tables.first
  first_is_listed = record { front = []; rest = clear.sound.others; parts = clear.sound.begins }

  pub first_begins : (standing : List S) → AreInOrder tables tables.sections standing → BeginsWith standing
  unfolding first_is_listed
  first_begins standing in_order =
      of_order (subst (λ (l : List S). AreInOrder tables l standing) clear.sound.begins in_order)
    where
      of_order : AreInOrder tables (tables.first ∷ clear.sound.others) standing → BeginsWith standing
      of_order (number, others, e, may, rest) = by_number number e may
        where
          by_number : (number : ℕ) → standing ≡ replicate number tables.first ++ others
              → MayStand ((tables.shape tables.first).again) number → BeginsWith standing
          by_number zero e may = absurd (cc (clear.first_stands, none_may ((tables.shape tables.first).again) may))
          by_number (suc n) e may = record {
            names = replicate n tables.first ++ others;
            are = e;
            behind = record {
              number = n;
              others = others;
              are = refl;
              may = more_may ((tables.shape tables.first).again) n may;
              in_order = subst (λ (l : List S). AreInOrder tables l others)
                  (sym (follows tables clear tables.first first_is_listed)) rest;
            };
          }
