-- A document from a section that is open on, and how one more section changes it.
use Rattle.std.proofs.Common.{◌≡◌, ℕ, suc, List, [], ◌∷◌, ◌++◌, Some, refl, sym, ap, subst, ◌∙◌, append-nil}
use Rattle.std.proofs.{Common.append_assoc, lemmas.List.Elements.{All-cons, All-head, All-nil, All-tail}}
use Rattle.std.specs.Prelude.{All, map, replicate}
use Rattle.item_terms.specs.Items.{Item}
use Rattle.frame_terms.specs.{declared.{document.{Group.Group, Taken.Taken}, section.Again.Again}, Documents.group}
use Rattle.frame_terms.specs.{Order.following_sections, Tables.Tables}
use Rattle.frame_terms.specs.declared.section.Again.TheVariants as again
use Rattle.document_laws.specs.Order.{AreInOrder, BeginsWithOpener, HasInside, HasItems, IsInOrder, MayStand, Part}
use Rattle.document_laws.specs.{Order.{items_of, sections_of}, Items.AreItemsIn, Sound.AreSound}
use Rattle.document_laws.proofs.{Taking.items_of_more, Lists.{IsAfter, following_is, in_order_skipped}}

-- so many more sections of a name may stand
abbrev MayMore : Again → ℕ → Type 0
MayMore again.Nothing number = number ≡ 0
MayMore again.Section number = Unit {0}
MayMore again.Document number = number ≡ 0

may_first : (more : Again) (number : ℕ) → MayMore more number → MayStand more (suc number)
may_first again.Nothing number may = ap (λ (n : ℕ). suc n) may
may_first again.Section number may = tt
may_first again.Document number may = ap (λ (n : ℕ). suc n) may

may_no_more : (more : Again) → MayMore more 0
may_no_more again.Nothing = refl
may_no_more again.Section = tt
may_no_more again.Document = refl

module _ {S V : Type 0} where
  -- the names of the sections that stand inside no other
  abbrev pub names : List (Part S V) → List S
  names parts = map (λ (part : Part S V). part.whole.section) parts

-- a document's sections from one that is open on, of which a run of items came, and others are to come: that one, more of
-- its name, and those that follow it
pub record StandsFrom {S K V X : Type 0} (tables : Tables S K V X) (section : S) (run items : List Item)
    (groups : List (Group S V)) : Type 0
  where
    pub left : List Item
    pub more : List Item
    pub part : Part S V
    pub parts : List (Part S V)
    pub named : part.whole.section ≡ section
    pub are : groups ≡ sections_of (part ∷ parts)
    pub extends : part.items ≡ run ++ more
    pub come : run ++ items ≡ items_of (part ∷ parts) ++ left
    pub stand : All (HasItems tables) (part ∷ parts)
    pub number : ℕ
    pub others : List S
    pub standing : names parts ≡ replicate number section ++ others
    pub may : MayMore ((tables.shape section).again) number
    pub in_order : AreInOrder tables (following_sections tables section) others
    pub inside : All (HasInside tables) (part ∷ parts)
    pub begin : All (λ (group : Group S V). BeginsWithOpener tables group.section group.taken) groups

-- a section is one of those of a document
pub record IsListed {S K V X : Type 0} (tables : Tables S K V X) (section : S) : Type 0 where
  pub front : List S
  pub rest : List S
  pub parts : tables.sections ≡ front ++ section ∷ rest

module _ {S K V X : Type 0} (tables : Tables S K V X) (sound : AreSound tables) where
  follows_listed : (section : S) (listed : IsListed tables section) → following_sections tables section ≡ listed.rest
  follows_listed section listed = following_is tables listed.front section listed.rest listed.parts sound.apart

  -- the first one is, and each that follows one that is
  pub first_listed : IsListed tables tables.first
  first_listed = record { front = []; rest = sound.others; parts = sound.begins }

  pub next_listed : (section next : S) → IsListed tables section → IsAfter tables (following_sections tables section) next
      → IsListed tables next
  next_listed section next listed is = record {
    front = listed.front ++ section ∷ is.skipped;
    rest = is.rest;
    parts = listed.parts
        ∙ ap (λ (l : List S). listed.front ++ section ∷ l) (sym (follows_listed section listed) ∙ is.parts)
        ∙ sym (append_assoc listed.front (section ∷ is.skipped) (next ∷ is.rest));
  }

  -- ---- one more section

  -- a section with nothing inside it
  abbrev bare : List Item → Group S V → Part S V
  bare run whole = record { items = run; inside = []; whole = whole }

  with_bare : (run : List Item) (whole : Group S V) (parts : List (Part S V)) → All (HasInside tables) parts
      → All (HasInside tables) (bare run whole ∷ parts)
  with_bare run whole parts inside =
      All-cons (HasInside tables) (bare run whole) parts
      (All-nil (λ (group : Group S V). (tables.shape whole.section).inner ≡ Some group.section)) inside

  stand_bare : (run : List Item) (section : S) (taken : List (Taken V)) (parts : List (Part S V))
      → AreItemsIn tables section run taken → All (HasItems tables) parts
      → All (HasItems tables) (bare run (group section taken) ∷ parts)
  stand_bare run section taken parts are stand =
      All-cons (HasItems tables) (bare run (group section taken)) parts
      (are, All-nil (λ (group : Group S V). AreItemsIn tables group.section run group.taken)) stand

  with_begin : (section : S) (taken : List (Taken V)) (groups : List (Group S V))
      → BeginsWithOpener tables section taken
      → All (λ (group : Group S V). BeginsWithOpener tables group.section group.taken) groups
      → All (λ (group : Group S V). BeginsWithOpener tables group.section group.taken) (group section taken ∷ groups)
  with_begin section taken groups begins others =
      All-cons (λ (group : Group S V). BeginsWithOpener tables group.section group.taken) (group section taken) groups
      begins others

  -- the run of items comes one item further
  pub one_further : (section : S) (run : List Item) (item : Item) (items : List Item) (groups : List (Group S V))
      → StandsFrom tables section (run ++ item ∷ []) items groups → StandsFrom tables section run (item ∷ items) groups
  one_further section run item items groups from = record {
    left = from.left;
    more = item ∷ from.more;
    part = from.part;
    parts = from.parts;
    named = from.named;
    are = from.are;
    extends = from.extends ∙ append_assoc run (item ∷ []) from.more;
    come = sym (append_assoc run (item ∷ []) items) ∙ from.come;
    stand = from.stand;
    number = from.number;
    others = from.others;
    standing = from.standing;
    may = from.may;
    in_order = from.in_order;
    inside = from.inside;
    begin = from.begin;
  }

  -- the last one
  pub stands_last : (section : S) (taken : List (Taken V)) (run items : List Item)
      → AreItemsIn tables section run taken → BeginsWithOpener tables section taken
      → AreInOrder tables (following_sections tables section) [] → StandsFrom tables section run items (group section taken ∷ [])
  stands_last section taken run items are begins none = record {
    left = items;
    more = [];
    part = bare run (group section taken);
    parts = [];
    named = refl;
    are = refl;
    extends = sym (append-nil run);
    come = ap (λ (l : List Item). l ++ items) (sym (append-nil run));
    stand = stand_bare run section taken [] are (All-nil (HasItems tables));
    number = 0;
    others = [];
    standing = refl;
    may = may_no_more ((tables.shape section).again);
    in_order = none;
    inside = with_bare run (group section taken) [] (All-nil (HasInside tables));
    begin = with_begin section taken [] begins
        (All-nil (λ (group : Group S V). BeginsWithOpener tables group.section group.taken));
  }

  -- the names from a section that is open on
  first_name : (section : S) (run items : List Item) (groups : List (Group S V))
      (from : StandsFrom tables section run items groups)
      → names (from.part ∷ from.parts) ≡ replicate (suc from.number) section ++ from.others
  first_name section run items groups from =
      ap (λ (s : S). s ∷ names from.parts) from.named ∙ ap (λ (l : List S). section ∷ l) from.standing

  -- those from a section on are in the order of a table that begins with it
  from_first : (section : S) (rest : List S) (run items : List Item) (groups : List (Group S V))
      (from : StandsFrom tables section run items groups)
      → following_sections tables section ≡ rest → AreInOrder tables (section ∷ rest) (names (from.part ∷ from.parts))
  from_first section rest run items groups from e = (
    suc from.number,
    from.others,
    first_name section run items groups from,
    may_first ((tables.shape section).again) from.number from.may,
    subst (λ (l : List S). AreInOrder tables l from.others) e from.in_order,
  )

  -- a run of items, and the parts behind it
  come_behind : (run : List Item) (item : Item) (items parts left : List Item) → item ∷ items ≡ parts ++ left
      → run ++ item ∷ items ≡ (run ++ parts) ++ left
  come_behind run item items parts left come =
      ap (λ (l : List Item). run ++ l) come ∙ sym (append_assoc run parts left)

  -- one before a later one
  pub stands_before : (section next : S) (taken : List (Taken V)) (run : List Item) (item : Item) (items : List Item)
      (groups : List (Group S V)) → AreItemsIn tables section run taken
      → BeginsWithOpener tables section taken → IsListed tables section
      → IsAfter tables (following_sections tables section) next → StandsFrom tables next (item ∷ []) items groups
      → StandsFrom tables section run (item ∷ items) (group section taken ∷ groups)
  unfolding next_listed
  stands_before section next taken run item items groups stand begins listed is from =
      let next_is : following_sections tables next ≡ is.rest = follows_listed next (next_listed section next listed is) in
      record {
        left = from.left;
        more = [];
        part = bare run (group section taken);
        parts = from.part ∷ from.parts;
        named = refl;
        are = ap (λ (l : List (Group S V)). group section taken ∷ l) from.are;
        extends = sym (append-nil run);
        come = come_behind run item items (items_of (from.part ∷ from.parts)) from.left from.come;
        stand = stand_bare run section taken (from.part ∷ from.parts) stand from.stand;
        number = 0;
        others = names (from.part ∷ from.parts);
        standing = refl;
        may = may_no_more ((tables.shape section).again);
        in_order = subst (λ (l : List S). AreInOrder tables l (names (from.part ∷ from.parts))) (sym is.parts)
            (in_order_skipped tables is.skipped (next ∷ is.rest) (names (from.part ∷ from.parts)) is.repeat
            (from_first next is.rest (item ∷ []) items groups from next_is));
        inside = with_bare run (group section taken) (from.part ∷ from.parts) from.inside;
        begin = with_begin section taken groups begins from.begin;
      }

  -- one before another of its name
  pub stands_again : (section : S) (taken : List (Taken V)) (run : List Item) (item : Item) (items : List Item)
      (groups : List (Group S V)) → AreItemsIn tables section run taken
      → BeginsWithOpener tables section taken → (tables.shape section).again ≡ again.Section
      → StandsFrom tables section (item ∷ []) items groups
      → StandsFrom tables section run (item ∷ items) (group section taken ∷ groups)
  stands_again section taken run item items groups stand begins repeats from = record {
    left = from.left;
    more = [];
    part = bare run (group section taken);
    parts = from.part ∷ from.parts;
    named = refl;
    are = ap (λ (l : List (Group S V)). group section taken ∷ l) from.are;
    extends = sym (append-nil run);
    come = come_behind run item items (items_of (from.part ∷ from.parts)) from.left from.come;
    stand = stand_bare run section taken (from.part ∷ from.parts) stand from.stand;
    number = suc from.number;
    others = from.others;
    standing = first_name section (item ∷ []) items groups from;
    may = subst (λ (m : Again). MayMore m (suc from.number)) (sym repeats) tt;
    in_order = from.in_order;
    inside = with_bare run (group section taken) (from.part ∷ from.parts) from.inside;
    begin = with_begin section taken groups begins from.begin;
  }

  -- one inside another
  pub stands_inside : (section inside : S) (taken : List (Taken V)) (run items : List Item) (groups : List (Group S V))
      → AreItemsIn tables inside run taken
      → BeginsWithOpener tables inside taken → (tables.shape section).inner ≡ Some inside
      → StandsFrom tables section run items groups → StandsFrom tables section run items (group inside taken ∷ groups)
  stands_inside section inside taken run items groups stand begins inner from =
      let part : Part S V =
      record {
        items = from.part.items;
        inside = group inside taken ∷ from.part.inside;
        whole = from.part.whole;
      } in
      let head : HasItems tables from.part = All-head (HasItems tables) from.part from.parts from.stand in
      let here : AreItemsIn tables inside from.part.items taken =
      subst (λ (l : List Item). AreItemsIn tables inside l taken) (sym from.extends)
      (items_of_more tables inside run from.more taken stand) in
      record {
        left = from.left;
        more = from.more;
        part = part;
        parts = from.parts;
        named = from.named;
        are = ap (λ (l : List (Group S V)). group inside taken ∷ l) from.are;
        extends = from.extends;
        come = from.come;
        stand = All-cons (HasItems tables) part from.parts (
          head.0,
          All-cons (λ (group : Group S V). AreItemsIn tables group.section from.part.items group.taken)
              (group inside taken) from.part.inside here head.1,
        )
            (All-tail (HasItems tables) from.part from.parts from.stand);
        number = from.number;
        others = from.others;
        standing = from.standing;
        may = from.may;
        in_order = from.in_order;
        inside = All-cons (HasInside tables) part from.parts
            (All-cons (λ (group : Group S V). (tables.shape from.part.whole.section).inner ≡ Some group.section)
            (group inside taken) from.part.inside
            (ap (λ (s : S). (tables.shape s).inner) from.named ∙ inner)
            (All-head (HasInside tables) from.part from.parts from.inside))
            (All-tail (HasInside tables) from.part from.parts from.inside);
        begin = with_begin inside taken groups begins from.begin;
      }

  -- from its first section on a document is in order
  pub stands_whole : (items : List Item) (groups : List (Group S V)) → StandsFrom tables tables.first [] items groups
      → IsInOrder tables items groups
  unfolding first_listed
  stands_whole items groups from = record {
    parts = from.part ∷ from.parts;
    left = from.left;
    come = from.come;
    stand = from.stand;
    are = from.are;
    in_order = subst (λ (l : List S). AreInOrder tables l (names (from.part ∷ from.parts))) (sym sound.begins)
        (from_first tables.first sound.others [] items groups from (follows_listed tables.first first_listed));
    inside = from.inside;
    begin = from.begin;
  }
