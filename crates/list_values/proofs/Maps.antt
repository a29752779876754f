-- Values by their names: what a tree of borrowed names holds, and what one value more changes.
use Rattle.std.proofs.Common.{◌≡◌, ℕ, Bool, true, false, List, [], ◌∷◌, Some, Option, refl, sym, ap, ◌∙◌}
use Rattle.std.proofs.lemmas.{Cmp.nat_list_cmp_total, List.Elements.{All-cons, All-nil, All-tail, All-head, All-weaker}}
use Rattle.std.specs.{Prelude.{All, if◌then◌else◌}, Borrow.Bor, BTreeMap.insert_entry, Map.lookup}
use Rattle.std.specs.{Cmp.Lexicographic.{slice_cmp, texts_ties}, declared.cmp.Ordering.{Ordering, TheVariants.Less}}
use Rattle.std.specs.{declared.cmp.Ordering.TheVariants.{Equal, Greater}, List.find, Option.option_map}
use Rattle.std.specs.{Ordering.{nat_cmp, ordering_reverse, is_eq, match_ordering}, Str.bytes_eq}
use Rattle.dir_values.{specs.Digests.{is_less, bytes_below}, proofs.Orders.{below-trans, below_or_same, AllPairs-cons}}
use Rattle.dir_values.proofs.{Orders.{AllPairs-head, AllPairs-tail, AllPairs-nil}, WordSets.ties_as_one}
use Rattle.dir_values.proofs.WordSets.{borrowed_order}
use Rattle.list_values.specs.{declared.named.Named.Named, Lending.entries_in, Maps.{named_value, has_name, value_at}}
use Rattle.list_values.specs.Maps.{Ascend, with_value}

module _ {V : Type 0} where
  -- how a name stands to the first of others, seen from that one
  turned : (o p : Ordering) (same : Bool) (a b c : List (Named V)) → p ≡ ordering_reverse o → same ≡ is_eq p
      → match_ordering o a b c ≡ (if is_less p then c else if same then b else a)
  turned Less p same a b c is same_is = rw (same_is, is) refl
  turned Equal p same a b c is same_is = rw (same_is, is) refl
  turned Greater p same a b c is same_is = rw is refl

  through : (o : Ordering) (a b c : List (Bor (List ℕ) × V))
      → entries_in (match_ordering o a b c) ≡ match_ordering o (entries_in a) (entries_in b) (entries_in c)
  through Less a b c = refl
  through Equal a b c = refl
  through Greater a b c = refl

  -- one more entry is one more value
  pub entries_with : (entries : List (Bor (List ℕ) × V)) (name : Bor (List ℕ)) (value : V)
      → entries_in (insert_entry borrowed_order entries name value) ≡ with_value (entries_in entries) name.now value
  entries_with [] name value = refl
  entries_with (first ∷ rest) name value =
      let o = borrowed_order name first.0 in
      let others = entries_in rest in
      let one = named_value first.0.now first.1 in
      through o ((name, value) ∷ first ∷ rest) ((first.0, value) ∷ rest) (first ∷ insert_entry borrowed_order rest name value)
      ∙ ap (λ (l : List (Named V)). match_ordering o (named_value name.now value ∷ one ∷ others) (named_value first.0.now value ∷ others) (one ∷ l))
      (entries_with rest name value)
      ∙ turned o (borrowed_order first.0 name) (bytes_eq first.0.now name.now) (named_value name.now value ∷ one ∷ others)
      (named_value first.0.now value ∷ others) (one ∷ with_value others name.now value)
      (nat_list_cmp_total.antisymm first.0.now name.now) (texts_ties first.0.now name.now)

  either : (b : Bool) (entry : Named V) (rest : Option (Named V)) (other : Option V) → option_map (λ (e : Named V). e.value) rest ≡ other
      → (if b then Some entry.value else other) ≡ option_map (λ (e : Named V). e.value) (if b then Some entry else rest)
  either true entry rest other is = refl
  either false entry rest other is = sym is

  -- what is found there is the value for the name
  pub entry_found : (entries : List (Bor (List ℕ) × V)) (name : List ℕ)
      → lookup (λ (key : Bor (List ℕ)). is_eq (slice_cmp nat_cmp name key.now)) entries ≡ value_at (entries_in entries) name
  entry_found [] name = refl
  entry_found (first ∷ rest) name =
      ap (λ (b : Bool). if b then Some first.1 else lookup (λ (key : Bor (List ℕ)). is_eq (slice_cmp nat_cmp name key.now)) rest)
      (ties_as_one first.0.now name)
      ∙ either (bytes_eq first.0.now name) (named_value first.0.now first.1) (find (has_name name) (entries_in rest)) _
      (sym (entry_found rest name))

  -- what holds of the values and of one more holds of them together
  All-with_value : (P : List ℕ → Type 0) (entries : List (Named V)) (name : List ℕ) (value : V) → All (λ (e : Named V). P e.name) entries
      → P name → All (λ (e : Named V). P e.name) (with_value entries name value)
  All-with_value P [] name value all one = All-cons (λ (e : Named V). P e.name) (named_value name value) [] one all
  All-with_value P (first ∷ rest) name value all one =
      let Q : Named V → Type 0 = λ e. P e.name in
      let its = All-head Q first rest all in
      let later = All-tail Q first rest all in
      elim (bytes_below first.name name) as (λ b. All Q (if b then first ∷ with_value rest name value
      else if bytes_eq first.name name then named_value first.name value ∷ rest else named_value name value ∷ first ∷ rest)) [
        | true ↦ All-cons Q first (with_value rest name value) its (All-with_value P rest name value later one)
        | false ↦ elim (bytes_eq first.name name) as (λ e. All Q (if e then named_value first.name value ∷ rest
            else named_value name value ∷ first ∷ rest)) [
              | true ↦ All-cons Q (named_value first.name value) rest its later
              | false ↦ All-cons Q (named_value name value) (first ∷ rest) one all
            ]
      ]

  abbrev Before : Named V → Named V → Type 0
  Before a b = bytes_below a.name b.name ≡ true

  -- ascending values with one more ascend
  pub Ascend-with_value : (entries : List (Named V)) (name : List ℕ) (value : V) → Ascend entries → Ascend (with_value entries name value)
  Ascend-with_value [] name value up = AllPairs-cons Before (named_value name value) [] (All-nil (Before (named_value name value))) up
  Ascend-with_value (first ∷ rest) name value up =
      let above = AllPairs-head Before first rest up in
      let later = AllPairs-tail Before first rest up in
      let by : (b e : Bool) → bytes_below first.name name ≡ b → bytes_eq first.name name ≡ e
      → Ascend (if b then first ∷ with_value rest name value else if e then named_value first.name value ∷ rest else named_value name value ∷ first ∷ rest) =
      λ b e. elim b as (λ b. bytes_below first.name name ≡ b → bytes_eq first.name name ≡ e
      → Ascend (if b then first ∷ with_value rest name value else if e then named_value first.name value ∷ rest else named_value name value ∷ first ∷ rest)) [
        | true ↦ λ below same. AllPairs-cons Before first (with_value rest name value)
            (All-with_value (λ n. bytes_below first.name n ≡ true) rest name value above below) (Ascend-with_value rest name value later)
        | false ↦ λ below. elim e as (λ e. bytes_eq first.name name ≡ e
            → Ascend (if e then named_value first.name value ∷ rest else named_value name value ∷ first ∷ rest)) [
              | true ↦ λ same. AllPairs-cons Before (named_value first.name value) rest above later
              | false ↦ λ same. let before = below_or_same first.name name below same in
                  AllPairs-cons Before (named_value name value) (first ∷ rest)
                  (All-cons (Before (named_value name value)) first rest before
                  (All-weaker (Before first) (Before (named_value name value)) (λ x. below-trans name first.name x.name before) rest above)) up
            ]
      ] in
      by (bytes_below first.name name) (bytes_eq first.name name) refl refl

  -- no values ascend
  pub Ascend-nil : Ascend {V = V} []
  Ascend-nil = AllPairs-nil Before
