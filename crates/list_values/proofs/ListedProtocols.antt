-- Protocols whose numbers are bits, as a contract sees them.
use Rattle.std.proofs.Common.{◌≡◌, ℕ, Bool, true, false, List, [], ◌∷◌, Some, None, Option, map, refl, sym, ap, ◌∙◌}
use Rattle.std.{proofs.lemmas.List.Elements.{All-nil, All-cons, All-head, All-tail}, specs.Prelude.{All, unwrap_or}}
use Rattle.std.specs.{Prelude.if◌then◌else◌, List.find, Option.option_map, Str.bytes_eq}
use Rattle.dir_values.{specs.Digests.bytes_below, proofs.Orders.{AllPairs-cons, AllPairs-head, AllPairs-tail}}
use Rattle.dir_values.proofs.Orders.{AllPairs-nil}
use Rattle.list_values.specs.{declared.named.Named.Named, Maps.{named_value, has_name, names_of, value_at, Ascend}}
use Rattle.list_values.specs.{Maps.with_value, Masks.{numbers_of, listed_protocol, all_listed, listed_text}}
use Rattle.list_values.{specs.Protocols.{numbers_at, protocol_text}, proofs.NumberLists.no_numbers}

-- protocols with one more
pub listed-with_value : (items : List (Named ℕ)) (name : List ℕ) (mask : ℕ)
    → all_listed (with_value items name mask) ≡ with_value (all_listed items) name (numbers_of mask)
listed-with_value [] name mask = refl
listed-with_value (first ∷ rest) name mask = by (bytes_below first.name name) (bytes_eq first.name name) (listed-with_value rest name mask)
  where
    by : (b e : Bool) → all_listed (with_value rest name mask) ≡ with_value (all_listed rest) name (numbers_of mask)
        → all_listed (if b then first ∷ with_value rest name mask else if e then named_value first.name mask ∷ rest else named_value name mask ∷ first ∷ rest)
        ≡ (if b then listed_protocol first ∷ with_value (all_listed rest) name (numbers_of mask)
        else if e then named_value first.name (numbers_of mask) ∷ all_listed rest
        else named_value name (numbers_of mask) ∷ listed_protocol first ∷ all_listed rest)
    by true e later = ap (λ (l : List (Named (List ℕ))). listed_protocol first ∷ l) later
    by false true later = refl
    by false false later = refl

-- the numbers of a name
value_at-listed : (items : List (Named ℕ)) (name : List ℕ) → value_at (all_listed items) name ≡ option_map numbers_of (value_at items name)
value_at-listed [] name = refl
value_at-listed (first ∷ rest) name = by (bytes_eq first.name name) (value_at-listed rest name)
  where
    by : (b : Bool) → value_at (all_listed rest) name ≡ option_map numbers_of (value_at rest name)
        → option_map (λ (e : Named (List ℕ)). e.value) (if b then Some (listed_protocol first) else find (has_name name) (all_listed rest))
        ≡ option_map numbers_of (option_map (λ (e : Named ℕ). e.value) (if b then Some first else find (has_name name) rest))
    by true later = refl
    by false later = later

or_none : (found : Option ℕ) → numbers_of (unwrap_or found 0) ≡ unwrap_or (option_map numbers_of found) []
or_none None = no_numbers
or_none (Some mask) = refl

pub numbers_listed : (items : List (Named ℕ)) (name : List ℕ)
    → numbers_of (unwrap_or (value_at items name) 0) ≡ numbers_at (all_listed items) name
numbers_listed items name =
    or_none (value_at items name) ∙ ap (λ (o : Option (List ℕ)). unwrap_or o []) (sym (value_at-listed items name))

abbrev Before : Named ℕ → Named ℕ → Type 0
Before a b = bytes_below a.name b.name ≡ true

abbrev ListedBefore : Named (List ℕ) → Named (List ℕ) → Type 0
ListedBefore a b = bytes_below a.name b.name ≡ true

all_before : (first : Named ℕ) (rest : List (Named ℕ)) → All (Before first) rest → All (ListedBefore (listed_protocol first)) (all_listed rest)
all_before first [] all = All-nil (ListedBefore (listed_protocol first))
all_before first (next ∷ rest) all =
    All-cons (ListedBefore (listed_protocol first)) (listed_protocol next) (all_listed rest) (All-head (Before first) next rest all)
    (all_before first rest (All-tail (Before first) next rest all))

-- they ascend still
pub listed_ascend : (items : List (Named ℕ)) → Ascend items → Ascend (all_listed items)
listed_ascend [] up = AllPairs-nil ListedBefore
listed_ascend (first ∷ rest) up =
    AllPairs-cons ListedBefore (listed_protocol first) (all_listed rest) (all_before first rest (AllPairs-head Before first rest up))
    (listed_ascend rest (AllPairs-tail Before first rest up))

-- their texts
pub texts_listed : (items : List (Named ℕ)) → map listed_text items ≡ map protocol_text (all_listed items)
texts_listed [] = refl
texts_listed (first ∷ rest) = ap (λ (l : List (List ℕ)). listed_text first ∷ l) (texts_listed rest)

-- and their names
pub names_listed : (items : List (Named ℕ)) → names_of items ≡ names_of (all_listed items)
names_listed [] = refl
names_listed (first ∷ rest) = ap (λ (l : List (List ℕ)). first.name ∷ l) (names_listed rest)
