-- What an item of a policy makes of a port, in the walk over the items.
use Rattle.std.proofs.Common.{◌≡◌, ℕ, suc, ◌+◌, ◌<◌, ◌≤◌, Bool, true, false, List, [], ◌∷◌, drop, length, get_or, refl}
use Rattle.std.proofs.{Common.{ap, ◌∙◌, arith, map, Some, drop-cons}, lemmas.Bool.{lt-leb, le-leb, and_from}}
use Rattle.std.{proofs.lemmas.{List.drop_all, Option.{slice_get-map, slice_get-get_or}}, specs.Prelude.{nat_le, ◌&&◌}}
use Rattle.std.specs.{Prelude.{filter, slice_get, if◌then◌else◌}, Option.option_map}
use Rattle.dir_values.specs.declared.policy.{PolicyItem.PolicyItem, Net.TheVariants.Star}
use Rattle.exit_summary.specs.Policies.{most_rejected, is_every, rejects, covers, accepts_after}

-- an item that no policy has, for places behind the last one
abbrev pub none : PolicyItem
none = record { accept = false; net = Star; low = 0; high = 0 }

-- what the items from a place on say of a port
abbrev pub accepted_from : ℕ → List PolicyItem → ℕ → ℕ → Bool
accepted_from rejected items i port = accepts_after rejected (filter (covers port) (drop i items))

-- what an item says of a port where the others say this, if it speaks of it
abbrev first_if : Bool → ℕ → PolicyItem → List PolicyItem → Bool
first_if covered rejected item others = accepts_after rejected (if covered then item ∷ others else others)

-- the walk goes on with the item at a place
walk_at : (rejected : ℕ) (items : List PolicyItem) (i : ℕ) (port : ℕ) → i < length items
    → accepted_from rejected items i port
    ≡ first_if (covers port (get_or items i none)) rejected (get_or items i none)
    (filter (covers port) (drop (i + 1) items))
walk_at rejected items i port lt =
    let item = get_or items i none in
    let one : suc i ≡ i + 1 = omega arith in
    let rest = λ (n : ℕ). filter (covers port) (drop n items) in
    ap (λ (l : List PolicyItem). accepts_after rejected (filter (covers port) l)) (drop-cons items i none lt)
    ∙ ap (λ (n : ℕ). first_if (covers port item) rejected item (rest n)) one

-- What an item has of a port, in a list of items at a place.
pub record Covers (items : List PolicyItem) (i port : ℕ) : Type 0 where
  pub there : i < length items
  pub low : (get_or items i none).low ≤ port
  pub high : port ≤ (get_or items i none).high

-- one that speaks of the port says what it says
covered : (rejected : ℕ) (items : List PolicyItem) (i port : ℕ) → Covers items i port
    → accepted_from rejected items i port
    ≡ (if is_every (get_or items i none).net then (get_or items i none).accept && nat_le rejected most_rejected
    else accepted_from (rejected + rejects (get_or items i none)) items (i + 1) port)
unfolding accepts_after
covered rejected items i port is =
    let item = get_or items i none in
    let low = le-leb item.low port is.low in
    let high = le-leb port item.high is.high in
    let its : covers port item ≡ true = and_from (nat_le item.low port) (nat_le port item.high) low high in
    walk_at rejected items i port is.there
    ∙ ap (λ (b : Bool). first_if b rejected item (filter (covers port) (drop (i + 1) items))) its

and_true : (b : Bool) → (b && true) ≡ b
and_true true = refl
and_true false = refl

-- an item of every address decides of its ports, where not too many were rejected
pub decides : (rejected : ℕ) (items : List PolicyItem) (i port : ℕ) → Covers items i port
    → rejected ≤ most_rejected → is_every (get_or items i none).net ≡ true
    → accepted_from rejected items i port ≡ (get_or items i none).accept
decides rejected items i port is few every =
    let item = get_or items i none in
    let later = accepted_from (rejected + rejects item) items (i + 1) port in
    covered rejected items i port is
    ∙ ap (λ (b : Bool). if b then item.accept && nat_le rejected most_rejected else later) every
    ∙ ap (λ (b : Bool). item.accept && b) (le-leb rejected most_rejected few) ∙ and_true item.accept

-- another one adds what it rejects
pub adds : (rejected : ℕ) (items : List PolicyItem) (i port : ℕ) → Covers items i port
    → is_every (get_or items i none).net ≡ false
    → accepted_from rejected items i port
    ≡ accepted_from (rejected + rejects (get_or items i none)) items (i + 1) port
adds rejected items i port is other =
    let item = get_or items i none in
    let later = accepted_from (rejected + rejects item) items (i + 1) port in
    covered rejected items i port is
    ∙ ap (λ (b : Bool). if b then item.accept && nat_le rejected most_rejected else later) other

-- where too many addresses were rejected, nothing makes up for it
pub too_many : (rejected : ℕ) (items : List PolicyItem) → most_rejected < rejected
    → accepts_after rejected items ≡ false
unfolding accepts_after
too_many rejected [] many = lt-leb rejected most_rejected many
too_many rejected (item ∷ items) many =
    let no : nat_le rejected most_rejected ≡ false = lt-leb rejected most_rejected many in
    let later = too_many (rejected + rejects item) items (omega arith) in
    elim (is_every item.net)
    as (λ b. (if b then item.accept && nat_le rejected most_rejected
    else accepts_after (rejected + rejects item) items) ≡ false) [
      | true ↦ rw no (elim item.accept as (λ b. (b && false) ≡ false) [ true ↦ refl | false ↦ refl ])
      | false ↦ later
    ]

-- where no item is left, the port is accepted if not too many were rejected
pub walked : (rejected : ℕ) (items : List PolicyItem) (i port : ℕ) → length items ≤ i → rejected ≤ most_rejected
    → accepted_from rejected items i port ≡ true
unfolding accepts_after
walked rejected items i port all few =
    ap (λ (l : List PolicyItem). accepts_after rejected (filter (covers port) l)) (drop_all i items all)
    ∙ le-leb rejected most_rejected few

-- the count at a place is what the item there rejects
pub count_is : (items : List PolicyItem) (counts : List ℕ) (i count : ℕ) → i < length items
    → counts ≡ map rejects items → slice_get counts i ≡ Some count → rejects (get_or items i none) ≡ count
count_is items counts i count lt is at =
    let there : slice_get counts i ≡ Some (rejects (get_or items i none)) =
    ap (λ (l : List ℕ). slice_get l i) is ∙ slice_get-map rejects items i
    ∙ ap (option_map rejects) (slice_get-get_or items i none lt) in
    cc
