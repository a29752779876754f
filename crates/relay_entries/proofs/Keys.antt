-- The keys of a tree, as a finite set.
use Rattle.std.proofs.{Common.{◌≡◌, ℕ, Bool, true, false, cond, List, refl, sym, ap, ◌∙◌}, lemmas.Cmp.eq_by_cmp_equiv}
use Rattle.std.{proofs.lemmas.Cmp.nat_list_cmp_total, specs.{Prelude.◌||◌, BTreeSet.{BTreeSet, contains, Updates}}}
use Rattle.std.specs.{Cmp.Lexicographic.slice_cmp, FinMap.{nat_cmp-IsAntisymmetric, slice_cmp-IsAntisymmetric}}
use Rattle.std.specs.Ordering.{eq_by_cmp, nat_cmp}
use Rattle.std.specs.FinSet as set

-- a key is in the set where it is in the tree
pub has_key : (tree : BTreeSet (List ℕ)) (key : List ℕ)
    → contains (slice_cmp nat_cmp) tree key ≡ set.contains (set.from_list {R = slice_cmp nat_cmp} tree.keys) key
has_key tree key = sym (set.contains-from_list nat_list_cmp_total tree.keys key)

either : (a b : Bool) → cond a true b ≡ (a || b)
either true b = refl
either false b = refl

-- a tree with one more key is the set with it
pub with_key : (tree more : BTreeSet (List ℕ)) (key : List ℕ) → Updates (slice_cmp nat_cmp) tree more key true
    → set.from_list {R = slice_cmp nat_cmp} more.keys ≡ set.insert (set.from_list tree.keys) key
with_key tree more key updates =
    let tied = eq_by_cmp (slice_cmp nat_cmp) in
    set.same_set nat_list_cmp_total (slice_cmp-IsAntisymmetric nat_cmp-IsAntisymmetric) _ _
    (λ q. sym (has_key more q) ∙ updates.0 q ∙ either (tied key q) (contains (slice_cmp nat_cmp) tree q)
    ∙ ap (λ b. b || contains (slice_cmp nat_cmp) tree q) ((eq_by_cmp_equiv nat_list_cmp_total).symm key q)
    ∙ ap (λ b. tied q key || b) (has_key tree q)
    ∙ sym (set.contains-insert nat_list_cmp_total (set.from_list tree.keys) key q))
