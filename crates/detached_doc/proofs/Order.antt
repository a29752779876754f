-- A stable sort by identity puts signatures in their order.
use Rattle.std.proofs.{Common.{◌≡◌, List, [], ◌∷◌, refl, sym, ap, ◌∙◌}, lemmas.Cmp.nat_list_cmp_total}
use Rattle.std.{proofs.lemmas.List.MinMax.ranks_by, specs.{Prelude.if◌then◌else◌, Cmp.IsStrictWeakOrder, List.fold}}
use Rattle.std.specs.List.Sorted.{IsSortedBy, IsStableBy}
use Rattle.consensus_text.proofs.{Signatures.less_is_lt, StableOrder.{inserted, sorted-inserted}}
use Rattle.detached_doc.specs.{declared.detached.DetachedLine.DetachedLine, Order.{in_order, stands_before, with_line}}

-- identities are ordered
pub identities_rank : IsStrictWeakOrder stands_before
identities_rank =
    let rank = ranks_by nat_list_cmp_total (λ (line : DetachedLine). line.line.identity.0) in
    record {
      one_way = λ x y p. less_is_lt _ ∙ rank.one_way x y (sym (less_is_lt _) ∙ p);
      chain = λ x y z p q. less_is_lt _ ∙ rank.chain x y z (sym (less_is_lt _) ∙ p) (sym (less_is_lt _) ∙ q);
    }

with_line-inserted : (lines : List DetachedLine) (line : DetachedLine)
    → with_line lines line ≡ inserted stands_before lines line
with_line-inserted [] line = refl
with_line-inserted (first ∷ rest) line =
    ap (λ (l : List DetachedLine). if stands_before line first then line ∷ first ∷ rest else first ∷ l)
    (with_line-inserted rest line)

same_fold : (before lines : List DetachedLine)
    → fold with_line before lines ≡ fold (inserted stands_before) before lines
same_fold before [] = refl
same_fold before (line ∷ lines) =
    ap (λ (l : List DetachedLine). fold with_line l lines) (with_line-inserted before line)
    ∙ same_fold (inserted stands_before before line) lines

-- a stable sort by identity puts them in order
pub sorted-in_order : (lines ordered : List DetachedLine) → IsSortedBy stands_before ordered
    → IsStableBy stands_before lines ordered → ordered ≡ in_order lines
sorted-in_order lines ordered sorted stable =
    sorted-inserted stands_before identities_rank lines ordered sorted stable ∙ sym (same_fold [] lines)
