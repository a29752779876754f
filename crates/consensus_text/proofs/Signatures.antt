-- Signatures in their order.
use Rattle.std.proofs.Common.{◌≡◌, ℕ, List, [], ◌∷◌, ◌++◌, append_assoc, refl, sym, ap, ◌∙◌}
use Rattle.std.{proofs.lemmas.{Cmp.nat_list_cmp_total, List.MinMax.ranks_by}, specs.Prelude.if◌then◌else◌}
use Rattle.std.specs.{declared.cmp.Ordering.{Ordering, TheVariants.{Less, Equal, Greater}}, Cmp.IsStrictWeakOrder}
use Rattle.std.specs.{List.{fold, Sorted.{IsSortedBy, IsStableBy}}, Ordering.is_lt}
use Rattle.dir_values.specs.Digests.{is_less}
use Rattle.consensus_terms.specs.{declared.signature.SignatureLine.SignatureLine, Signed.{with_line, in_order}}
use Rattle.consensus_text.{specs.Private.stands_before, proofs.StableOrder.{inserted, sorted-inserted}}

pub less_is_lt : (r : Ordering) → is_less r ≡ is_lt r
less_is_lt Less = refl
less_is_lt Equal = refl
less_is_lt Greater = refl

-- identities are ordered
pub identities_rank : IsStrictWeakOrder stands_before
identities_rank =
    let rank = ranks_by nat_list_cmp_total (λ (line : SignatureLine). line.identity.0) in
    record {
      one_way = λ x y p. less_is_lt _ ∙ rank.one_way x y (sym (less_is_lt _) ∙ p);
      chain = λ x y z p q. less_is_lt _ ∙ rank.chain x y z (sym (less_is_lt _) ∙ p) (sym (less_is_lt _) ∙ q);
    }

with_line-inserted : (lines : List SignatureLine) (line : SignatureLine) → with_line lines line ≡ inserted stands_before lines line
with_line-inserted [] line = refl
with_line-inserted (first ∷ rest) line =
    ap (λ (l : List SignatureLine). if stands_before line first then line ∷ first ∷ rest else first ∷ l) (with_line-inserted rest line)

same_fold : (before lines : List SignatureLine) → fold with_line before lines ≡ fold (inserted stands_before) before lines
same_fold before [] = refl
same_fold before (line ∷ lines) =
    ap (λ (l : List SignatureLine). fold with_line l lines) (with_line-inserted before line) ∙ same_fold (inserted stands_before before line) lines

-- a stable sort by identity puts them in order
pub sorted-in_order : (lines ordered : List SignatureLine) → IsSortedBy stands_before ordered → IsStableBy stands_before lines ordered → ordered ≡ in_order lines
sorted-in_order lines ordered sorted stable = sorted-inserted stands_before identities_rank lines ordered sorted stable ∙ sym (same_fold [] lines)

-- a line and the object behind it
pub with_object : (out line object before after : List ℕ) → before ≡ out ++ line ++ 10 ∷ [] → after ≡ before ++ object → after ≡ out ++ (line ++ 10 ∷ object)
with_object out line object before after p q = q ∙ ap (λ (l : List ℕ). l ++ object) p ∙ simp append_assoc

pub ruleset identities = (less_is_lt)
