use Rattle.std.{proofs.{Common.{rules, ◌≡◌, List, ap, ◌∙◌}, lemmas.List.Sorted.answers_always}, specs.Ordering.is_lt}
use Rattle.consensus_terms.specs.{declared.signature.SignatureLine.SignatureLine, Signed.in_order}
use Rattle.consensus_text.{specs.Private.stands_before, proofs.Signatures.{identities_rank, sorted-in_order}}
use Rattle.consensus_text.proofs.signed.in_order.Goals as goal

pub returns : goal.returns
returns c =
    let by = answers_always _ (λ a r. is_lt r ≡ stands_before a.0.now a.1.0.now) _ (λ f a r g called. search rules) in
    sorted-in_order _ _ (c.in_ok-sort_by.ensures.sorted stands_before identities_rank by) (c.in_ok-sort_by.ensures.stable stands_before identities_rank by)
    ∙ ap (λ (lines : List SignatureLine). in_order lines) c.in_ok-ordered.ensures
