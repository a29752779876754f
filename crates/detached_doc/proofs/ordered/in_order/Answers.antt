use Rattle.std.{proofs.{Common.{rules, ◌≡◌, List, ap, ◌∙◌}, lemmas.List.Sorted.answers_always}, specs.Ordering.is_lt}
use Rattle.detached_doc.specs.{declared.detached.DetachedLine.DetachedLine, Order.{in_order, stands_before}}
use Rattle.detached_doc.proofs.Order.{identities_rank, sorted-in_order}
use Rattle.detached_doc.proofs.ordered.in_order.Goals as goal

pub returns : goal.returns
returns c =
    let by = answers_always _ (λ a r. is_lt r ≡ stands_before a.0.now a.1.0.now) _ (λ f a r g called. search rules) in
    sorted-in_order _ _ (c.in_ok-sort_by.ensures.sorted stands_before identities_rank by)
    (c.in_ok-sort_by.ensures.stable stands_before identities_rank by)
    ∙ ap (λ (lines : List DetachedLine). in_order lines) c.in_ok-ordered.ensures
