use Rattle.std.proofs.Common.{rules, ap, sym, ◌∙◌}
use Rattle.text_page.specs.Pages.{with_text}
use Rattle.list_values.proofs.Putting.{behind_more, behind_none}
use Rattle.list_values.proofs.spelled.put_behind.Goals as goal

pub values-preserved : goal.values-preserved
values-preserved g c =
    let text = g.T.Spelled.text in
    behind_more text c.args.separator _ _ c.args.values.now c.values.value-index c.value-item.result c.values-test.true c.value-item.is
    (c.put-in-values.ensures ∙ ap (λ page. with_text page (text c.value-item.result)) c.put.ensures) ∙ c.values.invariant

pub returns : goal.returns
returns g c =
    sym (behind_none g.T.Spelled.text c.args.separator c.values.page c.args.values.now c.values.value-index (search rules)) ∙ c.values.invariant
