use Rattle.std.{proofs.Common.{map, refl, ap, sym, ◌∙◌}, specs.List.join_with_byte}
use Rattle.text_page.proofs.Pages.{also, same_text, no_list}
use Rattle.list_values.proofs.Joining.{join-cons}
use Rattle.list_values.proofs.spelled.put_joined.Goals as goal

pub returns-in-None : goal.returns-in-None
returns-in-None g c = no_list _ (λ l. join_with_byte c.args.separator (map g.T.Spelled.text l)) _ refl c.in-None.ensures.cases

pub returns-in-Some : goal.returns-in-Some
returns-in-Some g c =
    let text = g.T.Spelled.text in
    let separator = c.args.separator in
    let whole = sym (join-cons separator (text c.in-Some.first.now) (map text c.in-Some.rest.now)) in
    same_text _ _ _ _ (whole ∙ ap (λ l. join_with_byte separator (map text l)) (sym c.in-Some.ensures.cases.0))
    (also _ _ _ _ _ c.put.ensures c.put_behind.ensures)
