use Rattle.std.proofs.Common.{◌≡◌, drop, map}
use Rattle.text_page.specs.Pages.{with_text}
use Rattle.list_values.specs.Lending.{behind_each}
use Rattle.list_values.proofs.spelled.put_behind.Given as goal

abbrev pub invariant-values : goal.invariant-values
invariant-values g l =
    with_text l.page (behind_each l.separator (map g.T.Spelled.text (drop l.value-index l.values)))
    ≡ with_text l.fn.page (behind_each l.separator (map g.T.Spelled.text l.values))
