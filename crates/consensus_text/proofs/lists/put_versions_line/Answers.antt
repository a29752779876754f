use Rattle.std.{proofs.Common.{Bool, sym, ap, ◌∙◌}, specs.Prelude.{not, ◌||◌}}
use Rattle.list_values.specs.VersionLists.{versions_text}
use Rattle.text_page.proofs.Pages.{also, same_text, with_text-nothing}
use Rattle.consensus_text.proofs.Joined.{line_by, no_line_by}
use Rattle.consensus_text.proofs.lists.put_versions_line.Goals as goal

pub returns-then-has_line : goal.returns-then-has_line
returns-then-has_line c =
    let stands = ap (λ (empty : Bool). c.args.always || not empty) (sym c.is_empty.ensures) ∙ sym c.has_line.ensures ∙ c.if-has_line.true in
    same_text _ _ _ _ (line_by versions_text _ c.args.always c.args.versions.now stands)
    (also _ _ _ _ _
    (also _ _ _ _ _ (also _ _ _ _ _ c.put.ensures c.put-then-has_line.ensures) c.put-then-has_line-2.ensures)
    c.put-then-has_line-3.ensures)

pub returns-else-has_line : goal.returns-else-has_line
returns-else-has_line c =
    let none = ap (λ (empty : Bool). c.args.always || not empty) (sym c.is_empty.ensures) ∙ sym c.has_line.ensures ∙ c.if-has_line.false in
    same_text _ _ _ _ (no_line_by versions_text _ c.args.always c.args.versions.now none) (sym (with_text-nothing _))
