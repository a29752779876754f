use Rattle.std.{proofs.Common.{◌≡◌, List, ℕ, ap, sym, subst, ◌∙◌}, specs.Prelude.IfOk}
use Rattle.detached_doc.specs.{declared.detached.DetachedLine.DetachedLine, Order.in_order, Private.parts}
use Rattle.detached_doc.proofs.WholeTexts.{whole_text}
use Rattle.detached_doc.proofs.writing.write.Goals as goal

pub returns : goal.returns
returns c =
    let d = c.args.detached.now in
    let lines_are =
    c.deref.ensures.value ∙ c.in_ok-lines.ensures ∙ ap (λ (l : List DetachedLine). in_order l) c.as_slice.ensures in
    subst (λ (text : List ℕ). IfOk c.text_of.result (λ out. out.items ≡ text))
    (ap (λ (l : List DetachedLine). parts d l) lines_are ∙ sym (whole_text d (in_order d.signatures))) c.text_of.ensures
