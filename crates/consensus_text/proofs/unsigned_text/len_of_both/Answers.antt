use Rattle.std.proofs.Common.{Option, Some, ap, ◌∙◌}
use Rattle.text_page.{specs.Pages.{Sheet, with_text, blank, count_of}, proofs.Pages.{also, count_is_length}}
use Rattle.consensus_terms.specs.Texts as texts
use Rattle.consensus_terms.specs.declared.flavour.Flavour.TheVariants.{Ns}
use Rattle.consensus_text.proofs.unsigned_text.len_of_both.Goals as goal

pub returns : goal.returns
returns c =
    let ns = texts.unsigned Ns c.args.consensus.now in
    let first = c.put_unsigned.ensures ∙ ap (λ (page : Option Sheet). with_text page ns) c.counting-page.ensures in
    c.count.ensures ∙ ap count_of (also (Some blank) _ _ ns _ first c.put_unsigned-2.ensures) ∙ count_is_length _
