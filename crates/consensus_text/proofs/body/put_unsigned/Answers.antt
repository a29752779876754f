use Rattle.std.proofs.Common.{ℕ, Option, ap}
use Rattle.consensus_terms.specs.{Flavours.facts_at, Texts.{body, unsigned}}
use Rattle.text_page.proofs.Pages.{also, same_text}
use Rattle.consensus_text.proofs.body.put_unsigned.Goals as goal

pub returns : goal.returns
unfolding unsigned
returns c =
    let facts = c.args.consensus.now.facts in
    let said = ap (λ (moment : Option ℕ). body c.args.flavour (facts_at moment facts)) c.moment_of_all-moment.ensures.value in
    also _ _ _ _ _ (same_text _ _ _ _ said c.put_body.ensures) c.put_footer.ensures
