use Rattle.std.proofs.Common.{ap}
use Rattle.consensus_terms.specs.Texts.{body, facts_text}
use Rattle.text_page.proofs.Pages.{also, same_text}
use Rattle.consensus_text.proofs.Unchanged.{same_facts}
use Rattle.consensus_text.proofs.body.put_facts.Goals as goal

pub returns : goal.returns
unfolding facts_text
returns c =
    let consensus = c.args.consensus.now in
    let read = same_text _ _ _ _ (ap (body consensus.flavour) (same_facts consensus.facts)) c.put_body.ensures in
    also _ _ _ _ _ read c.put_footer_as_read.ensures
