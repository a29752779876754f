use Rattle.std.proofs.Common.{rules}
use Rattle.text_page.proofs.Pages.{capacity_kept}
use Rattle.consensus_terms.specs.Texts as texts
use Rattle.consensus_text.proofs.unsigned_text.write_unsigned.Goals as goal

pub returns-clause-capacity : goal.returns-clause-capacity
returns-clause-capacity c =
    let text = texts.unsigned c.args.flavour c.args.consensus.now in
    capacity_kept c.put_unsigned.new.page c.args.out.now.items text c.in-Some.bytes.items _ _ _ _ (search rules) c.args.out.now.ok.0
    c.in-Some.bytes.ok.0 c.requires.room c.in-Some.ensures.text c.in-Some.ensures.room
