use Rattle.std.{proofs.Common.{◌++◌, [], List, ℕ}, specs.Prelude.codes}
use Rattle.dir_bytes.specs.FieldTexts.{hex_text}
use Rattle.dirdoc_grammar.specs.Writing.{item_text}
use Rattle.frame_terms.specs.declared.keyword.Keyword.TheVariants as the
use Rattle.frame_values.{specs.Items.bare, proofs.ItemsTexts.{link, last}}
use Rattle.vote_rehearsal.proofs.certificate.push_holder.Goals as goal

pub returns : goal.returns
returns c =
    let out = c.args.out.now.items in
    let text1 : List ℕ = item_text (bare the.DirKeyCertificateVersion (codes "3")) in
    let text2 : List ℕ = item_text (bare the.Fingerprint (hex_text c.args.authority.now.identity.0)) in
    let at1 = c.push_bare.new.out.items in
    let at2 = c.push_identity.new.out.items in
    link out text1 at1 at2 (text2 ++ []) c.in_ok-push_bare.ensures.ok (last at1 text2 at2 c.in_ok-push_identity.ensures)
