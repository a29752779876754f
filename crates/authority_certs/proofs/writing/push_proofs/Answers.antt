use Rattle.std.{proofs.Common.{◌++◌, [], List, ℕ}, specs.Prelude.codes}
use Rattle.dirdoc_grammar.specs.Writing.{item_text}
use Rattle.frame_terms.specs.declared.keyword.Keyword.TheVariants as the
use Rattle.frame_values.{specs.Items.with_object, proofs.ItemsTexts.{link, last}}
use Rattle.authority_certs.proofs.writing.push_proofs.Goals as goal

pub returns-clause-ok : goal.returns-clause-ok
returns-clause-ok c =
    let facts = c.args.cert.now in
    let out = c.args.out.now.items in
    let text1 : List ℕ = item_text (with_object the.DirKeyCrosscert [] (codes "ID SIGNATURE") facts.crosscert) in
    let text2 : List ℕ = item_text (with_object the.DirKeyCertification [] (codes "SIGNATURE") facts.certification) in
    let at1 = c.push_with_object.new.out.items in
    let at2 = c.push_with_object-2.new.out.items in
    let rest1 : List ℕ = text2 ++ [] in
    link out text1 at1 at2 rest1 c.in_ok-push_with_object.ensures.ok
    (last at1 text2 at2 c.in_ok-push_with_object-2.ensures.ok)
