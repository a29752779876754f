use Rattle.std.{proofs.Common.{◌++◌, [], List, ℕ}, specs.Prelude.codes}
use Rattle.dirdoc_grammar.specs.Writing.{item_text}
use Rattle.frame_terms.specs.declared.keyword.Keyword.TheVariants as the
use Rattle.frame_values.{specs.Items.{moment_item, with_object}, proofs.ItemsTexts.{link, last}}
use Rattle.authority_certs.proofs.writing.push_keys.Goals as goal

pub returns-clause-ok : goal.returns-clause-ok
returns-clause-ok c =
    let facts = c.args.cert.now in
    let out = c.args.out.now.items in
    let text1 : List ℕ = item_text (with_object the.DirIdentityKey [] (codes "RSA PUBLIC KEY") facts.identity_key) in
    let text2 : List ℕ = item_text (moment_item the.DirKeyPublished facts.published) in
    let text3 : List ℕ = item_text (moment_item the.DirKeyExpires facts.expires) in
    let text4 : List ℕ = item_text (with_object the.DirSigningKey [] (codes "RSA PUBLIC KEY") facts.signing_key) in
    let at1 = c.push_with_object.new.out.items in
    let at2 = c.push_timed.new.out.items in
    let at3 = c.push_timed-2.new.out.items in
    let at4 = c.push_with_object-2.new.out.items in
    let rest3 : List ℕ = text4 ++ [] in
    let rest2 : List ℕ = text3 ++ rest3 in
    let rest1 : List ℕ = text2 ++ rest2 in
    link out text1 at1 at4 rest1 c.in_ok-push_with_object.ensures.ok
    (link at1 text2 at2 at4 rest2 c.in_ok-push_timed.ensures.ok
    (link at2 text3 at3 at4 rest3 c.in_ok-push_timed-2.ensures.ok
    (last at3 text4 at4 c.in_ok-push_with_object-2.ensures.ok)))
