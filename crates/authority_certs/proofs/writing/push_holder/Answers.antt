use Rattle.std.{proofs.Common.{◌∙◌, ◌++◌, ◌∷◌, [], List, ℕ, ap, sym}, specs.Prelude.codes}
use Rattle.dir_bytes.specs.FieldTexts.{hex_text}
use Rattle.dirdoc_grammar.specs.Writing.{item_text, items_text}
use Rattle.frame_terms.specs.declared.keyword.Keyword.TheVariants as the
use Rattle.frame_values.{specs.Items.{bare, item_if}, proofs.ItemsTexts.{link, last, sections}}
use Rattle.authority_certs.proofs.writing.push_holder.Goals as goal

pub returns-clause-ok : goal.returns-clause-ok
returns-clause-ok c =
    let facts = c.args.cert.now in
    let out = c.args.out.now.items in
    let text1 : List ℕ = item_text (bare the.DirKeyCertificateVersion (codes "3")) in
    let text2 : List ℕ = items_text (item_if the.DirAddress facts.address) in
    let text3 : List ℕ = item_text (bare the.Fingerprint (hex_text facts.fingerprint.0)) in
    let at1 = c.push_bare.new.out.items in
    let at2 = c.push_if.new.out.items in
    let at3 = c.push_identity.new.out.items in
    let rest2 : List ℕ = text3 ++ [] in
    let rest1 : List ℕ = text2 ++ rest2 in
    link out text1 at1 at3 rest1 c.in_ok-push_bare.ensures.ok
    (link at1 text2 at2 at3 rest2 c.in_ok-push_if.ensures.ok
    (last at2 text3 at3 c.in_ok-push_identity.ensures.ok))
    ∙ ap (λ (l : List ℕ). out ++ (text1 ++ l))
    (sym (sections (item_if the.DirAddress facts.address) (bare the.Fingerprint (hex_text facts.fingerprint.0) ∷ [])))
