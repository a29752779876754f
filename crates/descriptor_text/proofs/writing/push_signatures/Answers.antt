use Rattle.std.{proofs.Common.{◌∙◌, ◌++◌, ◌∷◌, [], List, ℕ, ap, sym}, specs.Prelude.{codes, option_map}}
use Rattle.dirdoc_grammar.specs.Writing.{NewItem, item_text, items_text}
use Rattle.frame_terms.specs.declared.keyword.Keyword.TheVariants as the
use Rattle.frame_values.{specs.Items.{item_if, with_object}, proofs.ItemsTexts.{last, link, sections}}
use Rattle.descriptor_text.specs.Lines.{ed_signature_text}
use Rattle.descriptor_text.proofs.writing.push_signatures.Goals as goal

pub returns-clause-ok : goal.returns-clause-ok
returns-clause-ok c =
    let d = c.args.descriptor.now in
    let out = c.args.out.now.items in
    let ed : List NewItem = item_if the.RouterSigEd25519 (option_map ed_signature_text d.router_sig_ed25519) in
    let rsa : NewItem = with_object the.RouterSignature [] (codes "SIGNATURE") d.router_signature in
    let at1 = c.push_ed_signature_if.new.out.items in
    let at2 = c.push_with_object.new.out.items in
    link out (items_text ed) at1 at2 (item_text rsa ++ []) c.in_ok-push_ed_signature_if.ensures.ok
    (last at1 (item_text rsa) at2 c.in_ok-push_with_object.ensures.ok)
    ∙ ap (λ (l : List ℕ). out ++ l) (sym (sections ed (rsa ∷ [])))
