use Rattle.std.{proofs.Common.{◌∙◌, ◌++◌, ◌∷◌, [], List, ℕ, ap, sym}, specs.Prelude.option_map}
use Rattle.dir_bytes.specs.FieldTexts.{base64_text}
use Rattle.dirdoc_grammar.specs.Writing.{NewItem, item_text, items_text}
use Rattle.frame_terms.specs.declared.keyword.Keyword.TheVariants as the
use Rattle.frame_values.{specs.Items.{item_if, with_object}, proofs.ItemsTexts.{link, sections}}
use Rattle.descriptor_text.specs.Texts.{object_if, rsa_words}
use Rattle.descriptor_text.proofs.writing.push_keys.Goals as goal

pub returns-clause-ok : goal.returns-clause-ok
returns-clause-ok c =
    let d = c.args.descriptor.now in
    let out = c.args.out.now.items in
    let onion : List NewItem = object_if the.OnionKey rsa_words d.onion_key in
    let signing : NewItem = with_object the.SigningKey [] rsa_words d.signing_key in
    let ntor : List NewItem = item_if the.NtorOnionKey (option_map base64_text d.ntor_onion_key) in
    let at1 = c.push_object_if.new.out.items in
    let at2 = c.push_with_object.new.out.items in
    let at3 = c.push_key_if.new.out.items in
    link out (items_text onion) at1 at3 (item_text signing ++ items_text ntor) c.in_ok-push_object_if.ensures.ok
    (link at1 (item_text signing) at2 at3 (items_text ntor) c.in_ok-push_with_object.ensures.ok c.in_ok-push_key_if.ensures.ok)
    ∙ ap (λ (l : List ℕ). out ++ l) (sym (sections onion (signing ∷ ntor)))
