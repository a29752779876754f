use Rattle.std.{proofs.Common.{◌∙◌, ◌++◌, [], List, ℕ, ap, sym}, specs.Prelude.{Option, codes, option_map}}
use Rattle.dirdoc_grammar.specs.Writing.{item_text, items_text}
use Rattle.descriptor_frame.specs.declared.certificate.EdCert.{EdCert}
use Rattle.frame_terms.specs.declared.keyword.Keyword.TheVariants as the
use Rattle.frame_values.{specs.Items.with_object, proofs.ItemsTexts.last}
use Rattle.descriptor_text.specs.Texts.{certificate_bytes, object_if}
use Rattle.descriptor_text.proofs.items.push_certificate_if.Goals as goal

-- the text of a certificate's item
abbrev text_with : List ℕ → List ℕ
text_with bytes = item_text (with_object the.IdentityEd25519 [] (codes "ED25519 CERT") bytes)

pub returns-clause-ok : goal.returns-clause-ok
returns-clause-ok c =
    let out = c.args.out.now.items in
    let certificate = c.in-Some.certificate in
    let wrote = ap (λ (l : List ℕ). out ++ text_with l) c.in_ok-bytes.ensures in
    last out (text_with (certificate_bytes certificate)) c.push_with_object.new.out.items
    (c.in_ok-push_with_object.ensures.ok ∙ wrote)
    ∙ ap (λ (o : Option EdCert). out ++ items_text (object_if the.IdentityEd25519 (codes "ED25519 CERT")
    (option_map certificate_bytes o))) (sym c.in-Some.is)
