use Rattle.std.{proofs.Common.{◌++◌, [], List, ℕ, ap, ◌∙◌}, specs.Prelude.codes}
use Rattle.dirdoc_grammar.specs.Writing.{item_text}
use Rattle.frame_terms.specs.declared.keyword.Keyword.TheVariants as the
use Rattle.frame_values.{specs.Items.{bare, with_object}, proofs.ItemsTexts.{link, last}}
use Rattle.vote_rehearsal.specs.Certificates.{crosscert_of}
use Rattle.vote_rehearsal.proofs.certificate.push_last.Goals as goal

pub returns : goal.returns
returns c =
    let out = c.args.out.now.items in
    let signed = λ (s : List ℕ). item_text (with_object the.DirKeyCrosscert [] (codes "ID SIGNATURE") s) in
    let text1 : List ℕ = signed (crosscert_of c.args.authority.now) in
    let text2 : List ℕ = item_text (bare the.DirKeyCertification []) in
    let at1 = c.push_with_object.new.out.items in
    let at2 = c.push_bare.new.out.items in
    link out text1 at1 at2 (text2 ++ [])
    (c.in_ok-push_with_object.ensures.ok ∙ ap (λ (s : List ℕ). out ++ signed s) c.requires)
    (last at1 text2 at2 c.in_ok-push_bare.ensures.ok)
