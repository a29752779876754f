use Rattle.std.{proofs.Common.{◌≡◌, ◌∙◌, ◌++◌, [], List, ℕ, ap}, specs.Prelude.codes}
use Rattle.dirdoc_grammar.specs.Writing.{item_text}
use Rattle.frame_terms.specs.declared.keyword.Keyword.TheVariants as the
use Rattle.frame_values.{specs.Items.{bare, with_object}, proofs.ItemsTexts.{link, last}}
use Rattle.vote_text.specs.Texts.{signer_text}
use Rattle.vote_text.proofs.writing.push_footer.Goals as goal

pub returns-clause-ok : goal.returns-clause-ok
returns-clause-ok c =
    let facts = c.args.signature.now in
    let out = c.args.out.now.items in
    let text1 : List ℕ = item_text (bare the.DirectoryFooter []) in
    let text2 : List ℕ = item_text (with_object the.DirectorySignature (signer_text facts) (codes "SIGNATURE") facts.signature) in
    let at1 = c.push_bare.new.out.items in
    let at2 = c.push_with_object.new.out.items in
    let rest_is : c.deref.result.now ≡ signer_text facts =
    c.deref.ensures.value ∙ c.in_ok-push_signer.ensures.ok ∙ ap (λ (l : List ℕ). l ++ signer_text facts) c.new-rest.ensures.items in
    let wrote2 : at2 ≡ at1 ++ text2 =
    c.in_ok-push_with_object.ensures.ok ∙ ap (λ (rest : List ℕ). at1 ++ item_text (with_object the.DirectorySignature rest (codes "SIGNATURE") facts.signature)) rest_is in
    let rest1 : List ℕ = text2 ++ [] in
    link out text1 at1 at2 rest1 c.in_ok-push_bare.ensures.ok
    (last at1 text2 at2 wrote2)
