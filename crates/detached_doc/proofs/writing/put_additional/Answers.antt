use Rattle.std.{proofs.Common.{ℕ, List, ◌++◌, ◌∷◌, ap}, specs.Prelude.codes}
use Rattle.dir_bytes.specs.FieldTexts.{hex_text}
use Rattle.dirdoc_grammar.specs.Bodies.{object_text}
use Rattle.frame_terms.specs.Keywords.{text_of}
use Rattle.frame_terms.specs.declared.keyword.Keyword.TheVariants as the
use Rattle.text_page.proofs.Pages.{same_text}
use Rattle.detached_doc.proofs.Rests.{additional_put}
use Rattle.detached_doc.proofs.writing.put_additional.Goals as goal

pub returns : goal.returns
returns c =
    let line = c.args.line.now in
    let flavour = c.args.flavour.now in
    let keyword = text_of the.AdditionalSignature in
    let words =
    same_text _ _ _ _ (ap (λ (a : List ℕ). keyword ++ 32 ∷ (flavour ++ 32 ∷ a)) c.as_bytes.ensures)
    c.put_two_words.ensures in
    let object =
    same_text _ _ _ _ (ap (λ (b : List ℕ). object_text (codes "SIGNATURE") b) c.as_bytes-2.ensures)
    c.put_object.ensures in
    additional_put _ _ _ _ keyword flavour line.algorithm (hex_text line.identity.0) (hex_text line.key_digest.0)
    (object_text (codes "SIGNATURE") line.signature) words c.put_signer.ensures object
