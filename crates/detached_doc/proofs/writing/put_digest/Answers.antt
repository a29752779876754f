use Rattle.std.proofs.Common.{ℕ, List, ◌++◌, ◌∷◌, ap, ◌∙◌}
use Rattle.dir_bytes.specs.FieldTexts.{hex_text}
use Rattle.frame_terms.specs.Keywords.{text_of}
use Rattle.frame_terms.specs.declared.keyword.Keyword.TheVariants as the
use Rattle.text_page.proofs.Pages.{same_text}
use Rattle.detached_doc.{specs.Private.digest_text, proofs.Rests.digest_put}
use Rattle.detached_doc.proofs.writing.put_digest.Goals as goal

pub returns : goal.returns
unfolding digest_text
returns c =
    let d = c.args.digest.now in
    let keyword = text_of the.AdditionalDigest in
    let words =
    same_text _ _ _ _
    (ap (λ (f : List ℕ). keyword ++ 32 ∷ (f ++ 32 ∷ c.as_bytes-2.result.now)) c.as_bytes.ensures
    ∙ ap (λ (a : List ℕ). keyword ++ 32 ∷ (d.flavour ++ 32 ∷ a)) c.as_bytes-2.ensures) c.put_two_words.ensures in
    let digest = same_text _ _ _ _ (ap hex_text c.as_bytes-3.ensures) c.put_hex_bytes.ensures in
    digest_put _ _ _ _ _ keyword d.flavour d.algorithm (hex_text d.digest) words c.put.ensures digest c.put-2.ensures
