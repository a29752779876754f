use Rattle.std.proofs.{Common.{rules, ◌≡◌, ◌++◌, ap, ◌∙◌}, lemmas.Result.{IfErr-weaker, IfOk-weaker}}
use Rattle.sha1.specs.Sha1.{sha1}
use Rattle.vote_text.specs.Made.{signature_rest}
use Rattle.vote_maker.{specs.Made.signature_by, proofs.SignedTexts.{signed_by, too_long_by}}
use Rattle.vote_maker.proofs.signing.signed_vote.Goals as goal

pub returns-in_ok-push_signature-in-Signed-clause-signed :
    goal.returns-in_ok-push_signature-in-Signed-clause-signed
returns-in_ok-push_signature-in-Signed-clause-signed g c =
    let cert = c.args.cert.now in
    let signature = c.in-Signed.signature in
    let text = c.args.text.items in
    let its : c.as_bytes-key.result.now ≡ cert.signing_key = search rules in
    let hash : c.digest-digest.result ≡ sha1 text = search rules in
    let more : c.push_signature.new.out.items ≡ text ++ signature_rest (signature_by cert signature) = search rules in
    IfOk-weaker c.if_fits.result _ _
    (λ same is. signed_by g.N.Signer.may_give g.N.Signer.steps cert text c.as_bytes-key.result.now
    c.digest-digest.result signature _ _ _ its hash c.in-Signed.ensures.answer c.in-Signed.ensures.step
    (ap (λ v. v.items) is.0 ∙ more))
    c.if_fits.ensures.fits

pub returns-in_ok-push_signature-in-Signed-clause-refused :
    goal.returns-in_ok-push_signature-in-Signed-clause-refused
returns-in_ok-push_signature-in-Signed-clause-refused g c =
    let cert = c.args.cert.now in
    let signature = c.in-Signed.signature in
    let text = c.args.text.items in
    let its : c.as_bytes-key.result.now ≡ cert.signing_key = search rules in
    let hash : c.digest-digest.result ≡ sha1 text = search rules in
    let more : c.push_signature.new.out.items ≡ text ++ signature_rest (signature_by cert signature) = search rules in
    let signed = signed_by g.N.Signer.may_give g.N.Signer.steps cert text c.as_bytes-key.result.now
    c.digest-digest.result signature c.push_signature.new.out.items _ _ its hash c.in-Signed.ensures.answer
    c.in-Signed.ensures.step more in
    IfErr-weaker c.if_fits.result _ _
    (λ why is. too_long_by g.N.Signer.may_give g.N.Signer.steps cert text c.push_signature.new.out.items why _ _
    is.0 is.1 signed)
    c.if_fits.ensures.too_long
