-- A certificate that holds at a moment fails none of its clauses then.
use Rattle.std.proofs.{Common.{◌≡◌, ℕ, ◌≤◌, ◌<◌, Bool, true, false, refl, sym, ap, ◌∙◌, arith}, lemmas.Bool.false≢true}
use Rattle.std.specs.Prelude.{◌≢◌}
use Rattle.key_port.specs.Answers.{Rules}
use Rattle.authority_certs.specs.{Checks.{Checks, certifies, crosscertifies, names_its_key}, declared.cert.Cert.Cert}
use Rattle.authority_certs.specs.declared.checking.CertAnswer.{CertAnswer}
use Rattle.authority_certs.specs.declared.checking.CertAnswer.TheVariants as answer
use Rattle.station_commands.specs.Answerable.{HoldsAt}
use Rattle.serve_command.specs.{Starting.RefusesCertificate, Told.cert_refused}
use Rattle.serve_command.specs.declared.refusal.ServeRefusal.{ServeRefusal}
use Rattle.serve_command.specs.declared.refusal.ServeRefusal.TheVariants as refusal

-- a test does not fail that passes
not_so : (test : Bool) → test ≡ false → test ≡ true → ⊥
not_so test fails passes = false≢true (sym fails ∙ passes)

-- what expires later has not expired
not_past : (at moment expires : ℕ) → moment ≡ at → expires ≤ moment → at < expires → ⊥
not_past at moment expires same past before = omega arith

-- it is at most the verifier that failed
never_fails : (rules : Rules) (at moment : ℕ) (certificate : Cert) (found : CertAnswer) → moment ≡ at
    → HoldsAt rules at certificate → found ≢ answer.Checked → Checks rules moment certificate found
    → found ≡ answer.VerifierFault
never_fails rules at moment certificate answer.Checked same holds fails checks = absurd (fails refl)
never_fails rules at moment certificate answer.WrongFingerprint same holds fails checks =
    absurd (not_so (names_its_key certificate) checks holds.certified.current.fingerprint)
never_fails rules at moment certificate (answer.Expired then expires) same holds fails checks =
    absurd (not_past at moment certificate.expires same checks.1 holds.certified.current.expires)
never_fails rules at moment certificate answer.BadCertification same holds fails checks =
    absurd (not_so (certifies rules.may_refuse certificate) holds.certification checks.1)
never_fails rules at moment certificate answer.BadCrosscert same holds fails checks =
    absurd (not_so (crosscertifies rules.may_refuse certificate) holds.crosscert checks.2)
never_fails rules at moment certificate answer.VerifierFault same holds fails checks = refl

-- so what is told of the certificate is the verifier's
pub of_certificate : (rules : Rules) (at moment : ℕ) (certificate : Cert) (why : ServeRefusal) → moment ≡ at
    → HoldsAt rules at certificate → RefusesCertificate rules moment certificate why → why ≡ refusal.Verifier
of_certificate rules at moment certificate why same holds refuses =
    refuses.told
    ∙ ap cert_refused
    (never_fails rules at moment certificate refuses.found same holds refuses.fails refuses.checks)
