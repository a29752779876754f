use Rattle.std.proofs.Common.{subst, Err}
use Rattle.key_port.specs.Answers.{rules}
use Rattle.period_core.{specs.{declared.signing.Unsigned.Unsigned, Signing.SignsBoth}, proofs.Owns.gives_nothing}
use Rattle.period_core.proofs.Owns.{gives_no_vote, gives_signer, gives_verifier, gives_refused, gives_signed}
use Rattle.period_core.proofs.state.PeriodState.own_signing.Goals as goal

pub returns-in_default-clause-gives : goal.returns-in_default-clause-gives
returns-in_default-clause-gives g c = gives_nothing _ _ c.args.self.now c.requires c.in_default.ensures

pub returns-in_default-own_key-clause-gives : goal.returns-in_default-own_key-clause-gives
returns-in_default-own_key-clause-gives g c = gives_no_vote _ _ c.args.self.now c.in-Some.made.now c.requires
    c.in-Some.ensures c.in_default-own_key.ensures

pub returns-in-Ok-own_lines-clause-gives : goal.returns-in-Ok-own_lines-clause-gives
returns-in-Ok-own_lines-clause-gives g c =
    gives_signed _ _ c.args.self.now c.in-Some.made.now c.in-Some-own_key.key.now c.in-Ok.ns c.in-Ok.microdesc
    c.of_two.result c.sha1.result.now c.sha256.result.now c.own.result c.in-Ok-own_lines.ns
    c.in-Ok-own_lines.microdesc
    c.requires c.in-Some.ensures c.in-Some-own_key.ensures c.in-Ok.ensures.signs c.own.ensures
    c.in-Ok-own_lines.ensures c.of_two.ensures c.sha1.ensures c.sha256.ensures

pub returns-in-Err-SignerFails-clause-gives : goal.returns-in-Err-SignerFails-clause-gives
returns-in-Err-SignerFails-clause-gives g c = gives_signer _ _ c.args.self.now c.in-Some.made.now
    c.in-Some-own_key.key.now c.requires c.in-Some.ensures c.in-Some-own_key.ensures

pub returns-in-Err-VerifierFails-clause-gives : goal.returns-in-Err-VerifierFails-clause-gives
returns-in-Err-VerifierFails-clause-gives g c = gives_verifier _ _ c.args.self.now c.in-Some.made.now
    c.in-Some-own_key.key.now c.requires c.in-Some.ensures c.in-Some-own_key.ensures

pub returns-in-Err-Refused-clause-gives : goal.returns-in-Err-Refused-clause-gives
returns-in-Err-Refused-clause-gives g c = rw c.in-Err-Refused.field-0-is (gives_refused _ _ c.args.self.now
    c.in-Some.made.now c.in-Some-own_key.key.now c.in-Err-Refused.digest c.requires c.in-Some.ensures
    c.in-Some-own_key.ensures
    (subst (λ (u : Unsigned). SignsBoth g.N.Signer.may_give (rules g.V.Verifier.may_accept g.V.Verifier.may_refuse)
    c.in-Some-own_key.key.now c.in-Some.made.now (Err u)) c.in-Err-Refused.field-0-is
    c.in-Err-Refused.ensures.signs))
