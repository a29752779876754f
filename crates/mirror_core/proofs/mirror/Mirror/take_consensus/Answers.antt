use Rattle.std.proofs.Common.{ℕ, ◌≤◌, List, length, Some, refl, sym, subst}
use Rattle.key_port.specs.Answers.{rules as verifier_rules}
use Rattle.detached_sigs.specs.declared.key.SignerKey.{SignerKey}
use Rattle.mirror_core.specs.{Extent.{begin_of, consensus_part}, Lending.{IsMajority, IsUnsigned}, Sound.IsSound}
use Rattle.mirror_core.{specs.States.Mirrored, proofs.{SignerLaws.few_signers, Sounds.consensus_sound}}
use Rattle.mirror_core.proofs.TakenConsensus.{unsigned}
use Rattle.mirror_core.proofs.mirror.Mirror.take_consensus.Goals as goal

pub returns-in-Err-clause-answers : goal.returns-in-Err-clause-answers
returns-in-Err-clause-answers g c =
    let checks = verifier_rules g.V.Verifier.may_accept g.V.Verifier.may_refuse in
    let begin : ℕ = begin_of c.args.bytes.now in (
      unsigned checks c.args.self.now begin (consensus_part c.args.bytes.now) c.in-Err.why
          (subst (λ (part : List ℕ). IsUnsigned checks c.args.self.now begin part c.in-Err.why) c.consensus_part-part.ensures.part
          (subst (λ (n : ℕ). IsUnsigned checks c.args.self.now n c.consensus_part-part.result.now c.in-Err.why) c.begin_of.ensures.begin
          c.in-Err.ensures.err)),
      refl,
    )

pub majority-requires : goal.majority-requires
majority-requires g c =
    let checks = verifier_rules g.V.Verifier.may_accept g.V.Verifier.may_refuse in
    let before : Mirrored = c.args.self.now in
    let sound : IsSound checks before = subst (λ (m : Mirrored). IsSound checks m) c.self.view_is c.self.invariant in
    subst (λ (signers : List SignerKey). length signers ≤ length before.roster) (sym c.deref.ensures.value)
    (few_signers checks before c.consensus_part-part.result.now c.in-Ok.signed.consensus c.in-Ok.signed.signers.items sound.checked
    c.in-Ok.ensures.ok)

pub invariant_of-self : goal.invariant_of-self
invariant_of-self g c =
    let checks = verifier_rules g.V.Verifier.may_accept g.V.Verifier.may_refuse in
    let before : Mirrored = c.args.self.now in
    subst (λ (m : Mirrored). IsSound checks (record m { held = Some c.in-Ok-holding.held; rows = c.in-Ok-holding.shelf })) (sym c.self.view_is)
    (consensus_sound checks before c.consensus_part-part.result.now c.in-Ok.signed.consensus c.in-Ok.signed.signers.items
    c.in-Ok-majority.counted c.in-Ok-holding.held c.in-Ok-holding.shelf
    (subst (λ (m : Mirrored). IsSound checks m) c.self.view_is c.self.invariant) c.in-Ok.ensures.ok
    (subst (λ (signers : List SignerKey). IsMajority c.in-Ok-majority.counted (length signers) (length before.roster)) c.deref.ensures.value c.in-Ok-majority.ensures.ok)
    c.in-Ok-holding.ensures.held c.in-Ok-holding.ensures.rows)
