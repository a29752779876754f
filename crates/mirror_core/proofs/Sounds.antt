-- What holds of a mirror after each call.
use Rattle.std.proofs.Common.{◌≡◌, ℕ, List, length, Some, refl, sym, subst}
use Rattle.key_port.specs.Answers.{Rules}
use Rattle.authority_certs.specs.declared.cert.Cert.{Cert}
use Rattle.consensus_terms.specs.declared.consensus.SignedConsensus.{SignedConsensus}
use Rattle.detached_sigs.specs.declared.key.SignerKey.{SignerKey}
use Rattle.mirror_core.specs.{Rows.{Rows, rows_of}, Answers.{CertTally, IsSignedBy, TakesEach, no_certs_yet}}
use Rattle.mirror_core.specs.{Answers.{no_micros_yet, with_micros}, Sound.IsSound, States.{HeldConsensus, KeptCert}}
use Rattle.mirror_core.{specs.{States.{Mirrored, named, named_by}, Lending.IsMajority}, proofs.CertLaws.AreSound}
use Rattle.mirror_core.proofs.{CertLaws.each_taken, MirrorLaws.{consensus_taken, each_micro}, TakenConsensus.taken}
use Rattle.micro_desc.specs.declared.micro.Micro.{Micro}

-- after microdescriptors
pub micros_sound : (rules : Rules) (mirror : Mirrored) (micros : List (Micro × List ℕ)) (rows : Rows) → IsSound rules mirror
    → rows ≡ (with_micros (no_micros_yet mirror.rows) micros).rows → IsSound rules (record mirror { rows = rows })
micros_sound rules mirror micros rows sound is =
    let are = each_micro (named_by mirror.held) (no_micros_yet mirror.rows) micros
    (record { named = sound.named; have = sound.digests }) in
    subst (λ (r : Rows). IsSound rules (record mirror { rows = r })) (sym is)
    (record {
      checked = sound.checked;
      ascend = sound.ascend;
      signed = sound.signed;
      named = are.named;
      digests = are.have;
    })

-- after certificates
pub certs_sound : (rules : Rules) (mirror : Mirrored) (now : ℕ) (copies : List KeptCert) (certs : List (Cert × List ℕ)) (tally : CertTally)
    → IsSound rules mirror → copies ≡ mirror.certs → TakesEach rules mirror.roster now (no_certs_yet copies) certs tally
    → IsSound rules (record mirror { certs = tally.certs })
certs_sound rules mirror now copies certs tally sound is takes =
    let are : AreSound rules mirror.roster tally.certs =
    each_taken rules mirror.roster now (no_certs_yet copies) tally certs
    (subst (λ (l : List KeptCert). AreSound rules mirror.roster l) (sym is) (record { checked = sound.checked; ascend = sound.ascend })) takes in
    record {
      checked = are.checked;
      ascend = are.ascend;
      signed = sound.signed;
      named = sound.named;
      digests = sound.digests;
    }

-- after a consensus
pub consensus_sound : (rules : Rules) (mirror : Mirrored) (bytes : List ℕ) (consensus : SignedConsensus) (signers : List SignerKey)
    (count : ℕ) (held : HeldConsensus) (rows : Rows) → IsSound rules mirror → IsSignedBy rules mirror bytes consensus signers
    → IsMajority count (length signers) (length mirror.roster)
    → held ≡ record { bytes = bytes; consensus = consensus; signers = signers } → rows ≡ rows_of mirror.rows (named consensus)
    → IsSound rules (record mirror { held = Some held; rows = rows })
consensus_sound rules mirror bytes consensus signers count held rows sound signed majority held_is rows_are =
    consensus_taken rules mirror (record mirror { held = Some held; rows = rows }) bytes count sound
    (taken rules mirror (record mirror { held = Some held; rows = rows }) bytes consensus signers count held rows signed majority held_is
    rows_are refl)
