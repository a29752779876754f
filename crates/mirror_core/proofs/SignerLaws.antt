-- Who signed the consensus that is held.
use Rattle.std.proofs.Common.{◌≡◌, ℕ, ◌≤◌, true, List, [], ◌∷◌, length, subst, sym, ◌∙◌, arith, refl}
use Rattle.std.{proofs.lemmas.List.Elements.{All-nil, All-head, All-tail, All-cons, All-contains}, specs.Prelude.All}
use Rattle.std.specs.Prelude.{AllPairs, Option, Some, None}
use Rattle.count_terms.specs.Counts.{over}
use Rattle.dir_values.specs.declared.digest.Fingerprint.{Fingerprint}
use Rattle.key_port.specs.Answers.{Rules}
use Rattle.consensus_terms.specs.declared.consensus.SignedConsensus.{SignedConsensus}
use Rattle.consensus_terms.specs.declared.signature.SignatureLine.{SignatureLine}
use Rattle.detached_sigs.specs.{Signers.AreApart, declared.key.SignerKey.SignerKey}
use Rattle.mirror_core.specs.{Answers.IsSignedBy, Signers.{SignedPart, key_of, keys_of, sha256_lines}, Sound.HaveLines}
use Rattle.mirror_core.specs.{Sound.{IsByMajority, IsCertifiedKey, IsChecked}, States.{KeptCert, Mirrored}}
use Rattle.mirror_core.proofs.Members.{IsOfMember, few}

-- what holds of the key of each checked certificate holds of their keys
of_keys : (P : SignerKey → Type 0) (rules : Rules) (roster : List Fingerprint) (certs : List KeptCert)
    → ((kept : KeptCert) → IsChecked rules roster kept → P (key_of kept)) → All (IsChecked rules roster) certs
    → All P (keys_of certs)
of_keys P rules roster [] each all = All-nil P
of_keys P rules roster (kept ∷ certs) each all =
    All-cons P (key_of kept) (keys_of certs) (each kept (All-head (IsChecked rules roster) kept certs all))
    (of_keys P rules roster certs each (All-tail (IsChecked rules roster) kept certs all))

-- What is known of those that signed.
pub record AreCounted (rules : Rules) (roster : List Fingerprint) (lines : List SignatureLine) (bytes : List ℕ)
    (part : Option (ℕ × ℕ)) (signers : List SignerKey) : Type 0 where
  pub members : All (IsOfMember roster) signers
  pub certified : All (IsCertifiedKey rules) signers
  pub once : AllPairs AreApart signers
  pub signed : HaveLines rules bytes part lines signers

none_counted : (rules : Rules) (roster : List Fingerprint) (lines : List SignatureLine) (bytes : List ℕ)
    → AreCounted rules roster lines bytes None []
none_counted rules roster lines bytes = record {
  members = All-nil (IsOfMember roster);
  certified = All-nil (IsCertifiedKey rules);
  once = λ i j d lt in_list. absurd (omega arith);
  signed = refl;
}

-- they are members, one of each authority, with certified keys, and have lines
pub counted : (rules : Rules) (roster : List Fingerprint) (certs : List KeptCert) (lines : List SignatureLine)
    (bytes : List ℕ) (part : Option (ℕ × ℕ)) (signers : List SignerKey) → All (IsChecked rules roster) certs
    → SignedPart rules (keys_of certs) lines bytes part signers → AreCounted rules roster lines bytes part signers
counted rules roster certs lines bytes None signers checked are =
    subst (λ (s : List SignerKey). AreCounted rules roster lines bytes None s) (sym are) (none_counted rules roster lines bytes)
counted rules roster certs lines bytes (Some (begin, end)) signers checked are = record {
  members = among (IsOfMember roster) (λ kept is. is.member);
  certified = among (IsCertifiedKey rules) (λ kept is. record {
    cert = kept.cert;
    at = is.at;
    certified = is.certified;
    authority_is = refl;
    key_is = refl;
  });
  once = are.once;
  signed = are.signed;
}
  where
    among : (P : SignerKey → Type 0) → ((kept : KeptCert) → IsChecked rules roster kept → P (key_of kept)) → All P signers
    among P each = λ k d lt.
        All-contains P (keys_of certs) _ (of_keys P rules roster certs each checked) (are.members k d lt)

-- those that signed a consensus are so
counted_of : (rules : Rules) (mirror : Mirrored) (bytes : List ℕ) (consensus : SignedConsensus) (signers : List SignerKey)
    → All (IsChecked rules mirror.roster) mirror.certs → IsSignedBy rules mirror bytes consensus signers
    → AreCounted rules mirror.roster (sha256_lines consensus.signatures) bytes consensus.signed signers
counted_of rules mirror bytes consensus signers checked signed =
    counted rules mirror.roster mirror.certs (sha256_lines consensus.signatures) bytes consensus.signed signers checked
    signed.signers_are

-- the consensus is by a majority
pub by_majority : (rules : Rules) (mirror : Mirrored) (bytes : List ℕ) (consensus : SignedConsensus) (signers : List SignerKey)
    (count : ℕ) → All (IsChecked rules mirror.roster) mirror.certs → IsSignedBy rules mirror bytes consensus signers
    → count ≡ length signers → over count (length mirror.roster) ≡ true
    → IsByMajority rules mirror.roster (record { bytes = bytes; consensus = consensus; signers = signers })
by_majority rules mirror bytes consensus signers count checked signed count_is majority =
    let are = counted_of rules mirror bytes consensus signers checked signed in
    record {
      microdesc = signed.microdesc;
      members = are.members;
      certified = are.certified;
      once = are.once;
      lines = are.signed;
      majority = subst (λ (n : ℕ). over n (length mirror.roster) ≡ true) count_is majority;
    }

-- there are no more signers than members
pub few_signers : (rules : Rules) (mirror : Mirrored) (bytes : List ℕ) (consensus : SignedConsensus)
    (signers : List SignerKey) → All (IsChecked rules mirror.roster) mirror.certs
    → IsSignedBy rules mirror bytes consensus signers → length signers ≤ length mirror.roster
few_signers rules mirror bytes consensus signers checked signed =
    let are = counted_of rules mirror bytes consensus signers checked signed in
    few mirror.roster signers are.members are.once
