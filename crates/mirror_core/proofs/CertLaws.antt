-- The certificates that are kept.
use Rattle.std.proofs.Common.{◌≡◌, ℕ, Bool, true, false, List, [], ◌∷◌, ◌++◌, filter, refl, inl, inr, subst, sym, ap}
use Rattle.std.proofs.{Common.◌∙◌, lemmas.List.Elements.{All-head, All-tail, All-cons, All-append, All-weaker}}
use Rattle.std.{proofs.lemmas.List.{Elements.{All-filter, filter_passes}, Kept.AllPairs-filter}, specs.Prelude.All}
use Rattle.std.specs.Prelude.{AllPairs, ◌&&◌, ◌⊎◌}
use Rattle.dir_values.proofs.Orders.{below-trans, AllPairs-cons, AllPairs-head, AllPairs-tail}
use Rattle.dir_values.specs.{Digests.identity_below, Rosters.has_member, declared.digest.Fingerprint.Fingerprint}
use Rattle.key_port.specs.Answers.{Rules}
use Rattle.authority_certs.specs.{Checks.{Checks, IsCertified}, declared.cert.Cert.Cert}
use Rattle.authority_certs.specs.declared.checking.CertAnswer.{CertAnswer}
use Rattle.authority_certs.specs.declared.checking.CertAnswer.TheVariants as checked
use Rattle.mirror_core.specs.Answers.{CertTally, TakesCert, TakesChecked, TakesEach, as_kept, cert_for, is_later, keeps}
use Rattle.mirror_core.specs.{Answers.{refuses, skips, with_cert}, Sound.{CertsAscend, IsChecked}, States.KeptCert}

-- a certificate comes before another
abbrev Before : KeptCert → KeptCert → Type 0
Before one other = identity_below one.cert.fingerprint other.cert.fingerprint ≡ true

AllPairs-append : {X : Type 0} (R : X → X → Type 0) (xs ys : List X) → AllPairs R xs → AllPairs R ys
    → All (λ x. All (R x) ys) xs → AllPairs R (xs ++ ys)
AllPairs-append R [] ys front back across = back
AllPairs-append R (x ∷ xs) ys front back across =
    AllPairs-cons R x (xs ++ ys)
    (All-append (R x) xs ys (AllPairs-head R x xs front) (All-head (λ x. All (R x) ys) x xs across))
    (AllPairs-append R xs ys (AllPairs-tail R x xs front) back (All-tail (λ x. All (R x) ys) x xs across))

-- they ascend with one more
pub ascends : (certs : List KeptCert) (new : KeptCert) → CertsAscend certs → CertsAscend (with_cert certs new)
ascends certs new up =
    let below = λ (kept : KeptCert). identity_below kept.cert.fingerprint new.cert.fingerprint in
    let above = λ (kept : KeptCert). identity_below new.cert.fingerprint kept.cert.fingerprint in
    let behind : List KeptCert = filter above certs in
    let behind_new : All (Before new) behind = filter_passes above certs in
    AllPairs-append Before (filter below certs) (new ∷ behind) (AllPairs-filter Before below certs up)
    (AllPairs-cons Before new behind behind_new (AllPairs-filter Before above certs up))
    (All-weaker (λ (kept : KeptCert). Before kept new) (λ (kept : KeptCert). All (Before kept) (new ∷ behind))
    (λ kept before. All-cons (Before kept) new behind before
    (All-weaker (Before new) (Before kept)
    (λ other after. below-trans kept.cert.fingerprint.0 new.cert.fingerprint.0 other.cert.fingerprint.0 before after) behind behind_new))
    (filter below certs) (filter_passes below certs))

-- what holds of those that were kept and of one more holds of all
pub with_one : (P : KeptCert → Type 0) (certs : List KeptCert) (new : KeptCert) → All P certs → P new → All P (with_cert certs new)
with_one P certs new all one =
    let below = λ (kept : KeptCert). identity_below kept.cert.fingerprint new.cert.fingerprint in
    let above = λ (kept : KeptCert). identity_below new.cert.fingerprint kept.cert.fingerprint in
    All-append P (filter below certs) (new ∷ filter above certs) (All-filter below P certs all)
    (All-cons P new (filter above certs) one (All-filter above P certs all))

-- Certificates of members that were checked, ascending.
pub record AreSound (rules : Rules) (roster : List Fingerprint) (certs : List KeptCert) : Type 0 where
  pub checked : All (IsChecked rules roster) certs
  pub ascend : CertsAscend certs

first_of : (a b : Bool) → (a && b) ≡ true → a ≡ true
first_of true b is = refl
first_of false b is = is

of_tally : (rules : Rules) (roster : List Fingerprint) (before after next : CertTally) → AreSound rules roster before.certs
    → after ≡ next → next.certs ≡ before.certs → AreSound rules roster after.certs
of_tally rules roster before after next sound is same =
    subst (λ (certs : List KeptCert). AreSound rules roster certs) (sym (ap (λ (tally : CertTally). tally.certs) is ∙ same)) sound

one_kept : (rules : Rules) (roster : List Fingerprint) (now : ℕ) (before after : CertTally) (new : KeptCert)
    → AreSound rules roster before.certs → has_member roster new.cert.fingerprint ≡ true → IsCertified rules now new.cert
    → after ≡ keeps before new → AreSound rules roster after.certs
one_kept rules roster now before after new sound member certified is =
    subst (λ (tally : CertTally). AreSound rules roster tally.certs) (sym is)
    (record {
      checked = with_one (IsChecked rules roster) before.certs new sound.checked
          (record { at = now; member = member; certified = certified });
      ascend = ascends before.certs new sound.ascend;
    })

by_answer : (rules : Rules) (roster : List Fingerprint) (now : ℕ) (before after : CertTally) (new : KeptCert)
    (answer : CertAnswer) → AreSound rules roster before.certs → has_member roster new.cert.fingerprint ≡ true
    → Checks rules now new.cert answer → TakesChecked before new answer after → AreSound rules roster after.certs
by_answer rules roster now before after new checked.Checked sound member holds is =
    one_kept rules roster now before after new sound member holds is
by_answer rules roster now before after new checked.WrongFingerprint sound member holds is = of_tally rules roster before after (refuses before) sound is refl
by_answer rules roster now before after new (checked.Expired at expires) sound member holds is = of_tally rules roster before after (refuses before) sound is refl
by_answer rules roster now before after new checked.BadCertification sound member holds is = of_tally rules roster before after (refuses before) sound is refl
by_answer rules roster now before after new checked.BadCrosscert sound member holds is = of_tally rules roster before after (refuses before) sound is refl
by_answer rules roster now before after new checked.VerifierFault sound member holds is = absurd is

-- they are so after one certificate more
pub one_taken : (rules : Rules) (roster : List Fingerprint) (now : ℕ) (before after : CertTally) (new : KeptCert)
    → AreSound rules roster before.certs → TakesCert rules roster now before new after → AreSound rules roster after.certs
one_taken rules roster now before after new sound (inl (passed, is)) = of_tally rules roster before after (skips before) sound is refl
one_taken rules roster now before after new sound (inr (looked, answer, holds, is)) =
    by_answer rules roster now before after new answer sound
    (first_of (has_member roster new.cert.fingerprint) (is_later (cert_for before.certs new.cert.fingerprint) new.cert) looked)
    holds is

-- and after each
pub each_taken : (rules : Rules) (roster : List Fingerprint) (now : ℕ) (before after : CertTally) (certs : List (Cert × List ℕ))
    → AreSound rules roster before.certs → TakesEach rules roster now before certs after → AreSound rules roster after.certs
each_taken rules roster now before after [] sound is = of_tally rules roster before after before sound is refl
each_taken rules roster now before after (one ∷ more) sound takes =
    each_taken rules roster now takes.0 after more (one_taken rules roster now before takes.0 (as_kept one) sound takes.1) takes.2
