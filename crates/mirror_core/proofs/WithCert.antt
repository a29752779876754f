-- Certificates with one more.
use Rattle.std.proofs.{Common.{◌≡◌, List, [], ◌∷◌, ◌++◌, ap, ◌∙◌}, lemmas.List.append_assoc}
use Rattle.dir_values.specs.declared.digest.Fingerprint.{Fingerprint}
use Rattle.mirror_core.specs.{Answers.with_cert, States.KeptCert, Lending.{above, below}}

-- those of smaller fingerprints, the new one, and those of greater ones
pub joined : (certs : List KeptCert) (new : KeptCert) (authority : Fingerprint) (none front more all : List KeptCert)
    → authority ≡ new.cert.fingerprint → none ≡ [] → front ≡ none ++ below authority certs → more ≡ front ++ new ∷ []
    → all ≡ more ++ above authority certs → all ≡ with_cert certs new
joined certs new authority none front more all is none_is front_is more_is all_is =
    all_is ∙ ap (λ (l : List KeptCert). l ++ above authority certs) (more_is ∙ ap (λ (l : List KeptCert). l ++ new ∷ [])
    (front_is ∙ ap (λ (l : List KeptCert). l ++ below authority certs) none_is))
    ∙ append_assoc (below authority certs) (new ∷ []) (above authority certs)
    ∙ ap (λ (a : Fingerprint). below a certs ++ new ∷ above a certs) is
