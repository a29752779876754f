-- What the documents are that a mirror gives.
use Rattle.std.specs.{Prelude.{◌≡◌, ℕ, List, All}, List.flat_map}
use Rattle.dir_values.specs.declared.digest.Fingerprint.{Fingerprint}
use Rattle.key_port.specs.Answers.{Rules}
use Rattle.mirror_core.specs.{Sound.{IsByMajority, IsChecked}, States.{HeldConsensus, KeptCert}}

-- A text is a consensus that more than half of a roster signed, each counted once.
pub record IsSignedText (rules : Rules) (roster : List Fingerprint) (text : List ℕ) : Type 0 where
  pub held : HeldConsensus
  pub text_is : text ≡ held.bytes
  pub signed : IsByMajority rules roster held

-- A text is certificates of members of a roster, each of which held at some moment.
pub record AreCheckedTexts (rules : Rules) (roster : List Fingerprint) (text : List ℕ) : Type 0 where
  pub certs : List KeptCert
  pub text_is : text ≡ flat_map (λ (kept : KeptCert). kept.bytes) certs
  pub checked : All (IsChecked rules roster) certs
