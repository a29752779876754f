-- What a call for a signature does to the connection with a key service.
use Rattle.std.specs.{Prelude.{ℕ, ◌≡◌, ◌<◌, ◌≤◌, List, length, IfSome}, declared.option.Option.Option}
use Rattle.dir_bytes.specs.Causes.{Rose}
use Rattle.key_port.specs.{declared.signer.SignAnswer.SignAnswer, Exchanges.Comes, Requests.line_limit, Services.Asked}
use Rattle.key_port.specs.{Services.{Drops, Stays}, SignedLines.{AsksToSign, FaultsByBytes, HearsSignature}}
use Rattle.key_port.specs.SignedLines.{signed_or_fault}
use Rattle.key_port.specs.declared.signer.SignAnswer.TheVariants as sign

-- the connection is kept where the service answered, and not after a fault
abbrev pub SettlesSigning : {D C : Type 0} → (D → C → D → Type 0) → D → D → Option C → Option C → SignAnswer → Type 0
SettlesSigning takes_back before after ended now (sign.Signed signature) = Stays before after ended now
SettlesSigning takes_back before after ended now sign.Fault = Drops takes_back before after ended now
SettlesSigning takes_back before after ended now sign.Memory = Stays before after ended now

module _ {S K : Type 0} (left : S → Option (List ℕ)) (read_faults : S → ℕ) (written : K → Option (List ℕ)) (write_faults : K → ℕ) where
  -- one exchange over a connection: what was written and read, and that a fault is the service's unless an end failed
  pub record IsSigning (request : List ℕ) (old new : S × K) (result : Option SignAnswer) : Type 0 where
    pub asked : AsksToSign (written old.1) (written new.1) request (signed_or_fault result)
    pub heard : HearsSignature (left old.0) (left new.0) (signed_or_fault result)
    pub comes : Comes (left old.0) (left new.0) result
    pub exact : ¬ Rose (read_faults old.0) (read_faults new.0) → ¬ Rose (write_faults old.1) (write_faults new.1)
        → IfSome (left old.0) (λ bytes. FaultsByBytes bytes (signed_or_fault result))

  -- a request that is not too long is asked, and no answer is a fault
  pub record IsAskedToSign {D : Type 0} (gives : D → Option (S × K) → D → Type 0) (takes_back : D → S × K → D → Type 0)
      (before after : D) (stands now : Option (S × K)) (request : List ℕ) (result : SignAnswer) : Type 0 where
    pub heard : Option SignAnswer
    pub is : result ≡ signed_or_fault heard
    pub between : D
    pub ended : Option (S × K)
    pub asked : Asked (IsSigning request) gives takes_back before between stands ended heard
    pub settles : SettlesSigning takes_back between after ended now result

  abbrev pub ServesSigning : {D : Type 0} → (D → Option (S × K) → D → Type 0) → (D → S × K → D → Type 0) → D → D
      → Option (S × K) → Option (S × K) → List ℕ → SignAnswer → Type 0
  ServesSigning gives takes_back before after stands now request result =
      length request ≤ line_limit → IsAskedToSign gives takes_back before after stands now request result

-- a request that is too long is a fault: nothing is dialed, and no connection stays
abbrev pub RefusesLongSigning : {D C : Type 0} → (D → C → D → Type 0) → D → D
    → Option C → Option C → List ℕ → SignAnswer → Type 0
RefusesLongSigning takes_back before after stands now request result =
    line_limit < length request → (result ≡ sign.Fault) × Drops takes_back before after stands now
