-- What a call does to the connection with a key service.
use Rattle.std.specs.Prelude.{ℕ, ◌≡◌, ◌≢◌, ◌⊎◌, ◌<◌, ◌≤◌, List, length, IfSome, None, Some}
use Rattle.std.specs.declared.option.Option.{Option}
use Rattle.dir_bytes.specs.Causes.{Rose}
use Rattle.key_port.specs.{declared.verifier.VerifyAnswer.VerifyAnswer, Requests.line_limit, Exchanges.{Asks, Comes}}
use Rattle.key_port.specs.Exchanges.{Hears, answer_of, answer_or_fault}
use Rattle.key_port.specs.declared.verifier.VerifyAnswer.TheVariants as answer

-- over a connection there is one exchange, and without one no answer
abbrev pub Tries : {C A : Type 0} → (C → C → Option A → Type 0) → Option C → Option C → Option A → Type 0
Tries exchange (Some old) after result = (ended : _) × exchange old ended result × (after ≡ Some ended)
Tries exchange None after result = (result ≡ None) × (after ≡ None)

-- a connection that stands is given back to the dial
abbrev pub GivesBack : {D C : Type 0} → (D → C → D → Type 0) → D → D → Option C → Type 0
GivesBack takes_back before after (Some stands) = takes_back before stands after
GivesBack takes_back before after None = after ≡ before

-- the connection that stands is given back, and what stands then is what a dial gave
pub record Renews {D C : Type 0} (gives : D → Option C → D → Type 0) (takes_back : D → C → D → Type 0)
    (before after : D) (stands now : Option C) : Type 0 where
  pub between : D
  pub back : GivesBack takes_back before between stands
  pub dialed : gives between now after

-- what is asked twice: over the connection that stood no byte of an answer came, or none stood, and then over a new one
pub record AsksAgain {D C A : Type 0} (exchange : C → C → Option A → Type 0) (gives : D → Option C → D → Type 0)
    (takes_back : D → C → D → Type 0) (before after : D) (stands ended : Option C) (result : Option A) : Type 0 where
  pub tried : Option C
  pub in_vain : Tries exchange stands tried None
  pub dialed : Option C
  pub renews : Renews gives takes_back before after tried dialed
  pub again : Tries exchange dialed ended result

-- a request is asked over the connection that stands, and over a new one only where no byte of an answer came
abbrev pub Asked : {D C A : Type 0} → (C → C → Option A → Type 0) → (D → Option C → D → Type 0) → (D → C → D → Type 0)
    → D → D → Option C → Option C → Option A → Type 0
Asked exchange gives takes_back before after stands ended result =
    ((result ≢ None) × Tries exchange stands ended result × (after ≡ before))
    ⊎ AsksAgain exchange gives takes_back before after stands ended result

-- a connection that answered is kept
abbrev pub Stays : {D C : Type 0} → D → D → Option C → Option C → Type 0
Stays before after ended now = (after ≡ before) × (now ≡ ended)

-- after a fault it is given back, and none stays
abbrev pub Drops : {D C : Type 0} → (D → C → D → Type 0) → D → D → Option C → Option C → Type 0
Drops takes_back before after ended now = GivesBack takes_back before after ended × (now ≡ None)

-- the connection is kept where the service answered, and not after a fault
abbrev pub Settles : {D C : Type 0} → (D → C → D → Type 0) → D → D → Option C → Option C → VerifyAnswer → Type 0
Settles takes_back before after ended now answer.Yes = Stays before after ended now
Settles takes_back before after ended now answer.No = Stays before after ended now
Settles takes_back before after ended now answer.Fault = Drops takes_back before after ended now

module _ {S K : Type 0} (left : S → Option (List ℕ)) (read_faults : S → ℕ) (written : K → Option (List ℕ)) (write_faults : K → ℕ) where
  -- one exchange over a connection: what was written and read, and which answer there is unless an end failed
  pub record IsExchange (request : List ℕ) (old new : S × K) (result : Option VerifyAnswer) : Type 0 where
    pub asked : Asks (written old.1) (written new.1) request (answer_or_fault result)
    pub heard : Hears (left old.0) (left new.0) (answer_or_fault result)
    pub comes : Comes (left old.0) (left new.0) result
    pub exact : ¬ Rose (read_faults old.0) (read_faults new.0) → ¬ Rose (write_faults old.1) (write_faults new.1)
        → IfSome (left old.0) (λ bytes. answer_or_fault result ≡ answer_of bytes)

  -- a request that is not too long is asked, and no answer is a fault
  pub record IsAsked {D : Type 0} (gives : D → Option (S × K) → D → Type 0) (takes_back : D → S × K → D → Type 0)
      (before after : D) (stands now : Option (S × K)) (request : List ℕ) (result : VerifyAnswer) : Type 0 where
    pub heard : Option VerifyAnswer
    pub is : result ≡ answer_or_fault heard
    pub between : D
    pub ended : Option (S × K)
    pub asked : Asked (IsExchange request) gives takes_back before between stands ended heard
    pub settles : Settles takes_back between after ended now result

  abbrev pub Serves : {D : Type 0} → (D → Option (S × K) → D → Type 0) → (D → S × K → D → Type 0) → D → D
      → Option (S × K) → Option (S × K) → List ℕ → VerifyAnswer → Type 0
  Serves gives takes_back before after stands now request result =
      length request ≤ line_limit → IsAsked gives takes_back before after stands now request result

-- a request that is too long is a fault: nothing is dialed, and no connection stays
abbrev pub RefusesLong : {D C : Type 0} → (D → C → D → Type 0) → D → D
    → Option C → Option C → List ℕ → VerifyAnswer → Type 0
RefusesLong takes_back before after stands now request result =
    line_limit < length request → (result ≡ answer.Fault) × Drops takes_back before after stands now
