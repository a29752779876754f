-- When the family certificates of a descriptor hold, and what a verifier is asked of them (dir-spec, "Server descriptor format";
-- cert-spec).
use Rattle.std.specs.Prelude.{◌≡◌, ℕ, Bool, true, false, not, ◌&&◌, ◌||◌, List, [], ◌∷◌, ◌++◌, All}
use Rattle.std.specs.declared.option.Option.{Option, TheVariants.{Some, None}}
use Rattle.descriptor_frame.specs.declared.certificate.EdCert.{EdCert}
use Rattle.key_port.specs.{Answers.{Rules, Steps}, declared.verifier.VerifyAnswer.VerifyAnswer}
use Rattle.key_port.specs.declared.verifier.VerifyAnswer.TheVariants as answer
use Rattle.descriptor_doc.specs.Certified.{AsksCertificate, certifies, has_expired, is_signer}

-- ---- when they hold

-- whether a family certificate is of this Ed25519 identity, and has not expired when a descriptor was published
abbrev pub is_of_family : ℕ → Option EdCert → EdCert → Bool
is_of_family published certificate family = is_signer family.key certificate && not (has_expired published family)

-- A family certificate holds: it is so, and the family key's signature of it may be accepted.
pub record IsOfFamily (rules : Rules) (published : ℕ) (certificate : Option EdCert) (family : EdCert) : Type 0 where
  pub names : is_of_family published certificate family ≡ true
  pub certified : certifies rules.may_accept family ≡ true

-- each of the family certificates that are said holds, and each item says one that has to
abbrev pub AreOfFamilies : Rules → ℕ → Option EdCert → Option (List EdCert) → Type 0
AreOfFamilies rules published certificate None = ⊥
AreOfFamilies rules published certificate (Some families) = All (IsOfFamily rules published certificate) families

-- ---- why they are refused

-- whether a family certificate may be refused: it is of another identity or has expired, or its signature may be refused
abbrev pub family_refused : Rules → ℕ → Option EdCert → EdCert → Bool
family_refused rules published certificate family =
    not (is_of_family published certificate family) || certifies rules.may_refuse family

-- whether it may be accepted
abbrev pub family_accepted : Rules → ℕ → Option EdCert → EdCert → Bool
family_accepted rules published certificate family =
    is_of_family published certificate family && certifies rules.may_accept family

-- whether one of some may be refused, and each before it accepted
abbrev pub one_refused : Rules → ℕ → Option EdCert → List EdCert → Bool
one_refused rules published certificate [] = false
one_refused rules published certificate (family ∷ families) =
    family_refused rules published certificate family
    || (family_accepted rules published certificate family && one_refused rules published certificate families)

-- whether one of those that are said may be so, or an item says none that has to
abbrev pub are_families_refused : Rules → ℕ → Option EdCert → Option (List EdCert) → Bool
are_families_refused rules published certificate None = true
are_families_refused rules published certificate (Some families) = one_refused rules published certificate families

-- what a verifier answers of a family certificate, where one of another identity or that has expired is refused
abbrev pub AnswersFamily : Rules → ℕ → Option EdCert → EdCert → VerifyAnswer → Type 0
AnswersFamily rules published certificate family answer.Yes = IsOfFamily rules published certificate family
AnswersFamily rules published certificate family answer.No = family_refused rules published certificate family ≡ true
AnswersFamily rules published certificate family answer.Fault = Unit {0}

-- the same of some
abbrev pub AnswersEach : Rules → ℕ → Option EdCert → List EdCert → VerifyAnswer → Type 0
AnswersEach rules published certificate families answer.Yes = All (IsOfFamily rules published certificate) families
AnswersEach rules published certificate families answer.No = one_refused rules published certificate families ≡ true
AnswersEach rules published certificate families answer.Fault = Unit {0}

-- the same of those that are said
abbrev pub AnswersFamilies : Rules → ℕ → Option EdCert → Option (List EdCert) → VerifyAnswer → Type 0
AnswersFamilies rules published certificate families answer.Yes = AreOfFamilies rules published certificate families
AnswersFamilies rules published certificate families answer.No =
    are_families_refused rules published certificate families ≡ true
AnswersFamilies rules published certificate families answer.Fault = Unit {0}

-- ---- what the verifier is asked

-- of a family certificate of another identity, or that has expired, it is not asked; of another it is asked, and answers so
abbrev pub AsksFamily : {V : Type 0} → Steps V → ℕ → Option EdCert → EdCert → V → VerifyAnswer → V → Type 0
AsksFamily steps published certificate family old result new =
    (is_of_family published certificate family ≡ false → (new ≡ old) × (result ≡ answer.No))
    × (is_of_family published certificate family ≡ true → AsksCertificate steps family old result new)

-- it accepts each of some, one after the other
abbrev pub AcceptsEach : {V : Type 0} → Steps V → ℕ → Option EdCert → List EdCert → V → V → Type 0
AcceptsEach steps published certificate [] old new = new ≡ old
AcceptsEach {V} steps published certificate (family ∷ families) old new =
    (between : V) × AsksFamily steps published certificate family old answer.Yes between
    × AcceptsEach steps published certificate families between new

-- it accepts those before one, of which it answers so
abbrev pub AnswersAtFamily : {V : Type 0} → Steps V → ℕ → Option EdCert → List EdCert → V → VerifyAnswer → V → Type 0
AnswersAtFamily {V} steps published certificate families old result new =
    (before : List EdCert) × (family : EdCert) × (after : List EdCert) × (between : V)
    × (families ≡ before ++ family ∷ after) × AcceptsEach steps published certificate before old between
    × AsksFamily steps published certificate family between result new

-- it is asked of some, in their order, up to the first that it does not accept, and answers so
abbrev pub AsksEach : {V : Type 0} → Steps V → ℕ → Option EdCert → List EdCert → V → VerifyAnswer → V → Type 0
AsksEach steps published certificate families old answer.Yes new =
    AcceptsEach steps published certificate families old new
AsksEach steps published certificate families old answer.No new =
    AnswersAtFamily steps published certificate families old answer.No new
AsksEach steps published certificate families old answer.Fault new =
    AnswersAtFamily steps published certificate families old answer.Fault new

-- the same of those that are said; where an item says none that has to, it is not asked
abbrev pub AsksFamilies : {V : Type 0} → Steps V → ℕ → Option EdCert → Option (List EdCert) → V → VerifyAnswer → V
    → Type 0
AsksFamilies steps published certificate None old result new = (new ≡ old) × (result ≡ answer.No)
AsksFamilies steps published certificate (Some families) old result new =
    AsksEach steps published certificate families old result new
