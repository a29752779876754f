-- What a verifier answers of family certificates, one after the other.
use Rattle.std.proofs.Common.{◌≡◌, ℕ, ◌+◌, ◌<◌, Bool, true, false, List, [], ◌∷◌, ◌++◌, length, take, drop, get_or}
use Rattle.std.proofs.{Common.{refl, sym, ap, ◌∙◌, subst}, lemmas.List.{take_more, drop_more, take-append-drop}}
use Rattle.std.{proofs.lemmas.List.Elements.{All-head, All-push, All-tail}, specs.Prelude.{◌||◌, ◌&&◌, All, Option}}
use Rattle.key_port.specs.{Answers.{CountsAnswers, Rules, Steps}, declared.verifier.VerifyAnswer.VerifyAnswer}
use Rattle.key_port.specs.declared.verifier.VerifyAnswer.TheVariants as answer
use Rattle.descriptor_frame.specs.declared.certificate.EdCert.{EdCert}
use Rattle.descriptor_doc.specs.{Certified.certifies, Families.{AcceptsEach, AnswersAtFamily, AsksFamily, IsOfFamily}}
use Rattle.descriptor_doc.specs.Families.{family_accepted, family_refused, one_refused}

-- ---- a list and one of its items

-- the items so far and the next one
taken : {X : Type 0} (xs : List X) (i : ℕ) (x : X) → i < length xs → x ≡ get_or xs i x
    → take (i + 1) xs ≡ take i xs ++ x ∷ []
taken xs i x lt is = take_more xs i x lt ∙ ap (λ y. take i xs ++ y ∷ []) (sym is)

-- the whole is the items before one, that one and those behind it
parted : {X : Type 0} (xs : List X) (i : ℕ) (x : X) → i < length xs → x ≡ get_or xs i x
    → xs ≡ take i xs ++ x ∷ drop (i + 1) xs
parted xs i x lt is =
    sym (take-append-drop i xs)
    ∙ ap (λ r. take i xs ++ r) (drop_more xs i x lt ∙ ap (λ y. y ∷ drop (i + 1) xs) (sym is))

-- ---- the count of faults

-- an answer behind others at which the count stood still
pub counted_on : (before between now : ℕ) (result : VerifyAnswer) → between ≡ before → CountsAnswers between now result
    → CountsAnswers before now result
counted_on before between now result same counts = subst (λ (n : ℕ). CountsAnswers n now result) same counts

module _ (rules : Rules) (published : ℕ) (certificate : Option EdCert) where
  -- ---- what is answered

  -- one more holds
  pub hold_next : (families : List EdCert) (i : ℕ) (family : EdCert) → i < length families → family ≡ get_or families i family
      → All (IsOfFamily rules published certificate) (take i families) → IsOfFamily rules published certificate family
      → All (IsOfFamily rules published certificate) (take (i + 1) families)
  hold_next families i family lt is hold holds =
      subst (λ (l : List EdCert). All (IsOfFamily rules published certificate) l) (sym (taken families i family lt is))
      (All-push (IsOfFamily rules published certificate) (take i families) family hold holds)

  -- one that holds may be accepted
  accepted : (family : EdCert) → IsOfFamily rules published certificate family
      → family_accepted rules published certificate family ≡ true
  accepted family is =
      ap (λ (b : Bool). b && certifies_it) is.names ∙ is.certified
    where
      certifies_it : Bool
      certifies_it = certifies rules.may_accept family

  -- a later one, where each before it may be accepted
  later : (refused taken_ more : Bool) → taken_ ≡ true → more ≡ true → (refused || (taken_ && more)) ≡ true
  later true taken_ more first second = refl
  later false taken_ more first second = ap (λ (b : Bool). b && more) first ∙ second

  -- the first one
  here : (refused rest : Bool) → refused ≡ true → (refused || rest) ≡ true
  here refused rest is = ap (λ (b : Bool). b || rest) is

  -- one may be refused, behind others that hold
  refused_in : (before : List EdCert) (family : EdCert) (after : List EdCert)
      → All (IsOfFamily rules published certificate) before → family_refused rules published certificate family ≡ true
      → one_refused rules published certificate (before ++ family ∷ after) ≡ true
  refused_in [] family after hold is =
      here (family_refused rules published certificate family)
      (family_accepted rules published certificate family && one_refused rules published certificate after) is
  refused_in (first ∷ before) family after hold is =
      later (family_refused rules published certificate first) (family_accepted rules published certificate first)
      (one_refused rules published certificate (before ++ family ∷ after))
      (accepted first (All-head (IsOfFamily rules published certificate) first before hold))
      (refused_in before family after (All-tail (IsOfFamily rules published certificate) first before hold) is)

  pub refused_at : (families : List EdCert) (i : ℕ) (family : EdCert) → i < length families
      → family ≡ get_or families i family → All (IsOfFamily rules published certificate) (take i families)
      → family_refused rules published certificate family ≡ true → one_refused rules published certificate families ≡ true
  refused_at families i family lt is hold refused =
      ap (λ (l : List EdCert). one_refused rules published certificate l) (parted families i family lt is)
      ∙ refused_in (take i families) family (drop (i + 1) families) hold refused

module _ {V : Type 0} (steps : Steps V) (published : ℕ) (certificate : Option EdCert) where
  -- ---- what is asked

  accepts_more : (before : List EdCert) (family : EdCert) (old between new : V)
      → AcceptsEach steps published certificate before old between
      → AsksFamily steps published certificate family between answer.Yes new
      → AcceptsEach steps published certificate (before ++ family ∷ []) old new
  accepts_more [] family old between new accepts asks =
      (new, subst (λ v. AsksFamily steps published certificate family v answer.Yes new) accepts asks, refl)
  accepts_more (first ∷ before) family old between new accepts asks =
      (accepts.0, accepts.1, accepts_more before family accepts.0 between new accepts.2 asks)

  -- one more is accepted
  pub accepts_next : (families : List EdCert) (i : ℕ) (family : EdCert) (old between new : V) → i < length families
      → family ≡ get_or families i family → AcceptsEach steps published certificate (take i families) old between
      → AsksFamily steps published certificate family between answer.Yes new
      → AcceptsEach steps published certificate (take (i + 1) families) old new
  accepts_next families i family old between new lt is accepts asks =
      subst (λ (l : List EdCert). AcceptsEach steps published certificate l old new) (sym (taken families i family lt is))
      (accepts_more (take i families) family old between new accepts asks)

  -- those before one are accepted, and of that it answers
  pub answers_at : (families : List EdCert) (i : ℕ) (family : EdCert) (old between new : V) (result : VerifyAnswer)
      → i < length families → family ≡ get_or families i family
      → AcceptsEach steps published certificate (take i families) old between
      → AsksFamily steps published certificate family between result new
      → AnswersAtFamily steps published certificate families old result new
  answers_at families i family old between new result lt is accepts asks =
      (take i families, family, drop (i + 1) families, between, parted families i family lt is, accepts, asks)
