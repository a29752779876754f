-- Signatures that are offered one after the other.
use Rattle.std.proofs.Common.{◌≡◌, ℕ, ◌+◌, ◌≤◌, length, List, [], ◌∷◌, ◌++◌, Bool, true, false, cond, refl, subst}
use Rattle.std.{proofs.{Common.arith, lemmas.List.{length_push, Sums.sum_by-append}}, specs.Int.from_bool}
use Rattle.key_port.specs.Answers.{Rules}
use Rattle.period_terms.specs.declared.answer.{Answer.TheVariants.Signature, SignIn.SignIn}
use Rattle.period_terms.specs.declared.{event.Event.TheVariants.SignedIn, signature.OfferedSignature.OfferedSignature}
use Rattle.serve_board.specs.Boards.{Locks, Parts, Makes}
use Rattle.serve_answers.specs.Handling.{SignsEach, SignsHeld, is_held}

as_number : (b : Bool) → from_bool b ≡ cond b 1 0
as_number true = refl
as_number false = refl

-- no more are held than were offered
pub few_more : {X : Type 0} (b : Bool) (held more : ℕ) (offered : List X) (last : X) → held ≤ length offered
    → more ≡ from_bool b → held + more ≤ length (offered ++ last ∷ [])
few_more true held more offered last few one = omega (arith, few, one, length_push offered last)
few_more false held more offered last few one = omega (arith, few, one, length_push offered last)

module _ (rules : Rules) (board : Locks) where
  each_more : (a b c : Parts) (signatures : List OfferedSignature) (answers : List SignIn) (last : OfferedSignature)
      (answer : SignIn) → SignsEach rules board a signatures b answers
      → Makes rules board b c (SignedIn last) (Signature answer)
      → SignsEach rules board a (signatures ++ last ∷ []) c (answers ++ answer ∷ [])
  each_more a b c [] [] last answer each makes =
      (c, subst (λ (p : Parts). Makes rules board p c (SignedIn last) (Signature answer)) each makes, refl)
  each_more a b c [] (y ∷ ys) last answer each makes = absurd each
  each_more a b c (x ∷ xs) [] last answer each makes = absurd each
  each_more a b c (x ∷ xs) (y ∷ ys) last answer each makes =
      (each.0, each.1, each_more each.0 b c xs ys last answer each.2 makes)

  -- one more
  pub signs_more : (a b c : Parts) (signatures : List OfferedSignature) (last : OfferedSignature) (answer : SignIn)
      (held more : ℕ) → SignsHeld rules board a signatures b held
      → Makes rules board b c (SignedIn last) (Signature answer)
      → more ≡ from_bool (is_held answer) → SignsHeld rules board a (signatures ++ last ∷ []) c (held + more)
  signs_more a b c signatures last answer held more signs makes one = (
    signs.0 ++ answer ∷ [],
    each_more a b c signatures signs.0 last answer signs.1 makes,
    omega (
      arith,
      signs.2,
      one,
      as_number (is_held answer),
      sum_by-append (λ (x : SignIn). cond (is_held x) 1 0) signs.0 (answer ∷ []),
    ),
  )
