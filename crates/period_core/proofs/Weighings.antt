-- What is told of a signature settles its outcome.
use Rattle.std.proofs.Common.{◌≡◌, ℕ, ◌+◌, ◌==◌, Bool, true, false, List, Option, Some, None, refl, sym, ap, ◌∙◌, subst}
use Rattle.std.{proofs.Common.{bytes_eq, length}, specs.Prelude.option_map}
use Rattle.dir_values.{specs.Rosters.has_member, proofs.Orders.same_text}
use Rattle.consensus_terms.specs.declared.{consensus.Consensus.Consensus, flavour.Flavour.{Flavour, TheVariants.Ns}}
use Rattle.consensus_terms.specs.{declared.flavour.Flavour.TheVariants.Microdesc, Texts.unsigned}
use Rattle.period_terms.specs.declared.{answer.SignIn.SignIn, signature.OfferedSignature.OfferedSignature}
use Rattle.period_terms.specs.{declared.state.State.State, States.{Outcome, is_ended, has_key, digest_of, lines_of}}
use Rattle.period_terms.specs.{States.has_line, SignIns.{sign_in, sign_in_over, keep_signature}}
use Rattle.period_terms.proofs.DigestSizes.{ns_size, micro_size}
use Rattle.period_terms.specs.declared.answer.SignIn.TheVariants as answers
use Rattle.period_core.specs.{declared.weighing.Weighed.{Weighed, TheVariants.{Refused, Fits}}, Standing.AreHeld}
use Rattle.period_core.specs.Weighing.{digest_size, weighed_signature, weighed_over, settled_signature}
use Rattle.period_core.proofs.Holding.{key_of_member}

over_by : (d k h e : Bool) (s : State) (x : OfferedSignature) (c : Consensus)
    → bytes_eq x.digest (digest_of x.flavour c) ≡ d → has_key s.votes x.authority x.key ≡ k
    → has_line (lines_of x.flavour s) x.authority ≡ h → is_ended s.stage ≡ e → sign_in_over s x (Some c) ≡ settled_signature s x
    (weighed_over s x (Some (digest_of x.flavour c)))
over_by false k h e s x c i j l m = rw i refl
over_by true false h e s x c i j l m = rw (i, j) refl
over_by true true true e s x c i j l m = rw (i, j, l) refl
over_by true true false true s x c i j l m = rw (i, j, l, m) refl
over_by true true false false s x c i j l m = rw (i, j, l, m) refl

over_settles : (computed : Option Consensus) (s : State) (x : OfferedSignature) → sign_in_over s x computed ≡ settled_signature
    s x (weighed_over s x (option_map (digest_of x.flavour) computed))
over_settles None s x = refl
over_settles (Some c) s x = over_by _ _ _ _ s x c refl refl refl refl

sign_in_by : (a : Bool) (s : State) (x : OfferedSignature) → (x.valid_after == s.valid_after) ≡ a
    → sign_in s x ≡ settled_signature s x (weighed_signature s x)
unfolding sign_in
sign_in_by false s x e = rw e refl
sign_in_by true s x e = rw e (over_settles s.computed s x)

-- the outcome of a signature is that of what is told of it
pub settles : (s : State) (x : OfferedSignature) → sign_in s x ≡ settled_signature s x (weighed_signature s x)
settles s x = sign_in_by _ s x refl

-- what is known of a signature that is to be held, where what is computed has this digest
pub record MayHold (s : State) (x : OfferedSignature) (ours : Option (List ℕ)) : Type 0 where
  pub key : has_key s.votes x.authority x.key ≡ true
  pub none : has_line (lines_of x.flavour s) x.authority ≡ false
  pub digest : Some x.digest ≡ ours

abbrev HoldsIf : State → OfferedSignature → Option (List ℕ) → Weighed → Type 0
HoldsIf s x ours (Refused answer) = Unit {0}
HoldsIf s x ours Fits = MayHold s x ours

over_may : (d k h e : Bool) (s : State) (x : OfferedSignature) (ours : List ℕ) → bytes_eq x.digest ours ≡ d
    → has_key s.votes x.authority x.key ≡ k → has_line (lines_of x.flavour s) x.authority ≡ h → is_ended s.stage ≡ e
    → HoldsIf s x (Some ours) (weighed_over s x (Some ours))
over_may false k h e s x ours i j l m = rw i tt
over_may true false h e s x ours i j l m = rw (i, j) tt
over_may true true true e s x ours i j l m = rw (i, j, l) tt
over_may true true false true s x ours i j l m = rw (i, j, l, m) tt
over_may true true false false s x ours i j l m =
    rw (i, j, l, m) (record { key = j; none = l; digest = ap Some (same_text x.digest ours i) })

option_may : (ours : Option (List ℕ)) (s : State) (x : OfferedSignature) → HoldsIf s x ours (weighed_over s x ours)
option_may None s x = tt
option_may (Some ours) s x = over_may _ _ _ _ s x ours refl refl refl refl

weighed_by : (a : Bool) (s : State) (x : OfferedSignature) → (x.valid_after == s.valid_after) ≡ a
    → HoldsIf s x (option_map (digest_of x.flavour) s.computed) (weighed_signature s x)
weighed_by false s x e = rw e tt
weighed_by true s x e = rw e (option_may (option_map (digest_of x.flavour) s.computed) s x)

fits_may : (s : State) (x : OfferedSignature) (w : Weighed) → w ≡ weighed_signature s x → w ≡ Fits
    → MayHold s x (option_map (digest_of x.flavour) s.computed)
fits_may s x w e i = subst (HoldsIf s x (option_map (digest_of x.flavour) s.computed)) (sym e ∙ i)
    (weighed_by _ s x refl)

-- a digest of a flavour has its size
size_of : (flavour : Flavour) (c : Consensus) → length (digest_of flavour c) ≡ digest_size flavour
size_of Ns c = ns_size (unsigned Ns c)
size_of Microdesc c = micro_size (unsigned Microdesc c)

size_by : (computed : Option Consensus) (flavour : Flavour) (digest : List ℕ) → Some digest ≡ option_map
    (digest_of flavour) computed
    → length digest ≡ digest_size flavour
size_by None flavour digest e = absurd cc
size_by (Some c) flavour digest e = let same : digest ≡ digest_of flavour c = cc in ap length same ∙ size_of flavour c

-- ---- the exits

pub fits_member : (s : State) (x : OfferedSignature) (w : Weighed) → w ≡ weighed_signature s x → w ≡ Fits
    → AreHeld s.roster s.votes → has_member s.roster x.authority ≡ true
fits_member s x w e i a = key_of_member s.roster s.votes x.authority x.key a (fits_may s x w e i).key

pub refused_answer : (s : State) (x : OfferedSignature) (w : Weighed) (answer : SignIn) → w ≡ weighed_signature s x
    → w ≡ Refused answer → answer ≡ (sign_in s x).answer
refused_answer s x w answer e i = sym (ap (λ (o : Outcome SignIn). o.answer) (settles s x ∙ ap (settled_signature s x)
    (sym e ∙ i)))

pub refused_state : (s : State) (x : OfferedSignature) (w : Weighed) (answer : SignIn) → w ≡ weighed_signature s x
    → w ≡ Refused answer → s ≡ (sign_in s x).after
refused_state s x w answer e i = sym (ap (λ (o : Outcome SignIn). o.after) (settles s x ∙ ap (settled_signature s x) (sym e ∙ i)))

pub fits_answer : (s next : State) (x : OfferedSignature) (w : Weighed) (front : ℕ) → w ≡ weighed_signature s x → w ≡ Fits
    → next ≡ (keep_signature s x).after → front ≡ next.front → next.front ≡ s.front + 1
    → answers.Kept front ≡ (sign_in s x).answer
fits_answer s next x w front e i n f p = ap answers.Kept (f ∙ p) ∙ sym (ap (λ (o : Outcome SignIn). o.answer)
    (settles s x ∙ ap (settled_signature s x) (sym e ∙ i)))

pub fits_state : (s next : State) (x : OfferedSignature) (w : Weighed) → w ≡ weighed_signature s x → w ≡ Fits
    → next ≡ (keep_signature s x).after → next ≡ (sign_in s x).after
fits_state s next x w e i n = n ∙ sym (ap (λ (o : Outcome SignIn). o.after) (settles s x ∙ ap (settled_signature s x)
    (sym e ∙ i)))

pub fits_size : (s : State) (x : OfferedSignature) (w : Weighed) → w ≡ weighed_signature s x → w ≡ Fits
    → length x.digest ≡ digest_size x.flavour
fits_size s x w e i = size_by s.computed x.flavour x.digest (fits_may s x w e i).digest
