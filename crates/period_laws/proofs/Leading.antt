-- A history leads where the events led, and the front counts its entries.
use Rattle.std.proofs.Common.{◌≡◌, ℕ, ◌+◌, Bool, true, false, List, [], ◌∷◌, ◌++◌, length, refl, sym, ap, ◌∙◌, subst}
use Rattle.std.proofs.{Common.{arith, Some, None, option_to_list, cond}, lemmas.Bool.false≢true}
use Rattle.consensus_terms.specs.declared.flavour.Flavour.{Flavour, TheVariants.{Ns, Microdesc}}
use Rattle.consensus_terms.specs.declared.signature.SignatureLine.{SignatureLine}
use Rattle.vote_terms.specs.Votes.{ReadVote}
use Rattle.period_terms.specs.declared.answer.{Answer.Answer, Advance.Advance, Offer.Offer, SignIn.SignIn}
use Rattle.period_terms.specs.declared.{entry.Entry.Entry, event.Event.{Event, TheVariants.{Offered, Advanced}}}
use Rattle.period_terms.specs.declared.event.{Event.TheVariants.{SignedIn, Read}, Signing.Signing}
use Rattle.period_terms.specs.declared.{signature.OfferedSignature.OfferedSignature, state.State.State}
use Rattle.period_terms.specs.{States.Outcome, Offers.offer, Advances.advance, SignIns.{sign_in, line_of, with_line}}
use Rattle.period_terms.specs.Steps.{step, changes, offer_changes, moment_changes, sign_in_changes}
use Rattle.period_terms.specs.Histories.{IsHistory, run, after, entry_of, history}
use Rattle.period_laws.specs.Periods.{HistoryLeads, FrontCounts, HistoryIsOne, HistoryGoesOn, GoesOn, FrontOfHistory}
use Rattle.period_laws.proofs.Rows.{Offering, Advancing, SigningIn, offering, advancing, signing_in, refused, had, kept}
use Rattle.period_laws.proofs.Rows.{stays, freezes, computes, gives_up, passes_over, signs, publishes, misses, begins}
use Rattle.period_laws.proofs.Rows.{refuses, keeps}

-- an event that changes nothing leaves the state; each other raises the front by one
data Effect (s : State) (passed : Bool) (next : State) : Type 0 where
  none : passed ≡ false → next ≡ s → Effect s passed next
  one : passed ≡ true → next.front ≡ s.front + 1 → Effect s passed next

of_vote : (s : State) (v : ReadVote) (o : Outcome Offer) → Offering s v o → Effect s (offer_changes o.answer) o.after
of_vote s v o row =
    let P : Outcome Offer → Type 0 = λ x. Effect s (offer_changes x.answer) x.after in
    elim row [
      | refused answer e q a ↦ subst P (sym e) (none q refl)
      | had answer h p m f n e q a ↦ subst P (sym e) (none q refl)
      | kept answer p m voting few beats e q a ↦ subst P (sym e) (one q refl)
    ]

of_moment : (s : State) (given : Signing) (o : Outcome Advance) → Advancing s given o
    → Effect s (moment_changes o.answer) o.after
of_moment s given o row =
    let P : Outcome Advance → Type 0 = λ x. Effect s (moment_changes x.answer) x.after in
    elim row [
      | stays answer e q ↦ subst P (sym e) (none q refl)
      | freezes at e ↦ subst P (sym e) (one refl refl)
      | computes at n e ↦ subst P (sym e) (one refl refl)
      | gives_up at e ↦ subst P (sym e) (one refl refl)
      | passes_over c at is e ↦ subst P (sym e) (one refl refl)
      | signs c vote ns microdesc at is f g e ↦ subst P (sym e) (one refl refl)
      | publishes c at is h e ↦ subst P (sym e) (one refl refl)
      | misses at e ↦ subst P (sym e) (one refl refl)
      | begins now next at f e ↦ subst P (sym e) (one refl refl)
    ]

same_front : (flavour : Flavour) (line : SignatureLine) (s : State) → (with_line flavour line s).front ≡ s.front
same_front Ns line s = refl
same_front Microdesc line s = refl

of_signature : (s : State) (signature : OfferedSignature) (o : Outcome SignIn) → SigningIn s signature o
    → Effect s (sign_in_changes o.answer) o.after
of_signature s signature o row =
    let P : Outcome SignIn → Type 0 = λ x. Effect s (sign_in_changes x.answer) x.after in
    elim row [
      | refuses answer e q ↦ subst P (sym e) (none q refl)
      | keeps c p is d key n open_it e ↦ subst P (sym e)
          (one refl (ap (λ (x : ℕ). x + 1) (same_front signature.flavour (line_of signature) s)))
    ]

effect : (s : State) (event : Event) → Effect s (changes (step s event).answer) (step s event).after
effect s (Offered vote via now) = of_vote s vote (offer s vote via now) (offering s vote via now)
effect s (Advanced now given) = of_moment s given (advance s now given) (advancing s now given)
effect s (SignedIn signature) = of_signature s signature (sign_in s signature) (signing_in s signature)
effect s Read = none refl refl

-- the entries of an event and those that follow
leads_by : (s next : State) (event : Event) (answer : Answer) (rest : List Entry) → next ≡ (step s event).after
    → Effect s (changes answer) next
    → after s (entry_of event answer ++ rest) ≡ after next rest
leads_by s next event answer rest is effect = elim effect [
  | none q e ↦ rw q (ap (λ (x : State). after x rest) (sym e))
  | one q e ↦ rw q (ap (λ (x : State). after x rest) (sym is))
]

leads_from : (events : List Event) (s : State) → after s (history s events) ≡ run s events
leads_from [] s = refl
leads_from (event ∷ events) s =
    leads_by s (step s event).after event (step s event).answer (history (step s event).after events) refl
    (effect s event)
    ∙ leads_from events (step s event).after

pub leads : HistoryLeads
leads start events = leads_from events start

count_by_one : (event : Event) (answer : Answer) (rest : List Entry) (s next : State) (last : ℕ)
    → Effect s (changes answer) next
    → last ≡ next.front + length rest → last ≡ s.front + length (entry_of event answer ++ rest)
count_by_one event answer rest s next last effect is = elim effect [
  | none q e ↦ rw q (is ∙ ap (λ (x : State). x.front + length rest) e)
  | one q e ↦ rw q (omega (arith, is, e))
]

counts_from : (events : List Event) (s : State) → (run s events).front ≡ s.front + length (history s events)
counts_from [] s = omega arith
counts_from (event ∷ events) s =
    count_by_one event (step s event).answer (history (step s event).after events) s (step s event).after
    (run (step s event).after events).front (effect s event)
    (counts_from events (step s event).after)

pub counts : FrontCounts
counts start events = counts_from events start

-- ---- one more entry

nil_end : (l : List Entry) → l ++ [] ≡ l
nil_end [] = refl
nil_end (e ∷ l) = ap (λ (m : List Entry). e ∷ m) (nil_end l)

push_after : (story : List Entry) (s : State) (e : Entry) → after s (story ++ e ∷ []) ≡
    (step (after s story) e.event).after
push_after [] s e = refl
push_after (x ∷ story) s e = push_after story (step s x.event).after e

push_history : (story : List Entry) (s : State) (e : Entry) → IsHistory s story
    → e.answer ≡ (step (after s story) e.event).answer → changes e.answer ≡ true
    → IsHistory s (story ++ e ∷ [])
push_history [] s e k is c = (is, c, tt)
push_history (x ∷ story) s e k is c = (k.0, k.1, push_history story (step s x.event).after e k.2 is c)

on_by : (start : State) (story : List Entry) (event : Event) (b : Bool)
    → changes (step (after start story) event).answer ≡ b
    → Effect (after start story) b (step (after start story) event).after → IsHistory start story
    → GoesOn start story event (option_to_list
    (cond b (Some (record { event = event; answer = (step (after start story) event).answer })) None))
on_by start story event true e effect k = record {
  is = push_history story start (record { event = event; answer = (step (after start story) event).answer }) k refl e;
  leads = push_after story start (record { event = event; answer = (step (after start story) event).answer });
}
on_by start story event false e effect k = record {
  is = subst (λ (l : List Entry). IsHistory start l) (sym (nil_end story)) k;
  leads = ap (λ (l : List Entry). after start l) (nil_end story) ∙ sym (same effect);
}
  where
    same : Effect (after start story) false (step (after start story) event).after
        → (step (after start story) event).after ≡ after start story
    same effect = elim effect [
      | none q is ↦ is
      | one q is ↦ absurd (false≢true q)
    ]

pub on : HistoryGoesOn
on start story event k = on_by start story event _ refl (effect (after start story) event) k

front_from : (story : List Entry) (s : State) → IsHistory s story → (after s story).front ≡ s.front + length story
front_from [] s k = omega arith
front_from (x ∷ story) s k =
    let rest = front_from story (step s x.event).after k.2 in
    let here = raised s (step s x.event).after (changes (step s x.event).answer) (ap changes (sym k.0) ∙ k.1)
    (effect s x.event) in
    omega (arith, rest, here)
  where
    raised : (s next : State) (b : Bool) → b ≡ true → Effect s b next → next.front ≡ s.front + 1
    raised s next b e effect = elim effect [
      | none q is ↦ absurd (false≢true (sym q ∙ e))
      | one q is ↦ is
    ]

pub front : FrontOfHistory
front start story k = front_from story start k

one_by : (s : State) (event : Event) (rest : List Entry) (b : Bool) → changes (step s event).answer ≡ b
    → Effect s b (step s event).after
    → IsHistory (step s event).after rest
    → IsHistory s (cond b (record { event = event; answer = (step s event).answer } ∷ []) [] ++ rest)
one_by s event rest true e effect k = (refl, e, k)
one_by s event rest false e effect k = elim effect [
  | none q is ↦ subst (λ (x : State). IsHistory x rest) is k
  | one q is ↦ absurd (false≢true q)
]

one_from : (events : List Event) (s : State) → IsHistory s (history s events)
one_from [] s = tt
one_from (event ∷ events) s = one_by s event (history (step s event).after events) _ refl (effect s event)
    (one_from events (step s event).after)

pub is_one : HistoryIsOne
is_one start events = one_from events start
