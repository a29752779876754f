-- The numbers of changes.
use Rattle.std.proofs.Common.{◌≡◌, ℕ, ◌+◌, ◌==◌, nat_le, Bool, true, false, not, cond, List, [], ◌∷◌, ◌++◌, length}
use Rattle.std.proofs.Common.{Option, Some, None, bytes_eq, refl, sym, ap, ◌∙◌, subst, arith, option_to_list}
use Rattle.std.proofs.{Common.length-append, lemmas.List.length-map}
use Rattle.key_port.specs.Answers.{Rules}
use Rattle.dir_values.specs.Rosters.{has_member}
use Rattle.vote_terms.specs.{Votes.{ReadVote, rank_of}, Held.outranks}
use Rattle.consensus_terms.specs.declared.consensus.Consensus.{Consensus}
use Rattle.period_lock.{specs.Turns.{Lock, Knowledge, entries}, proofs.Entries.entries-entry_by}
use Rattle.period_terms.specs.declared.answer.Answer.{Answer, TheVariants.{Vote, Moment, Signature, Reading}}
use Rattle.period_terms.specs.declared.{answer.{Offer.Offer, SignIn.SignIn}, entry.Entry.Entry, event.Event.Event}
use Rattle.period_terms.specs.declared.event.{Event.TheVariants.{Offered, SignedIn}, Via.Via}
use Rattle.period_terms.specs.declared.{signature.OfferedSignature.OfferedSignature, state.State.State}
use Rattle.period_terms.specs.{Histories.{IsHistory, after, entry_if}, Offers.{offer, compared_vote, kept_vote}}
use Rattle.period_terms.specs.{Offers.{is_late, with_vote, most_vote_changes}, SignIns.{sign_in, sign_in_over}}
use Rattle.period_terms.specs.{SignIns.keep_signature, States.{Outcome, unchanged_outcome, vote_of, digest_of, has_key}}
use Rattle.period_terms.specs.{States.{has_line, lines_of, is_ended}, Steps.step}
use Rattle.period_terms.specs.declared.answer.Offer.TheVariants as offers
use Rattle.period_terms.specs.declared.answer.SignIn.TheVariants as signs
use Rattle.period_laws.specs.Checked.{IsCheckedHistory}
use Rattle.period_laws.proofs.Leading as leading
use Rattle.serve_board.specs.{Boards.{IsNumber, answer_at, position_of_offer, position_of_sign_in}, Turns.TakesEvent}

-- the number is the next after a front
abbrev pub IsNext : ℕ → Option ℕ → Type 0
IsNext front None = Unit {0}
IsNext front (Some position) = position ≡ front + 1

-- ---- votes

one_of : (front : ℕ) (b : Bool) (x y : Outcome Offer) → IsNext front (position_of_offer x.answer)
    → IsNext front (position_of_offer y.answer) → IsNext front (position_of_offer (cond b x y).answer)
one_of front true x y p q = p
one_of front false x y p q = q

of_keeping : (s : State) (vote : ReadVote) (answer : Offer) → IsNext s.front (position_of_offer answer)
    → IsNext s.front (position_of_offer (kept_vote s vote answer).answer)
of_keeping s vote answer next =
    one_of s.front (nat_le most_vote_changes s.vote_changes) (unchanged_outcome s offers.Full)
    (record { answer = answer; after = with_vote vote s }) tt next

of_compared : (s : State) (vote : ReadVote) (held : Option ReadVote)
    → IsNext s.front (position_of_offer (compared_vote s vote held).answer)
of_compared s vote None = of_keeping s vote (offers.Kept (s.front + 1)) refl
of_compared s vote (Some held) =
    one_of s.front (outranks held vote) (unchanged_outcome s (offers.Older (rank_of held)))
    (cond (outranks vote held) (kept_vote s vote (offers.Replaced (s.front + 1) (rank_of held)))
    (unchanged_outcome s (offers.Have (rank_of held)))) tt
    (one_of s.front (outranks vote held) (kept_vote s vote (offers.Replaced (s.front + 1) (rank_of held)))
    (unchanged_outcome s (offers.Have (rank_of held)))
    (of_keeping s vote (offers.Replaced (s.front + 1) (rank_of held)) refl) tt)

of_late : (s : State) (vote : ReadVote) (b : Bool) (answer : Offer) → IsNext s.front (position_of_offer answer)
    → IsNext s.front
    (position_of_offer (cond b (unchanged_outcome s answer) (compared_vote s vote (vote_of s.votes vote.says.identity))).answer)
of_late s vote b answer next =
    one_of s.front b (unchanged_outcome s answer) (compared_vote s vote (vote_of s.votes vote.says.identity)) next
    (of_compared s vote (vote_of s.votes vote.says.identity))

pub of_offer : (s : State) (vote : ReadVote) (via : Via) (now : ℕ)
    → IsNext s.front (position_of_offer (offer s vote via now).answer)
unfolding offer
of_offer s vote via now =
    one_of s.front (not (vote.says.valid_after == s.valid_after)) (unchanged_outcome s (offers.OtherPeriod s.valid_after)) _ tt
    (one_of s.front (not (has_member s.roster vote.says.identity))
    (unchanged_outcome s (offers.Stranger vote.says.identity)) _ tt (of_late s vote (is_late s via now) _ tt))

pub offer_place : (start front story seen : ℕ) (event : Event) (answer : Offer)
    → IsNext front (position_of_offer answer) → front ≡ start + story
    → seen ≡ story + length (option_to_list (entry_if event (Vote answer)))
    → IsNumber (start + seen) (position_of_offer answer)
offer_place start front story seen event (offers.OtherPeriod valid_after) next is all = tt
offer_place start front story seen event (offers.Stranger authority) next is all = tt
offer_place start front story seen event (offers.Late now cutoff frozen) next is all = tt
offer_place start front story seen event (offers.Have held) next is all = tt
offer_place start front story seen event (offers.Older held) next is all = tt
offer_place start front story seen event offers.Full next is all = tt
offer_place start front story seen event (offers.Kept position) next is all = omega (arith, next, is, all)
offer_place start front story seen event (offers.Replaced position old) next is all = omega (arith, next, is, all)

-- ---- signatures

sign_one_of : (front : ℕ) (b : Bool) (x y : Outcome SignIn) → IsNext front (position_of_sign_in x.answer)
    → IsNext front (position_of_sign_in y.answer) → IsNext front (position_of_sign_in (cond b x y).answer)
sign_one_of front true x y p q = p
sign_one_of front false x y p q = q

of_closed : (s : State) (signature : OfferedSignature)
    → IsNext s.front (position_of_sign_in
    (cond (is_ended s.stage) (unchanged_outcome s signs.Closed) (keep_signature s signature)).answer)
of_closed s signature =
    sign_one_of s.front (is_ended s.stage) (unchanged_outcome s signs.Closed) (keep_signature s signature) tt refl

of_sign_in_over : (s : State) (signature : OfferedSignature) (computed : Option Consensus)
    → IsNext s.front (position_of_sign_in (sign_in_over s signature computed).answer)
of_sign_in_over s signature None = tt
of_sign_in_over s signature (Some c) =
    sign_one_of s.front (not (bytes_eq signature.digest (digest_of signature.flavour c)))
    (unchanged_outcome s (signs.OtherDigest (digest_of signature.flavour c))) _ tt
    (sign_one_of s.front (not (has_key s.votes signature.authority signature.key))
    (unchanged_outcome s (signs.Stranger signature.authority)) _ tt
    (sign_one_of s.front (has_line (lines_of signature.flavour s) signature.authority) (unchanged_outcome s signs.Have) _ tt
    (of_closed s signature)))

pub of_sign_in : (s : State) (signature : OfferedSignature)
    → IsNext s.front (position_of_sign_in (sign_in s signature).answer)
unfolding sign_in
of_sign_in s signature =
    sign_one_of s.front (not (signature.valid_after == s.valid_after)) (unchanged_outcome s (signs.OtherPeriod s.valid_after))
    (sign_in_over s signature s.computed) tt (of_sign_in_over s signature s.computed)

pub sign_in_place : (start front story seen : ℕ) (event : Event) (answer : SignIn)
    → IsNext front (position_of_sign_in answer) → front ≡ start + story
    → seen ≡ story + length (option_to_list (entry_if event (Signature answer)))
    → IsNumber (start + seen) (position_of_sign_in answer)
sign_in_place start front story seen event (signs.OtherPeriod valid_after) next is all = tt
sign_in_place start front story seen event signs.NotComputed next is all = tt
sign_in_place start front story seen event (signs.OtherDigest ours) next is all = tt
sign_in_place start front story seen event (signs.Stranger authority) next is all = tt
sign_in_place start front story seen event signs.Have next is all = tt
sign_in_place start front story seen event signs.Closed next is all = tt
sign_in_place start front story seen event (signs.Kept position) next is all = omega (arith, next, is, all)

-- ---- of an event of a pass

-- what comes before an entry is a history
history_before : (story : List Entry) (s : State) (more : List Entry) → IsHistory s (story ++ more) → IsHistory s story
history_before [] s more k = tt
history_before (x ∷ story) s more k = (k.0, k.1, history_before story (step s x.event).after more k.2)

-- the answer to a vote
abbrev offer_in : Answer → Offer
offer_in (Vote answer) = answer
offer_in (Moment answer) = offers.Full
offer_in (Signature answer) = offers.Full
offer_in Reading = offers.Full

-- the answer to a signature
abbrev sign_in_in : Answer → SignIn
sign_in_in (Vote answer) = signs.Have
sign_in_in (Moment answer) = signs.Have
sign_in_in (Signature answer) = answer
sign_in_in Reading = signs.Have

module _ (rules : Rules) (event : Event) (lock : Lock State) (before then : Knowledge State Entry) (answer : Answer)
    (takes : TakesEvent after (IsCheckedHistory rules) answer_at entry_if event lock before then answer) where
  -- what was found before the event
  abbrev found : State
  found = after lock.start (entries takes.story)

  whole : entries then.seen ≡ entries takes.story ++ option_to_list (entry_if event answer)
  whole =
      ap (λ (l : List (ℕ × Entry)). entries l) takes.seen
      ∙ entries-entry_by takes.story before.number (entry_if event answer)

  -- its front counts what was seen
  found_front : found.front ≡ lock.start.front + length (entries takes.story)
  found_front =
      leading.front lock.start (entries takes.story)
      (history_before (entries takes.story) lock.start (option_to_list (entry_if event answer))
      (subst (λ (l : List Entry). IsHistory lock.start l) whole takes.is_story.is))

  -- and the entry, if there is one, is seen besides
  all_seen : length then.seen ≡ length (entries takes.story) + length (option_to_list (entry_if event answer))
  all_seen =
      sym (length-map then.seen (λ (x : ℕ × Entry). x.1)) ∙ ap (λ (l : List Entry). length l) whole
      ∙ length-append (entries takes.story) (option_to_list (entry_if event answer))

module _ (rules : Rules) (lock : Lock State) (before then : Knowledge State Entry) where
  pub offer_number : (vote : ReadVote) (via : Via) (now : ℕ) (answer : Offer)
      → TakesEvent after (IsCheckedHistory rules) answer_at entry_if (Offered vote via now) lock before then
      (Vote answer)
      → IsNumber (lock.start.front + length then.seen) (position_of_offer answer)
  offer_number vote via now answer takes =
      let event : Event = Offered vote via now in
      let s : State = found rules event lock before then (Vote answer) takes in
      offer_place lock.start.front s.front (length (entries takes.story)) (length then.seen) event answer
      (subst (λ (a : Offer). IsNext s.front (position_of_offer a)) (sym (ap offer_in takes.answer_is))
      (of_offer s vote via now))
      (found_front rules event lock before then (Vote answer) takes)
      (all_seen rules event lock before then (Vote answer) takes)

  pub sign_in_number : (signature : OfferedSignature) (answer : SignIn)
      → TakesEvent after (IsCheckedHistory rules) answer_at entry_if (SignedIn signature) lock before then
      (Signature answer)
      → IsNumber (lock.start.front + length then.seen) (position_of_sign_in answer)
  sign_in_number signature answer takes =
      let event : Event = SignedIn signature in
      let s : State = found rules event lock before then (Signature answer) takes in
      sign_in_place lock.start.front s.front (length (entries takes.story)) (length then.seen) event answer
      (subst (λ (a : SignIn). IsNext s.front (position_of_sign_in a)) (sym (ap sign_in_in takes.answer_is))
      (of_sign_in s signature))
      (found_front rules event lock before then (Signature answer) takes)
      (all_seen rules event lock before then (Signature answer) takes)
