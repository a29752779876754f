-- The rows of the tables: what may come of an event.
use Rattle.std.proofs.Common.{◌≡◌, ℕ, ◌==◌, ◌||◌, Bool, true, false, not, nat_lt, nat_le, List, length, Option, Some}
use Rattle.std.proofs.{Common.{None, cond, refl, sym, ◌∙◌, subst, bytes_eq, ◌+◌}, lemmas.Bool.{false≢true, eqb-true}}
use Rattle.std.proofs.lemmas.Bool.{false_from_ne_true}
use Rattle.dir_values.{specs.Rosters.has_member, proofs.Orders.same_text}
use Rattle.vote_terms.{specs.{Votes.{ReadVote, rank_of}, Held.outranks}, proofs.Orders.{above_trans, above_itself}}
use Rattle.consensus_terms.specs.declared.{consensus.Consensus.Consensus, flavour.Flavour.TheVariants.{Ns, Microdesc}}
use Rattle.count_terms.specs.Counts.{over}
use Rattle.period_terms.specs.declared.{answer.{Advance.Advance, Offer.Offer, SignIn.SignIn}, event.Via.Via}
use Rattle.period_terms.specs.declared.event.Signing.{Signing, TheVariants.{Given, SignerFails, VerifierFails, Refused}}
use Rattle.period_terms.specs.declared.{signature.OfferedSignature.OfferedSignature, stage.Stage.Stage}
use Rattle.period_terms.specs.declared.stage.Stage.TheVariants.{Voting, Frozen, Computed, Signed, Ended}
use Rattle.period_terms.specs.{declared.state.State.State, Schedules.{cutoff_of, next_valid_after}, States.Outcome}
use Rattle.period_terms.specs.States.{unchanged_outcome, is_voting, is_ended, vote_of, has_key, consensus_of, digest_of}
use Rattle.period_terms.specs.{States.{lines_of, has_line, is_signed}, Offers.{offer, kept_vote, compared_vote}}
use Rattle.period_terms.specs.{Offers.{is_late, with_vote, most_vote_changes}, Steps.{offer_changes, moment_changes}}
use Rattle.period_terms.specs.{Steps.sign_in_changes, Histories.accepts}
use Rattle.period_terms.specs.declared.answer.Advance.TheVariants as moments
use Rattle.period_terms.specs.declared.answer.Offer.TheVariants as offers
use Rattle.period_terms.specs.declared.answer.SignIn.TheVariants as sign_answers
use Rattle.vote_schedule.specs.Moments as schedule_moments
use Rattle.period_terms.specs.Advances as advances
use Rattle.period_terms.specs.SignIns as sign_ins

-- ---- a vote

-- the vote outranks that of its authority which is held
abbrev pub Beats : State → ReadVote → Type 0
Beats s v = (held : ReadVote) → vote_of s.votes v.says.identity ≡ Some held → outranks v held ≡ true

-- what may come of a vote
pub data Offering (s : State) (v : ReadVote) (result : Outcome Offer) : Type 0 where
  refused : (answer : Offer) → result ≡ unchanged_outcome s answer → offer_changes answer ≡ false → accepts answer ≡ false
      → Offering s v result
  had : (answer : Offer) → (held : ReadVote) → v.says.valid_after ≡ s.valid_after → has_member s.roster
      v.says.identity ≡ true → vote_of s.votes v.says.identity ≡ Some held → outranks v held ≡ false
      → result ≡ unchanged_outcome s answer → offer_changes answer ≡ false → accepts answer ≡ true → Offering s v result
  kept : (answer : Offer) → v.says.valid_after ≡ s.valid_after → has_member s.roster v.says.identity ≡ true
      → is_voting s.stage ≡ true
      → nat_le most_vote_changes s.vote_changes ≡ false → Beats s v
      → result ≡ record { answer = answer; after = with_vote v s } → offer_changes answer ≡ true
      → accepts answer ≡ true → Offering s v result

-- what the tests before the comparison say
record Open (s : State) (v : ReadVote) : Type 0 where
  period : v.says.valid_after ≡ s.valid_after
  member : has_member s.roster v.says.identity ≡ true
  voting : is_voting s.stage ≡ true

keeping_by : (b : Bool) (s : State) (v : ReadVote) (answer : Offer) → Open s v → Beats s v → offer_changes answer ≡
    true → accepts answer ≡ true
    → nat_le most_vote_changes s.vote_changes ≡ b → Offering s v (kept_vote s v answer)
keeping_by true s v answer is beats c a e = refused offers.Full (rw e refl) refl refl
keeping_by false s v answer is beats c a e = kept answer is.period is.member is.voting e beats (rw e refl) c a

-- of two votes not both outrank the other
not_both : (a b : ReadVote) → outranks a b ≡ true → outranks b a ≡ false
not_both a b e = false_from_ne_true (outranks b a) (λ f. false≢true (sym (above_itself (rank_of a)) ∙ above_trans
    (rank_of a) (rank_of b) (rank_of a) e f))

same_vote : (a b : ReadVote) (found : Option ReadVote) → found ≡ Some a → found ≡ Some b → a ≡ b
same_vote a b found e f = cc

none_held : (a : ReadVote) (found : Option ReadVote) → found ≡ None → found ≡ Some a → ⊥
none_held a found e f = absurd cc

compared_by : (b c : Bool) (s : State) (v held : ReadVote) → Open s v → vote_of s.votes v.says.identity ≡ Some held
    → outranks held v ≡ b → outranks v held ≡ c → Offering s v (compared_vote s v (Some held))
compared_by true c s v held is f e g = had (offers.Older (rank_of held)) held is.period is.member f
    (not_both held v e) (rw e refl) refl refl
compared_by false true s v held is f e g =
    let P : Outcome Offer → Type 0 = λ o. Offering s v o in
    let same : kept_vote s v (offers.Replaced (s.front + 1) (rank_of held)) ≡ compared_vote s v (Some held) = rw (e, g) refl in
    subst P same (keeping_by _ s v (offers.Replaced (s.front + 1) (rank_of held)) is
    (λ other h. subst (λ (x : ReadVote). outranks v x ≡ true)
    (same_vote held other (vote_of s.votes v.says.identity) f h) g) refl refl refl)
compared_by false false s v held is f e g = had (offers.Have (rank_of held)) held is.period is.member f g
    (rw (e, g) refl) refl refl

with_held : (s : State) (v : ReadVote) (held : Option ReadVote) → vote_of s.votes v.says.identity ≡ held → Open s v
    → Offering s v (compared_vote s v held)
with_held s v None f is = keeping_by _ s v (offers.Kept (s.front + 1)) is
    (λ other h. absurd (none_held other (vote_of s.votes v.says.identity) f h)) refl refl refl
with_held s v (Some held) f is = compared_by _ _ s v held is f refl refl

-- what is late where nothing else is wrong
late_by : (c : Bool) (s : State) (v : ReadVote) (via : Via) (now : ℕ) → v.says.valid_after ≡ s.valid_after
    → has_member s.roster v.says.identity ≡ true
    → is_late s via now ≡ c
    → Offering s v (cond (is_late s via now) (unchanged_outcome s (offers.Late now (cutoff_of via s.schedule s.valid_after)
    (not (is_voting s.stage)))) (compared_vote s v (vote_of s.votes v.says.identity)))
late_by true s v via now p m e = refused (offers.Late now (cutoff_of via s.schedule s.valid_after)
    (not (is_voting s.stage))) (rw e refl) refl refl
late_by false s v via now p m e =
    let P : Outcome Offer → Type 0 = λ o. Offering s v o in
    let voting : is_voting s.stage ≡ true = open_by (is_voting s.stage)
    (nat_le (cutoff_of via s.schedule s.valid_after) now) e in
    subst P (rw e refl) (with_held s v (vote_of s.votes v.says.identity) refl
    (record { period = p; member = m; voting = voting }))
  where
    open_by : (a b : Bool) → (not a || b) ≡ false → a ≡ true
    open_by true b h = refl
    open_by false b h = sym h

offering_by : (a b : Bool) (s : State) (v : ReadVote) (via : Via) (now : ℕ) → (v.says.valid_after == s.valid_after) ≡ a
    → has_member s.roster v.says.identity ≡ b → Offering s v (offer s v via now)
unfolding offer
offering_by false b s v via now e f = refused (offers.OtherPeriod s.valid_after) (rw e refl) refl refl
offering_by true false s v via now e f = refused (offers.Stranger v.says.identity) (rw (e, f) refl) refl refl
offering_by true true s v via now e f =
    let P : Outcome Offer → Type 0 = λ o. Offering s v o in
    subst P (rw (e, f) refl) (late_by _ s v via now (eqb-true _ _ e) f refl)

-- each vote comes to one of these
pub offering : (s : State) (v : ReadVote) (via : Via) (now : ℕ) → Offering s v (offer s v via now)
offering s v via now = offering_by _ _ s v via now refl refl

-- ---- a moment

-- what may come of a moment
pub data Advancing (s : State) (given : Signing) (result : Outcome Advance) : Type 0 where
  stays : (answer : Advance) → result ≡ unchanged_outcome s answer → moment_changes answer ≡ false → Advancing s given result
  freezes : s.stage ≡ Voting → result ≡ advances.freeze s → Advancing s given result
  computes : s.stage ≡ Frozen → over (length s.votes) (length s.roster) ≡ true → result ≡ advances.compute s
      (consensus_of s) → Advancing s given result
  gives_up : s.stage ≡ Frozen → result ≡ advances.give_up s → Advancing s given result
  passes_over : (c : Consensus) → s.stage ≡ Computed → s.computed ≡ Some c → result ≡ advances.pass_over s
      → Advancing s given result
  signs : (c : Consensus) → (vote : ReadVote) → (ns microdesc : List ℕ) → s.stage ≡ Computed → s.computed ≡ Some c
      → vote_of s.votes s.own ≡ Some vote → given ≡ Given ns microdesc
      → result ≡ advances.sign_with s c vote.says.certificate.signing_key ns microdesc → Advancing s given result
  publishes : (c : Consensus) → s.stage ≡ Signed → s.computed ≡ Some c → (is_signed Ns s || is_signed Microdesc s) ≡
      true
      → result ≡ advances.publish_these s c (is_signed Ns s) (is_signed Microdesc s) → Advancing s given result
  misses : s.stage ≡ Signed → result ≡ advances.miss s → Advancing s given result
  begins : (now next : ℕ) → s.stage ≡ Ended → next_valid_after s.schedule s.valid_after now ≡ Some next
      → result ≡ advances.begin s (Some next) → Advancing s given result

-- before a moment nothing comes
from_by : (b : Bool) (s : State) (given : Signing) (moment now : ℕ) (outcome : Outcome Advance) → nat_lt now moment ≡
    b → Advancing s given outcome
    → Advancing s given (advances.from s moment now outcome)
from_by true s given moment now outcome e a = stays moments.Nothing (rw e refl) refl
from_by false s given moment now outcome e a =
    let P : Outcome Advance → Type 0 = λ o. Advancing s given o in subst P (rw e refl) a

computing : (b : Bool) (s : State) (given : Signing) → s.stage ≡ Frozen → over (length s.votes) (length s.roster) ≡ b
    → Advancing s given (cond (over (length s.votes) (length s.roster)) (advances.compute s (consensus_of s))
    (advances.give_up s))
computing true s given at e = computes at e (rw e refl)
computing false s given at e = gives_up at (rw e refl)

signing : (s : State) (c : Consensus) (own : Option ReadVote) (given : Signing) → s.stage ≡ Computed
    → s.computed ≡ Some c → vote_of s.votes s.own ≡ own
    → Advancing s given (advances.sign_or_pass s c own given)
signing s c None given at is f = passes_over c at is refl
signing s c (Some vote) (Given ns microdesc) at is f = signs c vote ns microdesc at is f refl refl
signing s c (Some vote) SignerFails at is f = stays moments.SignerFault refl refl
signing s c (Some vote) VerifierFails at is f = stays moments.VerifierFault refl refl
signing s c (Some vote) (Refused digest) at is f = stays (moments.OwnSignatureRefused digest) refl refl

signing_of : (s : State) (computed : Option Consensus) (given : Signing) → s.stage ≡ Computed → s.computed ≡ computed
    → Advancing s given (advances.with_consensus s (λ c. advances.sign_or_pass s c (vote_of s.votes s.own) given)
    computed)
signing_of s None given at is = stays moments.Nothing refl refl
signing_of s (Some c) given at is = signing s c (vote_of s.votes s.own) given at is refl

publishing_by : (b : Bool) (s : State) (given : Signing) (c : Consensus) → s.stage ≡ Signed → s.computed ≡ Some c
    → (is_signed Ns s || is_signed Microdesc s) ≡ b
    → Advancing s given (advances.publish s c)
publishing_by true s given c at is e = publishes c at is e (rw e refl)
publishing_by false s given c at is e = misses at (rw e refl)

publishing_of : (s : State) (given : Signing) (computed : Option Consensus) → s.stage ≡ Signed → s.computed ≡ computed
    → Advancing s given (advances.with_consensus s (advances.publish s) computed)
publishing_of s given None at is = stays moments.Nothing refl refl
publishing_of s given (Some c) at is = publishing_by _ s given c at is refl

beginning : (s : State) (given : Signing) (now : ℕ) (next : Option ℕ) → s.stage ≡ Ended → next_valid_after s.schedule
    s.valid_after now ≡ next
    → Advancing s given (advances.begin s next)
beginning s given now None at f = stays moments.EndOfTime refl refl
beginning s given now (Some next) at f = begins now next at f refl

advancing_at : (stage : Stage) (s : State) (now : ℕ) (given : Signing) → s.stage ≡ stage
    → Advancing s given (advances.advance_at stage s now given)
advancing_at Voting s now given at = from_by _ s given (schedule_moments.freeze s.schedule s.valid_after) now
    (advances.freeze s) refl (freezes at refl)
advancing_at Frozen s now given at = computing _ s given at refl
advancing_at Computed s now given at = signing_of s s.computed given at refl
advancing_at Signed s now given at =
    from_by _ s given s.valid_after now (advances.with_consensus s (advances.publish s) s.computed) refl
    (publishing_of s given s.computed at refl)
advancing_at Ended s now given at =
    from_by _ s given s.valid_after now (advances.begin s (next_valid_after s.schedule s.valid_after now)) refl
    (beginning s given now (next_valid_after s.schedule s.valid_after now) at refl)

-- each moment comes to one of these
pub advancing : (s : State) (now : ℕ) (given : Signing) → Advancing s given (advances.advance s now given)
unfolding advances.advance
advancing s now given = advancing_at s.stage s now given refl

-- ---- a signature

-- what may come of a signature
pub data SigningIn (s : State) (signature : OfferedSignature) (result : Outcome SignIn) : Type 0 where
  refuses : (answer : SignIn) → result ≡ unchanged_outcome s answer → sign_in_changes answer ≡ false → SigningIn s signature
      result
  keeps : (c : Consensus) → signature.valid_after ≡ s.valid_after → s.computed ≡ Some c
      → signature.digest ≡ digest_of signature.flavour c → has_key s.votes signature.authority signature.key ≡ true
      → has_line (lines_of signature.flavour s) signature.authority ≡ false → is_ended s.stage ≡ false
      → result ≡ sign_ins.keep_signature s signature → SigningIn s signature result

signing_in_by : (d k h e : Bool) (s : State) (signature : OfferedSignature) (c : Consensus) → signature.valid_after ≡
    s.valid_after → s.computed ≡ Some c
    → bytes_eq signature.digest (digest_of signature.flavour c) ≡ d → has_key s.votes signature.authority
    signature.key ≡ k
    → has_line (lines_of signature.flavour s) signature.authority ≡ h → is_ended s.stage ≡ e
    → SigningIn s signature (sign_ins.sign_in_over s signature (Some c))
signing_in_by false k h e s signature c p is i j l m =
    refuses (sign_answers.OtherDigest (digest_of signature.flavour c)) (rw i refl) refl
signing_in_by true false h e s signature c p is i j l m = refuses (sign_answers.Stranger signature.authority)
    (rw (i, j) refl) refl
signing_in_by true true true e s signature c p is i j l m = refuses sign_answers.Have (rw (i, j, l) refl) refl
signing_in_by true true false true s signature c p is i j l m = refuses sign_answers.Closed (rw (i, j, l, m) refl) refl
signing_in_by true true false false s signature c p is i j l m =
    keeps c p is (same_text _ _ i) j l m (rw (i, j, l, m) refl)

signing_in_of : (computed : Option Consensus) (s : State) (signature : OfferedSignature) → signature.valid_after ≡
    s.valid_after → s.computed ≡ computed
    → SigningIn s signature (sign_ins.sign_in_over s signature computed)
signing_in_of None s signature p is = refuses sign_answers.NotComputed refl refl
signing_in_of (Some c) s signature p is = signing_in_by _ _ _ _ s signature c p is refl refl refl refl

signing_in_at : (b : Bool) (s : State) (signature : OfferedSignature) → (signature.valid_after == s.valid_after) ≡ b
    → SigningIn s signature (sign_ins.sign_in s signature)
unfolding sign_ins.sign_in
signing_in_at false s signature e = refuses (sign_answers.OtherPeriod s.valid_after) (rw e refl) refl
signing_in_at true s signature e =
    let P : Outcome SignIn → Type 0 = λ o. SigningIn s signature o in
    subst P (rw e refl) (signing_in_of s.computed s signature (eqb-true _ _ e) refl)

-- each signature comes to one of these
pub signing_in : (s : State) (signature : OfferedSignature) → SigningIn s signature (sign_ins.sign_in s signature)
signing_in s signature = signing_in_at _ s signature refl
