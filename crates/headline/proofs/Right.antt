-- One law above the laws of a period.
use Rattle.std.proofs.Common.{◌≡◌, ℕ, true, List, [], ◌∷◌, ◌++◌, length, refl, sym, ap, ◌∙◌, subst, Some, Bool, false}
use Rattle.std.{proofs.Common.{◌&&◌, count_by, Option}, specs.{Prelude.Contains, List.list_any}}
use Rattle.count_terms.specs.Counts.{over}
use Rattle.dir_values.specs.{declared.digest.Fingerprint.Fingerprint, Digests.same_identity}
use Rattle.key_port.specs.Answers.{Rules}
use Rattle.key_port.specs.declared.verifier.KeyKind.TheVariants as kind
use Rattle.vote_terms.{specs.{Votes.ReadVote, Held.{held, IsHeld}, Acceptable.IsAcceptable}, proofs.HeldLaw.held_law}
use Rattle.consensus_terms.specs.declared.{consensus.Consensus.Consensus, flavour.Flavour.Flavour}
use Rattle.consensus_terms.specs.declared.signature.SignatureLine.{SignatureLine}
use Rattle.period_terms.specs.{Readings.current_of, States.{digest_of, lines_of, has_line}, Advances.advance}
use Rattle.period_terms.specs.{Steps.step, Histories.{IsStart, IsHistory, run, after, accepted}}
use Rattle.period_terms.specs.declared.{answer.{Advance.Advance, Answer.Answer}, entry.Entry.Entry, event.Event.Event}
use Rattle.period_terms.specs.declared.event.{Event.TheVariants.Advanced, Signing.Signing}
use Rattle.period_terms.specs.declared.{stage.Stage.TheVariants.Frozen, state.State.State}
use Rattle.period_terms.specs.declared.answer.Advance.TheVariants as moments
use Rattle.period_terms.specs.declared.answer.Answer.TheVariants as answers
use Rattle.period_laws.specs.Checked.{IsChecked, AreChecked, IsCheckedHistory, anything, events_of}
use Rattle.period_laws.specs.{Periods.IsAccepted, Publications.{WasPublished, advance_entry}}
use Rattle.period_laws.proofs.{Accepted.{are_held, of_accepted, roster_stays}, Keeping.majority_computes, Verified.runs}
use Rattle.period_laws.proofs.{Verified.{along_front, are_acceptable}, Currents.were_published, Members.{In, in_from}}
use Rattle.period_laws.proofs.Members.{in_to, any_to, any_from, over_with, shared}
use Rattle.headline.specs.Times.{has_signed, IsRightlySigned, Has, IsRight, CheckedAreRight, SomeoneSignedBoth}

-- ---- a front of a history

is_front : (before later : List Entry) (s : State) → IsHistory s (before ++ later) → IsHistory s before
is_front [] later s h = tt
is_front (entry ∷ before) later s h = (h.0, h.1, is_front before later (step s entry.event).after h.2)

is_behind : (before later : List Entry) (s : State) → IsHistory s (before ++ later) → IsHistory (after s before) later
is_behind [] later s h = h
is_behind (entry ∷ before) later s h = is_behind before later (step s entry.event).after h.2

front_of : (rules : Rules) (start : State) (story before later : List Entry) → story ≡ before ++ later
    → IsCheckedHistory rules start story → IsCheckedHistory rules start before
front_of rules start story before later is h =
    let there : IsCheckedHistory rules start (before ++ later) =
    subst (λ (l : List Entry). IsCheckedHistory rules start l) is h in
    record {
      is = is_front before later start there.is;
      checked = along_front (IsChecked anything rules) before later start there.checked;
    }

-- ---- a document

held_there : (start : State) (story : List Entry) → IsStart start
    → (after start story).votes ≡ held (accepted start (events_of story))
held_there start story begin =
    subst (λ (s : State). s.votes ≡ held (accepted start (events_of story))) (runs start story)
    (are_held start (events_of story) begin)

some_is : (c d : Consensus) (x : Option Consensus) → x ≡ Some c → x ≡ Some d → d ≡ c
some_is c d x e f = cc

-- each member that has a signature that is held signed the digest
signed_it : (rules : Rules) (s : State) (votes : List ReadVote) (flavour : Flavour) (c : Consensus) → s.computed ≡ Some c
    → s.votes ≡ votes
    → ((line : SignatureLine) → Contains (lines_of flavour s) line → IsAccepted rules.may_accept s flavour line)
    → (member : Fingerprint) → has_line (lines_of flavour s) member ≡ true
    → has_signed rules (digest_of flavour c) votes (lines_of flavour s) member ≡ true
signed_it rules s votes flavour c computed are verified member h =
    let r = any_from (λ (line : SignatureLine). same_identity line.identity member) (lines_of flavour s) h in
    let line : SignatureLine = r.0 in
    let k = verified line (in_to (lines_of flavour s) line r.1) in
    let there : In k.vote votes =
    subst (λ (l : List ReadVote). In k.vote l) are (in_from s.votes k.vote k.holds) in
    let his : same_identity k.vote.says.identity member ≡ true =
    subst (λ (a : Fingerprint). same_identity a member ≡ true) (sym k.authority) r.2 in
    let right : rules.may_accept kind.Signing k.vote.says.certificate.signing_key (digest_of flavour c) line.signature
    ≡ true =
    subst (λ (x : Consensus). rules.may_accept kind.Signing k.vote.says.certificate.signing_key (digest_of flavour x)
    line.signature ≡ true) (some_is c k.c s.computed computed k.computed) k.accepted in
    let some_vote : list_any (λ (vote : ReadVote). same_identity vote.says.identity member
    && rules.may_accept kind.Signing vote.says.certificate.signing_key (digest_of flavour c) line.signature) votes ≡ true =
    any_to (λ (vote : ReadVote). same_identity vote.says.identity member
    && rules.may_accept kind.Signing vote.says.certificate.signing_key (digest_of flavour c) line.signature) votes k.vote
    there (both (same_identity k.vote.says.identity member) (rules.may_accept kind.Signing
    k.vote.says.certificate.signing_key (digest_of flavour c) line.signature) his right) in
    any_to (λ (other : SignatureLine). same_identity other.identity member
    && list_any (λ (vote : ReadVote). same_identity vote.says.identity member
    && rules.may_accept kind.Signing vote.says.certificate.signing_key (digest_of flavour c) other.signature) votes)
    (lines_of flavour s) line r.1
    (both (same_identity line.identity member) (list_any (λ (vote : ReadVote). same_identity vote.says.identity member
    && rules.may_accept kind.Signing vote.says.certificate.signing_key (digest_of flavour c) line.signature) votes)
    r.2 some_vote)
  where
    both : (a b : Bool) → a ≡ true → b ≡ true → (a && b) ≡ true
    both true b e f = f
    both false b e f = e

pub rightly : (rules : Rules) (start : State) (story : List Entry) → IsStart start → (flavour : Flavour) (text : List ℕ)
    → WasPublished rules start story flavour text → IsRightlySigned rules start.roster start.newest flavour text
rightly rules start story begin flavour text p =
    let b : List Entry = p.last.before in
    let s : State = after start b in
    let roster : s.roster ≡ start.roster =
    subst (λ (x : State). x.roster ≡ start.roster) (runs start b) (roster_stays start (events_of b) begin) in
    let most : over (count_by (λ member. has_line (lines_of flavour s) member) start.roster) (length start.roster) ≡ true =
    subst (λ (l : List Fingerprint). over (count_by (λ member. has_line (lines_of flavour s) member) l)
    (length start.roster) ≡ true) roster p.last.most in
    record {
      period = s.valid_after;
      votes = accepted start (events_of b);
      acceptable = p.may.acceptable;
      c = p.last.c;
      alone = p.may.accepted_alone;
      lines = lines_of flavour s;
      text_is = p.last.text_is;
      most = over_with (λ member. has_line (lines_of flavour s) member)
          (has_signed rules (digest_of flavour p.last.c) (held (accepted start (events_of b))) (lines_of flavour s))
          start.roster
          (λ member i h. signed_it rules s (held (accepted start (events_of b))) flavour p.last.c p.last.computed
          (held_there start b begin) p.may.verified member h)
          most;
    }

pub someone_signed_both : SomeoneSignedBoth
someone_signed_both rules roster newest other_newest flavour text other one two =
    let r = shared (has_signed rules (digest_of flavour one.c) (held one.votes) one.lines)
    (has_signed rules (digest_of flavour two.c) (held two.votes) two.lines) roster one.most two.most in
    record { member = r.0; of_it = in_to roster r.0 r.1; first = r.2; second = r.3 }

-- ---- at a time

has : (rules : Rules) (start : State) (story : List Entry) → IsStart start → IsCheckedHistory rules start story
    → Has rules start.roster start.newest (after start story) (accepted start (events_of story))
has rules start story begin h =
    let there : run start (events_of story) ≡ after start story = runs start story in
    record {
      acceptable = λ vote i. subst (λ (s : State). IsAcceptable rules start.roster s.valid_after vote) there
          (are_acceptable anything rules start (events_of story) begin h.checked vote i);
      held_are = subst (λ (votes : List ReadVote). IsHeld (accepted start (events_of story)) votes)
          (sym (held_there start story begin)) (held_law (accepted start (events_of story)));
      alone = λ c e. of_accepted start (events_of story) begin c
          (subst (λ (s : State). s.computed ≡ Some c) (sym there) e);
      published = λ flavour text e. rightly rules start story begin flavour text
          (were_published rules start story begin h flavour text e);
    }

-- the answer to a moment
abbrev moment_in : Answer → Advance
moment_in (answers.Moment answer) = answer
moment_in (answers.Vote answer) = moments.Nothing
moment_in (answers.Signature answer) = moments.Nothing
moment_in answers.Reading = moments.Nothing

computes : (start : State) (before later : List Entry) (now : ℕ) (given : Signing) (answer : Advance) → IsStart start
    → IsHistory start (before ++ advance_entry now given answer ∷ later) → (after start before).stage ≡ Frozen
    → over (length (after start before).votes) (length start.roster) ≡ true → answer ≡ moments.Computed
computes start before later now given answer begin h at most =
    let s : State = after start before in
    let roster : s.roster ≡ start.roster =
    subst (λ (x : State). x.roster ≡ start.roster) (runs start before) (roster_stays start (events_of before) begin) in
    let same : answers.Moment answer ≡ (step s (Advanced now given)).answer =
    (is_behind before (advance_entry now given answer ∷ later) start h).0 in
    let told : answer ≡ (advance s now given).answer = ap moment_in same in
    told
    ∙ majority_computes s now given at
    (subst (λ (l : List Fingerprint). over (length s.votes) (length l) ≡ true) (sym roster) most)

pub are_right : CheckedAreRight
are_right rules start story begin h = record {
  always = λ before later is. has rules start before begin (front_of rules start story before later is h);
  computes = λ before later now given answer is at most.
      computes start before later now given answer begin
      (subst (λ (l : List Entry). IsHistory start l) is h.is) at most;
}
