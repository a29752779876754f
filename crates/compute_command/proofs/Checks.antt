-- Votes that are checked as they come.
use Rattle.std.proofs.Common.{◌≡◌, ◌∙◌, ℕ, zero, suc, ◌+◌, ◌<◌, ◌≤◌, List, [], ◌∷◌, ◌++◌, length, take, Option, Some}
use Rattle.std.proofs.{Common.{None, refl, sym, ap, subst, arith, length-append, ⊎_elim}, lemmas.Bool.cases_lt}
use Rattle.std.proofs.lemmas.List.{get_or_push, take-append-le, take_all, Elements.All-push, Sums.fold-append}
use Rattle.std.{proofs.lemmas.Option.slice_get_within, specs.Prelude.{All, true, false, is_some, slice_get}}
use Rattle.dir_bytes.specs.Causes.{Rose}
use Rattle.dir_values.specs.declared.digest.Fingerprint.{Fingerprint}
use Rattle.key_port.specs.Answers.{Rules}
use Rattle.vote_terms.specs.{Votes.ReadVote, Held.{held, votes_with}, Acceptable.{AsksOf, IsAcceptable, IsFirstRefused}}
use Rattle.vote_terms.specs.{Acceptable.IsReached, declared.word.VoteWord.VoteWord}
use Rattle.vote_doc.specs.{Checks.RefusedBy, Holdings.Holding, declared.check.VoteRefusal.VoteRefusal}
use Rattle.vote_doc.specs.declared.check.VoteRefusal.TheVariants.{WrongPeriod, UnknownAuthority, Cert, BadSignature}
use Rattle.vote_doc.specs.declared.check.VoteRefusal.TheVariants.{VerifierFault}
use Rattle.authority_certs.specs.declared.checking.CertAnswer.TheVariants as answer
use Rattle.vote_doc.proofs.Placing as placing
use Rattle.daemon_words.specs.declared.command.Compute.{Compute}
use Rattle.daemon_words.specs.declared.stop.Stop.TheVariants as stop
use Rattle.compute_command.specs.declared.{refusal.AcceptRefusal.AcceptRefusal, checking.Checking.Checking}
use Rattle.compute_command.specs.{Accepting.{StopsAt, refusal_of}, Checked.{CheckedSo, IsChecked, TellsFirst}}
use Rattle.compute_command.{specs.Votes.most_votes, proofs.Refusing.stops_at}
use Rattle.compute_command.specs.declared.refusal.AcceptRefusal.TheVariants as refusal

-- what stands in front stands there too where more come
slice_get_front : (votes more : List ReadVote) (k : ℕ) → k < length votes → slice_get (votes ++ more) k ≡ slice_get votes k
slice_get_front [] more k below = absurd (omega (arith, below))
slice_get_front (vote ∷ votes) more zero below = refl
slice_get_front (vote ∷ votes) more (suc k) below = slice_get_front votes more k (omega (arith, below))

module _ (rules : Rules) (roster : List Fingerprint) (period : ℕ) (votes more : List ReadVote) where
  -- what stands among votes stands there too where more come
  reached_more : (before : ℕ) (vote : ReadVote) → IsReached rules roster period votes before vote
      → IsReached rules roster period (votes ++ more) before vote
  reached_more before vote is =
      let within : before < length votes = slice_get_within votes before vote is.stands in
      record {
        acceptable = subst (λ (l : List ReadVote). All (λ other. IsAcceptable rules roster period other) l)
            (sym (take-append-le before votes more (omega (arith, within)))) is.acceptable;
        stands = slice_get_front votes more before within ∙ is.stands;
      }

  refused_more : (number : ℕ) (word : VoteWord) → IsFirstRefused rules roster period votes number word
      → IsFirstRefused rules roster period (votes ++ more) number word
  refused_more number word is = record {
    before = is.before;
    place = is.place;
    vote = is.vote;
    reached = reached_more is.before is.vote is.reached;
    fails = is.fails;
  }

  asked_more : AsksOf rules roster period votes → AsksOf rules roster period (votes ++ more)
  asked_more is = record {
    before = is.before;
    vote = is.vote;
    reached = reached_more is.before is.vote is.reached;
    asked = is.asked;
  }

-- why checking votes stops is why it stops where more come
pub stops_more : (rules : Rules) (wanted : Compute) (votes more : List ReadVote) (why : AcceptRefusal)
    → StopsAt rules wanted votes (stop.Refused why) → StopsAt rules wanted (votes ++ more) (stop.Refused why)
stops_more rules wanted votes more (refusal.Vote number word) is =
    refused_more rules wanted.roster wanted.valid_after votes more number word is
stops_more rules wanted votes more refusal.Verifier is =
    asked_more rules wanted.roster wanted.valid_after votes more is

-- ---- the verifier's count

-- where it failed at the first vote that is refused
tells_some : (before old new : ℕ) (why : AcceptRefusal) → old ≤ new → (why ≡ refusal.Verifier → Rose old new)
    → (old < new → why ≡ refusal.Verifier) → TellsFirst before old None → TellsFirst before new (Some why)
tells_some before old new why more cause told is =
    let still : old ≡ before = ⊎_elim (λ lt. absurd (none_is (is.told lt))) (λ le. omega (arith, le, is.more)) (cases_lt before old) in
    record {
      more = omega (arith, more, is.more);
      cause = λ e. subst (λ (k : ℕ). Rose k new) still (cause (cc e));
      told = λ lt. ap (λ (w : AcceptRefusal). Some w) (told (omega (arith, lt, still)));
    }
  where
    none_is : None ≡ Some refusal.Verifier → ⊥
    none_is e = cc e

-- a refusal tells the verifier's fault only where the verifier failed
verifier_is : (rules : Rules) (roster : List Fingerprint) (period : ℕ) (vote : ReadVote) (number : ℕ) (why : VoteRefusal)
    → RefusedBy rules roster period vote why → refusal_of number why ≡ refusal.Verifier → why ≡ VerifierFault
verifier_is rules roster period vote number (WrongPeriod valid_after) by is = absurd (cc is)
verifier_is rules roster period vote number UnknownAuthority by is = absurd (cc is)
verifier_is rules roster period vote number (Cert answer.Checked) by is = absurd by
verifier_is rules roster period vote number (Cert answer.WrongFingerprint) by is = absurd (cc is)
verifier_is rules roster period vote number (Cert (answer.Expired at expires)) by is = absurd (cc is)
verifier_is rules roster period vote number (Cert answer.BadCertification) by is = absurd (cc is)
verifier_is rules roster period vote number (Cert answer.BadCrosscert) by is = absurd (cc is)
verifier_is rules roster period vote number (Cert answer.VerifierFault) by is = absurd by
verifier_is rules roster period vote number BadSignature by is = absurd (cc is)
verifier_is rules roster period vote number VerifierFault by is = refl

-- where a vote is the first that is refused
pub tells_refused : (rules : Rules) (wanted : Compute) (vote : ReadVote) (number before old new : ℕ) (why : VoteRefusal)
    (told : AcceptRefusal) (first : Option AcceptRefusal) → told ≡ refusal_of number why → first ≡ None
    → RefusedBy rules wanted.roster wanted.valid_after vote why → old ≤ new → (why ≡ VerifierFault → Rose old new)
    → (old < new → why ≡ VerifierFault) → TellsFirst before old first → TellsFirst before new (Some told)
tells_refused rules wanted vote number before old new why told first same none by more cause tells is =
    subst (λ (r : AcceptRefusal). TellsFirst before new (Some r)) (sym same)
    (tells_some before old new (refusal_of number why) more
    (λ e. cause (verifier_is rules wanted.roster wanted.valid_after vote number why by e))
    (λ lt. ap (refusal_of number) (tells lt))
    (subst (λ (o : Option AcceptRefusal). TellsFirst before old o) none is))

-- where it is acceptable
pub tells_on : (before old new : ℕ) (first : Option AcceptRefusal) → new ≡ old → TellsFirst before old first
    → TellsFirst before new first
tells_on before old new first same is = subst (λ (k : ℕ). TellsFirst before k first) (sym same) is

pub none_if : (o : Option AcceptRefusal) → is_some o ≡ false → o ≡ None
none_if None is = refl
none_if (Some why) is = absurd (cc is)

-- ---- one vote more

module _ (rules : Rules) (wanted : Compute) (votes : List ReadVote) (vote : ReadVote) (old new : Checking)
    (is : IsChecked rules wanted votes old) (few : old.count < most_votes) (count : new.count ≡ old.count + 1) where
  abbrev more : List ReadVote
  more = votes ++ vote ∷ []

  size : length more ≡ length votes + 1
  size = length-append votes (vote ∷ [])

  abbrev IsFine : ReadVote → Type 0
  IsFine v = IsAcceptable rules wanted.roster wanted.valid_after v

  with_first : new.kept.room ≡ most_votes → length new.kept.votes ≤ length votes + 1
      → CheckedSo rules wanted more new.kept.votes new.first → IsChecked rules wanted more new
  with_first room fits so = record {
    count = count ∙ ap (λ (k : ℕ). k + 1) is.count ∙ sym size;
    few = omega (arith, size, is.count, few);
    room = record { room = room; fits = omega (arith, fits, count, is.count) };
    checked = so;
  }

  same_room : new.kept ≡ old.kept → new.kept.room ≡ most_votes
  same_room kept = ap (λ (h : Holding). h.room) kept ∙ is.room.room

  same_fits : new.kept ≡ old.kept → length new.kept.votes ≤ length votes + 1
  same_fits kept =
      let same = ap (λ (h : Holding). length h.votes) kept in
      omega (arith, same, is.room.fits, is.count)

  -- one before it is refused
  refused_before : (why : AcceptRefusal) → old.first ≡ Some why → new.first ≡ old.first → new.kept ≡ old.kept
      → IsChecked rules wanted more new
  refused_before why first same kept =
      with_first (same_room kept) (same_fits kept)
      (subst (λ (o : Option AcceptRefusal). CheckedSo rules wanted more new.kept.votes o) (sym (same ∙ first))
      (stops_more rules wanted votes (vote ∷ []) why
      (subst (λ (o : Option AcceptRefusal). CheckedSo rules wanted votes old.kept.votes o) first is.checked)))

  pub still_refused : is_some old.first ≡ true → new.first ≡ old.first → new.kept ≡ old.kept
      → IsChecked rules wanted more new
  still_refused some same kept = by old.first refl some
    where
      by : (first : Option AcceptRefusal) → old.first ≡ first → is_some first ≡ true → IsChecked rules wanted more new
      by None e some_ = absurd (cc some_)
      by (Some why) e some_ = refused_before why e same kept

  none_before : old.first ≡ None → CheckedSo rules wanted votes old.kept.votes None
  none_before first = subst (λ (o : Option AcceptRefusal). CheckedSo rules wanted votes old.kept.votes o) first is.checked

  -- it is acceptable
  pub held_too : is_some old.first ≡ false → new.first ≡ old.first → new.kept ≡ record old.kept { votes = votes_with old.kept.votes vote }
      → IsFine vote → IsChecked rules wanted more new
  held_too none same kept fine =
      let first = none_if old.first none in
      let before = none_before first in
      let votes_are : new.kept.votes ≡ votes_with old.kept.votes vote = ap (λ (h : Holding). h.votes) kept in
      let held_are : votes_with old.kept.votes vote ≡ held more =
      ap (λ (l : List ReadVote). votes_with l vote) before.0 ∙ sym (fold-append votes_with [] votes (vote ∷ [])) in
      let length_is = ap (λ (l : List ReadVote). length l) votes_are in
      with_first (ap (λ (h : Holding). h.room) kept ∙ is.room.room)
      (omega (arith, length_is, placing.placed_adds_at_most_one old.kept.votes vote, is.room.fits, is.count))
      (subst (λ (o : Option AcceptRefusal). CheckedSo rules wanted more new.kept.votes o) (sym (same ∙ first))
      (votes_are ∙ held_are, All-push IsFine votes vote before.1 fine))

  -- it is the first that is refused
  pub first_refused : (refusal : VoteRefusal) → is_some old.first ≡ false → new.first ≡ Some (refusal_of new.count refusal)
      → new.kept ≡ old.kept → RefusedBy rules wanted.roster wanted.valid_after vote refusal → IsChecked rules wanted more new
  first_refused refusal none now kept by =
      let before = none_before (none_if old.first none) in
      let n = length votes in
      let within : n < length more = omega (arith, size) in
      let front : take n more ≡ votes =
      take-append-le n votes (vote ∷ []) (omega arith) ∙ take_all n votes (omega arith) in
      let number : new.count ≡ n + 1 = count ∙ ap (λ (k : ℕ). k + 1) is.count in
      let stops = stops_at rules wanted more n vote refusal within (sym (get_or_push votes vote vote n refl))
      (subst (λ (l : List ReadVote). All IsFine l) (sym front) before.1) by in
      with_first (same_room kept) (same_fits kept)
      (subst (λ (o : Option AcceptRefusal). CheckedSo rules wanted more new.kept.votes o) (sym now)
      (subst (λ (k : ℕ). StopsAt rules wanted more (stop.Refused (refusal_of k refusal))) (sym number) stops))
