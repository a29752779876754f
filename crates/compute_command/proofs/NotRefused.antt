-- Acceptable votes of more than half of the roster are not refused.
use Rattle.std.proofs.Common.{◌≡◌, ◌∙◌, ℕ, Bool, true, false, ⊎_elim, List, sym, subst, refl, arith, Some, Err}
use Rattle.std.proofs.lemmas.{Option.{slice_get_within, get_or_from_slice_get}, Bool.{false≢true, Decides.nat_tests}}
use Rattle.std.specs.Prelude.{All, slice_get, ◌&&◌}
use Rattle.dir_values.specs.declared.digest.Fingerprint.{Fingerprint}
use Rattle.key_port.specs.Answers.{Rules}
use Rattle.vote_terms.specs.{Votes.ReadVote, Acceptable.{IsAcceptable, Refuses, RefusesNone}}
use Rattle.vote_terms.specs.declared.word.VoteWord.{VoteWord}
use Rattle.vote_terms.specs.declared.word.VoteWord.TheVariants as word
use Rattle.daemon_words.specs.declared.command.Compute.{Compute}
use Rattle.compute_command.specs.{declared.refusal.ComputeRefusal.ComputeRefusal, Answers.{CanCompute, ComputeAnswers}}
use Rattle.compute_command.specs.declared.refusal.ComputeRefusal.TheVariants as refusal
use Rattle.compute_command.specs.declared.refusal.VoteListRefusal.TheVariants as list

-- what holds of each element holds of one that stands there
pub at : {X : Type 0} (P : X → Type 0) (xs : List X) (i : ℕ) (x : X) → All P xs → slice_get xs i ≡ Some x → P x
at P xs i x all is = subst P (get_or_from_slice_get xs i x x is) (all i x (slice_get_within xs i x is))

-- where both tests hold both together do
both_tests_hold_together : (a b : Bool) → a ≡ true → b ≡ true → (a && b) ≡ true
both_tests_hold_together true true p q = refl
both_tests_hold_together true false p q = absurd cc
both_tests_hold_together false b p q = absurd cc

-- an acceptable vote whose signatures may not be refused is refused by no word
pub not_refused_by : (rules : Rules) (roster : List Fingerprint) (period : ℕ) (vote : ReadVote) (w : VoteWord) → IsAcceptable rules roster period vote → RefusesNone rules vote
    → Refuses rules roster period vote w → ⊥
not_refused_by rules roster period vote word.ValidAfter ok free fails = let same = ok.wanted.valid_after in grind (arith, nat_tests, same, fails)
not_refused_by rules roster period vote word.Authority ok free fails = false≢true (sym fails.1 ∙ ok.wanted.authority)
not_refused_by rules roster period vote word.Fingerprint ok free fails = false≢true (sym fails.1 ∙ both_tests_hold_together _ _ ok.verified.authority ok.verified.certificate.current.fingerprint)
not_refused_by rules roster period vote word.Expired ok free fails = omega (arith, fails.2, ok.verified.certificate.current.expires, ok.wanted.valid_after)
not_refused_by rules roster period vote word.Certification ok free fails = false≢true (sym free.certification ∙ fails.1)
not_refused_by rules roster period vote word.Crosscert ok free fails = false≢true (sym free.crosscert ∙ fails.2)
not_refused_by rules roster period vote word.Signature ok free fails =
    ⊎_elim (λ no. false≢true (sym no ∙ ok.verified.signer)) (λ may. false≢true (sym free.signature ∙ may)) fails.3

-- such an input is refused only where the verifier failed
pub not_refused : (rules : Rules) (wanted : Compute) (bytes : List ℕ) (why : ComputeRefusal) → CanCompute rules wanted bytes
    → ComputeAnswers rules wanted bytes (Err why) → why ≡ refusal.Verifier
not_refused rules wanted bytes (refusal.Fault fault) can a = absurd (cc (can.read, a))
not_refused rules wanted bytes (refusal.Votes (list.Vote number w)) can a =
    let same : a.votes ≡ can.votes = cc (a.read, can.read) in
    let first = a.first in
    let stands = subst (λ votes. slice_get votes first.before ≡ Some first.vote) same first.reached.stands in
    absurd (not_refused_by rules wanted.roster wanted.valid_after first.vote w
    (at (λ v. IsAcceptable rules wanted.roster wanted.valid_after v) can.votes first.before first.vote can.acceptable stands)
    (at (λ v. RefusesNone rules v) can.votes first.before first.vote can.none_refused stands)
    first.fails)
not_refused rules wanted bytes (refusal.Votes (list.TooFew count roster)) can a =
    absurd (false≢true (cc (a.read, can.read, a.count_is, a.roster_is, a.few, can.enough)))
not_refused rules wanted bytes refusal.Verifier can a = refl
