-- The vote at which checking stops is the first that is not acceptable, or the verifier failed at it.
use Rattle.std.proofs.{Common.{◌≡◌, ℕ, ◌+◌, ◌<◌, List, length, take, get_or, refl}, lemmas.Option.slice_get_read}
use Rattle.std.specs.Prelude.{All}
use Rattle.dir_values.specs.declared.digest.Fingerprint.{Fingerprint}
use Rattle.key_port.specs.Answers.{Rules}
use Rattle.authority_certs.specs.declared.checking.CertAnswer.TheVariants as answer
use Rattle.vote_terms.specs.{Votes.ReadVote, Acceptable.{IsAcceptable, IsReached, IsFirstRefused, Refuses}}
use Rattle.vote_terms.specs.declared.word.VoteWord.{VoteWord}
use Rattle.vote_doc.specs.{Checks.RefusedBy, declared.check.VoteRefusal.{VoteRefusal, TheVariants.WrongPeriod}}
use Rattle.vote_doc.specs.declared.check.VoteRefusal.TheVariants.{UnknownAuthority, Cert, BadSignature, VerifierFault}
use Rattle.daemon_words.specs.declared.command.Compute.{Compute}
use Rattle.compute_command.specs.Accepting.{StopsAt, refusal_of}
use Rattle.daemon_words.specs.declared.stop.Stop.TheVariants as stop

-- the votes before this one are acceptable
reached : (rules : Rules) (roster : List Fingerprint) (period : ℕ) (all : List ReadVote) (n : ℕ) (vote : ReadVote) → n < length all → vote ≡ get_or all n vote
    → All (λ other. IsAcceptable rules roster period other) (take n all) → IsReached rules roster period all n vote
reached rules roster period all n vote lt is before = record { acceptable = before; stands = slice_get_read all (length all) n vote refl lt is }

first_refused : (rules : Rules) (roster : List Fingerprint) (period : ℕ) (all : List ReadVote) (n : ℕ) (vote : ReadVote) (w : VoteWord) → IsReached rules roster period all n vote
    → Refuses rules roster period vote w → IsFirstRefused rules roster period all (n + 1) w
first_refused rules roster period all n vote w there fails = record { before = n; place = refl; vote = vote; reached = there; fails = fails }

-- the refusal says why checking stops
pub stops_at : (rules : Rules) (wanted : Compute) (all : List ReadVote) (n : ℕ) (vote : ReadVote) (refusal : VoteRefusal)
    → n < length all → vote ≡ get_or all n vote → All (λ other. IsAcceptable rules wanted.roster wanted.valid_after other) (take n all)
    → RefusedBy rules wanted.roster wanted.valid_after vote refusal → StopsAt rules wanted all (stop.Refused (refusal_of (n + 1) refusal))
stops_at rules wanted all n vote (WrongPeriod valid_after) lt is before by =
    first_refused rules wanted.roster wanted.valid_after all n vote _ (reached rules wanted.roster wanted.valid_after all n vote lt is before) by.0
stops_at rules wanted all n vote UnknownAuthority lt is before by =
    first_refused rules wanted.roster wanted.valid_after all n vote _ (reached rules wanted.roster wanted.valid_after all n vote lt is before) by
stops_at rules wanted all n vote (Cert answer.Checked) lt is before by = absurd by
stops_at rules wanted all n vote (Cert answer.WrongFingerprint) lt is before by =
    first_refused rules wanted.roster wanted.valid_after all n vote _ (reached rules wanted.roster wanted.valid_after all n vote lt is before) by
stops_at rules wanted all n vote (Cert (answer.Expired at expires)) lt is before by =
    first_refused rules wanted.roster wanted.valid_after all n vote _ (reached rules wanted.roster wanted.valid_after all n vote lt is before) by.0
stops_at rules wanted all n vote (Cert answer.BadCertification) lt is before by =
    first_refused rules wanted.roster wanted.valid_after all n vote _ (reached rules wanted.roster wanted.valid_after all n vote lt is before) by
stops_at rules wanted all n vote (Cert answer.BadCrosscert) lt is before by =
    first_refused rules wanted.roster wanted.valid_after all n vote _ (reached rules wanted.roster wanted.valid_after all n vote lt is before) by
stops_at rules wanted all n vote (Cert answer.VerifierFault) lt is before by = absurd by
stops_at rules wanted all n vote BadSignature lt is before by =
    first_refused rules wanted.roster wanted.valid_after all n vote _ (reached rules wanted.roster wanted.valid_after all n vote lt is before) by
stops_at rules wanted all n vote VerifierFault lt is before by =
    record { before = n; vote = vote; reached = reached rules wanted.roster wanted.valid_after all n vote lt is before; asked = by }
