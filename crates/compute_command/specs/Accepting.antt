-- What the functions that check votes return.
use Rattle.std.specs.Prelude.{◌≡◌, ℕ, List, All, Option, Some, None, Result, Ok, Err}
use Rattle.key_port.specs.Answers.{Rules}
use Rattle.authority_certs.specs.declared.checking.CertAnswer.{CertAnswer}
use Rattle.authority_certs.specs.declared.checking.CertAnswer.TheVariants as answer
use Rattle.vote_terms.specs.{Votes.ReadVote, Held.held, Acceptable.{AsksOf, IsAcceptable, IsFirstRefused}}
use Rattle.vote_terms.specs.declared.word.VoteWord.{VoteWord}
use Rattle.vote_terms.specs.declared.word.VoteWord.TheVariants as word
use Rattle.vote_doc.specs.{Holdings.Holding, declared.check.VoteRefusal.{VoteRefusal, TheVariants.WrongPeriod}}
use Rattle.vote_doc.specs.declared.check.VoteRefusal.TheVariants.{UnknownAuthority, Cert, BadSignature, VerifierFault}
use Rattle.daemon_words.specs.declared.{command.Compute.Compute, stop.Stop.Stop}
use Rattle.daemon_words.specs.declared.stop.Stop.TheVariants as stop
use Rattle.compute_command.specs.declared.refusal.AcceptRefusal.{AcceptRefusal}
use Rattle.compute_command.specs.declared.refusal.AcceptRefusal.TheVariants as refusal

-- the word for what a certificate lacks
abbrev pub certificate_word : CertAnswer → Option VoteWord
certificate_word answer.WrongFingerprint = Some word.Fingerprint
certificate_word (answer.Expired at expires) = Some word.Expired
certificate_word answer.BadCertification = Some word.Certification
certificate_word answer.BadCrosscert = Some word.Crosscert
certificate_word answer.Checked = None
certificate_word answer.VerifierFault = None

-- the word for why a vote is refused, none where the verifier failed
abbrev pub word_of : VoteRefusal → Option VoteWord
word_of (WrongPeriod valid_after) = Some word.ValidAfter
word_of UnknownAuthority = Some word.Authority
word_of (Cert given) = certificate_word given
word_of BadSignature = Some word.Signature
word_of VerifierFault = None

-- what refusing the vote with this number says by a word
abbrev pub refusal_by : ℕ → Option VoteWord → AcceptRefusal
refusal_by number (Some why) = refusal.Vote number why
refusal_by number None = refusal.Verifier

-- what refusing the vote with this number says
abbrev pub refusal_of : ℕ → VoteRefusal → AcceptRefusal
refusal_of number given = refusal_by number (word_of given)

-- why checking votes stops: a vote is refused, or the verifier failed at one
abbrev pub StopsAt : Rules → Compute → List ReadVote → Stop AcceptRefusal → Type 0
StopsAt rules wanted votes stop.Memory = Unit {0}
StopsAt rules wanted votes (stop.Refused (refusal.Vote number why)) =
    IsFirstRefused rules wanted.roster wanted.valid_after votes number why
StopsAt rules wanted votes (stop.Refused refusal.Verifier) = AsksOf rules wanted.roster wanted.valid_after votes

-- what checking votes answers: those that are held, and that each is acceptable; or why it stops
abbrev pub Accepts : Rules → Compute → List ReadVote → Result Holding (Stop AcceptRefusal) → Type 0
Accepts rules wanted votes (Ok accepted) =
    (accepted.votes ≡ held votes) × All (λ vote. IsAcceptable rules wanted.roster wanted.valid_after vote) votes
Accepts rules wanted votes (Err e) = StopsAt rules wanted votes e
