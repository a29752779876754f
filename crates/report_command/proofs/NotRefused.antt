-- Acceptable votes with their consensus are not refused.
use Rattle.std.{proofs.Common.{◌≡◌, ◌∙◌, ℕ, List, Some, Err, ap, sym, subst, refl}, specs.Prelude.slice_get}
use Rattle.frame_terms.specs.declared.fault.FrameFault.{FrameFault}
use Rattle.key_port.specs.Answers.{Rules}
use Rattle.vote_terms.specs.{Acceptable.{IsAcceptable, RefusesNone}, Votes.ReadVote}
use Rattle.compute_command.proofs.NotRefused.{at, not_refused_by}
use Rattle.consensus_doc.specs.Reading.{consensus_of}
use Rattle.consensus_terms.specs.declared.consensus.SignedConsensus.{SignedConsensus}
use Rattle.daemon_words.specs.declared.report.Report.{Report}
use Rattle.report_command.specs.declared.refusal.NoReport.TheVariants as report
use Rattle.report_command.specs.{declared.refusal.ReportRefusal.ReportRefusal, Answers.{CanReport, ConsensusFails}}
use Rattle.report_command.specs.{Answers.{Reads, ReportAnswers}, Inputs.{rest_from, votes_of}}
use Rattle.report_command.proofs.OneReading.{not_both, one_value}
use Rattle.report_command.specs.declared.refusal.ReportRefusal.TheVariants as refusal

-- what an input is read as is one thing
one_reading : (bytes : List ℕ) (l m : List ReadVote) (r s : List ℕ) (c d : SignedConsensus) (one : Reads bytes l r c)
    (other : Reads bytes m s d) → ◌≡◌ {A = List ReadVote × ℕ} (l, one.at) (m, other.at)
one_reading bytes l m r s c d one other =
    one_value (votes_of bytes) (l, one.at) (m, other.at) one.votes_are other.votes_are

same_votes : (bytes : List ℕ) (l m : List ReadVote) (r s : List ℕ) (c d : SignedConsensus) → Reads bytes l r c
    → Reads bytes m s d → l ≡ m
same_votes bytes l m r s c d one other =
    ap (λ (read : List ReadVote × ℕ). read.0) (one_reading bytes l m r s c d one other)

same_consensus : (bytes : List ℕ) (l m : List ReadVote) (r s : List ℕ) (c d : SignedConsensus) → Reads bytes l r c
    → Reads bytes m s d → c ≡ d
same_consensus bytes l m r s c d one other =
    let at : one.at ≡ other.at = ap (λ (read : List ReadVote × ℕ). read.1) (one_reading bytes l m r s c d one other) in
    let rest : r ≡ s = one.rest_is ∙ ap (λ (n : ℕ). rest_from n bytes) at ∙ sym other.rest_is in
    let is : consensus_of r ≡ consensus_of s = ap (λ (bytes : List ℕ). consensus_of bytes) rest in
    ap (λ (read : SignedConsensus × ℕ). read.0)
    (one_value (consensus_of s) (c, one.used) (d, other.used) (sym is ∙ one.consensus_is) other.consensus_is)

reads_on : (rules : Rules) (wanted : Report) (bytes : List ℕ) (fault : FrameFault) → CanReport rules wanted bytes
    → ConsensusFails bytes fault → ⊥
reads_on rules wanted bytes fault can fails =
    let read =
    one_value (votes_of bytes) (can.votes, can.reads.at) (fails.votes, fails.at) can.reads.votes_are fails.votes_are in
    let at : can.reads.at ≡ fails.at = ap (λ (read : List ReadVote × ℕ). read.1) read in
    let rest : can.rest ≡ rest_from fails.at bytes = can.reads.rest_is ∙ ap (λ (n : ℕ). rest_from n bytes) at in
    let same : consensus_of can.rest ≡ consensus_of (rest_from fails.at bytes) =
    ap (λ (bytes : List ℕ). consensus_of bytes) rest in
    not_both (consensus_of can.rest) (can.consensus, can.reads.used) _ can.reads.consensus_is (same ∙ fails.fails)

-- such an input is refused only where the verifier failed
pub not_refused : (rules : Rules) (wanted : Report) (bytes : List ℕ) (why : ReportRefusal) → CanReport rules wanted bytes
    → ReportAnswers rules wanted bytes (Err why) → why ≡ refusal.Verifier
not_refused rules wanted bytes (refusal.Votes fault) can a =
    absurd (not_both (votes_of bytes) (can.votes, can.reads.at) _ can.reads.votes_are a)
not_refused rules wanted bytes (refusal.Consensus fault) can a = absurd (reads_on rules wanted bytes fault can a)
not_refused rules wanted bytes (refusal.Vote number w) can a =
    let same = same_votes bytes a.votes can.votes a.rest can.rest a.consensus can.consensus a.reads can.reads in
    let first = a.says in
    let stands = subst (λ votes. slice_get votes first.before ≡ Some first.vote) same first.reached.stands in
    absurd (not_refused_by rules wanted.roster wanted.valid_after first.vote w
    (at (λ v. IsAcceptable rules wanted.roster wanted.valid_after v) can.votes first.before first.vote can.acceptable stands)
    (at (λ v. RefusesNone rules v) can.votes first.before first.vote can.none_refused stands)
    first.fails)
not_refused rules wanted bytes (refusal.Report (report.Missing place)) can a =
    absurd (not_both (votes_of bytes) (can.votes, can.reads.at) _ can.reads.votes_are a)
not_refused rules wanted bytes (refusal.Report (report.Period begin)) can a =
    let same = same_consensus bytes a.votes can.votes a.rest can.rest a.consensus can.consensus a.reads can.reads in
    absurd (a.says.other (ap (λ (c : SignedConsensus). c.facts.valid_after) same ∙ can.period))
not_refused rules wanted bytes (refusal.Report report.Flavour) can a =
    let same = same_consensus bytes a.votes can.votes a.rest can.rest a.consensus can.consensus a.reads can.reads in
    absurd (cc (sym a.says.flavour ∙ ap (λ (c : SignedConsensus). c.flavour) same ∙ can.flavour))
not_refused rules wanted bytes refusal.Verifier can a = refl
