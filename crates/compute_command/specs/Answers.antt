-- The command that computes a consensus.
use Rattle.std.specs.Prelude.{◌≡◌, ℕ, true, false, List, ◌++◌, length, All, Result, Ok, Err}
use Rattle.frame_terms.specs.declared.fault.ReadRefusal.TheVariants.{Frame}
use Rattle.key_port.specs.Answers.{Rules}
use Rattle.vote_terms.specs.{Votes.ReadVote, Held.held, Acceptable.{AsksOf, IsAcceptable, IsFirstRefused, RefusesNone}}
use Rattle.vote_terms.specs.declared.word.VoteWord.{VoteWord}
use Rattle.count_terms.specs.Counts.{over}
use Rattle.compute_terms.specs.Consensuses.{consensus}
use Rattle.consensus_terms.specs.{Texts.unsigned, declared.consensus.Consensus.Consensus}
use Rattle.consensus_terms.specs.declared.flavour.Flavour.TheVariants.{Ns, Microdesc}
use Rattle.daemon_words.specs.declared.command.{Compute.Compute, Flavours.Flavours}
use Rattle.daemon_words.specs.declared.command.Flavours.TheVariants as flavours
use Rattle.compute_command.specs.{declared.refusal.ComputeRefusal.ComputeRefusal, Votes.votes_of}
use Rattle.compute_command.specs.declared.refusal.ComputeRefusal.TheVariants as refusal
use Rattle.compute_command.specs.declared.refusal.VoteListRefusal.TheVariants as list

-- the texts of a consensus in the flavours that are wanted; of both the ns flavour comes first
abbrev pub texts_of : Flavours → Consensus → List ℕ
texts_of flavours.Ns c = unsigned Ns c
texts_of flavours.Microdesc c = unsigned Microdesc c
texts_of flavours.Both c = unsigned Ns c ++ unsigned Microdesc c

-- The input is votes, each acceptable, and those that are held are of more than half of the roster. The text is that of
-- their consensus, in the flavours that are wanted, where the newest method that is known is the wanted one.
pub record Computes (rules : Rules) (wanted : Compute) (bytes text : List ℕ) : Type 0 where
  pub votes : List ReadVote
  pub read : votes_of bytes ≡ Ok votes
  pub acceptable : All (λ vote. IsAcceptable rules wanted.roster wanted.valid_after vote) votes
  pub enough : over (length (held votes)) (length wanted.roster) ≡ true
  pub written : text ≡ texts_of wanted.flavours (consensus wanted.newest (length wanted.roster) (held votes))

-- The input is votes, and the one with this number, from 1, is the first that is not acceptable, by this word.
pub record RefusesVote (rules : Rules) (wanted : Compute) (bytes : List ℕ) (number : ℕ) (word : VoteWord) : Type 0 where
  pub votes : List ReadVote
  pub read : votes_of bytes ≡ Ok votes
  pub first : IsFirstRefused rules wanted.roster wanted.valid_after votes number word

-- The input is votes, and the verifier is asked of one behind acceptable ones.
pub record AsksVerifier (rules : Rules) (wanted : Compute) (bytes : List ℕ) : Type 0 where
  pub votes : List ReadVote
  pub read : votes_of bytes ≡ Ok votes
  pub asked : AsksOf rules wanted.roster wanted.valid_after votes

-- The input is votes, each acceptable, and those that are held are not of more than half of the roster.
pub record HasTooFew (rules : Rules) (wanted : Compute) (bytes : List ℕ) (count roster : ℕ) : Type 0 where
  pub votes : List ReadVote
  pub read : votes_of bytes ≡ Ok votes
  pub acceptable : All (λ vote. IsAcceptable rules wanted.roster wanted.valid_after vote) votes
  pub count_is : count ≡ length (held votes)
  pub roster_is : roster ≡ length wanted.roster
  pub few : over count roster ≡ false

-- what the command answers to an input: a text, or a refusal. Where the verifier failed it was asked.
abbrev pub ComputeAnswers : Rules → Compute → List ℕ → Result (List ℕ) ComputeRefusal → Type 0
ComputeAnswers rules wanted bytes (Ok text) = Computes rules wanted bytes text
ComputeAnswers rules wanted bytes (Err (refusal.Fault fault)) = votes_of bytes ≡ Err (Frame fault)
ComputeAnswers rules wanted bytes (Err (refusal.Votes (list.Vote number word))) =
    RefusesVote rules wanted bytes number word
ComputeAnswers rules wanted bytes (Err (refusal.Votes (list.TooFew count roster))) =
    HasTooFew rules wanted bytes count roster
ComputeAnswers rules wanted bytes (Err refusal.Verifier) = AsksVerifier rules wanted bytes

-- The input is acceptable votes of more than half of the roster, and the verifier may refuse none of their signatures.
pub record CanCompute (rules : Rules) (wanted : Compute) (bytes : List ℕ) : Type 0 where
  pub votes : List ReadVote
  pub read : votes_of bytes ≡ Ok votes
  pub acceptable : All (λ vote. IsAcceptable rules wanted.roster wanted.valid_after vote) votes
  pub none_refused : All (λ vote. RefusesNone rules vote) votes
  pub enough : over (length (held votes)) (length wanted.roster) ≡ true
