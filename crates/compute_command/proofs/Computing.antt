-- The text that was written is that of the consensus of the held votes.
use Rattle.std.{proofs.Common.{◌≡◌, ℕ, true, List, length, Ok, Err, refl, sym, ap, ◌∙◌}, specs.Prelude.All}
use Rattle.std.specs.Global.{Vec}
use Rattle.key_port.specs.Answers.{Rules}
use Rattle.vote_terms.specs.{Votes.ReadVote, Held.held, Acceptable.IsAcceptable}
use Rattle.count_terms.specs.Counts.{over}
use Rattle.compute_terms.specs.Consensuses.{consensus}
use Rattle.consensus_terms.specs.declared.consensus.Consensus.{Consensus}
use Rattle.daemon_words.specs.declared.command.Compute.{Compute}
use Rattle.consensus_calc.specs.declared.record.CalcFault.TheVariants as calc
use Rattle.compute_command.specs.{Votes.votes_of, Answers.{ComputeAnswers, Computes, HasTooFew, texts_of}}
use Rattle.compute_command.specs.Private.{WritesText}

pub computes : (rules : Rules) (wanted : Compute) (bytes text : List ℕ) (votes now : List ReadVote) (roster : ℕ)
    (c : Consensus) → votes_of bytes ≡ Ok votes
    → All (λ vote. IsAcceptable rules wanted.roster wanted.valid_after vote) votes → now ≡ held votes
    → roster ≡ length wanted.roster
    → over (length now) roster ≡ true → c ≡ consensus wanted.newest roster now → text ≡ texts_of wanted.flavours c
    → Computes rules wanted bytes text
computes rules wanted bytes text votes now roster c read acceptable held_is roster_is enough c_is text_is = record {
  votes = votes;
  read = read;
  acceptable = acceptable;
  enough =
      ap (λ (h : List ReadVote). over (length h) (length wanted.roster)) (sym held_is)
      ∙ ap (λ (r : ℕ). over (length now) r) (sym roster_is) ∙ enough;
  written =
      text_is ∙ ap (λ (x : Consensus). texts_of wanted.flavours x)
      (c_is ∙ ap (λ (r : ℕ). consensus wanted.newest r now) roster_is
      ∙ ap (λ (h : List ReadVote). consensus wanted.newest (length wanted.roster) h) held_is);
}

-- what was written, or that they are too few, answers the votes that were read
module _ (rules : Rules) (wanted : Compute) (bytes : List ℕ) (votes now : List ReadVote) (read : votes_of bytes ≡ Ok votes)
    (acceptable : All (λ vote. IsAcceptable rules wanted.roster wanted.valid_after vote) votes) (held_is : now ≡ held votes)
  where
    pub text_answers : (text : Vec ℕ) → WritesText wanted now (Ok text) → ComputeAnswers rules wanted bytes (Ok text.items)
    text_answers text is =
        computes rules wanted bytes text.items votes now (length wanted.roster)
        (consensus wanted.newest (length wanted.roster) now)
        read acceptable held_is refl is.0 refl is.1

    pub too_few : (count roster : ℕ) → WritesText wanted now (Err (calc.TooFew count roster))
        → HasTooFew rules wanted bytes count roster
    too_few count roster is = record {
      votes = votes;
      read = read;
      acceptable = acceptable;
      count_is = is.1 ∙ ap (λ (h : List ReadVote). length h) held_is;
      roster_is = is.2;
      few =
          ap (λ (n : ℕ). over n roster) is.1 ∙ ap (λ (n : ℕ). over (length now) n) is.2 ∙ is.0;
    }
