-- What is computed of an input of bytes is read again.
use Rattle.std.proofs.{Common.{ℕ, List, [], length, refl, sym, subst}, lemmas.List.{append-nil, Elements.All-nil}}
use Rattle.std.{proofs.lemmas.List.Elements.All-weaker, specs.Prelude.All}
use Rattle.vote_terms.specs.{Held.held, Votes.ReadVote}
use Rattle.count_terms.specs.declared.newest.Newest.{Newest}
use Rattle.consensus_terms.specs.{Texts.unsigned, declared.flavour.Flavour.{Flavour, TheVariants.{Ns, Microdesc}}}
use Rattle.compute_terms.specs.Consensuses.{consensus}
use Rattle.computed_laws.specs.{Computed.IsVoteInRange, WithinLimits.{FillsLines, IsSignature}}
use Rattle.computed_laws.proofs.ComputedItems.{again_within}
use Rattle.daemon_words.specs.declared.command.Flavours.{Flavours}
use Rattle.daemon_words.specs.declared.command.Flavours.TheVariants as flavours
use Rattle.compute_command.specs.Answers.{texts_of}
use Rattle.answer_laws.specs.{Texts.{AnswersAreReadAgain, IsReadAgain, IsReadAs, IsReadAsWanted}, Votes.IsFit}
use Rattle.answer_laws.specs.Votes.{VotesOfInputsAreFit}

-- the text of what is computed of votes that are fit
text_again : (flavour : Flavour) (newest : Newest) (roster : ℕ) (votes : List ReadVote) → All IsFit votes
    → IsReadAgain flavour newest roster votes (unsigned flavour (consensus newest roster votes))
text_again flavour newest roster votes fit =
    let are = All-weaker IsFit (λ (vote : ReadVote). IsVoteInRange vote.says) (λ vote is. is.in_range) votes fit in
    let fill = All-weaker IsFit (λ (vote : ReadVote). FillsLines vote.says) (λ vote is. is.fills) votes fit in
    let text = unsigned flavour (consensus newest roster votes) in
    record {
      alone = λ within. subst (IsReadAs flavour newest roster votes []) (append-nil text)
          (again_within flavour newest roster votes [] are fill (All-nil IsSignature) within);
      behind = λ lines signed_ within. again_within flavour newest roster votes lines are fill signed_ within;
    }

-- so it is in the flavours that are wanted
wanted_again : (wanted : Flavours) (newest : Newest) (roster : ℕ) (votes : List ReadVote) → All IsFit votes
    → IsReadAsWanted wanted newest roster votes (texts_of wanted (consensus newest roster votes))
wanted_again flavours.Ns newest roster votes fit = text_again Ns newest roster votes fit
wanted_again flavours.Microdesc newest roster votes fit = text_again Microdesc newest roster votes fit
wanted_again flavours.Both newest roster votes fit = record {
  stand = refl;
  ns = text_again Ns newest roster votes fit;
  microdesc = text_again Microdesc newest roster votes fit;
}

-- by what the votes of an input are
pub answers_again : VotesOfInputsAreFit → AnswersAreReadAgain
answers_again fit rules wanted bytes text are is =
    let votes = held is.votes in
    let roster : ℕ = length wanted.roster in
    subst (IsReadAsWanted wanted.flavours wanted.newest roster votes) (sym is.written)
    (wanted_again wanted.flavours wanted.newest roster votes (fit bytes is.votes are is.read).1)
