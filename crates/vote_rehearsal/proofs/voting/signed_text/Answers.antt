use Rattle.std.proofs.{Common.{List, ℕ, ap₂, ◌∙◌}, lemmas.Result.IfOk-weaker}
use Rattle.vote_terms.specs.declared.facts.VoteFacts.{VoteFacts}
use Rattle.vote_text.specs.Made.{made_signed}
use Rattle.vote_rehearsal.specs.Votes.{signed_text}
use Rattle.vote_rehearsal.proofs.voting.signed_text.Goals as goal

pub returns : goal.returns
unfolding signed_text
returns c =
    let same =
    ap₂ (λ (f : VoteFacts) (b : List ℕ). made_signed f b) c.in_ok-facts.ensures
    (c.deref.ensures.value ∙ c.in_ok-certificate.ensures.bytes) in
    IfOk-weaker c.write_signed.result _ _ (λ text is. is ∙ same) c.write_signed.ensures
