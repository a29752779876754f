use Rattle.std.{proofs.Common.{◌≡◌, subst}, specs.Prelude.IfOk}
use Rattle.vote_terms.specs.declared.facts.VoteFacts.{VoteFacts}
use Rattle.vote_text.specs.Texts.{vote_text}
use Rattle.document_commands.proofs.vote.VoteDocument.write.Goals as goal

pub returns : goal.returns
returns c = subst (λ (facts : VoteFacts). IfOk c.write.result (λ text. text.items ≡ vote_text facts)) c.in_ok-facts.ensures c.write.ensures
