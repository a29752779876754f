use Rattle.std.proofs.Common.{◌≡◌, ◌∙◌, ◌+◌, Some, ap, refl, sym}
use Rattle.key_port.specs.Answers.{rules}
use Rattle.vote_terms.specs.{Votes.ReadVote, Held.votes_with}
use Rattle.vote_doc.specs.Holdings.{Holding}
use Rattle.compute_command.{specs.declared.refusal.AcceptRefusal.AcceptRefusal, proofs.Checks.{first_refused, held_too}}
use Rattle.compute_command.proofs.{Checks.{none_if, still_refused, tells_on, tells_refused}, VoteAsking.accepted_too}
use Rattle.compute_command.proofs.{VoteAsking.{not_asked, refused_now}, Faults.no_fault}
use Rattle.compute_command.proofs.checking.Checking.check.Goals as goal

pub returns-then-is_some-clause-checked : goal.returns-then-is_some-clause-checked
returns-then-is_some-clause-checked g c =
    λ votes is.
    still_refused (rules g.V.Verifier.may_accept g.V.Verifier.may_refuse) c.args.wanted.now votes c.args.vote
    c.args.self.now _ is c.requires.few refl (sym c.is_some.ensures ∙ c.if-is_some.true) refl refl

pub returns-in-Ok-clause-checked : goal.returns-in-Ok-clause-checked
returns-in-Ok-clause-checked g c =
    let its = rules g.V.Verifier.may_accept g.V.Verifier.may_refuse in
    let wanted = c.args.wanted.now in
    let old = c.args.self.now.kept in
    let put : ReadVote → Holding = λ v. record old { votes = votes_with old.votes v } in
    let held : c.into_held.result ≡ c.args.vote = c.into_held.ensures.vote ∙ c.in-Ok.ensures.accepted.0 in
    λ votes is.
    held_too its wanted votes c.args.vote
    c.args.self.now _ is c.requires.few refl (sym c.is_some.ensures ∙ c.if-is_some.false) refl
    (c.place.ensures.votes ∙ ap put held)
    c.in-Ok.ensures.accepted.1

pub returns-in-Ok-clause-faults : goal.returns-in-Ok-clause-faults
returns-in-Ok-clause-faults g c =
    λ before tells.
    tells_on before _ _ c.args.self.now.first (no_fault _ _ c.in-Ok.ensures.faults c.in-Ok.ensures.told) tells

pub returns-in-Err-clause-checked : goal.returns-in-Err-clause-checked
returns-in-Err-clause-checked g c =
    let its = rules g.V.Verifier.may_accept g.V.Verifier.may_refuse in
    let wanted = c.args.wanted.now in
    λ votes is.
    first_refused its wanted votes c.args.vote
    c.args.self.now _ is c.requires.few refl c.in-Err.refusal (sym c.is_some.ensures ∙ c.if-is_some.false)
    (ap (λ (r : AcceptRefusal). Some r) c.refused.ensures) refl
    c.in-Err.ensures.refused

pub returns-in-Err-clause-faults : goal.returns-in-Err-clause-faults
returns-in-Err-clause-faults g c =
    let its = rules g.V.Verifier.may_accept g.V.Verifier.may_refuse in
    let wanted = c.args.wanted.now in
    let first = c.args.self.now.first in
    λ before tells.
    tells_refused its wanted c.args.vote
    (c.args.self.now.count + 1) before _ _ c.in-Err.refusal c.refused.result first c.refused.ensures
    (none_if first (sym c.is_some.ensures ∙ c.if-is_some.false))
    c.in-Err.ensures.refused
    c.in-Err.ensures.faults c.in-Err.ensures.fault (λ lt. cc (c.in-Err.ensures.told lt)) tells

pub returns-then-is_some-clause-asked : goal.returns-then-is_some-clause-asked
returns-then-is_some-clause-asked g c =
    λ votes start count asked.
    not_asked g.V.Verifier.steps votes c.args.vote c.args.self.now.first start c.args.verifier.now
    (sym c.is_some.ensures ∙ c.if-is_some.true) asked

pub returns-in-Ok-clause-asked : goal.returns-in-Ok-clause-asked
returns-in-Ok-clause-asked g c =
    λ votes start count asked.
    accepted_too g.V.Verifier.steps votes c.args.vote c.args.self.now.first start c.args.verifier.now
    c.check_vote.new.verifier (sym c.is_some.ensures ∙ c.if-is_some.false) asked c.in-Ok.ensures.asked

pub returns-in-Err-clause-asked : goal.returns-in-Err-clause-asked
returns-in-Err-clause-asked g c =
    λ votes start count asked.
    refused_now g.V.Verifier.steps votes c.args.vote c.in-Err.refusal c.args.self.now.count c.refused.result
    c.args.self.now.first start c.args.verifier.now c.check_vote.new.verifier count c.refused.ensures
    (sym c.is_some.ensures ∙ c.if-is_some.false) asked c.in-Err.ensures.refused_asked
