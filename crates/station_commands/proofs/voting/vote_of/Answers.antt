use Rattle.std.proofs.Common.{rules, ◌≡◌, Err, ap, sym, ◌∙◌}
use Rattle.key_port.specs.Answers.{rules as verifier_rules}
use Rattle.flag_rules.specs.Rules.{RuleAlike}
use Rattle.vote_maker.specs.Made.{basis}
use Rattle.station_commands.proofs.Voted.{failed_signer, failed_verifier, not_voted, voted}
use Rattle.station_commands.proofs.voting.vote_of.Goals as goal

pub returns-in-Ok-clause-gives : goal.returns-in-Ok-clause-gives
returns-in-Ok-clause-gives g c =
    let station = c.args.station.now in
    let its = basis station c.args.pool.now.descriptors c.args.valid_after c.args.now in
    let list = c.in_ok-list.list in
    let others = c.new-hook.result.rules.now in
    let alike : RuleAlike station.rules list = search rules in
    let is : others ≡ list = search rules in
    voted (verifier_rules g.V.Verifier.may_accept g.V.Verifier.may_refuse) g.N.Signer.may_give g.N.Signer.steps its
    c.args.signer.now c.make.new.signer list others c.in-Ok.text alike is c.in-Ok.ensures.made

pub returns-clause-gives : goal.returns-clause-gives
returns-clause-gives g c =
    let station = c.args.station.now in
    let its = basis station c.args.pool.now.descriptors c.args.valid_after c.args.now in
    let list = c.in_ok-list.list in
    let others = c.new-hook.result.rules.now in
    let alike : RuleAlike station.rules list = search rules in
    let is : others ≡ list = search rules in
    not_voted (verifier_rules g.V.Verifier.may_accept g.V.Verifier.may_refuse) g.N.Signer.may_give g.N.Signer.steps its
    c.args.signer.now c.make.new.signer list others c.in-Err.refusal c.make_refused.result alike is
    c.in-Err.ensures.refused c.make_refused.ensures

pub returns-clause-verifier_fault : goal.returns-clause-verifier_fault
returns-clause-verifier_fault g c =
    let its = basis c.args.station.now c.args.pool.now.descriptors c.args.valid_after c.args.now in
    λ is.
    c.in-Err.ensures.verifier_fault
    (ap (λ why. Err why)
    (failed_verifier (verifier_rules g.V.Verifier.may_accept g.V.Verifier.may_refuse) g.N.Signer.may_give
    g.N.Signer.steps its c.args.signer.now c.make.new.signer c.new-hook.result.rules.now c.in-Err.refusal
    c.in-Err.ensures.refused (sym c.make_refused.ensures ∙ (cc is))))

pub returns-clause-signer_fault : goal.returns-clause-signer_fault
returns-clause-signer_fault g c =
    λ is.
    c.in-Err.ensures.signer_fault
    (ap (λ why. Err why) (failed_signer c.in-Err.refusal (sym c.make_refused.ensures ∙ (cc is))))
