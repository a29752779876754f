use Rattle.mirror_core.proofs.laws.a_refusal_changes_nothing.Goals as goal

pub returns-clause-certs : goal.returns-clause-certs
returns-clause-certs c = λ rules now before after bytes why answers. answers.1

pub returns-clause-consensus : goal.returns-clause-consensus
returns-clause-consensus c = λ rules before after bytes why answers. answers.1

pub returns-clause-micros : goal.returns-clause-micros
returns-clause-micros c = λ before after bytes why answers. answers.1
