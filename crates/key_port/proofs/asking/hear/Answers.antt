use Rattle.std.proofs.Common.{arith, rules}
use Rattle.key_port.proofs.Answering.{hears_yes, hears_no, hears_like_yes, hears_like_no, hears_other, hears_nothing}
use Rattle.key_port.proofs.asking.hear.Goals as goal

pub returns-in-Some-eq121-clause-exact : goal.returns-in-Some-eq121-clause-exact
returns-in-Some-eq121-clause-exact g c = λ _. hears_yes _ (g.S.Source.left c.next_byte.new.source) (g.S.Source.left c.gives.new.source) (search rules) (search rules)

pub returns-in-Some-eq110-clause-exact : goal.returns-in-Some-eq110-clause-exact
returns-in-Some-eq110-clause-exact g c = λ _. hears_no _ (g.S.Source.left c.next_byte.new.source) _ (search rules) (c.if-gives-2.ensures.taken (search rules))

pub returns-in-Some-clause-exact : goal.returns-in-Some-clause-exact
returns-in-Some-clause-exact g c = λ quiet.
    hears_like_yes _ (g.S.Source.left c.next_byte.new.source) (search rules) (c.if-gives.ensures.others (search rules) (λ rose. quiet (omega (arith, rose, c.next_byte.ensures.faults))))

pub returns-in-Some-2-clause-exact : goal.returns-in-Some-2-clause-exact
returns-in-Some-2-clause-exact g c = λ quiet.
    hears_like_no _ (g.S.Source.left c.next_byte.new.source) (search rules) (c.if-gives-2.ensures.others (search rules) (λ rose. quiet (omega (arith, rose, c.next_byte.ensures.faults))))

pub returns-in-Some-3-clause-exact : goal.returns-in-Some-3-clause-exact
returns-in-Some-3-clause-exact g c = λ _.
    hears_other _ (g.S.Source.left c.next_byte.new.source) c.in-Some.field-0 (search rules) (search rules) (search rules)

pub returns-in-None-clause-exact : goal.returns-in-None-clause-exact
returns-in-None-clause-exact g c = λ quiet. hears_nothing _ (c.next_byte.ensures.end c.in-None.is quiet)
