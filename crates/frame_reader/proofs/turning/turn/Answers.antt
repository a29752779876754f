use Rattle.std.proofs.{Common.{◌∙◌, ap}, lemmas.Result.err_from_is_err_and}
use Rattle.dirdoc_grammar.specs.Seen.{seen_item}
use Rattle.frame_terms.specs.Documents.{finish}
use Rattle.frame_reader.{specs.Steps.made_of, proofs.Stepping.{fails, goes_on}}
use Rattle.frame_reader.proofs.turning.turn.Goals as goal

pub returns-in_ok-opens-in-Opens : goal.returns-in_ok-opens-in-Opens
returns-in_ok-opens-in-Opens g c =
    let tables = g.F.Frame.tables c.args.frame in
    let item = seen_item c.args.item.now in
    let state = c.args.state.now in
    goes_on g.K.Facts.with tables item c.args.across.now c.opens.new.across state c.opens.new.state c.args.facts.now
    c.opens.new.facts (made_of tables c.args.across.now state.taken item c.in_ok-step_by.field-0)
    (c.in_ok-step_by.ensures c.args.across.now) (rw c.in-Opens.is c.in_ok-opens-in-Opens.ensures)

pub returns-in_ok-enters-in-Enters : goal.returns-in_ok-enters-in-Enters
returns-in_ok-enters-in-Enters g c =
    let tables = g.F.Frame.tables c.args.frame in
    let item = seen_item c.args.item.now in
    let state = c.args.state.now in
    goes_on g.K.Facts.with tables item c.args.across.now c.enters.new.across state c.enters.new.state c.args.facts.now
    c.args.facts.now (made_of tables c.args.across.now state.taken item c.in_ok-step_by.field-0)
    (c.in_ok-step_by.ensures c.args.across.now)
    (rw c.in-Enters.is (λ more. ap (finish g.K.Facts.with c.args.facts.now) (c.in_ok-enters-in-Enters.ensures more)))

pub returns-in_err-opens-in-Opens : goal.returns-in_err-opens-in-Opens
returns-in_err-opens-in-Opens g c =
    let tables = g.F.Frame.tables c.args.frame in
    let item = seen_item c.args.item.now in
    let state = c.args.state.now in
    let told = err_from_is_err_and c.from_residual-in_err-opens-in-Opens.result c.from_residual-in_err-opens-in-Opens.ensures.1 in
    rw (told.1, told.2)
    (fails g.K.Facts.with tables item c.args.across.now state c.args.facts.now
    (made_of tables c.args.across.now state.taken item c.in_ok-step_by.field-0) c.in_err-opens-in-Opens.field-0.0
    (c.in_ok-step_by.ensures c.args.across.now) (rw c.in-Opens.is c.in_err-opens-in-Opens.ensures))

pub returns-in_err-enters-in-Enters : goal.returns-in_err-enters-in-Enters
returns-in_err-enters-in-Enters g c =
    let tables = g.F.Frame.tables c.args.frame in
    let item = seen_item c.args.item.now in
    let state = c.args.state.now in
    let told = err_from_is_err_and c.from_residual-in_err-enters-in-Enters.result c.from_residual-in_err-enters-in-Enters.ensures.1 in
    rw (told.1, told.2)
    (fails g.K.Facts.with tables item c.args.across.now state c.args.facts.now
    (made_of tables c.args.across.now state.taken item c.in_ok-step_by.field-0) c.in_err-enters-in-Enters.field-0.0
    (c.in_ok-step_by.ensures c.args.across.now) (rw c.in-Enters.is c.in_err-enters-in-Enters.ensures))
