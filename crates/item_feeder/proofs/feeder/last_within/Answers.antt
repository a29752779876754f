use Rattle.std.proofs.{Common.{◌≡◌, ◌≤◌, Bool, true, false, eqb, ap, ◌∙◌, arith}, lemmas.Bool.{eq-eqb, ne_eqb}}
use Rattle.std.specs.Prelude.{◌&&◌}
use Rattle.item_terms.specs.declared.fault.DocReason.{DocReason}
use Rattle.dirdoc_grammar.specs.Cursors.{fed_by}
use Rattle.item_feeder.proofs.{LastWithin.{over_by, settled_by}, Beside.{item_shows, fault_shows, other_shows}}
use Rattle.item_feeder.proofs.Beside.{open_shows}
use Rattle.item_feeder.proofs.feeder.last_within.Goals.{else-beside-eq45-via-then-beside-eq45+else-item-limit}
use Rattle.item_feeder.proofs.feeder.last_within.Goals.{else-beside-eq45-via-else-beside-eq45}
use Rattle.item_feeder.proofs.feeder.last_within.Goals as goal

pub returns-then-item-limit-clause-shows : goal.returns-then-item-limit-clause-shows
returns-then-item-limit-clause-shows c finished =
    let at_ = c.requires.at in
    open_shows c.args.cursor c.args.bytes.now c.args.beside finished c.in-Item.item
    (fed_by c.take.new.self c.args.bytes.now true)
    (record { begins = omega (arith, at_.taken, at_.order, at_.later, at_.within); ends = c.requires.full })
    c.if-beside-eq45.true c.if-item-limit.true c.in-Item.ensures.order c.in-Item.ensures.takes

pub returns-in-Unterminated-clause-shows : goal.returns-in-Unterminated-clause-shows
returns-in-Unterminated-clause-shows c finished =
    let at_ = c.requires.at in
    fault_shows c.args.cursor c.args.bytes.now c.args.beside finished c.in-Fault.fault _
    (fed_by c.take.new.self c.args.bytes.now true)
    (record { begins = omega (arith, at_.taken, at_.order, at_.later, at_.within); ends = c.requires.full })
    (ap (λ (r : DocReason). over_by r c.args.cursor.limit c.in-Fault.fault) c.in-Unterminated.is)
    c.in-Fault.ensures.takes

pub returns-in_default-reason : goal.returns-in_default-reason
returns-in_default-reason c =
    let at_ = c.requires.at in
    record {
      shows = λ finished.
          fault_shows c.args.cursor c.args.bytes.now c.args.beside finished c.in-Fault.fault c.in-Fault.fault
          (fed_by c.take.new.self c.args.bytes.now true)
          (record { begins = omega (arith, at_.taken, at_.order, at_.later, at_.within); ends = c.requires.full })
          (settled_by c.in-Fault.fault.reason c.args.cursor.limit c.in-Fault.fault
          c.in_default-reason.not-Unterminated) c.in-Fault.ensures.takes;
      order = tt;
      within = tt;
    }

pub returns-else-beside-eq45-clause-shows : goal.returns-else-beside-eq45-clause-shows
returns-else-beside-eq45-clause-shows c finished =
    let at_ = c.requires.at in
    let stays : (eqb c.args.beside 45 && eqb c.in-Item.item.line_end c.args.cursor.limit) ≡ false = elim
    c.else-beside-eq45.branch [
      | else-beside-eq45-via-then-beside-eq45+else-item-limit w ↦
          ap (λ (t : Bool). t && eqb c.in-Item.item.line_end c.args.cursor.limit)
          (eq-eqb c.args.beside 45 w.if-beside-eq45.true)
          ∙ ne_eqb c.in-Item.item.line_end c.args.cursor.limit w.if-item-limit.false
      | else-beside-eq45-via-else-beside-eq45 w ↦
          ap (λ (t : Bool). t && eqb c.in-Item.item.line_end c.args.cursor.limit)
          (ne_eqb c.args.beside 45 w.if-beside-eq45.false)
    ] in
    item_shows c.args.cursor c.args.bytes.now c.args.beside finished c.in-Item.item
    (fed_by c.take.new.self c.args.bytes.now true)
    (record { begins = omega (arith, at_.taken, at_.order, at_.later, at_.within); ends = c.requires.full })
    stays c.in-Item.ensures.takes

pub returns-in_default-clause-shows : goal.returns-in_default-clause-shows
returns-in_default-clause-shows c finished =
    let at_ = c.requires.at in
    other_shows c.args.cursor c.args.bytes.now c.args.beside finished c.take.result
    (fed_by c.take.new.self c.args.bytes.now true)
    (record { begins = omega (arith, at_.taken, at_.order, at_.later, at_.within); ends = c.requires.full })
    c.in_default.not-Item c.in_default.not-Fault c.take.ensures.takes
