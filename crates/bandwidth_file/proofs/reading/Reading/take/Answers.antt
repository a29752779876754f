use Rattle.std.proofs.Common.{rules, ◌≡◌, true, false, refl}
use Rattle.item_terms.specs.Words.{is_blank_line}
use Rattle.bandwidth_file.{specs.{Files.rows_of, Lending.line_seen}, proofs.Steps.{holds_one, keeps_there}}
use Rattle.bandwidth_file.proofs.reading.Reading.take.Goals as goal

pub returns-then-not-is_blank_line-clause-ok : goal.returns-then-not-is_blank_line-clause-ok
returns-then-not-is_blank_line-clause-ok c = λ before there holds.
    let filled : is_blank_line c.args.line.text.now ≡ false = search rules in
    holds_one before (line_seen c.args.line) false c.args.self.now c.keep.new.self _ filled holds
    (keeps_there before (line_seen c.args.line) c.args.place c.said_by-said.result c.args.self.now c.keep.new.self there holds c.said_by-said.ensures
    (c.in_ok-keep.ensures.ok (rows_of before) holds.relays))
    c.next_section-self.ensures refl refl refl

pub returns-else-not-is_blank_line-clause-ok : goal.returns-else-not-is_blank_line-clause-ok
returns-else-not-is_blank_line-clause-ok c = λ before there holds.
    let blank : is_blank_line c.args.line.text.now ≡ true = search rules in
    holds_one before (line_seen c.args.line) true c.args.self.now c.keep.new.self c.keep.new.self blank holds
    (keeps_there before (line_seen c.args.line) c.args.place c.said_by-said.result c.args.self.now c.keep.new.self there holds c.said_by-said.ensures
    (c.in_ok-keep.ensures.ok (rows_of before) holds.relays))
    refl refl refl refl
