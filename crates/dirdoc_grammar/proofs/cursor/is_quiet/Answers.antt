use Rattle.std.{proofs.{Common.{◌≤◌, ◌-◌, ap, sym, length, ◌∙◌, arith}, lemmas.Bool.leb-true}, specs.Prelude.min}
use Rattle.item_terms.specs.Words.{begins_dash}
use Rattle.dirdoc_grammar.specs.declared.front.Phase.TheVariants.{Between, Keyword, Object}
use Rattle.dirdoc_grammar.proofs.{FirstLine.whole_rest, Quiet.{quiet_or, no_nl_on, rest_whole, all_no_nl}}
use Rattle.dirdoc_grammar.proofs.cursor.is_quiet.Goals as goal

pub returns-in-Between-clause-quiet : goal.returns-in-Between-clause-quiet
returns-in-Between-clause-quiet c =
    let none = no_nl_on c.args.line c.args.scanned c.args.bytes.now c.requires.order c.requires.no_nl (rest_whole c.args.scanned c.args.bytes.now c.line_len.result c.line_len.ensures.len c.if-line_len-rest.false c.line_len.ensures.within) in
    let fits : length c.args.bytes.now - c.args.line ≤ min (c.args.limit - c.args.line) 1048576 = omega (arith, c.if-size-min.false, c.min.ensures, c.saturating_sub.ensures) in
    rw c.in-Between.is (λ is open_ kind. quiet_or c.args.limit c.args.line Between c.args.bytes.now (omega (arith, c.requires.order, c.requires.within)) none fits (λ lt. tt) open_ kind)

pub returns-in-Between-clause-no_nl : goal.returns-in-Between-clause-no_nl
returns-in-Between-clause-no_nl c =
    λ is.
    all_no_nl c.args.line c.args.bytes.now
    (no_nl_on c.args.line c.args.scanned c.args.bytes.now c.requires.order c.requires.no_nl (rest_whole c.args.scanned c.args.bytes.now c.line_len.result c.line_len.ensures.len c.if-line_len-rest.false c.line_len.ensures.within))

pub returns-else-size-eq0-clause-quiet : goal.returns-else-size-eq0-clause-quiet
returns-else-size-eq0-clause-quiet c =
    let none = no_nl_on c.args.line c.args.scanned c.args.bytes.now c.requires.order c.requires.no_nl (rest_whole c.args.scanned c.args.bytes.now c.line_len.result c.line_len.ensures.len c.if-line_len-rest.false c.line_len.ensures.within) in
    let fits : length c.args.bytes.now - c.args.line ≤ min (c.args.limit - c.args.line) 1048576 = omega (arith, c.if-size-min.false, c.min.ensures, c.saturating_sub.ensures) in
    rw c.in-Keyword.is
    (λ is open_ kind.
    quiet_or c.args.limit c.args.line Keyword c.args.bytes.now (omega (arith, c.requires.order, c.requires.within)) none fits
    (λ lt. sym (ap begins_dash (whole_rest c.args.line c.args.bytes.now)) ∙ sym c.begins_dash.ensures ∙ is)
    open_ kind)

pub returns-else-size-eq0-clause-no_nl : goal.returns-else-size-eq0-clause-no_nl
returns-else-size-eq0-clause-no_nl c =
    λ is.
    all_no_nl c.args.line c.args.bytes.now
    (no_nl_on c.args.line c.args.scanned c.args.bytes.now c.requires.order c.requires.no_nl (rest_whole c.args.scanned c.args.bytes.now c.line_len.result c.line_len.ensures.len c.if-line_len-rest.false c.line_len.ensures.within))

pub returns-in-Object-clause-quiet : goal.returns-in-Object-clause-quiet
returns-in-Object-clause-quiet c =
    let none = no_nl_on c.args.line c.args.scanned c.args.bytes.now c.requires.order c.requires.no_nl (rest_whole c.args.scanned c.args.bytes.now c.line_len.result c.line_len.ensures.len c.if-line_len-rest.false c.line_len.ensures.within) in
    let fits : length c.args.bytes.now - c.args.line ≤ min (c.args.limit - c.args.line) 1048576 = omega (arith, c.if-size-min.false, c.min.ensures, c.saturating_sub.ensures) in
    rw c.in-Object.is
    (λ is open_ kind.
    quiet_or c.args.limit c.args.line (Object c.in-Object.begin) c.args.bytes.now (omega (arith, c.requires.order, c.requires.within)) none fits
    (λ lt. omega (arith, leb-true _ _ is, c.saturating_sub-in-Object.ensures, c.saturating_sub-in-Object-2.ensures))
    open_ kind)

pub returns-in-Object-clause-no_nl : goal.returns-in-Object-clause-no_nl
returns-in-Object-clause-no_nl c =
    λ is.
    all_no_nl c.args.line c.args.bytes.now
    (no_nl_on c.args.line c.args.scanned c.args.bytes.now c.requires.order c.requires.no_nl (rest_whole c.args.scanned c.args.bytes.now c.line_len.result c.line_len.ensures.len c.if-line_len-rest.false c.line_len.ensures.within))
