use Rattle.std.proofs.Common.{◌++◌, ◌∙◌, take, sym, subst, arith, length-append, length-take}
use Rattle.std.specs.Io.KnownBytes.{Consumes}
use Rattle.dir_bytes.proofs.Appending.{consumes_more}
use Rattle.dir_http.{specs.Requests.Whatever, proofs.Reading.reads_head}
use Rattle.dir_http.proofs.head.read_head.Goals as goal

pub returns-in_err-extend_from_slice-in-Got-clause-taken :
    goal.returns-in_err-extend_from_slice-in-Got-clause-taken
returns-in_err-extend_from_slice-in-Got-clause-taken g c =
    let left = g.S.Source.left in
    let taken = c.pieces.bytes.items in
    let piece = take c.in-Got.count c.read.new.out in (
      taken ++ piece,
      consumes_more (left c.args.source.now) (left c.pieces.source) (left c.read.new.self) taken piece
          c.pieces.invariant.taken c.in-Got.ensures.bytes,
      omega (
        arith,
        length-append taken piece,
        length-take c.in-Got.count c.read.new.out,
        c.pieces.invariant.room,
        c.in-Got.ensures.within,
      ),
    )

pub returns-in-Whole-clause-answer : goal.returns-in-Whole-clause-answer
returns-in-Whole-clause-answer g c =
    let left = g.S.Source.left in
    let taken = c.pieces.bytes.items in
    let piece = take c.in-Got.count c.read.new.out in
    reads_head Whatever (left c.args.source.now) (left c.read.new.self) c.deref-in-Whole.result.now c.head_of.result
    (subst (Consumes (left c.args.source.now) (left c.read.new.self))
    (sym (c.deref-in-Whole.ensures.value ∙ c.in_ok-extend_from_slice-in-Got.ensures.items))
    (consumes_more (left c.args.source.now) (left c.pieces.source)
    (left c.read.new.self) taken piece c.pieces.invariant.taken c.in-Got.ensures.bytes))
    (λ l e. tt) c.head_of.ensures.answer
