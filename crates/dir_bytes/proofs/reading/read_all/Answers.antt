use Rattle.std.proofs.Common.{◌++◌, ◌+◌, take, arith, length-take, length-append, IfErr, Result, Ok, Err}
use Rattle.dir_bytes.{specs.Streams.TakesAtMost, proofs.Appending.consumes_more}
use Rattle.dir_bytes.proofs.reading.read_all.Goals as goal

pub returns-then-count-room-clause-refused : goal.returns-then-count-room-clause-refused
returns-then-count-room-clause-refused g c =
    let left = g.S.Source.left in
    let taken = c.pieces.bytes.items in
    let piece = take c.in-Got.count c.read.new.out in (
      taken ++ piece,
      consumes_more (left c.args.source.now) (left c.pieces.source) (left c.read.new.self) taken piece
          c.pieces.invariant.taken c.in-Got.ensures.bytes,
      omega (arith, length-append taken piece, length-take c.in-Got.count c.read.new.out, c.pieces.invariant.length),
    )

whatever : {A E : Type 0} (P : Type 0) (r : Result A E) → P → IfErr r (λ _. P)
whatever P (Ok value) holds = tt
whatever P (Err error) holds = holds

pub returns-in_err-extend_from_slice-in-Got-clause-refused :
    goal.returns-in_err-extend_from_slice-in-Got-clause-refused
returns-in_err-extend_from_slice-in-Got-clause-refused g c =
    let left = g.S.Source.left in
    let taken = c.pieces.bytes.items in
    let piece = take c.in-Got.count c.read.new.out in
    whatever (TakesAtMost (left c.args.source.now) (left c.read.new.self) (c.args.limit + 65536)) c.from_residual.result (
      taken ++ piece,
      consumes_more (left c.args.source.now) (left c.pieces.source) (left c.read.new.self) taken piece
          c.pieces.invariant.taken c.in-Got.ensures.bytes,
      omega (arith, length-append taken piece, length-take c.in-Got.count c.read.new.out, c.pieces.invariant.length),
    )
