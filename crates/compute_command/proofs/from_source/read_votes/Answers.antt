use Rattle.std.proofs.Common.{◌++◌, ◌+◌, [], IfErr, Result, Ok, Err, arith, length-append, length-take, refl}
use Rattle.std.proofs.Common.{rules as found, take}
use Rattle.key_port.specs.Answers.{rules}
use Rattle.dir_bytes.{specs.Streams.TakesAtMost, proofs.Appending.consumes_more}
use Rattle.compute_command.proofs.{VoteAsking.asked_none, Asking.asks_bytes, SourceAsking.{asked_failed, asked_long}}
use Rattle.compute_command.proofs.Sources.{keeps_most, keeps_taken, none_taken, takes_most, tells_none, too_long}
use Rattle.compute_command.proofs.from_source.read_votes.Goals as goal

pub pieces-init : goal.pieces-init
pieces-init g c = record {
  bytes = [];
  arrives = (c.in_ok-arriving.ensures.none (rules g.V.Verifier.may_accept g.V.Verifier.may_refuse) c.args.wanted.now).0;
  taken = none_taken (g.S.Source.left c.args.source.now);
  length = omega arith;
  faults = refl;
  asked = asked_none g.V.Verifier.steps _ c.in_ok-arriving.arriving.votes.first c.args.verifier.now
      (c.in_ok-arriving.ensures.none (rules g.V.Verifier.may_accept g.V.Verifier.may_refuse) c.args.wanted.now).1
      c.in_ok-arriving.ensures.first;
  verifier = tells_none (g.V.Verifier.faults c.args.verifier.now) c.in_ok-arriving.arriving.votes.first
      c.in_ok-arriving.ensures.first;
}

pub returns-then-count-room-clause-reads : goal.returns-then-count-room-clause-reads
returns-then-count-room-clause-reads g c =
    let left = g.S.Source.left in
    let l = c.pieces.invariant in
    let piece = take c.in-Got.count c.read.new.out in
    too_long (rules g.V.Verifier.may_accept g.V.Verifier.may_refuse) c.args.wanted.now (left c.args.source.now)
    (left c.pieces.source) (left c.read.new.self) l.bytes piece c.args.limit l.taken c.in-Got.ensures.bytes
    (omega (arith, length-take c.in-Got.count c.read.new.out, l.length, c.if-count-room.true, c.in-Got.ensures.within))

pub returns-then-count-room-clause-refused : goal.returns-then-count-room-clause-refused
returns-then-count-room-clause-refused g c =
    let left = g.S.Source.left in
    let l = c.pieces.invariant in
    let piece = take c.in-Got.count c.read.new.out in
    takes_most (left c.args.source.now) (left c.pieces.source) (left c.read.new.self) l.bytes piece
    (c.args.limit + 65536) l.taken c.in-Got.ensures.bytes
    (omega (arith, length-take c.in-Got.count c.read.new.out, l.length))

whatever : {A E : Type 0} (P : Type 0) (r : Result A E) → P → IfErr r (λ _. P)
whatever P (Ok value) holds = tt
whatever P (Err error) holds = holds

pub returns-in_err-arriving-in-Got-clause-refused : goal.returns-in_err-arriving-in-Got-clause-refused
returns-in_err-arriving-in-Got-clause-refused g c =
    let left = g.S.Source.left in
    let l = c.pieces.invariant in
    let piece = take c.in-Got.count c.read.new.out in
    whatever (TakesAtMost (left c.args.source.now) (left c.read.new.self) (c.args.limit + 65536))
    c.from_residual-in_err-arriving-in-Got.result
    (takes_most (left c.args.source.now) (left c.pieces.source) (left c.read.new.self) l.bytes piece
    (c.args.limit + 65536) l.taken c.in-Got.ensures.bytes
    (omega (arith, length-take c.in-Got.count c.read.new.out, l.length)))

pub returns-in-Failed-clause-refused : goal.returns-in-Failed-clause-refused
returns-in-Failed-clause-refused g c =
    let left = g.S.Source.left in
    let l = c.pieces.invariant in
    keeps_most (left c.args.source.now) (left c.pieces.source) (left c.read.new.self) l.bytes (c.args.limit + 65536)
    l.taken c.in-Failed.ensures.bytes (omega (arith, l.length))

pub pieces-preserved : goal.pieces-preserved
pieces-preserved g c =
    let left = g.S.Source.left in
    let l = c.pieces.invariant in
    let piece = take c.in-Got.count c.read.new.out in
    let size = length-take c.in-Got.count c.read.new.out in
    let next =
    c.in_ok-arriving-in-Got.ensures.asked l.bytes c.args.verifier.now (l.arrives, l.asked)
    (omega (arith, size, l.length, c.requires, c.if-count-room.false)) in
    record {
      bytes = l.bytes ++ piece;
      arrives = next.0;
      taken = consumes_more (left c.args.source.now) (left c.pieces.source) (left c.read.new.self) l.bytes piece l.taken
          c.in-Got.ensures.bytes;
      length = omega (arith, size, length-append l.bytes piece, l.length, c.if-count-room.false, c.in-Got.ensures.within);
      faults = search found;
      asked = next.1;
      verifier = c.in_ok-arriving-in-Got.ensures.faults _ l.verifier;
    }

pub returns-then-count-room-clause-asked : goal.returns-then-count-room-clause-asked
returns-then-count-room-clause-asked g c =
    let left = g.S.Source.left in
    let l = c.pieces.invariant in
    asked_long g.V.Verifier.steps (rules g.V.Verifier.may_accept g.V.Verifier.may_refuse) c.args.wanted.now
    (left c.args.source.now) (left c.read.new.self) c.args.verifier.now c.pieces.verifier (left c.pieces.source) l.bytes
    (take c.in-Got.count c.read.new.out) c.pieces.arriving.votes.first l.taken c.in-Got.ensures.bytes
    (asks_bytes g.V.Verifier.steps (rules g.V.Verifier.may_accept g.V.Verifier.may_refuse) c.args.wanted.now l.bytes
    c.pieces.arriving c.args.verifier.now c.pieces.verifier (omega (arith, l.length, c.requires)) (l.arrives, l.asked))

pub returns-in-End-clause-asked : goal.returns-in-End-clause-asked
returns-in-End-clause-asked g c =
    let left = g.S.Source.left in
    let l = c.pieces.invariant in (
      l.bytes,
      keeps_taken (left c.args.source.now) (left c.pieces.source) (left c.read.new.self) l.bytes l.taken
          c.in-End.ensures.bytes.0,
      asks_bytes g.V.Verifier.steps (rules g.V.Verifier.may_accept g.V.Verifier.may_refuse) c.args.wanted.now l.bytes
          c.pieces.arriving c.args.verifier.now c.pieces.verifier (omega (arith, l.length, c.requires)) (l.arrives, l.asked),
    )

pub returns-in-Failed-clause-asked : goal.returns-in-Failed-clause-asked
returns-in-Failed-clause-asked g c =
    let left = g.S.Source.left in
    let l = c.pieces.invariant in
    asked_failed g.V.Verifier.steps (rules g.V.Verifier.may_accept g.V.Verifier.may_refuse) c.args.wanted.now
    (left c.args.source.now) (left c.read.new.self) c.args.verifier.now c.pieces.verifier l.bytes
    c.pieces.arriving.votes.first
    (keeps_taken (left c.args.source.now) (left c.pieces.source) (left c.read.new.self) l.bytes l.taken
    c.in-Failed.ensures.bytes)
    (asks_bytes g.V.Verifier.steps (rules g.V.Verifier.may_accept g.V.Verifier.may_refuse) c.args.wanted.now l.bytes
    c.pieces.arriving c.args.verifier.now c.pieces.verifier (omega (arith, l.length, c.requires)) (l.arrives, l.asked))
