use Rattle.std.proofs.Common.{◌++◌, [], arith, length-append, length-take, refl, rules, sym, take}
use Rattle.dir_bytes.proofs.Appending.{consumes_more}
use Rattle.dir_http.specs.Requests.{body_ahead}
use Rattle.lone_vote.proofs.Arrivals.{none_taken, not_whole, whole_body}
use Rattle.lone_vote.proofs.reading.read_vote.Goals as goal

pub pieces-init : goal.pieces-init
pieces-init g c = record {
  bytes = [];
  known = c.in_ok-vote.ensures;
  taken = none_taken c.args.head.now c.new-reader.result.given (g.S.Source.left c.args.source.now) c.new-reader.ensures;
  counted = sym c.new-reader.ensures;
  within = omega (arith, c.new-reader.ensures);
  faults = refl;
}

pub returns-in-Ok-eq0-clause-answer : goal.returns-in-Ok-eq0-clause-answer
returns-in-Ok-eq0-clause-answer g c =
    let left = g.S.Source.left in
    let l = c.pieces.invariant in
    record {
      body = l.bytes;
      reads = whole_body c.args.head.now c.pieces.reader.given (left c.args.source.now) (left c.pieces.source) l.bytes
          l.taken l.counted (c.in-Ok-eq0.ensures.piece.none (omega (arith, c.in-Ok-eq0.field-0-test)));
      is = c.end.ensures l.bytes l.known;
    }

pub returns-in-Err-clause-answer : goal.returns-in-Err-clause-answer
returns-in-Err-clause-answer g c =
    let left = g.S.Source.left in
    let l = c.pieces.invariant in
    not_whole c.args.head.now c.pieces.reader.given c.next.new.self.given (left c.args.source.now)
    (left c.pieces.source) (left c.next.new.source) l.bytes c.next.new.out c.in-Err.fault l.taken l.counted
    c.in-Err.ensures.piece

pub pieces-preserved : goal.pieces-preserved
pieces-preserved g c =
    let left = g.S.Source.left in
    let head = c.args.head.now in
    let l = c.pieces.invariant in
    let given = c.in-Ok.ensures.piece in
    let piece = take c.in-Ok.count c.next.new.out in
    record {
      bytes = l.bytes ++ piece;
      known = c.in_ok-vote-in-Ok.ensures l.bytes l.known;
      taken = consumes_more (body_ahead 0 head (left c.args.source.now))
          (body_ahead c.pieces.reader.given head (left c.pieces.source))
          (body_ahead c.next.new.self.given head (left c.next.new.source)) l.bytes piece l.taken given.bytes;
      counted = omega (
        arith,
        length-append l.bytes piece,
        length-take c.in-Ok.count c.next.new.out,
        l.counted,
        given.counted,
        given.fits,
      );
      within = given.within;
      faults = search rules;
    }
