use Rattle.std.proofs.Common.{◌≡◌, ◌+◌, ◌≤◌, ◌++◌, List, ℕ, take, drop, length, refl, ap, sym, subst, arith}
use Rattle.std.{proofs.{Common.{length-take, length-append}, lemmas.List.take-append-le}, specs.Io.KnownBytes.Consumes}
use Rattle.dir_http.proofs.Bodies.{early_comes, source_comes}
use Rattle.dir_http.proofs.body.BodyReader.next.Goals as goal

pub returns-then-self-len-clause-piece : goal.returns-then-self-len-clause-piece
returns-then-self-len-clause-piece g c =
    let piece = c.early_piece-count.ensures in
    let given = c.args.self.now.given in
    let count = c.early_piece-count.result in
    let within : given + count ≤ c.args.head.now.length = omega
    (arith, piece.within, c.min-room.ensures, c.requires.within) in
    record {
      bytes = early_comes c.args.head.now given count (given + count) (g.S.Source.left c.args.source.now)
          (take count c.early_piece-count.new.out)
          refl within piece.short piece.bytes;
      counted = refl;
      within = within;
      fits = omega (arith, piece.within, c.min-room.ensures);
      none = λ zero. absurd (omega (arith, zero, piece.some));
    }

pub returns-in-Got-clause-piece : goal.returns-in-Got-clause-piece
returns-in-Got-clause-piece g c =
    let left = g.S.Source.left in
    let given = c.args.self.now.given in
    let count = c.in-Got.count in
    let front = c.read.new.out in
    let back = drop c.min-room.result c.args.out.now in
    let within : given + count ≤ c.args.head.now.length = omega (
      arith,
      c.in-Got.ensures.within,
      c.min-room.ensures,
      c.requires.within,
      length-take c.min-room.result
          c.args.out.now,
    ) in
    let same : take count (front ++ back)
    ≡ take count front = take-append-le count front back c.in-Got.ensures.within.1 in
    let came : Consumes (left c.args.source.now) (left c.read.new.self) (take count (front ++ back)) =
    subst (λ (l : List ℕ). Consumes (left c.args.source.now) (left c.read.new.self) l)
    (sym same) c.in-Got.ensures.bytes in
    record {
      bytes = source_comes c.args.head.now given count (given + count) (left c.args.source.now)
          (left c.read.new.self) (take count (front ++ back))
          refl within (omega (arith, c.if-self-len.false, c.args.head.now.early.ok.0))
          (omega (arith, length-take count front, c.in-Got.ensures.within, ap (λ (l : List ℕ). length l) same)) came;
      counted = refl;
      within = within;
      fits = omega (arith, c.in-Got.ensures.within, length-append front back);
      none = λ zero. absurd (omega (arith, zero, c.in-Got.ensures.within));
    }
