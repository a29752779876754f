use Rattle.std.proofs.Common.{ℕ, List, length, ap, arith, length-take}
use Rattle.descriptor_doc.proofs.reading.front_of.Goals as goal

pub after_blanks-requires-clause-short : goal.after_blanks-requires-clause-short
after_blanks-requires-clause-short c =
    let size = ap (λ (l : List ℕ). length l) c.between.ensures.part in
    omega (arith, size, length-take 65536 c.args.bytes.now)

pub returns-in-Some-clause-limit : goal.returns-in-Some-clause-limit
returns-in-Some-clause-limit c =
    let size = ap (λ (l : List ℕ). length l) c.between.ensures.part in
    omega (arith, c.in-Some.ensures.inside, size, length-take 65536 c.args.bytes.now)
