use Rattle.std.proofs.Common.{ℕ, List, length, ap, arith, length-take}
use Rattle.descriptor_doc.proofs.families.family_certs_in.Goals as goal

pub new-items-requires : goal.new-items-requires
new-items-requires c =
    let size = ap (λ (l : List ℕ). length l) c.between.ensures.part in
    omega (arith, size, length-take 65536 c.args.text.now)
