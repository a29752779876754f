use Rattle.std.proofs.{Common.{◌≡◌, ◌∙◌, ◌++◌, ap, List, ℕ, length, arith}, lemmas.List.{take_all, length-append}}
use Rattle.period_terms.proofs.short_bytes.ShortBytes.of_two.Goals as goal

pub returns : goal.returns
returns c =
    let all = take_all 52 (c.copy_from_slice.new.self ++ c.copy_from_slice-2.new.self)
    (omega (
      arith,
      length-append c.copy_from_slice.new.self c.copy_from_slice-2.new.self,
      ap length c.copy_from_slice.ensures.after,
      ap length c.copy_from_slice-2.ensures.after,
      c.fits-first,
      c.fits-second,
    )) in
    all ∙ (ap (λ (l : List ℕ). l ++ c.copy_from_slice-2.new.self) c.copy_from_slice.ensures.after
    ∙ ap (λ (l : List ℕ). c.args.first.now ++ l) c.copy_from_slice-2.ensures.after)
