use Rattle.std.proofs.Common.{length, arith, ap, ◌∙◌, ℕ, List}
use Rattle.vote_maker.proofs.EntryTexts.{front_left, parts_long}
use Rattle.vote_maker.proofs.parts.front_of.Goals as goal

pub returns : goal.returns
returns c =
    let facts = c.args.facts.now in
    let bytes = c.args.certificate.now in
    let text = c.in_ok-text.text.items in
    let back_long = ap (λ (l : List ℕ). length l) c.back.ensures in
    c.reserve_exact.ensures.items ∙ c.truncate.ensures.items
    ∙ front_left facts bytes text _ c.requires c.in_ok-text.ensures
    (omega (arith, back_long, c.in_ok-text.text.ok.0, parts_long facts bytes text c.in_ok-text.ensures))
