-- Ranks stand in one order.
use Rattle.std.proofs.{Common.{◌≡◌, ℕ, Bool, true, false, List, refl, sym, ap, ◌∙◌, arith}, lemmas.Bool.false≢true}
use Rattle.std.{proofs.lemmas.Bool.Decides.nat_tests, specs.Str.bytes_eq}
use Rattle.dir_values.{specs.Digests.bytes_below, proofs.Orders.{below_or_same, same_text}}
use Rattle.vote_terms.{specs.{declared.rank.Rank.Rank, Votes.is_above}, proofs.Orders.{above_itself, above_trans}}
use Rattle.answer_laws.specs.Ranks.{RanksAreOrdered}

-- bytes of which neither come before the others are the same
same_bytes_by : (same : Bool) (a b : List ℕ) → bytes_eq a b ≡ same → bytes_below a b ≡ false → bytes_below b a ≡ false → a ≡ b
same_bytes_by true a b e n m = same_text a b e
same_bytes_by false a b e n m = absurd (false≢true (sym m ∙ below_or_same a b n e))

same_moment : (a b : Rank) → is_above a b ≡ false → is_above b a ≡ false → a.published ≡ b.published
same_moment a b n m = grind (arith, nat_tests)

lower : (a b : Rank) → a.published ≡ b.published → is_above a b ≡ false → bytes_below b.whole.0 a.whole.0 ≡ false
lower a b e n = grind (arith, nat_tests)

one_rank : (a b : Rank) → is_above a b ≡ false → is_above b a ≡ false → a ≡ b
one_rank a b n m =
    let moment = same_moment a b n m in
    let bytes = same_bytes_by _ a.whole.0 b.whole.0 refl (lower b a (sym moment) m) (lower a b moment n) in
    ap (λ (p : ℕ). record { published = p; whole = a.whole }) moment
    ∙ ap (λ (w : List ℕ). record { published = b.published; whole = record { 0 = w } }) bytes

pub ordered : RanksAreOrdered
ordered = record { apart = above_itself; goes_on = above_trans; one = one_rank }
