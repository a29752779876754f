-- The order of ranks.
use Rattle.std.specs.Prelude.{◌≡◌, true, false}
use Rattle.vote_terms.specs.{Votes.is_above, declared.rank.Rank.Rank}

-- Ranks stand in one order.
pub record RanksAreOrdered : Type 0 where
  -- none is above itself
  pub apart : (a : Rank) → is_above a a ≡ false
  -- what is above one that is above a third is above the third
  pub goes_on : (a b c : Rank) → is_above a b ≡ true → is_above b c ≡ true → is_above a c ≡ true
  -- two ranks of which neither is above the other are one
  pub one : (a b : Rank) → is_above a b ≡ false → is_above b a ≡ false → a ≡ b
