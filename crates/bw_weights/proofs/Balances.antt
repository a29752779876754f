-- Each case gives out each class.
use Rattle.std.proofs.Common.{◌≡◌, refl, ℕ, ◌+◌, ◌-◌, ◌*◌, ◌/◌, ◌<◌, ◌≤◌, ◌⊎◌, inl, inr, arith, Bool, true, false, ◌&&◌}
use Rattle.std.proofs.{Common.{ℤ, pos, negsuc, ◌-ℤ◌}, lemmas.{Bool.{cases_lt, and_parts}, Int.ints}}
use Rattle.std.specs.Prelude.{int_lt, if◌then◌else◌}
use Rattle.bw_weights.specs.{Balance.{GivesOutEachClass, IsWholeBut}, Fractions.half, Ranges.is_within}
use Rattle.bw_weights.specs.Ranges.{guard_is_within, middle_is_within, exit_is_within, are_within, nearest_within}
use Rattle.bw_weights.{specs.{Weights.weights_within, declared.shares.Shares.Shares}, proofs.Rests.rest_and_weight}
use Rattle.bw_weights.proofs.{Rests.{rest_and_two, half_of_rest}, Truncations.{below_whole, two_below, level}}
use Rattle.bw_weights.proofs.Truncations.{level_or_none, none_of_none, exits_split}
use Rattle.bw_weights.specs.Cases as cases

-- the weights of a case, brought into range, give out each class
abbrev pub Balances : ℕ → Shares → Type 0
Balances s shares = GivesOutEachClass (weights_within s shares)

-- a weight and its rest, as parts of the scale
whole : (s : ℕ) (w : ℤ) → IsWholeBut 1 (nearest_within s w + nearest_within s (pos s -ℤ w)) s
whole s w = let e = rest_and_weight s w in record { most = omega (arith, e); least = omega (arith, e) }

rest_whole : (s : ℕ) (w : ℤ) → IsWholeBut 1 (nearest_within s (pos s -ℤ w) + nearest_within s w) s
rest_whole s w = let e = rest_and_weight s w in record { most = omega (arith, e); least = omega (arith, e) }

-- a weight in range, and twice the half of its rest
with_halves : (s q : ℕ) (w : ℤ) → w ≡ pos q → q ≤ s →
    IsWholeBut 2 (nearest_within s w + nearest_within s (half (pos s -ℤ w)) + nearest_within s (half (pos s -ℤ w))) s
with_halves s q w e h =
    let first : nearest_within s w ≡ q = rw e (omega arith) in
    let rest : half (pos s -ℤ w) ≡ pos ((s - q) / 2) = rw e (half_of_rest s q h) in
    let each : nearest_within s (half (pos s -ℤ w)) ≡ (s - q) / 2 = rw rest (omega arith) in
    record { most = omega (arith, first, each); least = omega (arith, first, each) }

between_halves : (s q : ℕ) (w : ℤ) → w ≡ pos q → q ≤ s →
    IsWholeBut 2 (nearest_within s (half (pos s -ℤ w)) + nearest_within s w + nearest_within s (half (pos s -ℤ w))) s
between_halves s q w e h =
    let same = with_halves s q w e h in
    record { most = omega (arith, same.most); least = omega (arith, same.least) }

pub neither_scarce : (g m e d s : ℕ) → Balances s (cases.neither_scarce (pos g) (pos m) (pos e) (pos d) (pos s))
neither_scarce g m e d s =
    let shares = cases.neither_scarce (pos g) (pos m) (pos e) (pos d) (pos s) in
    record {
      guards = rest_and_weight s shares.wmg;
      exits = whole s shares.wee;
      both = record { most = omega arith; least = omega arith };
    }

-- all to one, or to the other
to_one : (s : ℕ) (b : Bool) →
    nearest_within s (if b then pos 0 else pos s) + nearest_within s (if b then pos s else pos 0) ≡ s
to_one s true = omega arith
to_one s false = omega arith

pub both_scarce_unequal : (g m e d s : ℕ) →
    Balances s (cases.both_scarce_unequal (pos g) (pos m) (pos e) (pos d) (pos s))
both_scarce_unequal g m e d s =
    let whole_d = to_one s (int_lt (pos e) (pos g)) in
    record {
      guards = omega arith;
      exits = record { most = omega arith; least = omega arith };
      both = record { most = omega (arith, whole_d); least = omega (arith, whole_d) };
    }

-- what a weight in range is
number_within : (s : ℕ) (w : ℤ) → is_within s w ≡ true → (q : ℕ) × (w ≡ pos q) × (q ≤ s)
number_within s (pos q) h = (q, refl, grind (arith, ints))
number_within s (negsuc n) h = absurd (cc)

pub guards_very_scarce : (g m e d s : ℕ) →
    Balances s (cases.guards_very_scarce (pos g) (pos m) (pos e) (pos d) (pos s))
guards_very_scarce g m e d s =
    let shares = cases.guards_very_scarce (pos g) (pos m) (pos e) (pos d) (pos s) in
    record {
      guards = omega arith;
      exits = rest_whole s shares.wme;
      both = record { most = omega arith; least = omega arith };
    }

pub exits_very_scarce : (g m e d s : ℕ) →
    Balances s (cases.exits_very_scarce (pos g) (pos m) (pos e) (pos d) (pos s))
exits_very_scarce g m e d s =
    let shares = cases.exits_very_scarce (pos g) (pos m) (pos e) (pos d) (pos s) in
    record {
      guards = rest_and_weight s shares.wmg;
      exits = record { most = omega arith; least = omega arith };
      both = record { most = omega arith; least = omega arith };
    }

pub guards_somewhat_scarce : (g m e d s : ℕ) → 2 * g ≤ d + e + m → d + e + m - 2 * g ≤ 3 * d →
    Balances s (cases.guards_somewhat_scarce (pos g) (pos m) (pos e) (pos d) (pos s))
guards_somewhat_scarce g m e d s least most =
    let shares = cases.guards_somewhat_scarce (pos g) (pos m) (pos e) (pos d) (pos s) in
    record {
      guards = omega arith;
      exits = whole s shares.wee;
      both = with_halves s (s * (d + e + m - 2 * g) / (3 * d)) shares.wgd (level s g e m d least)
          (below_whole s (d + e + m - 2 * g) (3 * d) most);
    }

pub exits_somewhat_scarce : (g m e d s : ℕ) → 2 * e ≤ d + g + m → d + g + m - 2 * e ≤ 3 * d →
    Balances s (cases.exits_somewhat_scarce (pos g) (pos m) (pos e) (pos d) (pos s))
exits_somewhat_scarce g m e d s least most =
    let shares = cases.exits_somewhat_scarce (pos g) (pos m) (pos e) (pos d) (pos s) in
    let guards = rest_and_weight s shares.wgg in
    record {
      guards = omega (arith, guards);
      exits = record { most = omega arith; least = omega arith };
      both = between_halves s (s * (d + g + m - 2 * e) / (3 * d)) shares.wed (level s e g m d least)
          (below_whole s (d + g + m - 2 * e) (3 * d) most);
    }

-- exits that help in the middle, where all weights are in range
exits_within : (s e a b : ℕ) (wee wme : ℤ) → wee ≡ pos a → a ≤ s → wme ≡ pos b → b ≤ s → IsWholeBut 1 (a + b) s →
    IsWholeBut 1 (nearest_within s wee + nearest_within s wme) s
exits_within s e a b wee wme ea ha eb hb split =
    let first : nearest_within s wee ≡ a = rw ea (omega arith) in
    let second : nearest_within s wme ≡ b = rw eb (omega arith) in
    record { most = omega (arith, first, second, split.most); least = omega (arith, first, second, split.least) }

pub comparable_with_exits : (g m e d s : ℕ) → 0 < e →
    are_within s (cases.comparable_with_exits (pos g) (pos m) (pos e) (pos d) (pos s)) ≡ true →
    Balances s (cases.comparable_with_exits (pos g) (pos m) (pos e) (pos d) (pos s))
comparable_with_exits g m e d s p h =
    let shares = cases.comparable_with_exits (pos g) (pos m) (pos e) (pos d) (pos s) in
    let positions = and_parts (guard_is_within s shares && middle_is_within s shares) (exit_is_within s shares) h in
    let middle = and_parts (guard_is_within s shares) (middle_is_within s shares) positions.0 in
    let of_middle = and_parts (is_within s shares.wmg && is_within s shares.wme) (is_within s shares.wmd) middle.1 in
    let of_exit = and_parts (is_within s shares.wee) (is_within s shares.wed) positions.1 in
    let exits_there = and_parts (is_within s shares.wmg) (is_within s shares.wme) of_middle.0 in
    let wme = number_within s shares.wme exits_there.1 in
    let wee = number_within s shares.wee of_exit.0 in
    let wed = number_within s shares.wed of_exit.1 in
    record {
      guards = omega arith;
      exits = exits_within s e wee.0 wme.0 shares.wee shares.wme wee.1 wee.2 wme.1 wme.2
          (exits_split g m e s wee.0 wme.0 p wee.1 wme.1);
      both = between_halves s wed.0 shares.wed wed.1 wed.2;
    }

-- two weights of D and their rest
three_of_both : (s a b : ℕ) (wed wmd : ℤ) → wed ≡ pos a → wmd ≡ pos b → (a + b ≤ s) ⊎ (b ≡ 0) →
    IsWholeBut 2 (nearest_within s (pos s -ℤ wed -ℤ wmd) + nearest_within s wed + nearest_within s wmd) s
three_of_both s a b wed wmd ea eb h =
    let sum : nearest_within s (pos s -ℤ wed -ℤ wmd) + nearest_within s wed + nearest_within s wmd ≡ s =
    rw (ea, eb) (rest_and_two s a b h) in
    record { most = omega (arith, sum); least = omega (arith, sum) }

-- the parts of D that go to exits and to the middle are not more than D, as guards need some; or the middle has none
parts_of_both : (g m e d s : ℕ) → 0 < d → 2 * e ≤ d + g + m → 2 * g ≤ d + e + m →
    (s * (d + g + m - 2 * e) / (3 * d) + s * (d + g + e - 2 * m) / (3 * d) ≤ s)
    ⊎ (s * (d + g + e - 2 * m) / (3 * d) ≡ 0)
parts_of_both g m e d s p exits guards = elim (cases_lt (d + g + e) (2 * m)) [
  | inl more ↦ inr (none_of_none s (d + g + e - 2 * m) (3 * d) (omega arith))
  | inr less ↦ inl (two_below s (d + g + m - 2 * e) (d + g + e - 2 * m) (3 * d) (omega arith) (omega arith))
]

pub comparable_without_exits : (g m e d s : ℕ) → 0 < d → 2 * e ≤ d + g + m → 2 * g ≤ d + e + m →
    Balances s (cases.comparable_without_exits (pos g) (pos m) (pos e) (pos d) (pos s))
comparable_without_exits g m e d s p exits guards =
    let shares = cases.comparable_without_exits (pos g) (pos m) (pos e) (pos d) (pos s) in
    record {
      guards = omega arith;
      exits = record { most = omega arith; least = omega arith };
      both = three_of_both s (s * (d + g + m - 2 * e) / (3 * d)) (s * (d + g + e - 2 * m) / (3 * d))
          shares.wed shares.wmd (level s e g m d exits) (level_or_none s m g e d)
          (parts_of_both g m e d s p exits guards);
    }
