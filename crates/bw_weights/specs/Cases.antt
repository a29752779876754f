-- The weights of each case, in units of the scale s, as whole numbers of either sign; G, M, E and D are the bandwidth
-- of each class (dir-spec, "Computing Bandwidth Weights").
use Rattle.std.specs.{Prelude.{ℕ, ℤ, pos, ◌+ℤ◌, ◌-ℤ◌, ◌*ℤ◌, int_lt, if◌then◌else◌}, Int.int_max}
use Rattle.bw_weights.specs.{Fractions.{fraction, half, third}, declared.{sums.Sums.Sums, shares.Shares.Shares}}

-- neither guards nor exits are scarce:
-- Wgd = Wed = Wmd = s/3; Wee = s(E+G+M)/(3E); Wme = s - Wee; Wmg = s(2G-E-M)/(3G); Wgg = s - Wmg
abbrev pub neither_scarce : (g m e d s : ℤ) → Shares
neither_scarce g m e d s =
    let wee = fraction s (e +ℤ g +ℤ m) (pos 3 *ℤ e) in
    let wmg = fraction s (pos 2 *ℤ g -ℤ e -ℤ m) (pos 3 *ℤ g) in
    record {
      wgd = third s;
      wed = third s;
      wmd = third s;
      wme = s -ℤ wee;
      wmg = wmg;
      wgg = s -ℤ wmg;
      wee = wee;
    }

-- both are scarce, and D cannot level them: Wgg = Wee = s; Wmg = Wme = Wmd = 0, and D goes to the scarcer
abbrev pub both_scarce_unequal : (g m e d s : ℤ) → Shares
both_scarce_unequal g m e d s = record {
  wgd = if int_lt e g then pos 0 else s;
  wed = if int_lt e g then s else pos 0;
  wmd = pos 0;
  wme = pos 0;
  wmg = pos 0;
  wgg = s;
  wee = s;
}

-- both are scarce and comparable, and exits help in the middle:
-- Wee = s(E-G+M)/E; Wed = s(D-2E+4G-2M)/(3D); Wme = s(G-M)/E; Wmg = 0; Wgg = s; Wmd = Wgd = (s - Wed)/2
abbrev pub comparable_with_exits : (g m e d s : ℤ) → Shares
comparable_with_exits g m e d s =
    let wed = fraction s (d -ℤ pos 2 *ℤ e +ℤ pos 4 *ℤ g -ℤ pos 2 *ℤ m) (pos 3 *ℤ d) in
    record {
      wgd = half (s -ℤ wed);
      wed = wed;
      wmd = half (s -ℤ wed);
      wme = fraction s (g -ℤ m) e;
      wmg = pos 0;
      wgg = s;
      wee = fraction s (e -ℤ g +ℤ m) e;
    }

-- both are scarce and comparable, and D alone helps in the middle: Wgg = Wee = s; Wed = s(D-2E+G+M)/(3D);
-- Wmd = s(D-2M+G+E)/(3D), and 0 if that is negative; Wme = Wmg = 0; Wgd = s - Wed - Wmd
abbrev pub comparable_without_exits : (g m e d s : ℤ) → Shares
comparable_without_exits g m e d s =
    let wed = fraction s (d -ℤ pos 2 *ℤ e +ℤ g +ℤ m) (pos 3 *ℤ d) in
    let wmd = int_max (fraction s (d -ℤ pos 2 *ℤ m +ℤ g +ℤ e) (pos 3 *ℤ d)) (pos 0) in
    record {
      wgd = s -ℤ wed -ℤ wmd;
      wed = wed;
      wmd = wmd;
      wme = pos 0;
      wmg = pos 0;
      wgg = s;
      wee = s;
    }

-- guards alone are scarce, and would be with D too:
-- Wgg = Wgd = s; Wmd = Wed = Wmg = 0; Wme = 0 if E < M, else s(E-M)/(2E); Wee = s - Wme
abbrev pub guards_very_scarce : (g m e d s : ℤ) → Shares
guards_very_scarce g m e d s =
    let wme = if int_lt e m then pos 0 else fraction s (e -ℤ m) (pos 2 *ℤ e) in
    record {
      wgd = s;
      wed = pos 0;
      wmd = pos 0;
      wme = wme;
      wmg = pos 0;
      wgg = s;
      wee = s -ℤ wme;
    }

-- exits alone are scarce, and would be with D too:
-- Wee = Wed = s; Wmd = Wgd = Wme = 0; Wmg = 0 if G < M, else s(G-M)/(2G); Wgg = s - Wmg
abbrev pub exits_very_scarce : (g m e d s : ℤ) → Shares
exits_very_scarce g m e d s =
    let wmg = if int_lt g m then pos 0 else fraction s (g -ℤ m) (pos 2 *ℤ g) in
    record {
      wgd = pos 0;
      wed = s;
      wmd = pos 0;
      wme = pos 0;
      wmg = wmg;
      wgg = s -ℤ wmg;
      wee = s;
    }

-- guards alone are scarce, and would not be with D:
-- Wgg = s; Wgd = s(D-2G+E+M)/(3D); Wmg = 0; Wee = s(E+M)/(2E); Wme = s - Wee; Wmd = Wed = (s - Wgd)/2
abbrev pub guards_somewhat_scarce : (g m e d s : ℤ) → Shares
guards_somewhat_scarce g m e d s =
    let wgd = fraction s (d -ℤ pos 2 *ℤ g +ℤ e +ℤ m) (pos 3 *ℤ d) in
    let wee = fraction s (e +ℤ m) (pos 2 *ℤ e) in
    record {
      wgd = wgd;
      wed = half (s -ℤ wgd);
      wmd = half (s -ℤ wgd);
      wme = s -ℤ wee;
      wmg = pos 0;
      wgg = s;
      wee = wee;
    }

-- exits alone are scarce, and would not be with D:
-- Wee = s; Wed = s(D-2E+G+M)/(3D); Wme = 0; Wgg = s(G+M)/(2G); Wmg = s - Wgg; Wmd = Wgd = (s - Wed)/2
abbrev pub exits_somewhat_scarce : (g m e d s : ℤ) → Shares
exits_somewhat_scarce g m e d s =
    let wed = fraction s (d -ℤ pos 2 *ℤ e +ℤ g +ℤ m) (pos 3 *ℤ d) in
    let wgg = fraction s (g +ℤ m) (pos 2 *ℤ g) in
    record {
      wgd = half (s -ℤ wed);
      wed = wed;
      wmd = half (s -ℤ wed);
      wme = pos 0;
      wmg = s -ℤ wgg;
      wgg = wgg;
      wee = s;
    }

-- a case's weights at these sums and this scale
abbrev pub shares_at : ((g m e d s : ℤ) → Shares) → Sums → ℕ → Shares
shares_at case sums scale = case (pos sums.g) (pos sums.m) (pos sums.e) (pos sums.d) (pos scale)
