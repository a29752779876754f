-- Stretches of ports of which a test says the same, and the ranges that they make.
use Rattle.std.proofs.Common.{◌≡◌, ℕ, zero, suc, ◌+◌, ◌-◌, ◌<◌, ◌≤◌, Bool, true, false, List, [], ◌∷◌, refl, sym, ap}
use Rattle.std.{proofs.{Common.{◌∙◌, arith}, lemmas.Bool.eq-eqb}, specs.Prelude.{◌==◌, if◌then◌else◌}}
use Rattle.dir_values.specs.declared.port_range.PortRange.{PortRange}
use Rattle.exit_summary.specs.PortRanges.{with_ports, ranges_down}

-- a stretch of ports
abbrev span : ℕ → ℕ → PortRange
span low high = record { low = low; high = high }

-- a port behind a stretch and the stretch are one stretch
joined : (low high : ℕ) (later : List PortRange)
    → with_ports low high (with_ports (high + 1) (high + 1) later) ≡ with_ports low (high + 1) later
joined low high [] = let same : (high + 1 == high + 1) ≡ true = eq-eqb (high + 1) (high + 1) refl in rw same refl
joined low high (first ∷ rest) =
    let same : (high + 1 == high + 1) ≡ true = eq-eqb (high + 1) (high + 1) refl in
    elim (high + 1 + 1 == first.low)
    as (λ b. with_ports low high
    (if b then span (high + 1) first.high ∷ rest else span (high + 1) (high + 1) ∷ first ∷ rest)
    ≡ (if b then span low first.high ∷ rest else span low (high + 1) ∷ first ∷ rest)) [
      | true ↦ rw same refl
      | false ↦ rw same refl
    ]

-- ports that pass make one stretch
passed : (test : ℕ → Bool) (below k : ℕ) (later : List PortRange)
    → ((port : ℕ) → below < port → port ≤ below + suc k → test port ≡ true)
    → ranges_down test (below + suc k) later ≡ ranges_down test below (with_ports (below + 1) (below + suc k) later)
unfolding ranges_down
passed test below zero later all =
    let one : below + suc zero ≡ suc below = omega arith in
    let plus : below + 1 ≡ suc below = omega arith in
    let is : test (suc below) ≡ true = all (suc below) (omega arith) (omega arith) in
    let first : ranges_down test (suc below) later
    ≡ ranges_down test below (with_ports (suc below) (suc below) later) = rw (is, ranges_down) refl in
    ap (λ (n : ℕ). ranges_down test n later) one ∙ first
    ∙ ap (λ (n : ℕ). ranges_down test below (with_ports n (suc below) later)) (sym plus)
    ∙ ap (λ (n : ℕ). ranges_down test below (with_ports (below + 1) n later)) (sym one)
passed test below (suc k) later all =
    let high = below + suc k in
    let one : below + suc (suc k) ≡ suc high = omega arith in
    let plus : high + 1 ≡ suc high = omega arith in
    let is : test (suc high) ≡ true = all (suc high) (omega arith) (omega arith) in
    let last = with_ports (suc high) (suc high) later in
    let first : ranges_down test (suc high) later ≡ ranges_down test high last = rw (is, ranges_down) refl in
    let rest : ranges_down test high last ≡ ranges_down test below (with_ports (below + 1) high last) =
    passed test below k last (λ port above within. all port above (omega arith)) in
    let join : with_ports (below + 1) high last ≡ with_ports (below + 1) (suc high) later =
    ap (λ (n : ℕ). with_ports (below + 1) high (with_ports n n later)) (sym plus) ∙ joined (below + 1) high later
    ∙ ap (λ (n : ℕ). with_ports (below + 1) n later) plus in
    ap (λ (n : ℕ). ranges_down test n later) one ∙ first ∙ rest ∙ ap (ranges_down test below) join
    ∙ ap (λ (n : ℕ). ranges_down test below (with_ports (below + 1) n later)) (sym one)

-- ports that do not pass make none
failed : (test : ℕ → Bool) (below k : ℕ) (later : List PortRange)
    → ((port : ℕ) → below < port → port ≤ below + k → test port ≡ false)
    → ranges_down test (below + k) later ≡ ranges_down test below later
unfolding ranges_down
failed test below zero later none =
    let same : below + zero ≡ below = omega arith in
    ap (λ (n : ℕ). ranges_down test n later) same
failed test below (suc k) later none =
    let high = below + k in
    let one : below + suc k ≡ suc high = omega arith in
    let is : test (suc high) ≡ false = none (suc high) (omega arith) (omega arith) in
    let first : ranges_down test (suc high) later ≡ ranges_down test high later = rw (is, ranges_down) refl in
    ap (λ (n : ℕ). ranges_down test n later) one ∙ first
    ∙ failed test below k later (λ port above within. none port above (omega arith))

-- where no port is left, the ranges are whole
pub whole : (test : ℕ → Bool) (later : List PortRange) → ranges_down test 0 later ≡ later
unfolding ranges_down
whole test later = refl

-- a stretch of ports that pass goes in front of the ranges
pub pass_step : (test : ℕ → Bool) (first port : ℕ) (later next : List PortRange) → 1 ≤ first → first ≤ port
    → ((other : ℕ) → first ≤ other → other ≤ port → test other ≡ true) → next ≡ with_ports first port later
    → ranges_down test (first - 1) next ≡ ranges_down test port later
pass_step test first port later next one within all is =
    let end_ : first - 1 + suc (port - first) ≡ port = omega arith in
    let start : first - 1 + 1 ≡ first = omega arith in
    let down =
    passed test (first - 1) (port - first) later (λ other above below. all other (omega arith) (omega arith)) in
    let from = ap (λ (n : ℕ). with_ports n port later) (sym start) in
    let to = ap (λ (n : ℕ). with_ports (first - 1 + 1) n later) (sym end_) in
    ap (ranges_down test (first - 1)) (is ∙ from ∙ to) ∙ sym down ∙ ap (λ (n : ℕ). ranges_down test n later) end_

-- one of ports that do not pass leaves them as they are
pub fail_step : (test : ℕ → Bool) (first port : ℕ) (later : List PortRange) → 1 ≤ first → first ≤ port
    → ((other : ℕ) → first ≤ other → other ≤ port → test other ≡ false)
    → ranges_down test (first - 1) later ≡ ranges_down test port later
fail_step test first port later one within none =
    let end_ : first - 1 + suc (port - first) ≡ port = omega arith in
    let down =
    failed test (first - 1) (suc (port - first)) later
    (λ other above below. none other (omega arith) (omega arith)) in
    sym down ∙ ap (λ (n : ℕ). ranges_down test n later) end_
