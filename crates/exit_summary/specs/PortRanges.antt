-- The ranges of the ports that pass a test.
use Rattle.std.specs.Prelude.{◌≡◌, ℕ, zero, suc, ◌+◌, ◌≤◌, ◌==◌, Bool, true, List, [], ◌∷◌, if◌then◌else◌}
use Rattle.dir_values.specs.{Ports.{in_ranges, last_port, are_apart}, declared.port_range.PortRange.PortRange}

-- ports from a low to a high one, in front of ranges of later ports: the first range grows where it begins next to
-- them
abbrev pub with_ports : ℕ → ℕ → List PortRange → List PortRange
with_ports low high [] = record { low = low; high = high } ∷ []
with_ports low high (first ∷ rest) =
    if high + 1 == first.low then record { low = low; high = first.high } ∷ rest
    else record { low = low; high = high } ∷ first ∷ rest

-- the ranges of the ports that pass, of the first so many, in front of ranges of later ports
unfoldable pub ranges_down : (ℕ → Bool) → ℕ → List PortRange → List PortRange
ranges_down test zero later = later
ranges_down test (suc below) later =
    ranges_down test below (if test (suc below) then with_ports (suc below) (suc below) later else later)

-- the ranges of the ports from 1 to 65535 that pass
abbrev pub ranges_of : (ℕ → Bool) → List PortRange
ranges_of test = ranges_down test last_port []

-- The ranges of the ports that pass ascend and are apart.
abbrev pub RangesAreApart : Type 0
RangesAreApart = (test : ℕ → Bool) → are_apart 1 (ranges_of test) ≡ true

-- A port is in one of them exactly where it passes.
abbrev pub RangesHaveTheirPorts : Type 0
RangesHaveTheirPorts =
    (test : ℕ → Bool) (port : ℕ) → 1 ≤ port → port ≤ last_port → in_ranges (ranges_of test) port ≡ test port
