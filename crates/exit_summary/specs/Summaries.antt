-- The summary of a policy (dir-spec, the `p` line).
use Rattle.std.specs.Prelude.{◌≡◌, ℕ, ◌+◌, ◌-◌, ◌≤◌, nat_le, nat_lt, Bool, true, false, not, min, List, [], ◌∷◌, length}
use Rattle.std.specs.Prelude.{take, if◌then◌else◌}
use Rattle.dir_values.specs.Ports.{Ports, accepts, last_port, range_text, summary_text}
use Rattle.dir_values.specs.declared.{port_range.PortRange.PortRange, policy.PolicyItem.PolicyItem}
use Rattle.exit_summary.specs.{Policies.accepts_port, PortRanges.ranges_of}

-- the ranges of the ports that a policy accepts
abbrev pub accepted_ranges : List PolicyItem → List PortRange
accepted_ranges items = ranges_of (accepts_port items)

-- the ranges of the ports that it rejects
abbrev pub rejected_ranges : List PolicyItem → List PortRange
rejected_ranges items = ranges_of (λ port. not (accepts_port items port))

-- the ports of some ranges, accepted
abbrev pub accepted_ports : List PortRange → Ports
accepted_ports ranges = record { accept = true; ranges = ranges }

-- the ports of some ranges, rejected
abbrev pub rejected_ports : List PortRange → Ports
rejected_ports ranges = record { accept = false; ranges = ranges }

-- every port
abbrev pub every_port : List PortRange
every_port = record { low = 1; high = last_port } ∷ []

-- how many bytes a summary's text has
abbrev pub size_of : Ports → ℕ
size_of ports = length (summary_text ports)

-- a summary's text has at most so many bytes
abbrev pub most_bytes : ℕ
most_bytes = 1000

-- so many of them are left of the word
abbrev pub most_behind_word : ℕ
most_behind_word = 994

-- the ranges from the first on whose texts fit into so many bytes, each with the byte before it
abbrev pub ranges_fitting : ℕ → List PortRange → List PortRange
ranges_fitting room [] = []
ranges_fitting room (range ∷ rest) =
    let size = 1 + length (range_text range) in
    if nat_le size room then range ∷ ranges_fitting (room - size) rest else []

-- the ranges of a summary that accepts them, cut after the last one with which its text is not too long
abbrev pub cut_summary : List PortRange → Ports
cut_summary ranges = accepted_ports (ranges_fitting most_behind_word ranges)

-- whether the shorter of two texts is too long
abbrev pub are_long : Ports → Ports → Bool
are_long first second = nat_lt most_bytes (min (size_of first) (size_of second))

-- the one with the shorter text, and the first where they are equally long; where the shorter one is too long, the
-- first, cut
abbrev pub shorter : Ports → Ports → Ports
shorter first second =
    if are_long first second then cut_summary first.ranges
    else if nat_le (size_of first) (size_of second) then first
    else second

-- the summary of the ranges that are accepted and those that are rejected
abbrev pub of_ranges : List PortRange → List PortRange → Ports
of_ranges [] rejected = rejected_ports every_port
of_ranges (range ∷ more) [] = accepted_ports every_port
of_ranges (range ∷ more) (other ∷ others) = shorter (accepted_ports (range ∷ more)) (rejected_ports (other ∷ others))

-- the summary of a policy: the shorter list of ports, those that are accepted or those that are rejected
abbrev pub summary_of : List PolicyItem → Ports
summary_of items = of_ranges (accepted_ranges items) (rejected_ranges items)

-- whether the shorter of both lists is too long, so that the summary is cut
abbrev pub is_cut : List PolicyItem → Bool
is_cut items = are_long (accepted_ports (accepted_ranges items)) (rejected_ports (rejected_ranges items))

-- A summary that is not cut accepts the ports that the policy accepts.
abbrev pub SummariesAccept : Type 0
SummariesAccept =
    (items : List PolicyItem) (port : ℕ) → 1 ≤ port → port ≤ last_port → is_cut items ≡ false
    → accepts (summary_of items) port ≡ accepts_port items port

-- One that is cut accepts no others.
abbrev pub SummariesAcceptNoMore : Type 0
SummariesAcceptNoMore =
    (items : List PolicyItem) (port : ℕ) → 1 ≤ port → port ≤ last_port → accepts (summary_of items) port ≡ true
    → accepts_port items port ≡ true

-- A summary's text has at most 1,000 bytes.
abbrev pub SummariesAreShort : Type 0
SummariesAreShort = (items : List PolicyItem) → size_of (summary_of items) ≤ most_bytes

-- A summary that is cut has the first ranges that are accepted, as many as there is room for.
pub record IsLongestFront (whole : List PortRange) (front : Ports) : Type 0 where
  pub accepts : front.accept ≡ true
  pub first : front.ranges ≡ take (length front.ranges) whole
  pub longest : (count : ℕ) → count ≤ length whole → size_of (accepted_ports (take count whole)) ≤ most_bytes
      → count ≤ length front.ranges

-- The summary of a policy that is cut is the longest front of its accepted ports that fits.
abbrev pub CutsAreLongest : Type 0
CutsAreLongest = (items : List PolicyItem) → is_cut items ≡ true
    → IsLongestFront (accepted_ranges items) (summary_of items)
