-- What a relay's exit policy says of a port (dir-spec, "Exit policies" and the `p` line; Tor's own rule says of which
-- policies a port counts as open to most addresses).
use Rattle.std.specs.Prelude.{IsTrue, ℕ, ◌+◌, ◌-◌, ◌*◌, ◌/◌, ◌^◌, ◌==◌, nat_le, Bool, true, false, ◌&&◌, ◌||◌, List, []}
use Rattle.std.specs.Prelude.{◌∷◌, All, filter, if◌then◌else◌}
use Rattle.dir_values.specs.declared.policy.{Net.{Net, TheVariants.{Star, V4, V6}}, PolicyItem.PolicyItem}

-- ---- the addresses of an item

-- whether a net has every IPv4 address
abbrev pub is_every : Net → Bool
is_every Star = true
is_every (V4 address bits) = bits == 0
is_every V6 = false

-- whether the addresses that share so many first bits with one lie wholly in the net of a prefix, which has bits of
-- its own
abbrev pub lies_in : ℕ → ℕ → ℕ → ℕ → Bool
lies_in address bits prefix prefix_bits = nat_le prefix_bits bits && (address / 2 ^ (32 - prefix_bits) == prefix)

-- whether they are private: in 0.0.0.0/8, 10.0.0.0/8, 127.0.0.0/8, 169.254.0.0/16, 172.16.0.0/12 or 192.168.0.0/16
abbrev pub is_private : ℕ → ℕ → Bool
is_private address bits =
    lies_in address bits 0 8 || lies_in address bits 10 8 || lies_in address bits 127 8
    || lies_in address bits (169 * 256 + 254) 16
    || lies_in address bits (172 * 16 + 1) 12
    || lies_in address bits (192 * 256 + 168) 16

-- how many addresses a net has that are not private; none is counted of every address, and none of IPv6
abbrev pub addresses_of : Net → ℕ
addresses_of Star = 0
addresses_of (V4 address bits) = if is_private address bits then 0 else 2 ^ (32 - bits)
addresses_of V6 = 0

-- how many addresses an item that does not speak of all adds to those that are rejected
abbrev pub rejects : PolicyItem → ℕ
rejects item = if item.accept then 0 else addresses_of item.net

-- ---- what a policy says of a port

-- so many addresses may be rejected of a port that is accepted: two of the nets of 8 bits, 2^25 addresses
abbrev pub most_rejected : ℕ
most_rejected = 33554432

-- whether an item speaks of a port
abbrev pub covers : ℕ → PolicyItem → Bool
covers port item = nat_le item.low port && nat_le port item.high

-- whether a port is accepted by the items that speak of it, in order, after so many addresses were rejected: the
-- first
-- item of every address decides, and where there is none, the port is accepted; a port of which too many are
-- rejected is
-- not accepted in either case
unfoldable pub accepts_after : ℕ → List PolicyItem → Bool
accepts_after rejected [] = nat_le rejected most_rejected
accepts_after rejected (item ∷ items) =
    if is_every item.net then item.accept && nat_le rejected most_rejected
    else accepts_after (rejected + rejects item) items

-- whether a policy accepts a port
abbrev pub accepts_port : List PolicyItem → ℕ → Bool
accepts_port items port = accepts_after 0 (filter (covers port) items)

-- ---- the policies that are asked

-- whether a net has at most 32 bits
abbrev pub is_net : Net → Bool
is_net Star = true
is_net (V4 address bits) = nat_le bits 32
is_net V6 = true

-- every net has
abbrev pub AreNets : List PolicyItem → Type 0
AreNets items = All (λ item. IsTrue (is_net item.net)) items
