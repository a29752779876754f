-- The one text in which an item of a policy is written (dir-spec, "exitpattern").
use Rattle.std.specs.Prelude.{ℕ, ◌==◌, ◌&&◌, if◌then◌else◌, List, ◌∷◌, ◌++◌, codes, decimal}
use Rattle.item_terms.specs.Bytes.{hyphen}
use Rattle.dir_bytes.specs.FieldTexts.{address_text}
use Rattle.dir_values.specs.declared.policy.{Net.{Net, TheVariants.{Star, V4, V6}}, PolicyItem.PolicyItem}
use Rattle.exit_summary.specs.PolicyItems.{slash, colon}

-- an IPv4 address and the number of its bits that count: without the number where all do, and `*4` where none of 0.0.0.0
-- does
abbrev pub v4_text : ℕ → ℕ → List ℕ
v4_text address bits =
    if (address == 0) && (bits == 0) then codes "*4"
    else if bits == 32 then address_text address
    else address_text address ++ slash ∷ decimal bits

-- a net; of IPv6 nets no more is known than that they are some
abbrev pub net_text : Net → List ℕ
net_text Star = codes "*"
net_text (V4 address bits) = v4_text address bits
net_text V6 = codes "*6"

-- ports: `*` for those from 1 on, one alone, or two with a hyphen between them
abbrev pub ports_text : ℕ → ℕ → List ℕ
ports_text low high =
    if (low == 1) && (high == 65535) then codes "*"
    else if low == high then decimal low
    else decimal low ++ hyphen ∷ decimal high

-- an item, without the word that says what it does
abbrev pub item_text : PolicyItem → List ℕ
item_text item = net_text item.net ++ colon ∷ ports_text item.low item.high
