-- What the text of a policy's item spells is in range.
use Rattle.std.proofs.Common.{◌≡◌, ℕ, ◌<◌, ◌≤◌, ◌^◌, Bool, true, false, List, Option, Some, None, refl, arith}
use Rattle.std.{proofs.lemmas.Bool.leb-true, specs.Prelude.{IfSome, codes, nat_le, option_map, if◌then◌else◌}}
use Rattle.std.specs.{List.{after_first, before_first, list_any}, Str.bytes_eq}
use Rattle.dir_bytes.specs.Fields.{address}
use Rattle.dir_values.specs.{Numbers.port_of, declared.policy.{Net.Net, PolicyItem.PolicyItem}}
use Rattle.dir_values.specs.declared.policy.Net.TheVariants as net
use Rattle.exit_summary.specs.PolicyItems.{after_last, before_last, bits_of, bits_up_to, colon, has_last, is_bracketed}
use Rattle.exit_summary.specs.PolicyItems.{is_hyphen, item_of, item_with, net_of, net_of_parts, net_with, ports_between}
use Rattle.exit_summary.specs.PolicyItems.{ports_of, slash}
use Rattle.row_laws.proofs.ReadSteps.{address_within, number_within}

-- an IPv4 address has 32 bits
abbrev pub IsNetRead : Net → Type 0
IsNetRead (net.V4 address bits) = address < 2 ^ 32
IsNetRead _ = Unit {0}

-- what was read of an item: its net, and its ports, which ascend
pub record IsItemRead (item : PolicyItem) : Type 0 where
  pub net : IsNetRead item.net
  pub ports : item.low ≤ item.high
  pub high : item.high ≤ 65535

-- ---- nets

address_in : (text : List ℕ) → IfSome (address text) (λ (n : ℕ). n < 2 ^ 32)
address_in text = by (address text) refl
  where
    by : (found : Option ℕ) → address text ≡ found → IfSome found (λ (n : ℕ). n < 2 ^ 32)
    by None is = tt
    by (Some n) is = address_within text n is

with_in : (found bits : Option ℕ) → IfSome found (λ (n : ℕ). n < 2 ^ 32) → IfSome (net_with found bits) IsNetRead
with_in None bits is = tt
with_in (Some n) None is = tt
with_in (Some n) (Some b) is = is

parts_in : (base bits : List ℕ) → IfSome (net_of_parts base bits) IsNetRead
parts_in base bits = by (is_bracketed base)
  where
    six : (found : Option ℕ) → IfSome (option_map (λ (n : ℕ). net.V6) found) IsNetRead
    six None = tt
    six (Some n) = tt

    by : (t : Bool)
        → IfSome (if t then option_map (λ (n : ℕ). net.V6) (bits_up_to 128 bits)
        else net_with (address base) (bits_of bits)) IsNetRead
    by true = six (bits_up_to 128 bits)
    by false = with_in (address base) (bits_of bits) (address_in base)

net_in : (text : List ℕ) → IfSome (net_of text) IsNetRead
net_in text =
    by (bytes_eq text (codes "*")) (bytes_eq text (codes "*4")) (bytes_eq text (codes "*6")) (is_bracketed text)
    (has_last slash text)
  where
    by : (star four six bracketed slashed : Bool)
        → IfSome (if star then Some net.Star
        else if four then Some (net.V4 0 0)
        else if six then Some net.V6
        else if bracketed then Some net.V6
        else if slashed then net_of_parts (before_last slash text) (after_last slash text)
        else net_with (address text) (Some 32)) IsNetRead
    by true four six bracketed slashed = tt
    by false true six bracketed slashed = omega arith
    by false false true bracketed slashed = tt
    by false false false true slashed = tt
    by false false false false true = parts_in (before_last slash text) (after_last slash text)
    by false false false false false = with_in (address text) (Some 32) (address_in text)

-- ---- ports

-- two ports of which the first does not come after the second
abbrev ArePorts : ℕ × ℕ → Type 0
ArePorts ports = (ports.0 ≤ ports.1) × (ports.1 ≤ 65535)

port_in : (text : List ℕ) → IfSome (port_of text) (λ (n : ℕ). n ≤ 65535)
port_in text = by (port_of text) refl
  where
    by : (found : Option ℕ) → port_of text ≡ found → IfSome found (λ (n : ℕ). n ≤ 65535)
    by None is = tt
    by (Some n) is = number_within 65535 text n is

between_in : (low high : Option ℕ) → IfSome high (λ (n : ℕ). n ≤ 65535) → IfSome (ports_between low high) ArePorts
between_in None high is = tt
between_in (Some low) None is = tt
between_in (Some low) (Some high) is = by (nat_le low high) refl
  where
    by : (t : Bool) → nat_le low high ≡ t → IfSome (if t then Some (low, high) else None) ArePorts
    by true test = (leb-true low high test, is)
    by false test = tt

ports_in : (text : List ℕ) → IfSome (ports_of text) ArePorts
ports_in text = by (bytes_eq text (codes "*")) (list_any is_hyphen text)
  where
    by : (star two : Bool)
        → IfSome (if star then Some (1, 65535)
        else if two then ports_between (port_of (before_first is_hyphen text)) (port_of (after_first is_hyphen text))
        else ports_between (port_of text) (port_of text)) ArePorts
    by true two = (omega arith, omega arith)
    by false true =
        between_in (port_of (before_first is_hyphen text)) (port_of (after_first is_hyphen text))
        (port_in (after_first is_hyphen text))
    by false false = between_in (port_of text) (port_of text) (port_in text)

-- ---- items

with_both : (accept : Bool) (found : Option Net) (ports : Option (ℕ × ℕ)) → IfSome found IsNetRead
    → IfSome ports ArePorts → IfSome (item_with accept found ports) IsItemRead
with_both accept None ports is are = tt
with_both accept (Some n) None is are = tt
with_both accept (Some n) (Some ports) is are = record { net = is; ports = are.0; high = are.1 }

-- what a text spells is such
pub item_in : (accept : Bool) (text : List ℕ) → IfSome (item_of accept text) IsItemRead
item_in accept text = by (has_last colon text)
  where
    by : (t : Bool)
        → IfSome (if t then item_with accept (net_of (before_last colon text)) (ports_of (after_last colon text))
        else None) IsItemRead
    by true =
        with_both accept (net_of (before_last colon text)) (ports_of (after_last colon text))
        (net_in (before_last colon text)) (ports_in (after_last colon text))
    by false = tt
