-- The ranges of a summary of ports that is read are ranges that are apart.
use Rattle.std.proofs.Common.{◌≡◌, ℕ, ◌≤◌, Bool, true, false, cond, List, [], ◌∷◌, length, Option, Some, None, Result}
use Rattle.std.{proofs.{Common.{Ok, Err, refl, arith}, lemmas.Bool.{and_from, le-leb}}, specs.Prelude.{IfSome, IsTrue}}
use Rattle.std.specs.{Prelude.{map, nat_le, option_and_then, option_map, if◌then◌else◌}, List.{onto_first, slice_split}}
use Rattle.std.specs.Result.{result_ok}
use Rattle.dir_values.specs.{Arguments.{Argument, arguments_at}, Ports.{Ports, accept_of, all_of, are_apart}}
use Rattle.dir_values.specs.Ports.{are_ranges, if_apart, is_comma, port_summary, ports_after, ports_from, ports_in}
use Rattle.dir_values.specs.{Ports.{ports_with, range_list, range_of}, declared.port_range.PortRange.PortRange}
use Rattle.dir_values.specs.declared.refusal.ValueRefusal.{ValueRefusal}

-- there is a part
abbrev HasPart : List (List ℕ) → Type 0
HasPart [] = ⊥
HasPart (part ∷ rest) = Unit {0}

parts_are : (text : List ℕ) → HasPart (slice_split is_comma text)
parts_are [] = tt
parts_are (b ∷ text) = by (is_comma b) (parts_are text)
  where
    onto_in : (parts : List (List ℕ)) → HasPart parts → HasPart (onto_first b parts)
    onto_in [] has = absurd has
    onto_in (part ∷ rest) has = tt

    by : (t : Bool) → HasPart (slice_split is_comma text)
        → HasPart (cond t ([] ∷ slice_split is_comma text) (onto_first b (slice_split is_comma text)))
    by true has = tt
    by false has = onto_in (slice_split is_comma text) has

-- there is a range
abbrev HasRange : List PortRange → Type 0
HasRange ranges = 1 ≤ length ranges

all_has : (parts : List (List ℕ)) → HasPart parts → IfSome (all_of (map range_of parts)) HasRange
all_has [] has = absurd has
all_has (part ∷ rest) has = by (range_of part)
  where
    more : (range : PortRange) (others : Option (List PortRange))
        → IfSome (option_map (λ (ranges : List PortRange). range ∷ ranges) others) HasRange
    more range None = tt
    more range (Some ranges) = omega arith

    by : (first : Option PortRange) → IfSome (all_of (first ∷ map range_of rest)) HasRange
    by None = tt
    by (Some range) = more range (all_of (map range_of rest))

-- ranges that are apart
abbrev AreApart : List PortRange → Type 0
AreApart ranges = IsTrue (are_ranges ranges)

apart_in : (found : Option (List PortRange)) → IfSome found HasRange → IfSome (option_and_then if_apart found) AreApart
apart_in None has = tt
apart_in (Some ranges) has = by (are_apart 1 ranges) refl
  where
    by : (t : Bool) → are_apart 1 ranges ≡ t → IfSome (if t then Some ranges else None) AreApart
    by true test =
        and_from (nat_le 1 (length ranges)) (are_apart 1 ranges) (le-leb 1 (length ranges) has) test
    by false test = tt

list_in : (text : List ℕ) → IfSome (range_list text) AreApart
list_in text =
    apart_in (all_of (map range_of (slice_split is_comma text))) (all_has (slice_split is_comma text) (parts_are text))

-- what a summary is read as has such ranges
abbrev pub HasApart : Ports → Type 0
HasApart ports = IsTrue (are_ranges ports.ranges)

abbrev ReadApart : Result Ports ValueRefusal → Type 0
ReadApart (Ok ports) = HasApart ports
ReadApart (Err refusal) = Unit {0}

read_apart : (text : List ℕ) → ReadApart (port_summary text)
read_apart text = by (arguments_at 0 text)
  where
    from : (accept : Bool) (place : ℕ) (found : Option (List PortRange)) → IfSome found AreApart
        → ReadApart (ports_from accept place found)
    from accept place None are = tt
    from accept place (Some ranges) are = are

    with_ : (accept : Bool) (rest : List Argument) → ReadApart (ports_with accept (length text) rest)
    with_ accept [] = tt
    with_ accept (list ∷ rest) = from accept list.place (range_list list.text) (list_in list.text)

    after : (word : Argument) (rest : List Argument) (accept : Option Bool)
        → ReadApart (ports_after word (length text) rest accept)
    after word rest None = tt
    after word rest (Some accept) = with_ accept rest

    by : (arguments : List Argument) → ReadApart (ports_in (length text) arguments)
    by [] = tt
    by (word ∷ rest) = after word rest (accept_of word.text)

pub summary_in : (text : List ℕ) → IfSome (result_ok (port_summary text)) HasApart
summary_in text = by (port_summary text) (read_apart text)
  where
    by : (read : Result Ports ValueRefusal) → ReadApart read → IfSome (result_ok read) HasApart
    by (Ok ports) are = are
    by (Err refusal) are = tt
