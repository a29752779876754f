-- The bandwidth of the classes of relays (dir-spec, "Computing Bandwidth Weights").
use Rattle.std.specs.{Prelude.{ℕ, ◌+◌, Bool, true, false, not, ◌&&◌, List, codes, filter, sum_by}, Option.option_map_or}
use Rattle.bw_weights.specs.declared.sums.Sums.{Sums}
use Rattle.dir_values.specs.FlagSets.{has_flag}
use Rattle.consensus_terms.specs.declared.router.{Bandwidth.Bandwidth, Routerline.Routerline}
use Rattle.bandwidth_rules.specs.declared.class.Class.{Class, TheVariants.{Guard, Middle, Exit, Both}}

-- whether a relay with these flags is a guard
abbrev pub is_guard : List (List ℕ) → Bool
is_guard flags = has_flag flags (codes "Guard")

-- whether it is an exit: one with `BadExit` is none
abbrev pub is_exit : List (List ℕ) → Bool
is_exit flags = has_flag flags (codes "Exit") && not (has_flag flags (codes "BadExit"))

-- the class of a relay, by whether it is a guard and whether it is an exit
abbrev pub class_by : Bool → Bool → Class
class_by true true = Both
class_by true false = Guard
class_by false true = Exit
class_by false false = Middle

-- the class of a relay
abbrev pub class_of : Routerline → Class
class_of router = class_by (is_guard router.flags) (is_exit router.flags)

-- whether two classes are the same
abbrev pub is_class : Class → Class → Bool
is_class Guard Guard = true
is_class Guard _ = false
is_class Middle Middle = true
is_class Middle _ = false
is_class Exit Exit = true
is_class Exit _ = false
is_class Both Both = true
is_class Both _ = false

-- the bandwidth of a relay, in kilobytes per second: nothing where it is not known
abbrev pub counted_bandwidth : Routerline → ℕ
counted_bandwidth router = option_map_or (λ (bandwidth : Bandwidth). bandwidth.value) router.w 0

-- the relays of a class
abbrev pub relays_of : Class → List Routerline → List Routerline
relays_of class routers = filter (λ router. is_class class (class_of router)) routers

-- the bandwidth of a class: that of its relays, counted from 1
abbrev pub bandwidth_of_class : List Routerline → Class → ℕ
bandwidth_of_class routers class = 1 + sum_by counted_bandwidth (relays_of class routers)

-- the bandwidth of each class
abbrev pub sums_of : List Routerline → Sums
sums_of routers = record {
  g = bandwidth_of_class routers Guard;
  m = bandwidth_of_class routers Middle;
  e = bandwidth_of_class routers Exit;
  d = bandwidth_of_class routers Both;
}
