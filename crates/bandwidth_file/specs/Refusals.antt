-- What a refusal says.
use Rattle.std.specs.Prelude.{◌≡◌, Option, Some}
use Rattle.bandwidth_file.specs.declared.refusal.{BandFault.BandFault, BandRefusal.{BandRefusal, TheVariants.Fault}}
use Rattle.bandwidth_file.specs.{declared.refusal.BandRefusal.TheVariants.Memory, Lines.at}

-- a fault is the one that there is; want of memory may come with any
abbrev pub RefusedAs : Option BandFault → BandRefusal → Type 0
RefusedAs fault (Fault place reason) = fault ≡ Some (at place reason)
RefusedAs fault Memory = Unit {0}
