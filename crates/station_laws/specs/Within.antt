-- Where the first fault of a descriptor, and of what a station is given, stands: within its bytes.
use Rattle.std.specs.Prelude.{◌≡◌, ℕ, ◌≤◌, List, length, Err}
use Rattle.count_terms.specs.declared.newest.Newest.{Newest}
use Rattle.frame_terms.specs.declared.fault.{FrameFault.FrameFault, ReadRefusal.TheVariants.Frame}
use Rattle.descriptor_doc.specs.Reading.{descriptor_of}
use Rattle.station_input.specs.Reading.{station_of}

-- The first fault of a server descriptor stands within its bytes.
abbrev pub DescriptorFaultsStandWithin : Type 0
DescriptorFaultsStandWithin = (bytes : List ℕ) (fault : FrameFault) → descriptor_of bytes ≡ Err (Frame fault)
    → fault.place ≤ length bytes

-- The first fault of what a station is given stands within its bytes.
abbrev pub StationFaultsStandWithin : Type 0
StationFaultsStandWithin = (newest : Newest) (bytes : List ℕ) (fault : FrameFault)
    → station_of newest bytes ≡ Err (Frame fault) → fault.place ≤ length bytes
