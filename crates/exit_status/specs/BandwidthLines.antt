-- Why an input gives no bandwidth file that counts: the line and the number of each reason.
use Rattle.std.specs.Prelude.{ℕ, List, [], ◌∷◌, codes, decimal}
use Rattle.bandwidth_file.specs.declared.refusal.BandReason.{BandReason}
use Rattle.bandwidth_file.specs.declared.refusal.BandReason.TheVariants as reason
use Rattle.exit_status.specs.Parts.{at_place, end}
use Rattle.station_commands.specs.declared.file_refusal.BandwidthRefusal.{BandwidthRefusal}
use Rattle.station_commands.specs.declared.file_refusal.BandwidthRefusal.TheVariants as bandwidth

-- what is wrong with a bandwidth file
abbrev pub fault_parts : ℕ → BandReason → List (List ℕ)
fault_parts place reason.Timestamp = at_place place (codes "timestamp") []
fault_parts place reason.Header = at_place place (codes "header") []
fault_parts place reason.Value = at_place place (codes "value") []
fault_parts place reason.Nul = at_place place (codes "nul") []
fault_parts place reason.Unterminated = at_place place (codes "unterminated") []
fault_parts place reason.LineTooLong = codes "limit line 1048576" ∷ end ∷ []
fault_parts place reason.TooMany = codes "limit bandwidth-relays 65535" ∷ end ∷ []

-- why an input gives no bandwidth file that counts
abbrev pub bandwidth_parts : BandwidthRefusal → List (List ℕ)
bandwidth_parts (bandwidth.Fault fault) = fault_parts fault.place fault.reason
bandwidth_parts (bandwidth.Old timestamp) = codes "bandwidth file is old: " ∷ decimal timestamp ∷ end ∷ []

-- 9 is a limit, and 5 any other fault
abbrev pub fault_number : BandReason → ℕ
fault_number reason.Timestamp = 5
fault_number reason.Header = 5
fault_number reason.Value = 5
fault_number reason.Nul = 5
fault_number reason.Unterminated = 5
fault_number reason.LineTooLong = 9
fault_number reason.TooMany = 9

-- the number of each reason
abbrev pub bandwidth_number : BandwidthRefusal → ℕ
bandwidth_number (bandwidth.Fault fault) = fault_number fault.reason
bandwidth_number (bandwidth.Old timestamp) = 15
