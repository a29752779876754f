-- What a made vote tells of measured bandwidths, where a bandwidth file gives them (dir-spec, "Vote and consensus status
-- document formats"; "Bandwidth File Format").
use Rattle.std.specs.Prelude.{◌≡◌, ℕ, List, All, Option, option_and_then}
use Rattle.dir_values.specs.declared.digest.Fingerprint.{Fingerprint}
use Rattle.bandwidth_file.specs.Relays.{bandwidth_in}
use Rattle.relay_entries.specs.declared.said.Bandwidths.{Bandwidths}
use Rattle.vote_terms.specs.declared.entry.EntryFacts.{EntryFacts}
use Rattle.vote_maker.specs.Made.{Basis, made}
use Rattle.flag_rules.specs.declared.ruling.Ruling.{Ruling}
use Rattle.station_input.specs.declared.frame_said.MeasuredRelay.{MeasuredRelay}
use Rattle.station_commands.specs.MeasuredTold.{AreToldBy, told_relays}

-- what an entry says was measured of its relay
abbrev pub measured_in : EntryFacts → Option ℕ
measured_in entry = option_and_then (λ (said : Bandwidths). said.measured) entry.bandwidths

-- an entry has what a file gives its relay, or nothing
abbrev pub IsToldBy : List (Fingerprint × ℕ) → EntryFacts → Type 0
IsToldBy file entry = measured_in entry ≡ bandwidth_in file entry.identity

-- The entries of a vote that is made are told by a file, where the file told what was measured, whatever was measured
-- before, and whatever the rulings are.
abbrev pub EntriesAreTold : Type 0
EntriesAreTold =
    (file : List (Fingerprint × ℕ)) (before : List MeasuredRelay) (its : Basis) (rulings : List Ruling)
    → AreToldBy file before its.station.measured → All (IsToldBy file) (made its rulings).entries

-- What was measured of relays is told by a file, where the file's bandwidths stand with it.
abbrev pub ToldRelaysAreTold : Type 0
ToldRelaysAreTold =
    (file : List (Fingerprint × ℕ)) (before : List MeasuredRelay) → AreToldBy file before (told_relays file before)

-- So the entries of a vote that is made of that are told by the file.
abbrev pub ToldEntriesAreTold : Type 0
ToldEntriesAreTold =
    (file : List (Fingerprint × ℕ)) (before : List MeasuredRelay) (its : Basis) (rulings : List Ruling)
    → its.station.measured ≡ told_relays file before → All (IsToldBy file) (made its rulings).entries
