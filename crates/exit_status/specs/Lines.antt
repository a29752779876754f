-- The line that each status writes, and its number.
use Rattle.std.specs.Prelude.{ℕ, List, [], ◌∷◌, codes}
use Rattle.exit_status.specs.{BandwidthLines.{bandwidth_number, bandwidth_parts}, DocumentLines.document_limit}
use Rattle.exit_status.specs.{DocumentLines.{fault_number, fault_parts}, Parts.{end, joined_parts}}
use Rattle.exit_status.specs.{ReportLines.{report_number, report_parts}, StationLines.{station_number, station_parts}}
use Rattle.exit_status.specs.{VoteLines.{votes_number, votes_parts}, declared.status.{Refusal.Refusal, Status.Status}}
use Rattle.exit_status.specs.declared.status.Refusal.TheVariants as refusal
use Rattle.exit_status.specs.declared.status.Status.TheVariants as status

-- the parts of a refusal's line: a line for each family of reasons
abbrev pub refusal_parts : Refusal → List (List ℕ)
refusal_parts (refusal.Document why) = fault_parts (document_limit why.kind) why.fault.place why.fault.reason
refusal_parts (refusal.Votes why) = votes_parts why
refusal_parts (refusal.Station why) = station_parts why
refusal_parts refusal.MadeVote = codes "limit vote 16777216" ∷ end ∷ []
refusal_parts (refusal.Report why) = report_parts why
refusal_parts refusal.Verifier = codes "verifier fault" ∷ end ∷ []
refusal_parts (refusal.Bandwidth why) = bandwidth_parts why
refusal_parts refusal.Signer = codes "signer fault" ∷ end ∷ []
refusal_parts refusal.Gate = codes "gate fault" ∷ end ∷ []

-- the parts of a status's line
abbrev pub parts : Status → List (List ℕ)
parts status.Done = []
parts status.Memory = codes "want of memory" ∷ end ∷ []
parts status.BadWords = codes "bad words" ∷ end ∷ []
parts status.ReadFault = codes "read fault" ∷ end ∷ []
parts status.WriteFault = codes "write fault" ∷ end ∷ []
parts status.TooLong = codes "limit input 268435456" ∷ end ∷ []
parts (status.Refused why) = refusal_parts why

-- the line of a status, none where the text was written
abbrev pub line_of : Status → List ℕ
line_of given = joined_parts (parts given)

-- ---- numbers

-- the number of a refusal: a line for each family of reasons
abbrev pub refusal_number : Refusal → ℕ
refusal_number (refusal.Document why) = fault_number why.fault.reason
refusal_number (refusal.Votes why) = votes_number why
refusal_number (refusal.Station why) = station_number why
refusal_number refusal.MadeVote = 9
refusal_number (refusal.Report why) = report_number why
refusal_number refusal.Verifier = 8
refusal_number (refusal.Bandwidth why) = bandwidth_number why
refusal_number refusal.Signer = 10
refusal_number refusal.Gate = 11

-- the number of a status
abbrev pub number_of : Status → ℕ
number_of status.Done = 0
number_of status.Memory = 1
number_of status.BadWords = 2
number_of status.ReadFault = 3
number_of status.WriteFault = 4
number_of status.TooLong = 9
number_of (status.Refused why) = refusal_number why
