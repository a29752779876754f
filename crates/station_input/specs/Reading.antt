-- What bytes give a station, or their first fault.
use Rattle.std.specs.Prelude.{◌≡◌, ℕ, ◌≤◌, List, length, Result, Ok, Err}
use Rattle.count_terms.specs.declared.newest.Newest.{Newest}
use Rattle.item_terms.specs.Items.{items_of}
use Rattle.frame_terms.specs.{declared.fault.ReadRefusal.ReadRefusal, Documents.{document_of, finish}, Refusals.Fails}
use Rattle.station_input.specs.{Tables.station_tables, declared.{facts.StationFacts.StationFacts, kept.Kept.Kept}}
use Rattle.station_input.specs.{Facts.facts_of, Kept.{kept_with, none_kept}}

-- how many bytes a station input may have: as many as the input of a command
abbrev pub max_station : ℕ
max_station = 268435456

-- what a station is given of which this was kept, where this is the newest method that is known
abbrev pub with_facts : Newest → List ℕ → Result (Kept × ℕ) ReadRefusal → Result (StationFacts × ℕ) ReadRefusal
with_facts newest bytes (Ok (kept, used)) = Ok (facts_of newest bytes kept, used)
with_facts newest bytes (Err refusal) = Err refusal

-- what the bytes give a station that knows this newest method, and the place after it, where the descriptors of relays
-- begin; or the first fault
abbrev pub station_of : Newest → List ℕ → Result (StationFacts × ℕ) ReadRefusal
station_of newest bytes =
    with_facts newest bytes (finish kept_with none_kept (document_of station_tables (length bytes)
    (items_of max_station bytes)))

-- what reading answers: that, which is within the bytes; or the first fault, or want of memory
abbrev pub ReadsStation : Newest → List ℕ → Result (StationFacts × ℕ) ReadRefusal → Type 0
ReadsStation newest bytes (Ok (facts, used)) = (station_of newest bytes ≡ Ok (facts, used)) × (used ≤ length bytes)
ReadsStation newest bytes (Err refusal) = Fails refusal (station_of newest bytes)
