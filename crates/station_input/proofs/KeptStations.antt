-- What was kept of a document is what a station is given.
use Rattle.std.proofs.Common.{◌≡◌, ℕ, List, length, Ok, Result, sym, ap, ◌∙◌}
use Rattle.count_terms.specs.declared.newest.Newest.{Newest}
use Rattle.item_terms.specs.Items.{Contents, items_of}
use Rattle.frame_terms.specs.{declared.fault.ReadRefusal.ReadRefusal, Documents.{document_of, finish}}
use Rattle.station_input.specs.{Tables.station_tables, declared.{facts.StationFacts.StationFacts, kept.Kept.Kept}}
use Rattle.station_input.specs.{Facts.facts_of, Kept.{kept_with, none_kept}, Reading.{max_station, station_of}}
use Rattle.station_input.specs.Reading.{with_facts}

abbrev kept_of : Kept → Contents → List ℕ → Result (Kept × ℕ) ReadRefusal
kept_of before items bytes = finish kept_with before (document_of station_tables (length bytes) items)

abbrev ok_of : StationFacts → ℕ → Result (StationFacts × ℕ) ReadRefusal
ok_of facts used = Ok (facts, used)

pub reads : (newest : Newest) (bytes : List ℕ) (before kept : Kept) (items : Contents) (used : ℕ) (facts : StationFacts)
    → items ≡ items_of max_station bytes → before ≡ none_kept
    → finish kept_with before (document_of station_tables (length bytes) items) ≡ Ok (kept, used)
    → facts ≡ facts_of newest bytes kept → station_of newest bytes ≡ Ok (facts, used)
reads newest bytes before kept items used facts e f g h =
    let read : kept_of none_kept (items_of max_station bytes) bytes ≡ Ok (kept, used) =
    ap (λ (i : Contents). kept_of none_kept i bytes) (sym e) ∙ ap (λ (s : Kept). kept_of s items bytes) (sym f) ∙ g in
    ap (λ (r : Result (Kept × ℕ) ReadRefusal). with_facts newest bytes r) read
    ∙ ap (λ (s : StationFacts). ok_of s used) (sym h)
