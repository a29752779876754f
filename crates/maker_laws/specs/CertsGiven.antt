-- The certificate that a station is given may stand in its votes (dir-spec, "Creating key certificates").
use Rattle.std.specs.Prelude.{◌≡◌, ℕ, List, Ok}
use Rattle.vote_frame.specs.Tables.{vote_tables}
use Rattle.vote_frame.specs.declared.frame.VoteSection.TheVariants as section
use Rattle.certificate_laws.specs.Given.{IsGiven}
use Rattle.count_terms.specs.declared.newest.Newest.{Newest}
use Rattle.station_input.specs.{Reading.station_of, declared.facts.StationFacts.StationFacts}

-- The bytes of the certificate that is read of a station input are one certificate alone, from their first byte to
-- their
-- last, which says the same, and none of its items is one of a vote's.
abbrev pub StationsCertificatesAreGiven : Type 0
StationsCertificatesAreGiven = (newest : Newest) (input : List ℕ) (facts : StationFacts) (used : ℕ)
    → station_of newest input ≡ Ok (facts, used)
    → IsGiven vote_tables section.Certificate facts.certificate_bytes facts.certificate
