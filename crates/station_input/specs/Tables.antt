-- The sections of a station input, their items, and what these say.
use Rattle.std.specs.Prelude.{ℕ, Bool, false, List, [], ◌∷◌, Some, None, Result, Ok, codes}
use Rattle.item_terms.specs.Items.{Item}
use Rattle.frame_terms.specs.declared.{fault.FrameFault.FrameFault, keyword.Keyword.Keyword, row.Count.TheVariants.One}
use Rattle.frame_terms.specs.declared.{row.{Count.TheVariants.{Optional, Many}, Row.Row}, section.Shape.Shape}
use Rattle.frame_terms.specs.{Order.knows, Rows.row, Tables.Tables}
use Rattle.frame_terms.specs.declared.keyword.Keyword.TheVariants as the
use Rattle.frame_terms.specs.declared.row.Limit.TheVariants as limit
use Rattle.frame_terms.specs.declared.section.Again.TheVariants as again
use Rattle.frame_values.specs.{declared.values.Value.Value, Faults.{at_place, too_many, unless_fault}, Arguments.next}
use Rattle.frame_values.specs.Lines.{literal, rest_of}
use Rattle.frame_values.specs.declared.values.Value.TheVariants as value
use Rattle.value_groups.specs.ListLines.{params_of, protocols_of, versions_of}
use Rattle.authority_certs.specs.{Tables.{cert_rows, cert_shape, cert_value}, declared.frame.CertKind.CertKind}
use Rattle.authority_certs.specs.declared.frame.CertKind.TheVariants as cert
use Rattle.vote_frame.specs.Tables.{vote_tables}
use Rattle.station_input.specs.{Across.{nothing_across, note_value}, Lines.{measured_of, member_of, own_of, rule_of}}
use Rattle.station_input.specs.{Lines.schedule_of, declared.{across.Across.Across, frame.StationKind.StationKind}}
use Rattle.station_input.specs.declared.frame.StationKind.TheVariants.{Version, Source, Rest, Schedule, Member}
use Rattle.station_input.specs.declared.frame.StationKind.TheVariants.{Versions, Protocols, Params, Rule, Measured}
use Rattle.station_input.specs.declared.frame.StationKind.TheVariants.{Nothing, Certificate}
use Rattle.station_input.specs.declared.frame.StationSection.{StationSection, TheVariants.Station}
use Rattle.station_input.specs.declared.frame.StationSection.TheVariants.{Certificate as CertificateSection}
use Rattle.station_input.specs.declared.frame_said.StationValue.{StationValue}
use Rattle.station_input.specs.declared.frame_said.StationValue.TheVariants as own

-- the items of a section; the first one opens it
abbrev pub rows : StationSection → List (Row StationKind)
rows Station =
    row the.Station One Version
    ∷ row the.Own One Source
    ∷ row the.Contact Optional Rest
    ∷ row the.DirKeyCertificateVersion One (Certificate cert.Version)
    ∷ row the.Schedule One Schedule
    ∷ row the.Authority Many Member
    ∷ row the.ClientVersions Optional Versions
    ∷ row the.ServerVersions Optional Versions
    ∷ row the.RecommendedClientProtocols Optional Protocols
    ∷ row the.RecommendedRelayProtocols Optional Protocols
    ∷ row the.RequiredClientProtocols Optional Protocols
    ∷ row the.RequiredRelayProtocols Optional Protocols
    ∷ row the.Params Optional Params
    ∷ row the.Rule Many Rule
    ∷ row the.Measured Many Measured
    ∷ row the.EndStation One Nothing
    ∷ []
rows CertificateSection = cert_rows Certificate

-- how a section begins and ends, and what may stand inside it
abbrev pub shape : StationSection → Shape StationSection
shape Station = record {
  opener = the.Station;
  last = Some the.EndStation;
  again = again.Nothing;
  inner = Some CertificateSection;
  limit = None;
}
shape CertificateSection = cert_shape

-- The bytes of the certificate stand in the station's votes: so what a vote knows may not stand inside it, also where the
-- station input does not know it.
abbrev pub strangers : StationSection → Keyword → Bool
strangers Station keyword = false
strangers CertificateSection keyword = knows vote_tables keyword

-- ---- what an item says, or the place of what is wrong

-- who the own authority is
abbrev pub source_value : Item → Result (Value StationValue) ℕ
source_value item = next (own_of item) (λ source. Ok (value.Own (own.Source source)))

-- when it votes
abbrev pub schedule_value : Item → Result (Value StationValue) ℕ
schedule_value item = next (schedule_of item) (λ schedule. Ok (value.Own (own.Schedule schedule)))

-- an authority of the network
abbrev pub member_value : Item → Result (Value StationValue) ℕ
member_value item = next (member_of item) (λ member. Ok (value.Own (own.Member member)))

-- what is ruled of a relay, which none of the rules before names
abbrev pub rule_value : Across → Item → Result (Value StationValue) ℕ
rule_value across item = next (rule_of across.ruled item) (λ rule. Ok (value.Own (own.Rule rule)))

-- what was measured of a relay, which none of these lines before names
abbrev pub measured_value : Across → Item → Result (Value StationValue) ℕ
measured_value across item = next (measured_of across.measured item) (λ relay. Ok (value.Own (own.Measured relay)))

-- what an item of the certificate says
abbrev pub certificate_value : CertKind → Item → Result (Value StationValue) ℕ
certificate_value kind item = cert_value kind item

-- what an item says of this kind
abbrev pub value_at : Across → StationKind → Item → Result (Value StationValue) ℕ
value_at across Version item = next (literal (codes "1") item) (λ _. Ok value.Nothing)
value_at across Source item = source_value item
value_at across Rest item = Ok (value.Text (rest_of item))
value_at across Schedule item = schedule_value item
value_at across Member item = member_value item
value_at across Versions item = next (versions_of item) (λ text. Ok (value.Text text))
value_at across Protocols item = next (protocols_of item) (λ text. Ok (value.Text text))
value_at across Params item = next (params_of item) (λ text. Ok (value.Text text))
value_at across Rule item = rule_value across item
value_at across Measured item = measured_value across item
value_at across Nothing item = Ok value.Nothing
value_at across (Certificate kind) item = certificate_value kind item

-- the fault of an item that has too many arguments for its kind
abbrev pub over_limit : StationKind → Item → Result (Unit {0}) FrameFault
over_limit Params item = too_many limit.Params item
over_limit _ item = Ok tt

-- the tables of a station input
abbrev pub station_tables : Tables StationSection StationKind (Value StationValue) Across
station_tables = record {
  first = Station;
  sections = Station ∷ [];
  shape = shape;
  rows = rows;
  strangers = strangers;
  ignores = λ _ _. false;
  value_of = λ across kind item. unless_fault (over_limit kind item) (at_place (value_at across kind item));
  start = nothing_across;
  note = λ across one. note_value across one.value;
}
