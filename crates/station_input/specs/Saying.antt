-- What items of a station input alone say. The tables of the document see to it that each item is there which has to
-- stand; where one is not, or says something else, its value is nothing.
use Rattle.std.specs.Prelude.{List, [], ◌∷◌, Option, Some, None}
use Rattle.flag_rules.specs.declared.operator.OperatorRule.{OperatorRule}
use Rattle.frame_terms.specs.declared.document.Taken.{Taken}
use Rattle.frame_values.specs.{declared.{found.DirSource.DirSource, values.Value.Value}, Values.{own_in, nowhere}}
use Rattle.frame_values.specs.Values.{no_identity}
use Rattle.frame_values.specs.declared.values.Value.TheVariants as value
use Rattle.station_input.specs.declared.frame_said.{MeasuredRelay.MeasuredRelay, MemberLine.MemberLine}
use Rattle.station_input.specs.declared.frame_said.{ScheduleLine.ScheduleLine, StationValue.StationValue}
use Rattle.station_input.specs.declared.frame_said.StationValue.TheVariants.{Source, Schedule, Member, Rule, Measured}

-- an authority of which nothing is known
abbrev pub no_source : DirSource
no_source = record { nickname = nowhere; identity = no_identity; address = nowhere; ip = 0; dir_port = 0; or_port = 0 }

-- the authority that a value speaks of
abbrev pub source_of_value : Option StationValue → DirSource
source_of_value (Some (Source source)) = source
source_of_value _ = no_source

-- the authority that an item speaks of
abbrev pub source_in : Option (Taken (Value StationValue)) → DirSource
source_in item = source_of_value (own_in item)

-- no schedule
abbrev pub no_schedule : ScheduleLine
no_schedule = record { interval = 0; vote = 0; dist = 0 }

-- the schedule that a value is
abbrev pub schedule_of_value : Option StationValue → ScheduleLine
schedule_of_value (Some (Schedule schedule)) = schedule
schedule_of_value _ = no_schedule

-- the schedule that an item says
abbrev pub schedule_in : Option (Taken (Value StationValue)) → ScheduleLine
schedule_in item = schedule_of_value (own_in item)

-- ---- items that may stand several times

-- one in front of a list, where there is one
abbrev pub onto_if : {X : Type 0} → Option X → List X → List X
onto_if None list = list
onto_if (Some x) list = x ∷ list

-- the authority of the network that a value speaks of
abbrev pub member_if : Value StationValue → Option MemberLine
member_if (value.Own (Member member)) = Some member
member_if _ = None

-- the authorities of the network
abbrev pub members_in : List (Taken (Value StationValue)) → List MemberLine
members_in [] = []
members_in (one ∷ taken) = onto_if (member_if one.value) (members_in taken)

-- the rule that a value is
abbrev pub rule_if : Value StationValue → Option OperatorRule
rule_if (value.Own (Rule rule)) = Some rule
rule_if _ = None

-- the rules of the operator
abbrev pub rules_in : List (Taken (Value StationValue)) → List OperatorRule
rules_in [] = []
rules_in (one ∷ taken) = onto_if (rule_if one.value) (rules_in taken)

-- the measured relay that a value speaks of
abbrev pub measured_if : Value StationValue → Option MeasuredRelay
measured_if (value.Own (Measured relay)) = Some relay
measured_if _ = None

-- the measured relays
abbrev pub measured_in : List (Taken (Value StationValue)) → List MeasuredRelay
measured_in [] = []
measured_in (one ∷ taken) = onto_if (measured_if one.value) (measured_in taken)
