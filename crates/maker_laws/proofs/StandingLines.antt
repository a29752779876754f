-- What stands in the section of a station is said by an item whose line is no longer than a line may be, with its
-- keyword.
use Rattle.std.proofs.Common.{◌≡◌, ℕ, Bool, true, false, List, [], ◌∷◌, ◌++◌, Some, None, Result, Ok, refl, sym, Option}
use Rattle.std.{proofs.Common.{subst, ◌∙◌, inl, inr}, specs.Prelude.{IfSome, if◌then◌else◌}}
use Rattle.item_terms.specs.Items.{Item}
use Rattle.frame_terms.specs.{declared.{keyword.Keyword.Keyword, row.Row.Row}, Keywords.{same, text_of}, Order.inner}
use Rattle.frame_terms.specs.Sections.{row_of}
use Rattle.frame_values.specs.{Faults.{at_place, unless_fault}, Lines.{rest_of, rest_unless}, Values.item_at}
use Rattle.frame_values.specs.{declared.{found.Span.Span, values.Value.Value}, Arguments.{arguments_of, next}}
use Rattle.frame_values.specs.declared.values.Value.TheVariants as value
use Rattle.frame_laws.proofs.{KnownWords.same-sym, StandingParts.rest_part}
use Rattle.list_values.specs.{Params.wrong_param, Protocols.wrong_protocol, VersionLists.wrong_version_list}
use Rattle.document_laws.specs.Items.{AreItemsIn, IsItemIn}
use Rattle.range_laws.proofs.ValueTexts.{TextIs}
use Rattle.row_laws.proofs.{ItemArguments.IsSound, ReadSteps.no_fault, Saying.{EachSound, by_own_row, sound_parts}}
use Rattle.vote_laws.proofs.KeywordTexts.{text_as}
use Rattle.station_input.specs.{Tables.{over_limit, station_tables, value_at}, declared.across.Across.Across}
use Rattle.station_input.specs.declared.frame.{StationKind.StationKind, StationSection.StationSection}
use Rattle.station_input.specs.declared.frame_said.StationValue.{StationValue}
use Rattle.station_input.specs.declared.frame.StationKind.TheVariants as kind
use Rattle.station_input.specs.declared.frame.StationSection.TheVariants as its
use Rattle.station_laws.proofs.KeptLines.{StationTaken, only_certificate}
use Rattle.maker_laws.proofs.ItemLines.{EachShort, FitsLine, IsShortItem}

-- ---- items that stand there

-- an item of the input stands there, and its line is short
pub record StandsShort (bytes : List ℕ) (one : StationTaken) : Type 0 where
  pub remembered : Across
  pub item : Item
  pub sound : IsSound bytes item
  pub short : IsShortItem item
  pub within : IsItemIn station_tables remembered its.Station item one

abbrev pub EachStandsShort : List ℕ → List StationTaken → Type 0
EachStandsShort bytes [] = Unit {0}
EachStandsShort bytes (one ∷ taken) = StandsShort bytes one × EachStandsShort bytes taken

behind_short : (before rest : List Item) → EachShort (before ++ rest) → EachShort rest
behind_short [] rest each = each
behind_short (item ∷ before) rest each = behind_short before rest each.1

pub each_stands_short : (bytes : List ℕ) (items : List Item) (taken : List StationTaken) → EachSound bytes items
    → EachShort items → AreItemsIn station_tables its.Station items taken → EachStandsShort bytes taken
each_stands_short bytes items [] sound short are = tt
each_stands_short bytes items (one ∷ taken) sound short are =
    let here =
    sound_parts bytes are.0 (are.1 ∷ are.2) (subst (λ (l : List Item). EachSound bytes l) are.3 sound) in
    let lines = behind_short are.0 (are.1 ∷ are.2) (subst (λ (l : List Item). EachShort l) are.3 short) in (
      record { remembered = are.4; item = are.1; sound = here.0; short = lines.0; within = are.5 },
      each_stands_short bytes are.2 taken here.1 lines.1 are.6,
    )

-- so does the first of a keyword
found_short : (bytes : List ℕ) (taken : List StationTaken) (keyword : Keyword) → EachStandsShort bytes taken
    → IfSome (item_at taken keyword) (λ one. StandsShort bytes one × (same one.keyword keyword ≡ true))
found_short bytes [] keyword each = tt
found_short bytes (one ∷ taken) keyword each =
    by (same one.keyword keyword) refl (found_short bytes taken keyword each.1)
  where
    by : (t : Bool) → same one.keyword keyword ≡ t
        → IfSome (item_at taken keyword) (λ o. StandsShort bytes o × (same o.keyword keyword ≡ true))
        → IfSome (if t then Some one else item_at taken keyword)
        (λ o. StandsShort bytes o × (same o.keyword keyword ≡ true))
    by true is later = (each.0, is)
    by false is later = later

-- ---- what it says

-- no section inside another is a station's
never_station : (around : StationSection) (keyword : Keyword)
    → inner station_tables around keyword ≡ Some its.Station → ⊥
never_station its.Station keyword begins = absurd (cc (only_certificate keyword its.Station begins).0)
never_station its.Certificate keyword begins = absurd (cc begins)

-- an item with the text of this keyword says this by a row of this kind, and its line is short
pub record SaysShort (bytes : List ℕ) (keyword : Keyword) (of : StationKind) (v : Value StationValue) : Type 0 where
  pub remembered : Across
  pub item : Item
  pub sound : IsSound bytes item
  pub short : FitsLine (text_of keyword) item.arguments
  pub says : unless_fault (over_limit of item) (at_place (value_at remembered of item)) ≡ Ok v

says_short : (bytes : List ℕ) (one : StationTaken) (keyword : Keyword) (row : Row StationKind)
    → row_of (station_tables.rows its.Station) keyword ≡ Some row → StandsShort bytes one
    → same one.keyword keyword ≡ true → SaysShort bytes keyword row.kind one.value
says_short bytes one keyword row there stands_ named = by stands_.within
  where
    by : IsItemIn station_tables stands_.remembered its.Station stands_.item one
        → SaysShort bytes keyword row.kind one.value
    by (inl is) =
        let text =
        text_as station_tables stands_.remembered its.Station stands_.item one is keyword
        (same-sym keyword one.keyword ∙ named) in
        record {
          remembered = stands_.remembered;
          item = stands_.item;
          sound = stands_.sound;
          short = subst (λ (k : List ℕ). FitsLine k stands_.item.arguments) text stands_.short;
          says = by_own_row station_tables bytes its.Station stands_.remembered stands_.item one keyword row is named
              there;
        }
    by (inr is) = absurd (never_station is.around one.keyword is.begins)

-- what the item of a keyword says, where there is one
pub item_short : (bytes : List ℕ) (P : Value StationValue → Type 0) (taken : List StationTaken) (keyword : Keyword)
    (own_row : Row StationKind) → row_of (station_tables.rows its.Station) keyword ≡ Some own_row
    → ((v : Value StationValue) → SaysShort bytes keyword own_row.kind v → P v) → EachStandsShort bytes taken
    → IfSome (item_at taken keyword) (λ one. P one.value)
item_short bytes P taken keyword own_row there is each =
    by (item_at taken keyword) (found_short bytes taken keyword each)
  where
    by : (one : Option StationTaken)
        → IfSome one (λ o. StandsShort bytes o × (same o.keyword keyword ≡ true)) → IfSome one (λ o. P o.value)
    by None found = tt
    by (Some one) found = is one.value (says_short bytes one keyword own_row there found.0 found.1)

-- ---- texts

abbrev pub LineFits : List ℕ → Keyword → Value StationValue → Type 0
LineFits bytes keyword v = TextIs (FitsLine (text_of keyword)) bytes v

-- the rest of its line
rest_fits : {bytes : List ℕ} {keyword : Keyword} {of : StationKind} {v : Value StationValue}
    (s : SaysShort bytes keyword of v) → value.Text (rest_of s.item) ≡ v → LineFits bytes keyword v
rest_fits {bytes} {keyword} {of} {v} s is =
    subst (LineFits bytes keyword) is
    (subst (FitsLine (text_of keyword)) (sym (rest_part s.sound.in_place)) s.short)

abbrev as_text : Result Span ℕ → Result (Value StationValue) ℕ
as_text read = next read (λ text. Ok (value.Text text))

abbrev as_read : Value StationValue → Result (Value StationValue) ℕ
as_read v = Ok v

-- what is read of it, unless something is wrong
unless_wrong_text : (item : Item) (wrong : Option ℕ) (v : Value StationValue)
    → as_text (rest_unless wrong item) ≡ Ok v → value.Text (rest_of item) ≡ v
unless_wrong_text item None v is = cc
unless_wrong_text item (Some place) v is = absurd (cc is)

pub contact_fits : {bytes : List ℕ} {keyword : Keyword} {v : Value StationValue}
    → SaysShort bytes keyword kind.Rest v → LineFits bytes keyword v
contact_fits {bytes} {keyword} {v} s =
    rest_fits s
    (same_value (value.Text (rest_of s.item)) v
    (no_fault (over_limit kind.Rest s.item) (value_at s.remembered kind.Rest s.item) v s.says).1)
  where
    same_value : (a b : Value StationValue) → as_read a ≡ as_read b → a ≡ b
    same_value a b is = cc

pub versions_fit : {bytes : List ℕ} {keyword : Keyword} {v : Value StationValue}
    → SaysShort bytes keyword kind.Versions v → LineFits bytes keyword v
versions_fit {bytes} {keyword} {v} s =
    rest_fits s
    (unless_wrong_text s.item (wrong_version_list (arguments_of s.item)) v
    (no_fault (over_limit kind.Versions s.item) (value_at s.remembered kind.Versions s.item) v s.says).1)

pub protocols_fit : {bytes : List ℕ} {keyword : Keyword} {v : Value StationValue}
    → SaysShort bytes keyword kind.Protocols v → LineFits bytes keyword v
protocols_fit {bytes} {keyword} {v} s =
    rest_fits s
    (unless_wrong_text s.item (wrong_protocol (arguments_of s.item)) v
    (no_fault (over_limit kind.Protocols s.item) (value_at s.remembered kind.Protocols s.item) v s.says).1)

pub params_fit : {bytes : List ℕ} {keyword : Keyword} {v : Value StationValue}
    → SaysShort bytes keyword kind.Params v → LineFits bytes keyword v
params_fit {bytes} {keyword} {v} s =
    rest_fits s
    (unless_wrong_text s.item (wrong_param (arguments_of s.item)) v
    (no_fault (over_limit kind.Params s.item) (value_at s.remembered kind.Params s.item) v s.says).1)
