-- What is known once one more line was read.
use Rattle.std.proofs.Common.{◌≡◌, ℕ, ◌==◌, Bool, true, false, List, [], ◌∷◌, ◌++◌, Option, Some, None, option_to_list}
use Rattle.std.proofs.Common.{unwrap_or, refl, sym, ap, ap₂, ◌∙◌, subst, append-nil, if◌then◌else◌}
use Rattle.std.specs.List.{list_any}
use Rattle.item_terms.specs.{Lines.Line, Words.is_blank_line}
use Rattle.dir_bytes.specs.Fields.{number}
use Rattle.dir_values.specs.{Arguments.Argument, Numbers.number_of, declared.digest.Fingerprint.Fingerprint}
use Rattle.bandwidth_file.specs.declared.{file.Header.Header, reading.Reading.Reading, refusal.BandFault.BandFault}
use Rattle.bandwidth_file.specs.{declared.{said.{Row.Row, Said.Said}, section.Section.Section}, Lines.{at, place_of}}
use Rattle.bandwidth_file.specs.{Lines.{line_fault, last_value, node_id, bw, vote}, Relays.{is_no_vote, row_said}}
use Rattle.bandwidth_file.specs.{Relays.{relay_said, relay_line, identity_in}, Files.{is_separator, names_relay}}
use Rattle.bandwidth_file.specs.Files.{ends_header, section_of, time_said, header_line, filled_line, said_if, said_by}
use Rattle.bandwidth_file.specs.{Files.{time_in, header_in, row_in, rows_of, fault_in, fault_of}, Lending.next_section}
use Rattle.bandwidth_file.{specs.Lending.{time_if, HasRows, Holds, Keeps}, proofs.Gathering.gathered_one}
use Rattle.bandwidth_file.proofs.Sections.{section_grows}
use Rattle.bandwidth_file.specs.declared.refusal.BandReason.TheVariants as reason
use Rattle.bandwidth_file.specs.declared.said.Said.TheVariants as said
use Rattle.bandwidth_file.specs.declared.section.Section.TheVariants as section

-- ---- only the first line gives a time

row_gives_none : (node band : Argument) (identity : Option Fingerprint) (bandwidth : Option ℕ) → time_in (row_said node band identity bandwidth) ≡ None
row_gives_none node band (Some identity) (Some bandwidth) = refl
row_gives_none node band (Some identity) None = refl
row_gives_none node band None (Some bandwidth) = refl
row_gives_none node band None None = refl

relay_gives_none : (node band voted : Option Argument) → time_in (relay_said node band voted) ≡ None
relay_gives_none None band voted = refl
relay_gives_none (Some node) None voted = refl
relay_gives_none (Some node) (Some band) voted =
    elim (is_no_vote voted) as (λ b. time_in (if b then said.Nothing else row_said node band (identity_in node.text) (number_of band.text)) ≡ None) [
      | true ↦ refl
      | false ↦ row_gives_none node band (identity_in node.text) (number_of band.text)
    ]

line_gives_none : (place : ℕ) (text : List ℕ) → time_in (relay_line place text) ≡ None
line_gives_none place text = relay_gives_none (last_value node_id place text) (last_value bw place text) (last_value vote place text)

header_gives_none : (separator relay header : Bool) (place : ℕ) (text : List ℕ) (fault : BandFault)
    → time_in (if separator then said.Nothing else if relay then relay_line place text else if header then said.Header else said.Wrong fault) ≡ None
header_gives_none true relay header place text fault = refl
header_gives_none false true header place text fault = line_gives_none place text
header_gives_none false false true place text fault = refl
header_gives_none false false false place text fault = refl

-- ---- the time, once one more line was read

later : (here next : Section) (what : Said) (old new : ℕ) → time_in what ≡ None → new ≡ unwrap_or (time_in what) old → time_if next old ≡ time_if here old
    → time_if here old ++ option_to_list (time_in what) ≡ time_if next new
later here next what old new none is same =
    ap (λ (o : Option ℕ). time_if here old ++ option_to_list o) none ∙ append-nil (time_if here old) ∙ sym same
    ∙ ap (time_if next) (sym (is ∙ ap (λ (o : Option ℕ). unwrap_or o old) none))

next_of_headers : (ended : Bool) (old : ℕ) → time_if (if ended then section.Relays else section.Headers) old ≡ old ∷ []
next_of_headers true old = refl
next_of_headers false old = refl

filled_times : (here : Section) (rows : List Row) (place at_ : ℕ) (text : List ℕ) (old new : ℕ) → fault_in rows at_ (filled_line here place text) ≡ None
    → new ≡ unwrap_or (time_in (filled_line here place text)) old
    → time_if here old ++ option_to_list (time_in (filled_line here place text)) ≡ time_if (next_section here text) new
filled_times section.Time rows place at_ text old new sound is =
    let by : (n : Option ℕ) → fault_in rows at_ (time_said place n) ≡ None → new ≡ unwrap_or (time_in (time_said place n)) old
    → option_to_list (time_in (time_said place n)) ≡ new ∷ [] =
    λ n. elim n as (λ n. fault_in rows at_ (time_said place n) ≡ None → new ≡ unwrap_or (time_in (time_said place n)) old
    → option_to_list (time_in (time_said place n)) ≡ new ∷ []) [
      | None ↦ λ wrong same. absurd cc
      | Some t ↦ λ right same. ap (λ (k : ℕ). k ∷ []) (sym same)
    ] in
    by (number 18446744073709551615 text) sound is
filled_times section.Headers rows place at_ text old new sound is =
    let none : time_in (header_line place text) ≡ None = header_gives_none (is_separator text) (names_relay text) (list_any (λ byte. byte == 61) text) place text (at place reason.Header) in
    later section.Headers (next_section section.Headers text) (header_line place text) old new none is (next_of_headers (ends_header text) old)
filled_times section.Relays rows place at_ text old new sound is =
    later section.Relays section.Relays (relay_line place text) old new (line_gives_none place text) is refl

said_times : (fault : Option BandFault) (blank : Bool) (here : Section) (rows : List Row) (place at_ : ℕ) (text : List ℕ) (old new : ℕ) → is_blank_line text ≡ blank
    → fault_in rows at_ (said_if fault here place text) ≡ None → new ≡ unwrap_or (time_in (said_if fault here place text)) old
    → time_if here old ++ option_to_list (time_in (said_if fault here place text)) ≡ time_if (if blank then here else next_section here text) new
said_times (Some f) blank here rows place at_ text old new blank_is wrong is = absurd cc
said_times None true here rows place at_ text old new blank_is sound is =
    let nothing : said_if None here place text ≡ said.Nothing = ap (λ (b : Bool). if b then said.Nothing else filled_line here place text) blank_is in
    later here here (said_if None here place text) old new (ap time_in nothing) is refl
said_times None false here rows place at_ text old new blank_is sound is =
    let filled : said_if None here place text ≡ filled_line here place text = ap (λ (b : Bool). if b then said.Nothing else filled_line here place text) blank_is in
    ap (λ (s : Said). time_if here old ++ option_to_list (time_in s)) filled
    ∙ filled_times here rows place at_ text old new (ap (fault_in rows at_) (sym filled) ∙ sound) (is ∙ ap (λ (s : Said). unwrap_or (time_in s) old) filled)

-- ---- one more line

-- what is kept is what the line says behind those before it
pub keeps_there : (before : List Line) (line : Line) (place : ℕ) (what : Said) (old kept : Reading) → place ≡ place_of before → Holds before old
    → what ≡ said_if (line_fault place line) old.section place line.text → Keeps (rows_of before) place line.text what old kept
    → Keeps (rows_of before) (place_of before) line.text (said_by before line) old kept
keeps_there before line place what old kept there holds is keeps =
    let what_is : what ≡ said_by before line =
    is ∙ ap₂ (λ (s : Section) (p : ℕ). said_if (line_fault p line) s p line.text) holds.section there in
    subst (λ (p : ℕ). Keeps (rows_of before) p line.text (said_by before line) old kept) there
    (subst (λ (s : Said). Keeps (rows_of before) place line.text s old kept) what_is keeps)

-- what was known of the lines before is known of them and one more line, once it was kept what this says
pub holds_one : (before : List Line) (line : Line) (blank : Bool) (old kept new : Reading) → is_blank_line line.text ≡ blank → Holds before old
    → Keeps (rows_of before) (place_of before) line.text (said_by before line) old kept
    → new.section ≡ (if blank then kept.section else next_section kept.section line.text) → new.timestamp ≡ kept.timestamp → new.headers.items ≡ kept.headers.items
    → new.relays ≡ kept.relays → Holds (before ++ line ∷ []) new
holds_one before line blank old kept new blank_is holds keeps section_is timestamp_is headers_is relays_is =
    let here : kept.section ≡ section_of before = keeps.section ∙ holds.section in
    let next : new.section ≡ (if blank then section_of before else next_section (section_of before) line.text) =
    section_is ∙ ap (λ (s : Section). if blank then s else next_section s line.text) here in
    record {
      sound = gathered_one fault_of before line ∙ ap₂ (λ (l : List BandFault) (o : Option BandFault). l ++ option_to_list o) holds.sound keeps.sound;
      section = next ∙ sym (section_grows before line blank blank_is);
      times = gathered_one (λ b l. time_in (said_by b l)) before line
          ∙ ap (λ (l : List ℕ). l ++ option_to_list (time_in (said_by before line))) (holds.times ∙ ap (λ (s : Section). time_if s old.timestamp) holds.section)
          ∙ said_times (line_fault (place_of before) line) blank (section_of before) (rows_of before) (place_of before) (place_of before) line.text old.timestamp new.timestamp blank_is keeps.sound (timestamp_is ∙ keeps.timestamp)
          ∙ ap (λ (s : Section). time_if s new.timestamp) (sym next);
      headers = headers_is ∙ keeps.headers ∙ ap (λ (l : List Header). l ++ option_to_list (header_in line.text (said_by before line))) holds.headers
          ∙ sym (gathered_one (λ b l. header_in l.text (said_by b l)) before line);
      relays = subst (λ (l : List Row). HasRows l new.relays) (sym (gathered_one (λ b l. row_in (said_by b l)) before line))
          (subst (λ (r : List (Fingerprint × ℕ)). HasRows (rows_of before ++ option_to_list (row_in (said_by before line))) r) (sym relays_is) keeps.relays);
    }
