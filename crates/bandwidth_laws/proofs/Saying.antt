-- What some lines say together, and one more line.
use Rattle.std.proofs.Common.{◌≡◌, ℕ, ◌+◌, Bool, true, false, List, [], ◌∷◌, ◌++◌, length, Option, Some, None}
use Rattle.std.proofs.{Common.{option_to_list, refl, ap, ap₂, ◌∙◌, arith, if◌then◌else◌}, lemmas.Bool.and_parts}
use Rattle.std.{proofs.lemmas.Bool.le-ltb, specs.{Prelude.{◌<◌, nat_lt, not, ◌==◌}, List.{list_all, prefix_len}}}
use Rattle.std.specs.Option.{option_map, option_or}
use Rattle.item_terms.specs.{Lines.Line, Words.{is_blank_line, nul_in}}
use Rattle.bandwidth_file.specs.declared.{file.Header.Header, refusal.BandFault.BandFault}
use Rattle.bandwidth_file.specs.declared.{refusal.BandReason.TheVariants.{LineTooLong, Nul}, said.{Row.Row, Said.Said}}
use Rattle.bandwidth_file.specs.{declared.section.Section.Section, Lines.{at, line_fault, max_line, place_of, too_long}}
use Rattle.bandwidth_file.specs.Files.{fault_in, fault_of, faults_of, filled_line, header_in, headers_of, row_in}
use Rattle.bandwidth_file.specs.{Files.{rows_of, said_by, said_if, section_of, time_in, times_of}, Lending.next_section}
use Rattle.bandwidth_file.proofs.{Gathering.gathered_one, Sections.section_grows}
use Rattle.bandwidth_file.specs.declared.said.Said.TheVariants as said
use Rattle.bandwidth_laws.specs.Again.{is_line_byte}

-- a line with its NL
abbrev pub whole : List ℕ → Line
whole text = record { text = text; ended = true }

-- What some lines say, of which none has a fault.
pub record Says (before : List Line) (s : Section) (t : List ℕ) (h : List Header) (r : List Row) : Type 0 where
  pub sound : faults_of before ≡ []
  pub behind : section_of before ≡ s
  pub times : times_of before ≡ t
  pub headers : headers_of before ≡ h
  pub rows : rows_of before ≡ r

-- ---- a line whose bytes may stand in it

-- no NUL stands in it
no_nul : (text : List ℕ) → list_all is_line_byte text ≡ true → prefix_len (λ b. not (b == 0)) text ≡ length text
no_nul [] all = refl
no_nul (b ∷ text) all =
    let parts = and_parts (is_line_byte b) (list_all is_line_byte text) all in
    let here = (and_parts (not (b == 10)) (not (b == 0)) parts.0).1 in
    let later = no_nul text parts.1 in
    rw here (omega (arith, later))

-- it has no fault, whatever stands in it
pub sound_line : (place : ℕ) (text : List ℕ) → list_all is_line_byte text ≡ true → length text < max_line
    → line_fault place (whole text) ≡ None
sound_line place text all within =
    let short : too_long place (whole text) ≡ None =
    ap (λ (b : Bool). if b then Some (at (place + max_line) LineTooLong) else None)
    (le-ltb max_line (length text + 1) (omega (arith, within))) in
    let none : nul_in text ≡ None =
    ap (λ (n : ℕ). if nat_lt n (length text) then Some n else None) (no_nul text all)
    ∙ ap (λ (b : Bool). if b then Some (length text) else None) (le-ltb (length text) (length text) (omega arith)) in
    ap₂ (λ (long : Option BandFault) (o : Option ℕ). option_or long (option_map (λ offset. at (place + offset) Nul) o))
    short none

-- ---- one more line

module _ (before : List Line) (text : List ℕ) (what : Said) (s : Section) (t : List ℕ)
    (h : List Header) (r : List Row) where
  line_says : Says before s t h r → is_blank_line text ≡ false → line_fault (place_of before) (whole text) ≡ None
      → filled_line s (place_of before) text ≡ what → said_by before (whole text) ≡ what
  line_says says filled sound is =
      let place = place_of before in
      ap (λ (f : Option BandFault). said_if f (section_of before) place text) sound
      ∙ ap (λ (b : Bool). if b then said.Nothing else filled_line (section_of before) place text) filled
      ∙ ap (λ (k : Section). filled_line k place text) says.behind ∙ is

  pub says_one : (s' : Section) (t' : List ℕ) (h' : List Header) (r' : List Row) → Says before s t h r
      → is_blank_line text ≡ false → list_all is_line_byte text ≡ true → length text < max_line
      → filled_line s (place_of before) text ≡ what → fault_in r (place_of before) what ≡ None
      → next_section s text ≡ s'
      → t ++ option_to_list (time_in what) ≡ t' → h ++ option_to_list (header_in text what) ≡ h'
      → r ++ option_to_list (row_in what) ≡ r' → Says (before ++ whole text ∷ []) s' t' h' r'
  says_one s' t' h' r' says filled bytes within is right next times headers rows =
      let place = place_of before in
      let line = whole text in
      let what_is = line_says says filled (sound_line place text bytes within) is in
      let fault : fault_of before line ≡ None =
      ap₂ (λ (l : List Row) (w : Said). fault_in l place w) says.rows what_is ∙ right in
      record {
        sound = gathered_one fault_of before line
            ∙ ap₂ (λ (l : List BandFault) (o : Option BandFault). l ++ option_to_list o) says.sound fault;
        behind = section_grows before line false filled ∙ ap (λ (k : Section). next_section k text) says.behind ∙ next;
        times = gathered_one (λ b l. time_in (said_by b l)) before line
            ∙ ap₂ (λ (l : List ℕ) (w : Said). l ++ option_to_list (time_in w)) says.times what_is ∙ times;
        headers = gathered_one (λ b l. header_in l.text (said_by b l)) before line
            ∙ ap₂ (λ (l : List Header) (w : Said). l ++ option_to_list (header_in text w)) says.headers what_is
            ∙ headers;
        rows = gathered_one (λ b l. row_in (said_by b l)) before line
            ∙ ap₂ (λ (l : List Row) (w : Said). l ++ option_to_list (row_in w)) says.rows what_is ∙ rows;
      }
