-- That the first line gives no time is told of a byte of the input. That there is none is told of its length, and is no fault
-- of a line.
use Rattle.std.proofs.Common.{◌≡◌, ℕ, suc, ◌+◌, ◌<◌, ◌==◌, Bool, true, false, List, [], ◌∷◌, ◌++◌, length, Option, Some}
use Rattle.std.proofs.Common.{None, slice_get, refl, sym, ap, ◌∙◌, arith, if◌then◌else◌}
use Rattle.std.{proofs.lemmas.List.Elements.{All-cons, All-head, All-nil, All-tail}, specs.Prelude.{All, is_none}}
use Rattle.std.specs.{Prelude.nat_lt, List.{cons_option, filter, list_any}, Option.{option_map, option_or}}
use Rattle.item_terms.specs.{Bytes.line_feed, Lines.{Line, lines, onto, size}, Words.{is_blank_line, nul_in}}
use Rattle.dir_bytes.specs.Fields.{number}
use Rattle.dir_values.specs.{Arguments.Argument, Numbers.number_of, declared.digest.Fingerprint.Fingerprint}
use Rattle.bandwidth_file.specs.declared.{refusal.{BandFault.BandFault, BandReason.BandReason}, said.Row.Row}
use Rattle.bandwidth_file.specs.{declared.section.Section.Section, Files.{end_fault, fault_in, fault_of, faults_of}}
use Rattle.bandwidth_file.specs.Files.{filled_line, is_filled, is_separator, names_relay, rows_of, said_if, section_of}
use Rattle.bandwidth_file.specs.{Files.time_said, Gathered.gathered_behind, Lines.{at, bw, last_value, line_fault}}
use Rattle.bandwidth_file.specs.{Lines.{max_line, node_id, place_of, vote}, Relays.{identity_in, is_no_vote}}
use Rattle.bandwidth_file.{specs.Relays.{relay_line, relay_said, row_said}, proofs.Sections.place_grows}
use Rattle.bandwidth_file.specs.declared.refusal.BandReason.TheVariants as reason
use Rattle.bandwidth_file.specs.declared.said.Said.TheVariants as said
use Rattle.bandwidth_file.specs.declared.section.Section.TheVariants as section

-- the fault that a line at a place gives no time
abbrev no_time : ℕ → Option BandFault
no_time place = Some (at place reason.Timestamp)

abbrev reason_or : BandReason → Option BandFault → BandReason
reason_or other (Some fault) = fault.reason
reason_or other None = other

abbrev place_or : ℕ → Option BandFault → ℕ
place_or other (Some fault) = fault.place
place_or other None = other

-- ---- no other line is refused so

module _ (rows : List Row) (place p : ℕ) where
  many_other : (many : Bool) → (if many then Some (at place reason.TooMany) else None) ≡ no_time p → ⊥
  many_other true e = cc (ap (reason_or reason.TooMany) e)
  many_other false e = cc e

  row_other : (node band : Argument) (identity : Option Fingerprint) (bandwidth : Option ℕ)
      → fault_in rows place (row_said node band identity bandwidth) ≡ no_time p → ⊥
  row_other node band (Some identity) (Some bandwidth) e = many_other _ e
  row_other node band (Some identity) None e = cc (ap (reason_or reason.Value) e)
  row_other node band None (Some bandwidth) e = cc (ap (reason_or reason.Value) e)
  row_other node band None None e = cc (ap (reason_or reason.Value) e)

  relay_other : (node band voted : Option Argument) → fault_in rows place (relay_said node band voted) ≡ no_time p → ⊥
  relay_other None band voted e = cc e
  relay_other (Some node) None voted e = cc e
  relay_other (Some node) (Some band) voted e = by (is_no_vote voted) e
    where
      by : (b : Bool)
          → fault_in rows place (if b then said.Nothing else row_said node band (identity_in node.text) (number_of band.text)) ≡ no_time p → ⊥
      by true e = cc e
      by false e = row_other node band (identity_in node.text) (number_of band.text) e

  relay_line_other : (text : List ℕ) → fault_in rows place (relay_line place text) ≡ no_time p → ⊥
  relay_line_other text e =
      relay_other (last_value node_id place text) (last_value bw place text) (last_value vote place text) e

  header_other : (text : List ℕ) (separator relay equals : Bool)
      → fault_in rows place (if separator then said.Nothing else if relay then relay_line place text
      else if equals then said.Header else said.Wrong (at place reason.Header))
      ≡ no_time p → ⊥
  header_other text true relay equals e = cc e
  header_other text false true equals e = relay_line_other text e
  header_other text false false true e = cc e
  header_other text false false false e = cc (ap (reason_or reason.Header) e)

  first_there : (time : Option ℕ) → fault_in rows place (time_said place time) ≡ no_time p → p ≡ place
  first_there None e = sym (ap (place_or p) e)
  first_there (Some time) e = absurd (cc e)

  filled_there : (here : Section) (text : List ℕ) → fault_in rows place (filled_line here place text) ≡ no_time p → p ≡ place
  filled_there section.Time text e = first_there (number 18446744073709551615 text) e
  filled_there section.Headers text e = absurd (header_other text (is_separator text) (names_relay text) (list_any (λ byte. byte == 61) text) e)
  filled_there section.Relays text e = absurd (relay_line_other text e)

  always_other : (long ended : Bool) (nul : Option ℕ) (a b : ℕ)
      → option_or (if long then Some (at a reason.LineTooLong) else None)
      (option_or (if ended then None else Some (at b reason.Unterminated)) (option_map (λ offset. at (place + offset) reason.Nul) nul))
      ≡ no_time p → ⊥
  always_other true ended nul a b e = cc (ap (reason_or reason.LineTooLong) e)
  always_other false false nul a b e = cc (ap (reason_or reason.Unterminated) e)
  always_other false true (Some offset) a b e = cc (ap (reason_or reason.Nul) e)
  always_other false true None a b e = cc e

  said_there : (line : Line) (here : Section) → fault_in rows place (said_if (line_fault place line) here place line.text) ≡ no_time p
      → p ≡ place
  said_there line here e = by (line_fault place line) refl e
    where
      unless : (blank : Bool) → fault_in rows place (if blank then said.Nothing else filled_line here place line.text) ≡ no_time p
          → p ≡ place
      unless true e = absurd (cc e)
      unless false e = filled_there here line.text e

      by : (fault : Option BandFault) → line_fault place line ≡ fault
          → fault_in rows place (said_if fault here place line.text) ≡ no_time p → p ≡ place
      by (Some fault) is e =
          absurd (always_other (nat_lt max_line (size line)) line.ended (nul_in line.text) (place + max_line) (place + length line.text) (is ∙ e))
      by None is e = unless (is_blank_line line.text) e

-- a line that is refused so is refused at its first byte
line_there : (before : List Line) (line : Line) (p : ℕ) → fault_of before line ≡ no_time p → p ≡ place_of before
line_there before line p e = said_there (rows_of before) (place_of before) p line (section_of before) e

-- ---- the bytes of lines

abbrev HasBytes : Line → Type 0
HasBytes line = 0 < size line

onto_bytes : (b : ℕ) (rest : List Line) → All HasBytes rest → All HasBytes (onto b rest) × (place_of (onto b rest) ≡ 1 + place_of rest)
onto_bytes b [] all = (All-cons HasBytes _ [] (omega arith) (All-nil HasBytes), refl)
onto_bytes b (line ∷ rest) all = (All-cons HasBytes _ rest (omega arith) (All-tail HasBytes line rest all), omega arith)

-- each line has some, and together they have all
all_bytes : (bytes : List ℕ) → All HasBytes (lines bytes) × (place_of (lines bytes) ≡ length bytes)
all_bytes [] = (All-nil HasBytes, refl)
all_bytes (b ∷ bytes) =
    let later = all_bytes bytes in
    by (b == line_feed) later.0 later.1
  where
    by : (feeds : Bool) → All HasBytes (lines bytes) → place_of (lines bytes) ≡ length bytes
        → All HasBytes (if feeds then record { text = []; ended = true } ∷ lines bytes else onto b (lines bytes))
        × (place_of (if feeds then record { text = []; ended = true } ∷ lines bytes else onto b (lines bytes)) ≡ suc (length bytes))
    by true all sum = (All-cons HasBytes _ (lines bytes) (omega arith) all, omega (arith, sum))
    by false all sum = let more = onto_bytes b (lines bytes) all in (more.0, omega (arith, more.1, sum))

-- ---- the first fault of lines

-- it is refused so before their end
before_end : (before rest : List Line) (p : ℕ) → All HasBytes rest
    → slice_get (gathered_behind fault_of before rest) 0 ≡ no_time p → p < place_of before + place_of rest
before_end before [] p all e = absurd (cc e)
before_end before (line ∷ rest) p all e =
    by (fault_of before line) refl e (before_end (before ++ line ∷ []) rest p (All-tail HasBytes line rest all))
  where
    some : 0 < size line
    some = All-head HasBytes line rest all

    others : Option BandFault
    others = slice_get (gathered_behind fault_of (before ++ line ∷ []) rest) 0

    by : (fault : Option BandFault) → fault_of before line ≡ fault
        → slice_get (cons_option fault (gathered_behind fault_of (before ++ line ∷ []) rest)) 0 ≡ no_time p
        → (others ≡ no_time p → p < place_of (before ++ line ∷ []) + place_of rest) → p < place_of before + (size line + place_of rest)
    by (Some fault) is e later = omega (arith, line_there before line p (is ∙ e), some)
    by None is e later = omega (arith, later e, place_grows before line)

-- so no line is refused so at the input's length
pub never_at_end : (bytes : List ℕ) → slice_get (faults_of (lines bytes)) 0 ≡ no_time (length bytes) → ⊥
never_at_end bytes e =
    let all = all_bytes bytes in
    absurd (omega (arith, before_end [] (lines bytes) (length bytes) all.0 e, all.1))

some_is : {A : Type 0} {x y : A} → Some x ≡ Some y → x ≡ y
some_is e = cc e

-- and that there is none is told there
pub end_there : (bytes : List ℕ) (fault : BandFault) → end_fault (lines bytes) ≡ Some fault → fault ≡ at (length bytes) reason.Timestamp
end_there bytes fault e = by (is_none (slice_get (filter is_filled (lines bytes)) 0)) e
  where
    by : (none : Bool) → (if none then Some (at (place_of (lines bytes)) reason.Timestamp) else None) ≡ Some fault
        → fault ≡ at (length bytes) reason.Timestamp
    by true e = sym (some_is e) ∙ ap (λ (n : ℕ). at n reason.Timestamp) (all_bytes bytes).1
    by false e = absurd (cc e)
