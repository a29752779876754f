-- Bytes that are blank lines alone are the end of an input, and no others are.
use Rattle.std.proofs.Common.{◌≡◌, ◌∙◌, ℕ, ◌+◌, ◌-◌, ◌<◌, ◌≤◌, ◌^◌, min, Bool, true, false, List, [], ◌∷◌, length, drop}
use Rattle.std.proofs.{Common.{Option, Some, None, refl, sym, ap, subst, arith}, lemmas.Bool.{and_parts, le-leb}}
use Rattle.std.{proofs.lemmas.Bool.{le-ltb, leb-true, ne_eqb}, specs.Prelude.{◌==◌, ◌&&◌, nat_le, nat_lt, not}}
use Rattle.std.specs.{Prelude.if◌then◌else◌, List.{list_all, prefix_len}}
use Rattle.item_terms.specs.{Faults.{at, max_line, nul_fault, or_else, too_long, unterminated_fault}, Items.Contents}
use Rattle.item_terms.specs.{Items.{Item, items_from, no_limit}, Lines.{Line, lines, size}, Words.is_blank}
use Rattle.item_terms.specs.{Words.{is_blank_line, nul_in}, declared.fault.DocFault.DocFault}
use Rattle.item_terms.specs.declared.fault.DocReason.TheVariants.{DocumentTooLong, LineTooLong, Unterminated}
use Rattle.grammar_laws.specs.{Blocks.{AreBlankLines, AreLinesOfItems, IsBlankLine}, Moved.sizes}
use Rattle.grammar_laws.proofs.{BlockFronts.items_are_there, BlockReading.no_others_are, LinesTogether.sizes_all}
use Rattle.frame_terms.specs.declared.fault.ReadRefusal.{ReadRefusal}
use Rattle.compute_command.{specs.{Tails.{is_end, tail_of}, Votes.{by_first, one_more_of}}, proofs.TailLines.all_blank}
use Rattle.compute_command.proofs.TailLines.{blank_line, tail_says}

-- ---- a line

none_first : (one other : Option DocFault) → or_else one other ≡ None → one ≡ None
none_first None other is = refl
none_first (Some fault) other is = absurd (cc is)

none_second : (one other : Option DocFault) → or_else one other ≡ None → other ≡ None
none_second None other is = is
none_second (Some fault) other is = absurd (cc is)

-- blanks are no NUL
no_nul : (text : List ℕ) → list_all is_blank text ≡ true → prefix_len (λ b. not (b == 0)) text ≡ length text
no_nul [] all = refl
no_nul (b ∷ text) all =
    let parts = and_parts (is_blank b) (list_all is_blank text) all in
    let here : not (b == 0) ≡ true = by b parts.0 in
    let later = no_nul text parts.1 in
    rw here (omega (arith, later))
  where
    by : (b : ℕ) → is_blank b ≡ true → not (b == 0) ≡ true
    by b is = ap not (ne_eqb b 0 (λ zero_. absurd (cc (subst (λ (k : ℕ). is_blank k ≡ true) zero_ is))))

abbrev fault_by : Bool → ℕ → ℕ → Option DocFault
fault_by fits limit place =
    if fits then None else Some (if nat_le (limit - place) max_line then at limit DocumentTooLong else at (place + max_line) LineTooLong)

-- a line is blank, and not too long
pub is_blank_line_by : (limit place : ℕ) (line : Line) → blank_line 0 line ≡ true → place + size line ≤ limit
    → IsBlankLine limit place line
is_blank_line_by limit place line is within =
    let parts = and_parts (line.ended && is_blank_line line.text) (nat_le (0 + size line) max_line) is in
    let line_ = and_parts line.ended (is_blank_line line.text) parts.0 in
    let fits : size line ≤ max_line = omega (arith, leb-true (0 + size line) max_line parts.1) in
    let short : too_long limit place (size line) ≡ None =
    ap (λ (t : Bool). fault_by t limit place) (le-leb (size line) (min (limit - place) max_line) (omega (arith, fits, within))) in
    let ended : unterminated_fault place line ≡ None =
    ap (λ (t : Bool). if t then None else Some (at (place + length line.text) Unterminated)) line_.0 in
    let nul : nul_in line.text ≡ None =
    ap (λ (k : ℕ). if nat_lt k (length line.text) then Some k else None) (no_nul line.text line_.1)
    ∙ ap (λ (t : Bool). if t then Some (length line.text) else None) (le-ltb (length line.text) (length line.text) (omega arith)) in
    record {
      blank = line_.1;
      sound =
          ap (λ (f : Option DocFault). or_else f (or_else (unterminated_fault place line) (nul_fault place (nul_in line.text)))) short
          ∙ ap (λ (f : Option DocFault). or_else f (nul_fault place (nul_in line.text))) ended
          ∙ ap (λ (o : Option ℕ). nul_fault place o) nul;
    }

-- and the other way round
pub blank_line_by : (limit place : ℕ) (line : Line) → IsBlankLine limit place line → blank_line 0 line ≡ true
blank_line_by limit place line is =
    let long = too_long limit place (size line) in
    let others = or_else (unterminated_fault place line) (nul_fault place (nul_in line.text)) in
    let ended = by_ended line.ended (none_first (unterminated_fault place line) (nul_fault place (nul_in line.text))
    (none_second long others is.sound)) in
    let fits = by_size (nat_le (size line) (min (limit - place) max_line)) refl (none_first long others is.sound) in
    let short : nat_le (0 + size line) max_line ≡ true = le-leb (0 + size line) max_line (omega (arith, fits)) in
    ap (λ (t : Bool). (t && is_blank_line line.text) && nat_le (0 + size line) max_line) ended
    ∙ ap (λ (t : Bool). t && nat_le (0 + size line) max_line) is.blank ∙ short
  where
    by_ended : (t : Bool) → (if t then None else Some (at (place + length line.text) Unterminated)) ≡ None → t ≡ true
    by_ended true e = refl
    by_ended false e = absurd (cc e)

    by_size : (t : Bool) → nat_le (size line) (min (limit - place) max_line) ≡ t → fault_by t limit place ≡ None
        → size line ≤ min (limit - place) max_line
    by_size true e none = leb-true (size line) (min (limit - place) max_line) e
    by_size false e none = absurd (cc none)

-- ---- lines

pub are_blank_by : (limit place : ℕ) (ls : List Line) → all_blank 0 ls ≡ true → place + sizes ls ≤ limit
    → AreBlankLines limit place ls
are_blank_by limit place [] is within = tt
are_blank_by limit place (line ∷ ls) is within =
    let parts = and_parts (blank_line 0 line) (all_blank 0 ls) is in (
      is_blank_line_by limit place line parts.0 (omega (arith, within)),
      are_blank_by limit (place + size line) ls parts.1 (omega (arith, within)),
    )

pub all_blank_by : (limit place : ℕ) (ls : List Line) → AreBlankLines limit place ls → all_blank 0 ls ≡ true
all_blank_by limit place [] are = refl
all_blank_by limit place (line ∷ ls) are =
    ap (λ (t : Bool). t && all_blank 0 ls) (blank_line_by limit place line are.0)
    ∙ all_blank_by limit (place + size line) ls are.1

-- ---- bytes

pub none_by : (items : List Item) (fault : Option DocFault) → by_first items fault ≡ None → items ≡ []
none_by [] fault is = refl
none_by (item ∷ items) fault is = absurd (cc is)

pub no_fault_by : (items : List Item) (fault : Option DocFault) → by_first items fault ≡ None → fault ≡ None
no_fault_by items None is = refl
no_fault_by [] (Some fault) is = absurd (cc is)
no_fault_by (item ∷ items) (Some fault) is = absurd (cc is)

-- blank lines alone are the end of an input
pub end_is_none : (bytes : List ℕ) → length bytes < 2 ^ 61 → is_end (tail_of bytes) ≡ true → one_more_of bytes ≡ None
end_is_none bytes short is =
    let blank = sym (tail_says bytes) ∙ is in
    let are = are_blank_by (0 + no_limit) 0 (lines (drop 0 bytes)) blank (omega (arith, sizes_all bytes, short)) in
    ap (λ (c : Contents). by_first c.items c.fault) (no_others_are 0 no_limit bytes [] are)

-- and an end is blank lines alone
pub none_is_end : (bytes : List ℕ) → one_more_of bytes ≡ None → is_end (tail_of bytes) ≡ true
none_is_end bytes is =
    let found = items_from 0 no_limit bytes in
    let none = none_by found.items found.fault is in
    let no_fault = no_fault_by found.items found.fault is in
    let are = subst (λ (l : List Item). AreLinesOfItems (0 + no_limit) 0 (lines (drop 0 bytes)) l) none
    (items_are_there 0 no_limit bytes no_fault) in
    tail_says bytes ∙ all_blank_by (0 + no_limit) 0 (lines (drop 0 bytes)) are

-- so where they are not, one more vote is read or refused
pub record IsRefusedIf (bytes : List ℕ) : Type 0 where
  pub refusal : ReadRefusal
  pub more : one_more_of bytes ≡ Some refusal

pub not_end : (bytes : List ℕ) → is_end (tail_of bytes) ≡ false → IsRefusedIf bytes
not_end bytes is = by (one_more_of bytes) refl
  where
    by : (o : Option ReadRefusal) → one_more_of bytes ≡ o → IsRefusedIf bytes
    by None e = absurd (cc (none_is_end bytes e, is))
    by (Some refusal) e = record { refusal = refusal; more = e }
