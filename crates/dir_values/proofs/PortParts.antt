-- The first part of a text and the others, and ranges that parts spell one after the other.
use Rattle.std.proofs.Common.{◌≡◌, ℕ, suc, ◌+◌, ◌<◌, Bool, true, false, List, [], ◌∷◌, ◌++◌, length, take, refl, sym}
use Rattle.std.proofs.{Common.{ap, ◌∙◌, arith, Some, None, Option}, lemmas.List.Splits.slice_split_first}
use Rattle.std.specs.{Prelude.{not, option_and_then, if◌then◌else◌}, List.{list_any, position_or_len, before_first}}
use Rattle.std.specs.List.{after_first, slice_split}
use Rattle.dir_values.specs.{declared.port_range.PortRange.PortRange, Lending.from_port, Ports.{is_comma, range_of}}

-- ---- the first part of a text, and the others

-- where a byte stands in a text, its first place lies within
found : (p : ℕ → Bool) (text : List ℕ) → list_any p text ≡ true → position_or_len p text < length text
found p [] has = absurd cc
found p (byte ∷ text) has =
    let by : (b : Bool) → p byte ≡ b → (if not b then 1 + position_or_len p text else 0) < length (byte ∷ text) =
    λ b. elim b as (λ b. p byte ≡ b → (if not b then 1 + position_or_len p text else 0) < length (byte ∷ text)) [
      | true ↦ λ is. omega arith
      | false ↦ λ is.
          let rest : list_any p text ≡ true = rw is at has in
          let later = found p text rest in
          omega arith
    ] in
    by (p byte) refl

-- where it does not, the text is its only part
one_part : (p : ℕ → Bool) (text : List ℕ) → list_any p text ≡ false → slice_split p text ≡ text ∷ []
one_part p [] lacks = refl
one_part p (byte ∷ text) lacks =
    let by : (b : Bool) → p byte ≡ b → slice_split p (byte ∷ text) ≡ (byte ∷ text) ∷ [] =
    λ b. elim b as (λ b. p byte ≡ b → slice_split p (byte ∷ text) ≡ (byte ∷ text) ∷ []) [
      | true ↦ λ is. let bad : true ≡ false = rw is at lacks in absurd cc
      | false ↦ λ is.
          let rest : list_any p text ≡ false = rw is at lacks in
          let later : slice_split p text ≡ text ∷ [] = one_part p text rest in
          rw (is, later) refl
    ] in
    by (p byte) refl

-- and all of it stands before it
all_before : (p : ℕ → Bool) (text : List ℕ) → list_any p text ≡ false → before_first p text ≡ text
all_before p [] lacks = refl
all_before p (byte ∷ text) lacks =
    let by : (b : Bool) → p byte ≡ b
    → take (if not b then 1 + position_or_len p text else 0) (byte ∷ text) ≡ byte ∷ text =
    λ b. elim b as (λ b. p byte ≡ b
    → take (if not b then 1 + position_or_len p text else 0) (byte ∷ text) ≡ byte ∷ text) [
      | true ↦ λ is. let bad : true ≡ false = rw is at lacks in absurd cc
      | false ↦ λ is.
          let rest : list_any p text ≡ false = rw is at lacks in
          let one : 1 + position_or_len p text ≡ suc (position_or_len p text) = omega arith in
          ap (λ (n : ℕ). take n (byte ∷ text)) one ∙ ap (λ (l : List ℕ). byte ∷ l) (all_before p text rest)
    ] in
    by (p byte) refl

-- ---- ranges one after the other

-- the ranges that some texts spell, behind others, if they stand from a port on and are apart
abbrev pub ranges_after : ℕ → List PortRange → List (List ℕ) → Option (List PortRange)
ranges_after next before [] = Some before
ranges_after next before (text ∷ texts) =
    let more = λ (range : PortRange). ranges_after (range.high + 2) (before ++ range ∷ []) texts in
    option_and_then more (from_port next (range_of text))

-- what follows the first of them
abbrev pub more_after : List PortRange → List (List ℕ) → PortRange → Option (List PortRange)
more_after before texts range = ranges_after (range.high + 2) (before ++ range ∷ []) texts

-- a first part that spells a range, with more parts behind it
pub one_more_range_spelled : (next : ℕ) (before : List PortRange) (text : List ℕ) (range : PortRange)
    → list_any is_comma text ≡ true
    → from_port next (range_of (before_first is_comma text)) ≡ Some range
    → ranges_after next before (slice_split is_comma text)
    ≡ ranges_after (range.high + 2) (before ++ range ∷ []) (slice_split is_comma (after_first is_comma text))
one_more_range_spelled next before text range has spells =
    let rest = slice_split is_comma (after_first is_comma text) in
    let parts : slice_split is_comma text ≡ before_first is_comma text ∷ rest =
    slice_split_first is_comma text 0 (found is_comma text has) in
    ap (ranges_after next before) parts ∙ ap (option_and_then (more_after before rest)) spells

-- a first part that spells a range, and is the last
pub last_one : (next : ℕ) (before : List PortRange) (text : List ℕ) (range : PortRange)
    → list_any is_comma text ≡ false
    → from_port next (range_of (before_first is_comma text)) ≡ Some range
    → ranges_after next before (slice_split is_comma text) ≡ Some (before ++ range ∷ [])
last_one next before text range lacks spells =
    let whole : from_port next (range_of text) ≡ Some range =
    ap (λ (l : List ℕ). from_port next (range_of l)) (sym (all_before is_comma text lacks)) ∙ spells in
    ap (ranges_after next before) (one_part is_comma text lacks) ∙ ap (option_and_then (more_after before [])) whole

-- a first part that spells none
pub no_more : (next : ℕ) (before : List PortRange) (text : List ℕ)
    → from_port next (range_of (before_first is_comma text)) ≡ None
    → ranges_after next before (slice_split is_comma text) ≡ None
no_more next before text spells =
    let by : (b : Bool) → list_any is_comma text ≡ b → ranges_after next before (slice_split is_comma text) ≡ None =
    λ b. elim b as (λ b. list_any is_comma text ≡ b → ranges_after next before (slice_split is_comma text) ≡ None) [
      | true ↦ λ has.
          let rest = slice_split is_comma (after_first is_comma text) in
          ap (ranges_after next before) (slice_split_first is_comma text 0 (found is_comma text has))
          ∙ ap (option_and_then (more_after before rest)) spells
      | false ↦ λ lacks.
          let whole = ap (λ (l : List ℕ). from_port next (range_of l)) (sym (all_before is_comma text lacks)) in
          ap (ranges_after next before) (one_part is_comma text lacks)
          ∙ ap (option_and_then (more_after before [])) (whole ∙ spells)
    ] in
    by (list_any is_comma text) refl
