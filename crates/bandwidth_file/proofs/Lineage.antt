-- How far a file was read.
use Rattle.std.proofs.Common.{◌≡◌, ℕ, ◌+◌, ◌-◌, ◌≤◌, List, [], ◌∷◌, ◌++◌, length, take, drop, Option, Some, slice_get}
use Rattle.std.proofs.{Common.{sym, ap, ◌∙◌, subst, arith, append_assoc, append-nil}, lemmas.List.drop-drop}
use Rattle.std.{proofs.{lemmas.List.length-drop, Math.ListN.drop_of_length-le}, specs.Option.option_or}
use Rattle.item_terms.specs.Lines.{Line, lines, size}
use Rattle.dirdoc_grammar.proofs.FirstLine.{whole_rest}
use Rattle.bandwidth_file.specs.declared.{reading.Reading.Reading, refusal.BandFault.BandFault}
use Rattle.bandwidth_file.specs.{declared.refusal.BandRefusal.{BandRefusal, TheVariants.{Fault, Memory}}, Lines.at}
use Rattle.bandwidth_file.specs.{Lines.place_of, Files.{fault_of, faults_of, first_fault, end_fault}, Lending.Holds}
use Rattle.bandwidth_file.{specs.Refusals.RefusedAs, proofs.{Gathering.gathered_first, Sections.place_grows}}

-- The lines before a place were read, and this is kept of them.
pub record IsReadTo (bytes : List ℕ) (place : ℕ) (reading : Reading) : Type 0 where
  pub before : List Line
  pub split : lines bytes ≡ before ++ lines (drop place bytes)
  pub there : place ≡ place_of before
  pub inside : place ≤ length bytes
  pub holds : Holds before reading

-- the lines are those before, that line and those behind it
pub split_at : (bytes : List ℕ) (place : ℕ) (line : Line) (before : List Line) → lines bytes ≡ before ++ lines (drop place bytes)
    → lines (take (length bytes - place) (drop place bytes)) ≡ line ∷ lines (drop (size line) (take (length bytes - place) (drop place bytes)))
    → lines bytes ≡ before ++ line ∷ lines (drop (place + size line) bytes)
split_at bytes place line before split next =
    let same = whole_rest place bytes in
    let next' : lines (drop place bytes) ≡ line ∷ lines (drop (size line) (drop place bytes)) =
    subst (λ (r : List ℕ). lines r ≡ line ∷ lines (drop (size line) r)) same next in
    let after : drop (size line) (drop place bytes) ≡ drop (place + size line) bytes =
    drop-drop (size line) place bytes ∙ ap (λ (n : ℕ). drop n bytes) (omega arith) in
    split ∙ ap (λ (l : List Line). before ++ l) next'
    ∙ ap (λ (r : List ℕ). before ++ line ∷ lines r) after

-- a line ends inside the bytes
pub ends_inside : (bytes : List ℕ) (place size : ℕ) → place ≤ length bytes → size ≤ length (take (length bytes - place) (drop place bytes)) → place + size ≤ length bytes
ends_inside bytes place size inside within = omega (arith, inside, within, ap (λ (l : List ℕ). length l) (whole_rest place bytes), length-drop place bytes)

-- one more line was read
pub read_one : (bytes : List ℕ) (place next : ℕ) (line : Line) (old new : Reading) (so_far : IsReadTo bytes place old)
    → lines (take (length bytes - place) (drop place bytes)) ≡ line ∷ lines (drop (size line) (take (length bytes - place) (drop place bytes)))
    → next ≡ place + size line → next ≤ length bytes → Holds (so_far.before ++ line ∷ []) new → IsReadTo bytes next new
read_one bytes place next line old new so_far is next_is inside holds =
    let whole = split_at bytes place line so_far.before so_far.split is in
    record {
      before = so_far.before ++ line ∷ [];
      split = whole ∙ sym (append_assoc so_far.before (line ∷ []) (lines (drop (place + size line) bytes)))
          ∙ ap (λ (n : ℕ). (so_far.before ++ line ∷ []) ++ lines (drop n bytes)) (sym next_is);
      there = next_is ∙ ap (λ (n : ℕ). n + size line) so_far.there ∙ sym (place_grows so_far.before line);
      inside = inside;
      holds = holds;
    }

-- what is wrong with that line is the first fault
pub refused_there : (bytes : List ℕ) (place : ℕ) (line : Line) (old : Reading) (so_far : IsReadTo bytes place old) (refusal : BandRefusal)
    → lines (take (length bytes - place) (drop place bytes)) ≡ line ∷ lines (drop (size line) (take (length bytes - place) (drop place bytes)))
    → RefusedAs (fault_of so_far.before line) refusal → RefusedAs (first_fault (lines bytes)) refusal
refused_there bytes place line old so_far (Fault there why) is fault =
    let whole = split_at bytes place line so_far.before so_far.split is in
    let first : slice_get (faults_of (lines bytes)) 0 ≡ Some (at there why) = ap (λ (l : List Line). slice_get (faults_of l) 0) whole
    ∙ gathered_first fault_of so_far.before line (lines (drop (place + size line) bytes)) (at there why) so_far.holds.sound fault in
    ap (λ (o : Option BandFault). option_or o (end_fault (lines bytes))) first
refused_there bytes place line old so_far Memory is fault = tt
