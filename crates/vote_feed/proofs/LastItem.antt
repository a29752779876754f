-- Where a document ends with an item, it is that document up to the item's end, whatever follows.
use Rattle.std.proofs.Common.{◌≡◌, ◌∙◌, ℕ, ◌+◌, true, List, [], ◌∷◌, ◌++◌, take, append_assoc, Option, Some, Result, Ok}
use Rattle.std.{proofs.Common.{Err, sym, ap, subst, arith}, specs.Prelude.is_some}
use Rattle.item_terms.specs.{declared.fault.{DocFault.DocFault, DocReason.TheVariants.Unterminated}, Faults.at}
use Rattle.item_terms.specs.{Items.{Contents, Item, contents, contents_of, nothing}, Lines.{Line, lines}}
use Rattle.dirdoc_grammar.specs.Writing.{in_front}
use Rattle.frame_terms.specs.declared.document.Made.{Made, TheVariants.{Passes, Pushes, Opens, Enters, Leaves, Ends}}
use Rattle.frame_terms.specs.declared.document.{Made.TheVariants.Stops, Open.Open, Taken.Taken}
use Rattle.frame_terms.specs.{declared.fault.{FrameFault.FrameFault, ReadRefusal.ReadRefusal}, Decisions.made_by}
use Rattle.frame_terms.specs.Documents.{Document, after_made, after_noted, document_of, finish, go_on, note_of_made}
use Rattle.frame_terms.specs.{Documents.read_items, Refusals.of_doc, Tables.Tables}
use Rattle.grammar_laws.{specs.{Moved.sizes, Parts.EndWithObjects}, proofs.Endings.{HasObject, IsRight, made_right}}
use Rattle.grammar_laws.proofs.{LastLines.cut_lines, LinesTogether.{AllEnded, both_read, lines_both}}
use Rattle.grammar_laws.proofs.{OwnLines.lines_cut, SoundLines.ends_all}
use Rattle.vote_feed.specs.SoFar.{used_of}

abbrev place_or : Result ℕ ReadRefusal → ℕ
place_or (Ok place) = place
place_or (Err refusal) = 0

module _ {S K V X : Type 0} (tables : Tables S K V X) (end : EndWithObjects tables) where
  -- the item ends where the document does, and has an object
  abbrev pub IsLastItem : Item → ℕ → Type 0
  IsLastItem item used = (item.after ≡ used) × (is_some item.object ≡ true)

  module _ (open_ : Open S V) (item : Item) (used : ℕ) (why : ReadRefusal) where
    -- nothing more is read
    abbrev no_more : X → Open S V → Result (Document S V) ReadRefusal
    no_more remembered next = Err why

    by_made : (made : Made S V) (remembered : X) → HasObject item made
        → used_of (go_on made open_ item (λ next. no_more remembered next)) ≡ Ok used → IsLastItem item used
    by_made Passes remembered right e = absurd (cc e)
    by_made (Pushes one) remembered right e = absurd (cc e)
    by_made (Opens section one) remembered right e = absurd (cc e)
    by_made (Enters section one) remembered right e = absurd (cc e)
    by_made (Leaves one) remembered right e = absurd (cc e)
    by_made (Ends one) remembered right e = (ap place_or e, right)
    by_made Stops remembered right e = absurd right

    by_noted : (made : Made S V) (noted : Result X FrameFault) → HasObject item made
        → used_of (after_noted noted made open_ item no_more) ≡ Ok used → IsLastItem item used
    by_noted made (Err fault) right e = absurd (cc e)
    by_noted made (Ok remembered) right e = by_made made remembered right e

    by_read : (across : X) (r : Result (Made S V) ReadRefusal) → IsRight item r
        → used_of (after_made tables r across open_ item no_more) ≡ Ok used → IsLastItem item used
    by_read across (Err refusal) right e = absurd (cc e)
    by_read across (Ok made) right e = by_noted made (note_of_made tables made across) right e

  pub last_item : (across : X) (open_ : Open S V) (item : Item) (used : ℕ)
      → ((n : ℕ) (fault : Option DocFault) (rest : List Item)
      → used_of (read_items tables n across open_ fault (item ∷ rest)) ≡ Ok used)
      → IsLastItem item used
  unfolding read_items
  last_item across open_ item used ends =
      by_read open_ item used (of_doc (at 0 Unterminated)) across (made_by tables across open_ item)
      (made_right tables end across item open_) (ends 0 (Some (at 0 Unterminated)) [])

from_zero : (n : ℕ) → 0 + n ≡ n
from_zero n = omega arith

module _ {S K V X F : Type 0} (with_ : F → S → List (Taken V) → F) (none facts kept : F) (tables : Tables S K V X)
    (limit : ℕ) where
  -- what is kept of the items up to one with which the document ends, is kept of them whatever follows it
  pub whole_part : (bytes : List ℕ) (front back : List Item) (item : Item) (across : X) (open_ : Open S V) (used : ℕ)
      → (contents limit 0 nothing bytes).items ≡ front ++ item ∷ back
      → (item.after ≡ used) × (is_some item.object ≡ true)
      → ((n : ℕ) (fault : Option DocFault) (rest : List Item)
      → finish with_ none (document_of tables n (record { items = front ++ rest; fault = fault }))
      ≡ finish with_ facts (read_items tables n across open_ fault rest))
      → ((n : ℕ) (fault : Option DocFault) (rest : List Item)
      → finish with_ facts (read_items tables n across open_ fault (item ∷ rest)) ≡ Ok (kept, used))
      → (n : ℕ) (more : List ℕ)
      → finish with_ none (document_of tables n (contents limit 0 nothing (take used bytes ++ more))) ≡ Ok (kept, used)
  whole_part bytes front back item across open_ used parts last made ends n more =
      let cut = cut_lines limit 0 nothing (lines bytes) tt front item back parts last.1 in
      let size : used ≡ sizes cut.first = sym last.0 ∙ cut.ends ∙ from_zero (sizes cut.first) in
      let ended = ends_all limit 0 nothing cut.first (front ++ item ∷ []) nothing cut.reads in
      let there : lines (take used bytes) ≡ cut.first =
      ap (λ (k : ℕ). lines (take k bytes)) size ∙ lines_cut bytes cut.first cut.more ended cut.parts in
      let both : lines (take used bytes ++ more) ≡ cut.first ++ lines more =
      lines_both (take used bytes) more (subst AllEnded (sym there) ended)
      ∙ ap (λ (l : List Line). l ++ lines more) there in
      let rest : Contents = contents_of limit (0 + sizes cut.first) nothing (lines more) in
      let held : contents limit 0 nothing (take used bytes ++ more) ≡ in_front (front ++ item ∷ []) rest =
      ap (λ (l : List Line). contents_of limit 0 nothing l) both
      ∙ both_read limit 0 nothing cut.first (lines more) (front ++ item ∷ []) nothing cut.reads in
      ap (λ (c : Contents). finish with_ none (document_of tables n c)) held
      ∙ ap (λ (l : List Item). finish with_ none (document_of tables n (record { items = l; fault = rest.fault })))
      (append_assoc front (item ∷ []) rest.items)
      ∙ made n rest.fault (item ∷ rest.items)
      ∙ ends n rest.fault rest.items
