-- With '-' behind the bytes a document is refused as it is without it never.
use Rattle.std.proofs.Common.{◌≡◌, ℕ, ◌+◌, ◌≤◌, ◌⊎◌, false, List, [], ◌∷◌, ◌++◌, length, drop, Option, None, Result, Ok}
use Rattle.std.proofs.{Common.{Err, refl, sym, ap, subst, ◌∙◌, inl, inr, arith}, lemmas.Bool.false≢true}
use Rattle.std.proofs.lemmas.List.{append-nil, drop-append-le}
use Rattle.item_terms.specs.{declared.fault.{DocFault.DocFault, DocReason.TheVariants.Unterminated}, Faults.at}
use Rattle.item_terms.specs.Items.{Contents, Item, contents, Open as Begun, failed_contents, keyword_line, nothing}
use Rattle.item_terms.specs.Items.{object_lines}
use Rattle.dirdoc_grammar.specs.{declared.cursor.Cursor.Cursor, Cursors.{IsOver, fed_by}, Feeding.{Settles, first_of}}
use Rattle.dirdoc_grammar.{specs.Reading.from_place, proofs.Endings.{cut_now, more_of}}
use Rattle.dirdoc_grammar.proofs.FirstLine as first
use Rattle.frame_terms.specs.declared.{document.{Open.Open, Taken.Taken}, fault.FrameReason.FrameReason}
use Rattle.frame_terms.specs.declared.fault.{FrameReason.TheVariants.Doc, ReadRefusal.{ReadRefusal, TheVariants.Frame}}
use Rattle.frame_terms.specs.{declared.fault.ReadRefusal.TheVariants.Memory, Documents.{finish, read_items}}
use Rattle.frame_terms.specs.{Refusals.of_doc, Tables.Tables}
use Rattle.frame_reader.specs.Arriving.{Follows, whole_of}
use Rattle.document_laws.{specs.Known.{AllIsOpen, HasNoDoc}, proofs.Refusing.{IsClear, of_finish, of_nothing, of_one}}
use Rattle.document_laws.proofs.Settling.{Known, Waiting, known_or_waits}

-- what bytes that end there hold: at most an item, and the fault that they end too early at most
data EndsSo (n : ℕ) (held : Contents) : Type 0 where
  with_nothing : held ≡ record { items = []; fault = None } → EndsSo n held
  with_item : (item : Item) → held ≡ record { items = item ∷ []; fault = None } → EndsSo n held
  too_early : held ≡ failed_contents (at n Unterminated) → EndsSo n held

ending : (limit line : ℕ) (open_ : Begun) (bytes : List ℕ) → IsOver limit line open_ bytes
    → EndsSo (length bytes) (from_place limit line open_ bytes)
ending limit line nothing bytes (inl e) = with_nothing (first.ends limit line nothing bytes (omega (arith, e)))
ending limit line (keyword_line item) bytes (inl e) =
    with_item item (first.ends limit line (keyword_line item) bytes (omega (arith, e)))
ending limit line (object_lines item begin object) bytes (inl e) =
    too_early
    (first.ends limit line (object_lines item begin object) bytes (omega (arith, e))
    ∙ ap (λ (n : ℕ). failed_contents (at n Unterminated)) e)
ending limit line open_ bytes (inr cut) = too_early (cut_now limit line open_ bytes cut)

-- the fault of a line or an object for which a document is refused
abbrev doc_by : ℕ → FrameReason → DocFault
doc_by place (Doc reason) = at place reason
doc_by place _ = at place Unterminated

abbrev doc_in : {Y : Type 0} → Result Y ReadRefusal → DocFault
doc_in (Ok _) = at 0 Unterminated
doc_in (Err Memory) = at 0 Unterminated
doc_in (Err (Frame fault)) = doc_by fault.place fault.reason

module _ {S K V X F : Type 0} (tables : Tables S K V X) (sound : HasNoDoc tables)
    (with_ : F → S → List (Taken V) → F) where
  -- the document that these items and this fault are the rest of
  abbrev read : ℕ → X → Open S V → F → Contents → Result (F × ℕ) ReadRefusal
  read length across open_ facts held = finish with_ facts (read_items tables length across open_ held.fault held.items)

  faulty : (length : ℕ) (across : X) (open_ : Open S V) (facts : F) (fault : DocFault)
      → read length across open_ facts (failed_contents fault) ≡ Err (of_doc fault)
  unfolding read_items
  faulty length across open_ facts fault = refl

  clear_apart : (fault : DocFault) (answer : Result (F × ℕ) ReadRefusal) → IsClear answer
      → Err (of_doc fault) ≡ answer → ⊥
  clear_apart fault answer clear is =
      false≢true (sym (subst (λ (a : Result (F × ℕ) ReadRefusal). IsClear a) (sym is) clear))

  differ : (n shorter longer : ℕ) (across : X) (open_ : Open S V) (facts : F) (now : Contents) (fault : DocFault)
      (answer : Result (F × ℕ) ReadRefusal) → EndsSo n now → (fault ≡ at n Unterminated → ⊥)
      → read shorter across open_ facts now ≡ answer
      → read longer across open_ facts (failed_contents fault) ≡ answer → ⊥
  differ n shorter longer across open_ facts now fault answer (with_nothing is) later one two =
      clear_apart fault (read shorter across open_ facts (record { items = []; fault = None }))
      (of_finish with_ facts _ (of_nothing tables sound shorter across open_))
      (sym (faulty longer across open_ facts fault) ∙ two ∙ sym one ∙ ap (read shorter across open_ facts) is)
  differ n shorter longer across open_ facts now fault answer (with_item item is) later one two =
      clear_apart fault (read shorter across open_ facts (record { items = item ∷ []; fault = None }))
      (of_finish with_ facts _ (of_one tables sound shorter across open_ item))
      (sym (faulty longer across open_ facts fault) ∙ two ∙ sym one ∙ ap (read shorter across open_ facts) is)
  differ n shorter longer across open_ facts now fault answer (too_early is) later one two =
      let both : Err (of_doc fault) ≡ Err (of_doc (at n Unterminated)) =
      sym (faulty longer across open_ facts fault) ∙ two ∙ sym one ∙ ap (read shorter across open_ facts) is
      ∙ faulty shorter across open_ facts (at n Unterminated) in
      later (ap doc_in both)

  -- what is left of the bytes from the reader's place on
  at_cursor : (cursor : Cursor) (bytes more : List ℕ) → cursor.place ≤ length bytes
      → from_place cursor.limit cursor.place nothing (bytes ++ more)
      ≡ contents cursor.limit cursor.place nothing (drop cursor.place bytes ++ more)
  at_cursor cursor bytes more le =
      ap (λ (r : List ℕ). contents cursor.limit cursor.place nothing r) (drop-append-le cursor.place bytes more le)

  waiting_open : (none facts : F) (bytes : List ℕ) (cursor : Cursor) (across : X) (open_ : Open S V)
      → cursor.place ≤ length bytes
      → Follows with_ tables none bytes cursor across open_ facts → Waiting cursor.limit cursor.place nothing bytes
      → (answer : Result (F × ℕ) ReadRefusal)
      → ((more : List ℕ) → whole_of with_ tables none cursor.limit (length (bytes ++ more)) (bytes ++ more) ≡ answer)
      → ⊥
  waiting_open none facts bytes cursor across open_ le follows waits answer is =
      let one = more_of cursor.limit waits.line waits.open_ bytes waits.over in
      let at_ : (more : List ℕ)
      → read (length (bytes ++ more)) across open_ facts
      (from_place cursor.limit waits.line waits.open_ (bytes ++ more)) ≡ answer =
      λ more.
      ap (read (length (bytes ++ more)) across open_ facts) (sym (waits.same more) ∙ at_cursor cursor bytes more le)
      ∙ sym (follows (length (bytes ++ more)) more) ∙ is more in
      differ (length bytes) (length (bytes ++ [])) (length (bytes ++ 45 ∷ [])) across open_ facts
      (from_place cursor.limit waits.line waits.open_ (bytes ++ [])) one.fault answer
      (subst (λ (l : List ℕ). EndsSo (length bytes) (from_place cursor.limit waits.line waits.open_ l))
      (sym (append-nil bytes))
      (ending cursor.limit waits.line waits.open_ bytes waits.over))
      one.later (at_ []) (ap (read (length (bytes ++ 45 ∷ [])) across open_ facts) (sym one.is) ∙ at_ (45 ∷ []))

  settled_not : (cursor : Cursor) (bytes : List ℕ) → cursor.place ≤ length bytes
      → Known cursor.limit cursor.place nothing bytes
      → ((answer : Result (Option Item) DocFault) → Settles (fed_by cursor bytes false) answer → ⊥) → ⊥
  settled_not cursor bytes le known none =
      none known.answer (λ more may. ap first_of (sym (at_cursor cursor bytes more le)) ∙ known.settled more)

  open_by : (none facts : F) (bytes : List ℕ) (cursor : Cursor) (across : X) (open_ : Open S V)
      → cursor.place ≤ length bytes
      → Follows with_ tables none bytes cursor across open_ facts
      → ((answer : Result (Option Item) DocFault) → Settles (fed_by cursor bytes false) answer → ⊥)
      → Known cursor.limit cursor.place nothing bytes ⊎ Waiting cursor.limit cursor.place nothing bytes
      → (answer : Result (F × ℕ) ReadRefusal)
      → ((more : List ℕ) → whole_of with_ tables none cursor.limit (length (bytes ++ more)) (bytes ++ more) ≡ answer)
      → ⊥
  open_by none facts bytes cursor across open_ le follows unsettled (inl known) answer is =
      settled_not cursor bytes le known unsettled
  open_by none facts bytes cursor across open_ le follows unsettled (inr waits) answer is =
      waiting_open none facts bytes cursor across open_ le follows waits answer is

pub all_is_open : {S K V X : Type 0} (F : Type 0) (tables : Tables S K V X) → AllIsOpen F tables
all_is_open F tables sound with_ none facts bytes cursor across open_ at_ feeds answer is =
    let le : cursor.place ≤ length bytes = omega (arith, at_.taken, at_.order, at_.later, at_.within) in
    open_by tables sound with_ none facts bytes cursor across open_ le feeds.0 feeds.1
    (known_or_waits (length bytes) cursor.limit cursor.place nothing bytes le (omega arith)) answer is
