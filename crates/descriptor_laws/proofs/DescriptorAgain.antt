-- A server descriptor that was written is read again.
use Rattle.std.proofs.Common.{◌≡◌, ℕ, ◌+◌, Bool, true, false, List, [], ◌∷◌, ◌++◌, length, take, Some, Result, Ok, refl}
use Rattle.std.proofs.{Common.{ap, subst, ◌∙◌, sym, append-nil, arith}, lemmas.List.{take-append-le, take_all}}
use Rattle.std.specs.{Prelude.{◌&&◌, ◌==◌, map, unwrap_or, if◌then◌else◌}, List.list_all}
use Rattle.item_terms.specs.{Items.{Contents, contents, nothing}, Lines.{Line, lines, onto, size}, Words.begins_dash}
use Rattle.item_terms.specs.Words.{is_blank, is_blank_line}
use Rattle.blank_lines.specs.Blanks.{first_other}
use Rattle.grammar_laws.proofs.ItemsAgain.{items_again}
use Rattle.dirdoc_grammar.specs.Writing.{AreWritable, NewItem, all_written, in_front, is_open, items_text}
use Rattle.frame_terms.specs.{Documents.{Document, document_of, finish}, declared.fault.ReadRefusal.ReadRefusal}
use Rattle.frame_laws.proofs.{Entries.{after_one, item_of}, ReadRows.Stand, WrittenRows.{is_closed, stand_written}}
use Rattle.descriptor_frame.specs.Tables.{descriptor_tables}
use Rattle.descriptor_doc.specs.{Heads.{kept_with, none_kept}, Descriptors.descriptor_in, Reading.descriptor_behind}
use Rattle.descriptor_doc.specs.Reading.{front_of, max_descriptor, with_descriptor}
use Rattle.descriptor_doc.specs.declared.descriptor.Descriptor.{Descriptor}
use Rattle.descriptor_text.specs.Texts.{descriptor_items, descriptor_text}
use Rattle.descriptor_laws.specs.{Again.{DescriptorsAreReadAgain, as_written}, Ranges.IsInRange}
use Rattle.descriptor_laws.proofs.{DescriptorKept.descriptor_says, DescriptorRead.{all_of_it, document_read}}
use Rattle.descriptor_laws.proofs.{DescriptorRead.{last_place, others}, DescriptorRows.{Says, router_entry}}
use Rattle.descriptor_laws.proofs.{DescriptorRows.signature_entry, DescriptorSame.{descriptor_same, entries}}
use Rattle.descriptor_laws.proofs.DescriptorSays.{ends_at}

-- its last item has an object, so that no other may follow
closed : (d : Descriptor) (rest : List ℕ) → (is_open (map item_of (entries d)) && begins_dash rest) ≡ false
closed d rest = is_closed (router_entry d.router ∷ others d) (signature_entry d) rest refl

-- its items stand in its text
stand : (d : Descriptor) (rest : List ℕ) → IsInRange d
    → Stand max_descriptor (descriptor_text d ++ rest) 0 (entries d)
stand d rest are =
    let same_items = descriptor_same d in
    let may = subst (λ (l : List NewItem). AreWritable max_descriptor 0 l) (sym same_items) are.items in
    subst (λ (l : List NewItem). Stand max_descriptor (items_text l ++ rest) 0 (entries d)) same_items
    (stand_written max_descriptor (entries d) rest may (closed d rest))

-- ---- no blank line stands before it

-- what begins with a byte that is no blank, and ends no line, has none before it
no_blanks : (b : ℕ) (more : List ℕ) → is_blank b ≡ false → (b == 10) ≡ false → front_of (b ∷ more) ≡ 0
unfolding first_other
no_blanks b more dark goes_on =
    ap (λ (t : Bool). unwrap_or (first_other 0 (if t then new_line ∷ ls else onto b ls)) 0) goes_on ∙ by ls
  where
    new_line : Line
    new_line = record { text = []; ended = true }

    ls : List Line
    ls = lines (take 65535 more)

    dark_line : (text : List ℕ) (ended : Bool) → (is_blank_line (b ∷ text) && ended) ≡ false
    dark_line text ended = ap (λ (t : Bool). (t && list_all is_blank text) && ended) dark

    by : (all : List Line) → unwrap_or (first_other 0 (onto b all)) 0 ≡ 0
    by [] = ap (λ (t : Bool). unwrap_or (if t then first_other (0 + 1) [] else Some 0) 0) (dark_line [] false)
    by (line ∷ rest) =
        ap (λ (t : Bool). unwrap_or
        (if t then first_other (0 + size (record { text = b ∷ line.text; ended = line.ended })) rest else Some 0) 0)
        (dark_line line.text line.ended)

-- the text begins with a byte that is no blank, and ends no line
abbrev BeginsDark : List ℕ → Type 0
BeginsDark [] = ⊥
BeginsDark (b ∷ more) = (is_blank b ≡ false) × ((b == 10) ≡ false)

none_before : (text : List ℕ) → BeginsDark text → front_of text ≡ 0
none_before [] dark = absurd dark
none_before (b ∷ more) dark = no_blanks b more dark.0 dark.1

-- it begins with its keyword
no_front : (d : Descriptor) (rest : List ℕ) → front_of (descriptor_text d ++ rest) ≡ 0
no_front d rest = none_before (descriptor_text d ++ rest) (refl, refl)

-- ---- it is read again

abbrev read_as : List ℕ → Result (Document (Unit {0}) Says) ReadRefusal → Result (Descriptor × ℕ) ReadRefusal
read_as bytes document = with_descriptor 0 bytes (finish kept_with none_kept document)

abbrev answer : Descriptor → ℕ → Result (Descriptor × ℕ) ReadRefusal
answer d used = Ok (d, used)

-- the text alone
whole : (text rest : List ℕ) → take (length text) (text ++ rest) ≡ text
whole text rest = take-append-le (length text) text rest (omega arith) ∙ take_all (length text) text (omega arith)

pub descriptors_again : DescriptorsAreReadAgain
descriptors_again d rest are =
    let bytes = descriptor_text d ++ rest in
    let after = contents max_descriptor (0 + length (descriptor_text d)) nothing rest in
    let same_items = descriptor_same d in
    let there = stand d rest are in
    let closed_too = subst (λ (l : List NewItem). (is_open l && begins_dash rest) ≡ false) same_items (closed d rest) in
    let end = after_one (last_place d) (signature_entry d) in
    let size : end ≡ length (descriptor_text d) = ends_at d are.says rest there in
    let own : take end bytes ≡ descriptor_text d ++ [] =
    ap (λ (n : ℕ). take n bytes) size ∙ whole (descriptor_text d) rest ∙ sym (append-nil (descriptor_text d)) in
    let says : descriptor_in (take end bytes) (kept_with none_kept tt (all_of_it d are.says)) ≡ as_written d =
    ap (λ (l : List ℕ). descriptor_in l (kept_with none_kept tt (all_of_it d are.says))) own
    ∙ descriptor_says d are.says [] (stand d [] are) in
    let used : 0 + end ≡ length (descriptor_text d) = omega (arith, size) in
    ap (λ (n : ℕ). descriptor_behind n bytes) (no_front d rest)
    ∙ ap (λ (c : Contents). read_as bytes (document_of descriptor_tables (length bytes) c))
    (items_again max_descriptor 0 (descriptor_items d) rest are.items closed_too)
    ∙ ap (λ (l : List NewItem). read_as bytes
    (document_of descriptor_tables (length bytes) (in_front (all_written 0 l) after))) (sym same_items)
    ∙ ap (λ (r : Result (Document (Unit {0}) Says) ReadRefusal). read_as bytes r)
    (document_read d are.says (length bytes) after.fault after.items)
    ∙ (λ i. answer (says i) (used i))
