-- The text of a descriptor alone: its lines, its items and the document that they are.
use Rattle.std.proofs.Common.{◌≡◌, ℕ, ◌+◌, ◌≤◌, List, [], ◌∷◌, ◌++◌, length, take, Option, Some, None, Ok, refl, sym}
use Rattle.std.{proofs.{Common.{ap, subst, ◌∙◌, arith}, lemmas.List.length-take-le}, specs.Prelude.{map, option_map}}
use Rattle.item_terms.specs.{Items.{Contents, Item, Object, items_of, nothing}, Lines.{Line, lines}}
use Rattle.frame_terms.specs.Documents.{document_of}
use Rattle.grammar_laws.{specs.Moved.{Reads, moved_item, moved_object, sizes}, proofs.LastLines.cut_lines}
use Rattle.grammar_laws.proofs.{LinesTogether.{AllEnded, sizes_all}, MovedLines.reads_moved, OwnLines.{hold, lines_cut}}
use Rattle.grammar_laws.proofs.{OwnPart.{own_part_same, within_text}, SoundLines.{ends_all, within_all}}
use Rattle.descriptor_frame.specs.Tables.{descriptor_tables}
use Rattle.descriptor_doc.specs.Reading.{max_descriptor}
use Rattle.descriptor_parts.proofs.DescriptorDocument.{AreItems, DescriptorTaken, are_items, of_section}
use Rattle.descriptor_parts.proofs.LastItem.{descriptors_end, last_object}

-- ---- items that are moved by nothing

stays : (n : ℕ) → n + 0 ≡ n
stays n = omega arith

object_stays : (object : Option Object) → option_map (moved_object 0) object ≡ object
object_stays None = refl
object_stays (Some object) = λ i. Some (record { words = object.words; start = stays object.start i; text = object.text })

item_stays : (item : Item) → moved_item 0 item ≡ item
item_stays item =
    λ i. record {
      keyword = item.keyword;
      separator = item.separator;
      arguments = item.arguments;
      start = stays item.start i;
      line_end = stays item.line_end i;
      object = object_stays item.object i;
      place = stays item.place i;
      after = stays item.after i;
    }

items_stay : (items : List Item) → map (moved_item 0) items ≡ items
items_stay [] = refl
items_stay (item ∷ items) = λ i. item_stays item i ∷ items_stay items i

-- ---- the items of a text, under a greater limit

-- The text behind the blank lines, up to where a descriptor ends, is read of its own as that descriptor, whole.
pub record HasOwnText (limit : ℕ) (text : List ℕ) (taken : List DescriptorTaken) : Type 0 where
  pub short : length text ≤ limit
  pub ended : AllEnded (lines text)
  pub read : document_of descriptor_tables (length text) (items_of max_descriptor text) ≡ Ok (of_section taken (length text))
  pub items : AreItems (items_of max_descriptor text).items taken (length text)
  pub sound : (items_of max_descriptor text).fault ≡ None

module _ (limit : ℕ) (small : limit ≤ max_descriptor) (rest : List ℕ) (taken : List DescriptorTaken) (end : ℕ)
    (read : document_of descriptor_tables (length rest) (items_of limit rest) ≡ Ok (of_section taken end)) where
  abbrev text : List ℕ
  text = take end rest

  are : AreItems (items_of limit rest).items taken end
  are = are_items (length rest) limit rest taken end read

  abbrev own_items : List Item
  own_items = are.first_item ∷ (are.items_between ++ are.last_item ∷ [])

  pub ends_within : end ≤ length rest
  ends_within = within_text descriptor_tables descriptors_end limit rest (of_section taken end) read

  -- its lines have no fault
  reads : Reads (0 + limit) 0 nothing (lines text) own_items nothing
  reads =
      let cut =
      cut_lines (0 + limit) 0 nothing (lines rest) tt (are.first_item ∷ are.items_between) are.last_item are.left are.come
      (last_object (items_of limit rest).items taken end are) in
      let used : end ≡ sizes cut.first = are.used_is ∙ cut.ends ∙ from_zero (sizes cut.first) in
      let ended = ends_all (0 + limit) 0 nothing cut.first own_items nothing cut.reads in
      let there : lines text ≡ cut.first =
      ap (λ (n : ℕ). lines (take n rest)) used ∙ lines_cut rest cut.first cut.more ended cut.parts in
      subst (λ (l : List Line). Reads (0 + limit) 0 nothing l own_items nothing) (sym there) cut.reads
    where
      from_zero : (n : ℕ) → 0 + n ≡ n
      from_zero n = omega arith

  fits : sizes (lines text) ≤ limit
  fits =
      let size = within_all (0 + limit) 0 nothing (lines text) own_items nothing reads (omega arith) in
      omega (arith, size)

  -- they are the same items, whatever is left of the limit
  same_items : items_of max_descriptor text ≡ items_of limit text
  same_items =
      let enough : 0 + 0 + sizes (lines text) ≤ 65536 = omega (arith, fits, small) in
      let moved_ =
      reads_moved (0 + limit) 65536 0 0 nothing (lines text) own_items nothing reads enough in
      let here : items_of max_descriptor text ≡ record { items = map (moved_item 0) own_items; fault = None } =
      hold 65536 0 (lines text) (map (moved_item 0) own_items) moved_ in
      here ∙ ap (λ (l : List Item). record { items = l; fault = None }) (items_stay own_items)
      ∙ sym (hold (0 + limit) 0 (lines text) own_items reads)

  pub own_text : HasOwnText limit text taken
  own_text =
      let size : end ≡ length text = sym (length-take-le end rest ends_within) in
      let own = own_part_same descriptor_tables descriptors_end limit rest (of_section taken end) read in
      let whole : document_of descriptor_tables (length text) (items_of max_descriptor text)
      ≡ Ok (of_section taken (length text)) =
      ap (λ (c : Contents). document_of descriptor_tables (length text) c) same_items ∙ own
      ∙ ap (λ (n : ℕ). Ok (of_section taken n)) size in
      record {
        short = omega (arith, fits, sizes_all text);
        ended = ends_all (0 + limit) 0 nothing (lines text) own_items nothing reads;
        read = whole;
        items = are_items (length text) max_descriptor text taken (length text) whole;
        sound = ap (λ (c : Contents). c.fault) (same_items ∙ hold (0 + limit) 0 (lines text) own_items reads);
      }
