-- A descriptor is what its own text says.
use Rattle.std.proofs.Common.{◌≡◌, ℕ, ◌+◌, ◌-◌, ◌≤◌, ◌<◌, List, [], ◌∷◌, ◌++◌, length, take, Result, Ok, sym, ap, subst}
use Rattle.std.{proofs.{Common.{◌∙◌, arith}, lemmas.List.{length-take-le, take_all}}, specs.Prelude.slice_range}
use Rattle.item_terms.specs.Items.{Item, items_of}
use Rattle.dirdoc_grammar.{specs.InPlace.EachInPlace, proofs.Places.stand_in_place}
use Rattle.frame_terms.specs.{Documents.document_of, declared.fault.ReadRefusal.ReadRefusal}
use Rattle.frame_terms.specs.declared.keyword.Keyword.TheVariants as the
use Rattle.frame_values.specs.Values.{after_in, item_at, place_in}
use Rattle.descriptor_frame.specs.Tables.{descriptor_tables}
use Rattle.descriptor_doc.specs.{Descriptors.descriptor_in, Heads.kept_of, Reading.{descriptor_behind, descriptor_of}}
use Rattle.descriptor_doc.specs.{Reading.{front_of, max_descriptor}, declared.descriptor.Descriptor.Descriptor}
use Rattle.descriptor_doc.proofs.Fronts.{front_within}
use Rattle.descriptor_parts.{specs.Texts.{DescriptorsAreOfTheirText, IsOfText}, proofs.DescriptorDocument.AreItems}
use Rattle.descriptor_parts.proofs.DescriptorDocument.{DescriptorTaken, IsReadOf, is_read, limit_of, of_section}
use Rattle.descriptor_parts.proofs.{DescriptorDocument.{rest_of, says_of}, LastItem.{first_found, last_found}}
use Rattle.descriptor_parts.proofs.{OwnFront.{first_place, no_front}, OwnText.{ends_within, own_text}}

-- what is read of a text, whole, whose first item stands at its first byte, has that text
whole_text : (text : List ℕ) (taken : List DescriptorTaken)
    → (are : AreItems (items_of max_descriptor text).items taken (length text)) → are.first_item.place ≡ 0
    → (descriptor_in text (kept_of taken)).text ≡ text
whole_text text taken are first =
    let items = (items_of max_descriptor text).items in
    let begin : place_in (item_at taken the.Router) ≡ 0 =
    ap place_in (first_found items taken (length text) are)
    ∙ ap (λ (o : DescriptorTaken). o.place) are.opens.stands ∙ first in
    let end : after_in (item_at taken the.RouterSignature) ≡ length text =
    ap after_in (last_found items taken (length text) are)
    ∙ ap (λ (o : DescriptorTaken). o.after) are.ends.said.stands ∙ sym are.used_is in
    (λ i. slice_range text (begin i) (end i)) ∙ take_all (length text - 0) text (omega arith)

abbrev ok_of : Descriptor → ℕ → Result (Descriptor × ℕ) ReadRefusal
ok_of d used = Ok (d, used)

-- The descriptor is of its text, which is a part of the bytes, and no longer than a descriptor may be.
pub record IsOwn (bytes : List ℕ) (d : Descriptor) : Type 0 where
  pub of_text : IsOfText d
  pub short : length d.text ≤ max_descriptor
  pub read : IsReadOf d.text d (length d.text)
  pub end : ℕ
  pub part : take end (rest_of bytes) ≡ d.text

-- its own text alone
own : (text : List ℕ) (d : Descriptor) (taken : List DescriptorTaken)
    → document_of descriptor_tables (length text) (items_of max_descriptor text) ≡ Ok (of_section taken (length text))
    → descriptor_in text (kept_of taken) ≡ d → front_of text ≡ 0 → descriptor_of text ≡ Ok (d, length text)
own text d taken read says none =
    let whole : descriptor_in (take (length text) text) (kept_of taken) ≡ d =
    ap (λ (l : List ℕ). descriptor_in l (kept_of taken)) (take_all (length text) text (omega arith)) ∙ says in
    let size : 0 + length text ≡ length text = omega arith in
    ap (λ (n : ℕ). descriptor_behind n text) none ∙ ap (says_of 0 text) read ∙ (λ i. ok_of (whole i) (size i))

pub is_own : (bytes : List ℕ) (d : Descriptor) (used : ℕ) → descriptor_of bytes ≡ Ok (d, used) → IsOwn bytes d
is_own bytes d used is =
    let there = is_read bytes d used is in
    let within = (front_within bytes).1 in
    let rest = rest_of bytes in
    let limit = limit_of bytes in
    let small : limit ≤ max_descriptor = omega arith in
    let text = take there.end rest in
    let its = own_text limit small rest there.taken there.end there.read in
    let size = length-take-le there.end rest (ends_within limit small rest there.taken there.end there.read) in
    let fits : there.end ≤ limit = omega (arith, its.short, size) in
    let items = its.items.items_between ++ its.items.last_item ∷ its.items.left in
    let first =
    first_place bytes there.end its.items.first_item items within fits its.items.come its.sound its.ended in
    let short : length text ≤ max_descriptor = omega (arith, its.short, small) in
    let none = no_front text its.items.first_item items short its.items.come its.sound first in
    let text_is : text ≡ d.text =
    sym (whole_text text there.taken its.items first) ∙ ap (λ (o : Descriptor). o.text) there.says in
    let read : IsReadOf text d (length text) = record {
      taken = there.taken;
      read = its.read;
      items = its.items;
      says = there.says;
    } in
    record {
      of_text = subst (λ (l : List ℕ). descriptor_of l ≡ Ok (d, length l)) text_is
          (own text d there.taken its.read there.says none);
      short = subst (λ (l : List ℕ). length l ≤ max_descriptor) text_is short;
      read = subst (λ (l : List ℕ). IsReadOf l d (length l)) text_is read;
      end = there.end;
      part = text_is;
    }

-- A descriptor that is read is the one that its own text is read as.
pub of_text : DescriptorsAreOfTheirText
of_text bytes d used is = (is_own bytes d used is).of_text

-- A descriptor has a byte.
in_place_behind : (text : List ℕ) (before rest : List Item) → EachInPlace text (before ++ rest) → EachInPlace text rest
in_place_behind text [] rest each = each
in_place_behind text (item ∷ before) rest each = in_place_behind text before rest each.1

pub some_bytes : (bytes : List ℕ) (d : Descriptor) (used : ℕ) → descriptor_of bytes ≡ Ok (d, used) → 0 < used
some_bytes bytes d used is =
    let there = is_read bytes d used is in
    let are = there.items in
    let all =
    subst (λ (l : List Item). EachInPlace (rest_of bytes) l) are.come (stand_in_place 0 (limit_of bytes) (rest_of bytes)) in
    let last =
    in_place_behind (rest_of bytes) (are.first_item ∷ are.items_between) (are.last_item ∷ are.left) all in
    let some = last.0.in_order.some_bytes in
    let end = are.used_is in
    omega (arith, some, end, there.ends)
