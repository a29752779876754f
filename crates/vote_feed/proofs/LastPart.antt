-- A vote ends with the last item of its footer, which has an object.
use Rattle.std.proofs.Common.{◌≡◌, ℕ, true, List, [], ◌∷◌, ◌++◌, Option, sym, ap, ◌∙◌, append_assoc, append-nil}
use Rattle.std.specs.Prelude.{is_some, replicate}
use Rattle.item_terms.specs.{Items.Item, declared.fault.DocFault.DocFault}
use Rattle.frame_terms.specs.{Keywords.same, declared.document.Taken.Taken}
use Rattle.frame_terms.specs.declared.keyword.Keyword.TheVariants as the
use Rattle.frame_values.specs.declared.values.Value.{Value}
use Rattle.document_laws.specs.{Order.{AreInOrder, Part, items_of}, Passing.EndsWith, Documents.{AreParts, EndsAt}}
use Rattle.document_laws.specs.{Documents.EndsSo, Parts.{HasLast, IsPart}}
use Rattle.vote_frame.specs.{Tables.vote_tables, declared.{across.Across.Across, frame.VoteSection.VoteSection}}
use Rattle.vote_frame.specs.declared.frame.VoteValue.{VoteValue}
use Rattle.vote_frame.specs.declared.frame.VoteSection.TheVariants as section
use Rattle.vote_parts.proofs.VoteEnds.{vote_ends}

abbrev pub VotePart : Type 0
VotePart = Part VoteSection (Value VoteValue)

abbrev pub name_of : VotePart → VoteSection
name_of part_ = part_.whole.section

-- ---- the last section is a footer

abbrev order : List VoteSection
order = section.Preamble ∷ section.Authority ∷ section.Entry ∷ section.Footer ∷ []

-- the sections end with a footer
pub record EndsInFooter (standing : List VoteSection) : Type 0 where
  pub front : List VoteSection
  pub parts : standing ≡ front ++ section.Footer ∷ []

pub footer_last : (standing : List VoteSection) → AreInOrder vote_tables order standing → EndsInFooter standing
footer_last standing are =
    let one = are.4 in
    let two = one.4 in
    let three = two.4 in
    let a = replicate are.0 section.Preamble in
    let b = replicate one.0 section.Authority in
    let c = replicate two.0 section.Entry in
    let last : two.1 ≡ section.Footer ∷ [] =
    three.2 ∙ ap (λ (k : ℕ). replicate k section.Footer ++ three.1) three.3
    ∙ ap (λ (l : List VoteSection). section.Footer ∷ l) three.4 in
    record {
      front = a ++ (b ++ c);
      parts =
          are.2 ∙ ap (λ (l : List VoteSection). a ++ l)
          (one.2 ∙ ap (λ (l : List VoteSection). b ++ l) (two.2 ∙ ap (λ (l : List VoteSection). c ++ l) last)
          ∙ sym (append_assoc b c (section.Footer ∷ [])))
          ∙ sym (append_assoc a (b ++ c) (section.Footer ∷ []));
    }

-- ---- the last part

module _ (length_ : ℕ) (fault : Option DocFault) (left : List Item) (place : ℕ) where
  -- where the last part ends the document does
  abbrev pub EndsThere : VotePart → Type 0
  EndsThere part_ =
      EndsAt vote_tables length_ fault part_.whole.section ((vote_tables.shape part_.whole.section).last)
      part_.items left
      place

  abbrev pub AllEnd : List VotePart → Type 0
  AllEnd parts = EndsSo vote_tables length_ fault parts left place

  pub at_last : (before : List VotePart) (last : VotePart) → AllEnd (before ++ last ∷ []) → EndsThere last
  at_last [] last ends = ends
  at_last (a ∷ []) last ends = ends
  at_last (a ∷ b ∷ before) last ends = at_last (b ∷ before) last ends

  pub of_last : (before : List VotePart) (last : VotePart) → EndsThere last → AllEnd (before ++ last ∷ [])
  of_last [] last ends = ends
  of_last (a ∷ []) last ends = ends
  of_last (a ∷ b ∷ before) last ends = of_last (b ∷ before) last ends

  pub ends_with : (name : VoteSection) (items : List Item) → name ≡ section.Footer
      → EndsAt vote_tables length_ fault name ((vote_tables.shape name).last) items left place → EndsWith items place
  ends_with section.Footer items is ends = ends
  ends_with section.Preamble items is ends = absurd (cc is)
  ends_with section.Authority items is ends = absurd (cc is)
  ends_with section.Certificate items is ends = absurd (cc is)
  ends_with section.Entry items is ends = absurd (cc is)

  pub ends_at : (name : VoteSection) (items : List Item) → name ≡ section.Footer → EndsWith items place
      → EndsAt vote_tables length_ fault name ((vote_tables.shape name).last) items left place
  ends_at section.Footer items is ends = ends
  ends_at section.Preamble items is ends = absurd (cc is)
  ends_at section.Authority items is ends = absurd (cc is)
  ends_at section.Certificate items is ends = absurd (cc is)
  ends_at section.Entry items is ends = absurd (cc is)

-- what is remembered before the last part
pub record HasPart (last : VotePart) : Type 0 where
  pub remembered : Across
  pub next : Across
  pub is : IsPart vote_tables remembered last next

pub last_part : (remembered : Across) (before : List VotePart) (last : VotePart)
    → AreParts vote_tables remembered (before ++ last ∷ []) → HasPart last
last_part remembered [] last are = record { remembered = remembered; next = are.0; is = are.1 }
last_part remembered (a ∷ before) last are = last_part are.0 before last are.2

-- ---- its last item

-- these are one item, with an object
pub record IsSigned (items : List Item) : Type 0 where
  pub item : Item
  pub alone : items ≡ item ∷ []
  pub object : is_some item.object ≡ true

pub is_signed : (name : VoteSection) → name ≡ section.Footer → (remembered next : Across) (items : List Item)
    (taken : List (Taken (Value VoteValue)))
    → HasLast vote_tables name ((vote_tables.shape name).last) remembered items taken next → IsSigned items
is_signed section.Footer is remembered next items taken has =
    let said = has.4.said in
    record {
      item = has.0;
      alone = has.2;
      object = vote_ends.objects section.Footer said.keyword said.row said.has_row
          (ap (λ (o : Taken (Value VoteValue)). same the.DirectorySignature o.keyword) (sym said.stands) ∙ has.5)
          remembered has.0 said.value said.says;
    }
is_signed section.Preamble is remembered next items taken has = absurd (cc is)
is_signed section.Authority is remembered next items taken has = absurd (cc is)
is_signed section.Certificate is remembered next items taken has = absurd (cc is)
is_signed section.Entry is remembered next items taken has = absurd (cc is)

-- the items of parts, the last of them behind the others
pub items_last : (before : List VotePart) (last : VotePart)
    → items_of (before ++ last ∷ []) ≡ items_of before ++ last.items
items_last [] last = append-nil last.items
items_last (a ∷ before) last =
    ap (λ (l : List Item). a.items ++ l) (items_last before last)
    ∙ sym (append_assoc a.items (items_of before) last.items)
