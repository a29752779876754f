-- The document that a descriptor is read of: one section, whose items are those of the input.
use Rattle.std.proofs.Common.{◌≡◌, ℕ, ◌+◌, ◌-◌, List, [], ◌∷◌, length, take, drop, Result, Ok, Err, refl, sym, ap}
use Rattle.std.proofs.Common.{subst, ◌∙◌}
use Rattle.item_terms.specs.Items.{Item, items_of}
use Rattle.frame_terms.specs.{Documents.{Document, document_of, finish, group}, declared.document.Group.Group}
use Rattle.frame_terms.specs.declared.{document.Taken.Taken, fault.ReadRefusal.ReadRefusal, keyword.Keyword.Keyword}
use Rattle.frame_terms.specs.declared.keyword.Keyword.TheVariants as the
use Rattle.frame_values.specs.declared.values.Value.{Value}
use Rattle.descriptor_frame.specs.{Tables.descriptor_tables, declared.said.DescriptorValue.DescriptorValue}
use Rattle.descriptor_doc.specs.{Descriptors.descriptor_in, Heads.{kept_of, kept_with, none_kept}}
use Rattle.descriptor_doc.specs.Reading.{descriptor_of, front_of, max_descriptor, with_descriptor}
use Rattle.descriptor_doc.specs.declared.descriptor.Descriptor.{Descriptor}
use Rattle.descriptor_parts.proofs.OneSection.{IsOneSection, one_section_is_all}

abbrev pub Said : Type 0
Said = Value DescriptorValue

abbrev pub DescriptorTaken : Type 0
DescriptorTaken = Taken Said

abbrev pub DescriptorDocument : Type 0
DescriptorDocument = Document (Unit {0}) Said

-- the document of one section with these items
abbrev pub of_section : List DescriptorTaken → ℕ → DescriptorDocument
of_section taken used = record { groups = group tt taken ∷ []; used = used }

-- the last item of the section
abbrev pub last_keyword : Keyword
last_keyword = the.RouterSignature

-- the items are those of a descriptor's section
abbrev pub AreItems : List Item → List DescriptorTaken → ℕ → Type 0
AreItems items taken used = IsOneSection items taken used

-- what its own bytes say, behind so many others, of which this document was read
abbrev pub says_of : ℕ → List ℕ → Result DescriptorDocument ReadRefusal → Result (Descriptor × ℕ) ReadRefusal
says_of n bytes read = with_descriptor n bytes (finish kept_with none_kept read)

-- the bytes that a descriptor is read of: those behind the blank lines
abbrev pub rest_of : List ℕ → List ℕ
rest_of bytes = drop (front_of bytes) bytes

-- how many of them it may have
abbrev pub limit_of : List ℕ → ℕ
limit_of bytes = max_descriptor - front_of bytes

-- The document that the descriptor is read of, and which its own part of those bytes says.
pub record IsReadBehind (bytes : List ℕ) (d : Descriptor) (used : ℕ) : Type 0 where
  pub taken : List DescriptorTaken
  pub end : ℕ
  pub read : document_of descriptor_tables (length (rest_of bytes)) (items_of (limit_of bytes) (rest_of bytes))
      ≡ Ok (of_section taken end)
  pub items : AreItems (items_of (limit_of bytes) (rest_of bytes)).items taken end
  pub says : descriptor_in (take end (rest_of bytes)) (kept_of taken) ≡ d
  pub ends : front_of bytes + end ≡ used

-- The document of a text that a descriptor is read of, whole.
pub record IsReadOf (bytes : List ℕ) (d : Descriptor) (used : ℕ) : Type 0 where
  pub taken : List DescriptorTaken
  pub read : document_of descriptor_tables (length bytes) (items_of max_descriptor bytes) ≡ Ok (of_section taken used)
  pub items : AreItems (items_of max_descriptor bytes).items taken used
  pub says : descriptor_in bytes (kept_of taken) ≡ d

abbrev taken_in : List (Group (Unit {0}) Said) → List DescriptorTaken
taken_in [] = []
taken_in (g ∷ groups) = g.taken

-- a document of one section has its items
pub are_items : (length_ limit : ℕ) (bytes : List ℕ) (taken : List DescriptorTaken) (used : ℕ)
    → document_of descriptor_tables length_ (items_of limit bytes) ≡ Ok (of_section taken used)
    → AreItems (items_of limit bytes).items taken used
are_items length_ limit bytes taken used is =
    let items = (items_of limit bytes).items in
    let all = one_section_is_all length_ (items_of limit bytes) (of_section taken used) is in
    let same_taken : all.0 ≡ taken = sym (ap (λ (d : DescriptorDocument). taken_in d.groups) all.2) in
    let same_used : all.1 ≡ used = sym (ap (λ (d : DescriptorDocument). d.used) all.2) in
    subst (λ (n : ℕ). AreItems items taken n) same_used
    (subst (λ (t : List DescriptorTaken). AreItems items t all.1) same_taken all.3)

pub is_read : (bytes : List ℕ) (d : Descriptor) (used : ℕ) → descriptor_of bytes ≡ Ok (d, used)
    → IsReadBehind bytes d used
is_read bytes d used is =
    by (document_of descriptor_tables (length (rest_of bytes)) (items_of (limit_of bytes) (rest_of bytes))) refl is
  where
    descriptor_or : Result (Descriptor × ℕ) ReadRefusal → Descriptor
    descriptor_or (Ok (found, n)) = found
    descriptor_or (Err r) = d

    used_or : Result (Descriptor × ℕ) ReadRefusal → ℕ
    used_or (Ok (found, n)) = n
    used_or (Err r) = 0

    read_as : DescriptorDocument → Result DescriptorDocument ReadRefusal
    read_as o = Ok o

    by : (r : Result DescriptorDocument ReadRefusal)
        → document_of descriptor_tables (length (rest_of bytes)) (items_of (limit_of bytes) (rest_of bytes)) ≡ r
        → says_of (front_of bytes) (rest_of bytes) r ≡ Ok (d, used) → IsReadBehind bytes d used
    by (Err refusal) e is = absurd (cc is)
    by (Ok document) e is =
        let contents = items_of (limit_of bytes) (rest_of bytes) in
        let all = one_section_is_all (length (rest_of bytes)) contents document e in
        let found : says_of (front_of bytes) (rest_of bytes) (Ok (of_section all.0 all.1)) ≡ Ok (d, used) =
        sym (ap (λ (o : DescriptorDocument). says_of (front_of bytes) (rest_of bytes) (Ok o)) all.2) ∙ is in
        record {
          taken = all.0;
          end = all.1;
          read = e ∙ ap (λ (o : DescriptorDocument). read_as o) all.2;
          items = all.3;
          says = ap descriptor_or found;
          ends = ap used_or found;
        }
