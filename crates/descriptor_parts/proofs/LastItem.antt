-- The first and the last item of a descriptor's section.
use Rattle.std.proofs.Common.{◌≡◌, ℕ, Bool, true, false, List, [], ◌∷◌, ◌++◌, Option, Some, None, Ok, refl, sym, ap}
use Rattle.std.{proofs.Common.{◌∙◌, inl, inr}, specs.Prelude.{codes, is_some, if◌then◌else◌}}
use Rattle.item_terms.specs.Items.{Item, Object}
use Rattle.frame_terms.specs.{Keywords.same, Rows.row, Sections.row_of, declared.keyword.Keyword.Keyword}
use Rattle.frame_terms.specs.declared.row.{Count.TheVariants.One, Row.Row}
use Rattle.frame_terms.specs.declared.keyword.Keyword.TheVariants as the
use Rattle.frame_values.specs.{Arguments.next, Faults.at_place, Signatures.{has_words, object_if}, Values.item_at}
use Rattle.frame_values.specs.declared.values.Value.TheVariants as value
use Rattle.frame_laws.proofs.KnownWords.{same-sym, same-through}
use Rattle.document_laws.proofs.Openers.{row_of-one, row_of-same}
use Rattle.descriptor_frame.specs.{Lines.value_at, Tables.{descriptor_tables, rows}}
use Rattle.descriptor_frame.specs.declared.said.DescriptorKind.{DescriptorKind}
use Rattle.descriptor_frame.specs.declared.said.DescriptorKind.TheVariants as kind
use Rattle.grammar_laws.specs.Parts.{EndWithObjects}
use Rattle.descriptor_parts.proofs.{OneSection.AreInside, DescriptorDocument.{AreItems, DescriptorTaken, Said}}
use Rattle.descriptor_parts.proofs.DescriptorDocument.{last_keyword}

-- ---- descriptors end with their last item's object

signature_row : row_of rows the.RouterSignature ≡ Some (row the.RouterSignature One kind.Signature)
unfolding same
signature_row = refl

last_kind : (keyword : Keyword) (found : Row DescriptorKind) → row_of rows keyword ≡ Some found
    → same the.RouterSignature found.keyword ≡ true → found.kind ≡ kind.Signature
last_kind keyword found there last =
    let word : same the.RouterSignature keyword ≡ true =
    same-through the.RouterSignature found.keyword keyword last ∙ row_of-same rows keyword found there in
    let both : Some found ≡ Some (row the.RouterSignature One kind.Signature) =
    sym there ∙ sym (row_of-one rows the.RouterSignature keyword word) ∙ signature_row in
    ap kind_or both
  where
    kind_or : Option (Row DescriptorKind) → DescriptorKind
    kind_or None = found.kind
    kind_or (Some r) = r.kind

object_there : (item : Item) (said : Said) → at_place (value_at kind.Signature item) ≡ Ok said
    → is_some item.object ≡ true
object_there item said is = by (has_words item.object (codes "SIGNATURE")) item.object is
  where
    by : (t : Bool) (object : Option Object)
        → at_place (next (object_if t item.place object) (λ lines. Ok (value.Object lines))) ≡ Ok said
        → is_some object ≡ true
    by t (Some object) is = refl
    by t None is = absurd (cc is)

signed : (of : DescriptorKind) (item : Item) (said : Said) → of ≡ kind.Signature
    → at_place (value_at of item) ≡ Ok said → is_some item.object ≡ true
signed of item said is says =
    object_there item said (sym (ap (λ (k : DescriptorKind). at_place (value_at k item)) is) ∙ says)

pub descriptors_end : EndWithObjects descriptor_tables
descriptors_end = record {
  alone = λ section e. cc e;
  objects = λ section keyword found there last across item said says.
      signed found.kind item said (last_kind keyword found there last) says;
}

-- ---- where they stand

-- the last keyword is that of the signature
last_is : last_keyword ≡ the.RouterSignature
last_is = refl

-- the last item has an object
pub last_object : (items : List Item) (taken : List DescriptorTaken) (used : ℕ) (are : AreItems items taken used)
    → is_some are.last_item.object ≡ true
last_object items taken used are =
    let said = are.ends.said in
    let keyword = ap (λ (o : DescriptorTaken). o.keyword) said.stands in
    let last : same the.RouterSignature said.row.keyword ≡ true =
    ap (λ (k : Keyword). same k said.row.keyword) (sym last_is)
    ∙ ap (λ (k : Keyword). same last_keyword k) (sym keyword) ∙ are.last_last in
    signed said.row.kind are.last_item said.value (last_kind said.keyword said.row said.has_row last) said.says

found_here : (one : DescriptorTaken) (taken : List DescriptorTaken) (keyword : Keyword)
    → same one.keyword keyword ≡ true → item_at (one ∷ taken) keyword ≡ Some one
found_here one taken keyword is = ap (λ (t : Bool). if t then Some one else item_at taken keyword) is

found_later : (one : DescriptorTaken) (taken : List DescriptorTaken) (keyword : Keyword)
    → same one.keyword keyword ≡ false → item_at (one ∷ taken) keyword ≡ item_at taken keyword
found_later one taken keyword is = ap (λ (t : Bool). if t then Some one else item_at taken keyword) is

-- the first item is the router's
pub first_found : (items : List Item) (taken : List DescriptorTaken) (used : ℕ) (are : AreItems items taken used)
    → item_at taken the.Router ≡ Some are.first_one
first_found items taken used are =
    ap (λ (l : List DescriptorTaken). item_at l the.Router) are.are
    ∙ found_here are.first_one (are.between ++ are.last_one ∷ []) the.Router
    (same-sym are.first_one.keyword the.Router ∙ are.opener_first)

router_apart : same the.Router the.RouterSignature ≡ false
unfolding same
router_apart = refl

passed : (remembered : Unit {0}) (items : List Item) (taken : List DescriptorTaken) (after : Unit {0})
    (one : DescriptorTaken) → AreInside remembered items taken after
    → same one.keyword the.RouterSignature ≡ true
    → item_at (taken ++ one ∷ []) the.RouterSignature ≡ Some one
passed remembered [] taken after one are last =
    ap (λ (l : List DescriptorTaken). item_at (l ++ one ∷ []) the.RouterSignature) are.0
    ∙ found_here one [] the.RouterSignature last
passed remembered (item ∷ items) taken after one (inl are) last = passed remembered items taken after one are.1 last
passed remembered (item ∷ items) taken after one (inr are) last =
    let no : same are.0.keyword the.RouterSignature ≡ false =
    same-sym are.0.keyword the.RouterSignature ∙ ap (λ (k : Keyword). same k are.0.keyword) (sym last_is) ∙ are.5 in
    ap (λ (l : List DescriptorTaken). item_at (l ++ one ∷ []) the.RouterSignature) are.3
    ∙ found_later are.0 (are.1 ++ one ∷ []) the.RouterSignature no ∙ passed are.2 items are.1 after one are.6 last

-- the last item is the signature's
pub last_found : (items : List Item) (taken : List DescriptorTaken) (used : ℕ) (are : AreItems items taken used)
    → item_at taken the.RouterSignature ≡ Some are.last_one
last_found items taken used are =
    let first : same are.first_one.keyword the.RouterSignature ≡ false =
    sym (same-through the.Router are.first_one.keyword the.RouterSignature are.opener_first) ∙ router_apart in
    let last : same are.last_one.keyword the.RouterSignature ≡ true =
    same-sym are.last_one.keyword the.RouterSignature
    ∙ ap (λ (k : Keyword). same k are.last_one.keyword) (sym last_is) ∙ are.last_last in
    ap (λ (l : List DescriptorTaken). item_at l the.RouterSignature) are.are
    ∙ found_later are.first_one (are.between ++ are.last_one ∷ []) the.RouterSignature first
    ∙ passed are.with_first are.items_between are.between are.before_last are.last_one are.inside last
