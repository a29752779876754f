-- A vote has no more entries than it may.
use Rattle.std.proofs.Common.{◌≡◌, ℕ, ◌+◌, ◌≤◌, true, List, [], ◌∷◌, Option, Some, None, Ok, refl, ap, arith}
use Rattle.item_terms.specs.{declared.fault.DocFault.DocFault, Items.{Contents, Item}}
use Rattle.frame_terms.specs.{declared.document.{Group.Group, Open.Open}, Documents.{Document, document_of}}
use Rattle.frame_terms.specs.{Keywords.same, Order.{inner, opener}}
use Rattle.frame_values.specs.declared.values.Value.{Value}
use Rattle.vote_frame.specs.declared.{across.Across.Across, frame.{VoteSection.VoteSection, VoteValue.VoteValue}}
use Rattle.vote_frame.specs.Tables.{vote_tables}
use Rattle.vote_frame.specs.declared.frame.VoteSection.TheVariants as section
use Rattle.document_laws.{specs.Items.IsItemOf, proofs.Rules.{Rules, holds}}
use Rattle.range_laws.proofs.{Noting.{counted, opener_relay}, VoteStands.{VoteTaken, only_certificates}}

abbrev pub VoteGroup : Type 0
VoteGroup = Group VoteSection (Value VoteValue)

-- how many entries a section is
abbrev pub entries_of : VoteSection → ℕ
entries_of section.Entry = 1
entries_of _ = 0

-- and some sections
abbrev pub entries_among : List VoteGroup → ℕ
entries_among [] = 0
entries_among (group ∷ groups) = entries_of group.section + entries_among groups

-- the section around is no entry
abbrev AroundIsNone : Option VoteGroup → Type 0
AroundIsNone None = Unit {0}
AroundIsNone (Some outer) = entries_of outer.section ≡ 0

-- what is counted and the entries that follow are no more than a vote may have
abbrev Rest : Across → Open VoteSection (Value VoteValue) → List Item → Document VoteSection (Value VoteValue) → Type 0
Rest across open_ items document =
    across.listed.count ≤ 65535 → AroundIsNone open_.around
    → entries_among document.groups + across.listed.count ≤ 65535 + entries_of open_.section

-- the item that begins a section counts it
begins_counted : (name : VoteSection) (before after : Across) (item : Item) (one : VoteTaken)
    → IsItemOf vote_tables before name item one → vote_tables.note before one ≡ Ok after → before.listed.count ≤ 65535
    → same (opener vote_tables name) one.keyword ≡ true → before.listed.count + entries_of name ≤ after.listed.count
begins_counted section.Entry before after item one t note small opens =
    let is = (counted section.Entry before after item one t note small).relay (opener_relay before item one t opens) in
    omega (arith, is)
begins_counted section.Preamble before after item one t note small opens =
    let is = (counted section.Preamble before after item one t note small).more in omega (arith, is)
begins_counted section.Authority before after item one t note small opens =
    let is = (counted section.Authority before after item one t note small).more in omega (arith, is)
begins_counted section.Certificate before after item one t note small opens =
    let is = (counted section.Certificate before after item one t note small).more in omega (arith, is)
begins_counted section.Footer before after item one t note small opens =
    let is = (counted section.Footer before after item one t note small).more in omega (arith, is)

-- a section that has others inside is no entry, nor is the one inside
enters_none : (name inside : VoteSection) (one : VoteTaken) → inner vote_tables name one.keyword ≡ Some inside
    → (entries_of name ≡ 0) × (entries_of inside ≡ 0)
enters_none section.Entry inside one begins = absurd (cc (begins))
enters_none section.Preamble inside one begins = absurd (cc (begins))
enters_none section.Certificate inside one begins = absurd (cc (begins))
enters_none section.Footer inside one begins = absurd (cc (begins))
enters_none section.Authority inside one begins =
    (refl, ap entries_of (only_certificates section.Authority one.keyword inside begins).0)

few : (length : ℕ) (fault : Option DocFault) → Rules vote_tables length fault Rest
few length fault = record {
  closes = λ across name taken around missing no_fault small quiet. omega (arith, small);
  passes = λ across open_ item items document may rest small quiet. rest small quiet;
  starts = λ across next item items document one may note rest small quiet.
      let is = counted section.Preamble across next item one may.accepted.taken note small in
      let less = rest is.small tt in
      omega (arith, less, is.more);
  adds = λ across next name first taken around item items document one may note rest small quiet.
      let is = counted name across next item one may.accepted.taken note small in
      let less = rest is.small quiet in
      omega (arith, less, is.more);
  opens = λ across next name first taken around other item items document one may note rest small quiet.
      let is = counted other across next item one may.accepted.taken note small in
      let more = begins_counted other across next item one may.accepted.taken note small may.opens in
      let less = rest is.small quiet in
      omega (arith, less, more);
  enters = λ across next name first taken around inside item items document one may note rest small quiet.
      let is = counted name across next item one may.added.accepted.taken note small in
      let none = enters_none name inside one may.begins in
      let less = rest is.small none.0 in
      omega (arith, less, is.more, none.1);
  leaves = λ across next name first taken outer item items document one may note rest small quiet.
      let is = counted name across next item one may.accepted.taken note small in
      let less = rest is.small tt in
      omega (arith, less, is.more, quiet);
  ends = λ across next name first taken item items one may note small quiet. omega (arith, small);
  stops = λ across name first taken around item items may small quiet. omega (arith, small);
}

-- of a document that is read
pub few_entries : (length : ℕ) (contents : Contents) (document : Document VoteSection (Value VoteValue))
    → document_of vote_tables length contents ≡ Ok document → entries_among document.groups ≤ 65535
few_entries length contents document e =
    let less = holds vote_tables length Rest contents (few length contents.fault) document e (omega arith) tt in
    omega (arith, less)
