-- Documents of any number of sections (dir-spec, "Vote and consensus status document formats").
use Rattle.std.specs.Prelude.{◌≡◌, ◌↔◌, ◌⊎◌, ◌++◌, ℕ, true, List, [], ◌∷◌, map, Option, Some, None, Ok}
use Rattle.item_terms.specs.{declared.fault.DocFault.DocFault, Items.{Item, Contents}}
use Rattle.frame_terms.specs.{declared.keyword.Keyword.Keyword, Documents.{Document, document_of}, Keywords.same}
use Rattle.frame_terms.specs.{Keywords.word_of, Order.opener, Tables.Tables}
use Rattle.frame_terms.specs.declared.section.Again.TheVariants as again
use Rattle.document_laws.specs.{Order.{AreInOrder, Part, items_of, sections_of}, Passing.{EndsWith, EndsWithInput}}
use Rattle.document_laws.specs.{Clear.AreClear, Parts.IsPart}

-- the first of the items that are left begins the next document, with one more opener of the section that is the last
pub record EndsBeforeNext {S K V X : Type 0} (tables : Tables S K V X) (section : S) (left : List Item) (place : ℕ)
    : Type 0 where
  pub first : Item
  pub others : List Item
  pub parts : left ≡ first ∷ others
  pub keyword : Keyword
  pub known : word_of first.keyword ≡ Some keyword
  pub opens : same (opener tables section) keyword ≡ true
  pub next : (tables.shape section).again ≡ again.Document
  pub ends : place ≡ first.place

module _ {S K V X : Type 0} where
  -- where a document ends whose last section has these items: with the last of them, if the section's table has a last
  -- item; else before the next document, or with the input
  abbrev pub EndsAt : Tables S K V X → ℕ → Option DocFault → S → Option Keyword → List Item → List Item → ℕ → Type 0
  EndsAt tables length fault section (Some last) items left place = EndsWith items place
  EndsAt tables length fault section None items left place =
      EndsBeforeNext tables section left place ⊎ EndsWithInput length fault left place

  -- the same of all of its parts
  abbrev pub EndsSo : Tables S K V X → ℕ → Option DocFault → List (Part S V) → List Item → ℕ → Type 0
  EndsSo tables length fault [] left place = ⊥
  EndsSo tables length fault (part ∷ []) left place =
      EndsAt tables length fault part.whole.section ((tables.shape part.whole.section).last) part.items left place
  EndsSo tables length fault (part ∷ next ∷ parts) left place = EndsSo tables length fault (next ∷ parts) left place

  -- each part is the items of its section, by what is remembered of those before it
  abbrev pub AreParts : Tables S K V X → X → List (Part S V) → Type 0
  AreParts tables remembered [] = Unit {0}
  AreParts tables remembered (part ∷ parts) =
      (next : X) × IsPart tables remembered part next × AreParts tables next parts

-- A document: parts, one behind the other, in the order of its table, and then the items that are left.
pub record IsDocument {S K V X : Type 0} (tables : Tables S K V X) (length : ℕ) (contents : Contents)
    (document : Document S V) : Type 0 where
  pub parts : List (Part S V)
  pub left : List Item
  pub come : contents.items ≡ items_of parts ++ left
  pub are : document.groups ≡ sections_of parts
  pub in_order : AreInOrder tables tables.sections (map (λ (part : Part S V). part.whole.section) parts)
  pub each : AreParts tables tables.start parts
  pub ends : EndsSo tables length contents.fault parts left document.used

module _ {S K V X : Type 0} where
  -- Items of which all this is so are read as that document.
  abbrev pub DocumentsAreRead : Tables S K V X → Type 0
  DocumentsAreRead tables =
      AreClear tables → (length : ℕ) (contents : Contents) (document : Document S V)
      → IsDocument tables length contents document → document_of tables length contents ≡ Ok document

  -- All this is so of each document that is read: no other items are read as one.
  abbrev pub DocumentsAreAll : Tables S K V X → Type 0
  DocumentsAreAll tables =
      AreClear tables → (length : ℕ) (contents : Contents) (document : Document S V)
      → document_of tables length contents ≡ Ok document → IsDocument tables length contents document

  -- Items are read as a document exactly where they are its parts.
  abbrev pub AreExact : Tables S K V X → Type 0
  AreExact tables =
      (length : ℕ) (contents : Contents) (document : Document S V)
      → (document_of tables length contents ≡ Ok document) ↔ IsDocument tables length contents document
