-- The tables of a kind of document.
use Rattle.std.specs.Prelude.{Bool, List, Result}
use Rattle.item_terms.specs.Items.{Item}
use Rattle.frame_terms.specs.declared.{document.Taken.Taken, fault.FrameFault.FrameFault, keyword.Keyword.Keyword}
use Rattle.frame_terms.specs.declared.{row.Row.Row, section.Shape.Shape}

-- Of a document with the sections S, whose items are of the kinds K and say V, and which remembers X across them:
-- first     the section that it begins with
-- sections  its sections in order, without those inside others
-- shape     how a section begins and ends, and what may stand inside it
-- rows      the items of a section; the first one opens it
-- strangers whether a keyword that none of its sections has may not stand in this one
-- ignores   whether an item of this kind is passed over, as one that the document does not know
-- value_of  what an item of a kind says, or what is wrong with it, where this is remembered of those before it
-- start     what is remembered of nothing
-- note      what is remembered with one more item, or why it may not stand behind those before it
pub record Tables (S K V X : Type 0) : Type 0 where
  pub first : S
  pub sections : List S
  pub shape : S → Shape S
  pub rows : S → List (Row K)
  pub strangers : S → Keyword → Bool
  pub ignores : K → Item → Bool
  pub value_of : X → K → Item → Result V FrameFault
  pub start : X
  pub note : X → Taken V → Result X FrameFault
