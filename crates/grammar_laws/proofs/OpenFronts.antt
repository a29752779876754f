-- A front of the lines with the items of it, and what the lines so far have opened.
use Rattle.std.proofs.Common.{◌≡◌, ℕ, ◌+◌, Bool, false, List, [], ◌∷◌, ◌++◌, Option, Some, None, refl, sym, ap, subst}
use Rattle.std.{proofs.Common.{◌∙◌, append_assoc, arith}, specs.Prelude.◌&&◌}
use Rattle.item_terms.specs.{declared.fault.DocFault.DocFault, Lines.{Line, lines, size}, Words.is_keyword_line}
use Rattle.item_terms.specs.Steps.{Item, Open, Object, nothing, keyword_line, object_lines, keyword_item}
use Rattle.item_terms.specs.Items.{Contents, also, failed_contents}
use Rattle.grammar_laws.proofs.BlockLines.{sizes_append, and_false, blank_apart, item_apart}
use Rattle.grammar_laws.specs.{BlockFaults.{HasFault, begin_with_dash, end_in_keyword_line}, Blocks.{sizes, text_of}}
use Rattle.grammar_laws.specs.Blocks.{IsBlankLine, IsKeywordLine, IsBeginLine, AreBodyLines, AreLinesOfItem}
use Rattle.grammar_laws.specs.Blocks.{AreLinesOfItems}

-- ---- a front of the lines, of which there are these items

-- nothing is left, or what has this fault
abbrev pub Left : ℕ → ℕ → List Line → Option DocFault → Type 0
Left limit place rest None = rest ≡ []
Left limit place rest (Some fault) = HasFault limit place rest fault

-- the items are those of a front, and what is left has the fault, if there is one
pub record HasFront (limit place : ℕ) (all : List Line) (made : Contents) : Type 0 where
  pub front : List Line
  pub rest : List Line
  pub lines : all ≡ front ++ rest
  pub items : AreLinesOfItems limit place front made.items
  pub apart : end_in_keyword_line front && begin_with_dash rest ≡ false
  pub left : Left limit (place + sizes front) rest made.fault

pub stops : (limit place : ℕ) (all : List Line) (fault : DocFault) → HasFault limit place all fault → HasFront limit place all (failed_contents fault)
stops limit place all fault h = record { front = []; rest = all; lines = refl; items = tt; apart = refl; left = subst (λ (k : ℕ). HasFault limit k all fault) (omega arith) h }

pub ends : (limit place : ℕ) → HasFront limit place [] (record { items = []; fault = None })
ends limit place = record { front = []; rest = []; lines = refl; items = tt; apart = refl; left = refl }

-- a blank line before the lines of some items
blank_before : (limit place : ℕ) (line : Line) (front : List Line) (items : List Item) → IsBlankLine limit place line → AreLinesOfItems limit (place + size line) front items → AreLinesOfItems limit place (line ∷ front) items
blank_before limit place line front [] b h = (b, h)
blank_before limit place line front (item ∷ items) b h = record {
  blanks = line ∷ h.blanks;
  own = h.own;
  others = h.others;
  lines = ap (λ (l : List Line). line ∷ l) h.lines;
  are_blank = (b, h.are_blank);
  are_its = subst (λ (k : ℕ). AreLinesOfItem limit k h.own item) (omega arith) h.are_its;
  go_on = h.go_on;
}

pub front_blank : (limit place : ℕ) (line : Line) (all : List Line) (made : Contents) → IsBlankLine limit place line → HasFront limit (place + size line) all made → HasFront limit place (line ∷ all) made
front_blank limit place line all made b h = record {
  front = line ∷ h.front;
  rest = h.rest;
  lines = ap (λ (l : List Line). line ∷ l) h.lines;
  items = blank_before limit place line h.front made.items b h.items;
  apart = blank_apart limit place line h.front h.rest b h.apart;
  left = subst (λ (k : ℕ). Left limit k h.rest made.fault) (omega arith) h.left;
}

-- the lines of an item before those of some items
pub front_item : (limit place next : ℕ) (own all : List Line) (item : Item) (made : Contents) → AreLinesOfItem limit place own item → item.after ≡ next → end_in_keyword_line own && begin_with_dash all ≡ false
    → HasFront limit next all made → HasFront limit place (own ++ all) (also (Some item) made)
front_item limit place next own all item made i e a h = record {
  front = own ++ h.front;
  rest = h.rest;
  lines = ap (λ (l : List Line). own ++ l) h.lines ∙ sym (append_assoc own h.front h.rest);
  items = record {
    blanks = [];
    own = own;
    others = h.front;
    lines = refl;
    are_blank = tt;
    are_its = subst (λ (k : ℕ). AreLinesOfItem limit k own item) (omega arith) i;
    go_on = subst (λ (k : ℕ). AreLinesOfItems limit k h.front made.items) (sym e) h.items;
  };
  apart = item_apart own all h.front h.rest h.lines a h.apart;
  left = subst (λ (k : ℕ). Left limit k h.rest made.fault) (omega (arith, e, i.after, sizes_append own h.front)) h.left;
}

-- ---- what the lines so far have opened

-- the lines from p on are the keyword line of this item
pub record OpensItem (limit p place : ℕ) (before : List Line) (item : Item) : Type 0 where
  pub line : Line
  pub lines : before ≡ line ∷ []
  pub begins : IsKeywordLine limit p line
  pub made : item ≡ keyword_item p line
  pub next : place ≡ p + size line

-- the lines from p on are the keyword line of this item and lines of this object, whose last is not there yet
pub record OpensObject (limit p place : ℕ) (before : List Line) (item : Item) (begin : ℕ) (object : Object) : Type 0 where
  pub line : Line
  pub first : Line
  pub body : List Line
  pub lines : before ≡ line ∷ first ∷ body
  pub keyword : IsKeywordLine limit p line
  pub made : item ≡ keyword_item p line
  pub begin_is : begin ≡ p + size line
  pub begins : IsBeginLine limit begin first object.words
  pub start : object.start ≡ begin + size first
  pub inside : AreBodyLines limit begin (begin + size first) body
  pub text : object.text ≡ text_of body
  pub next : place ≡ begin + size first + sizes body

abbrev pub Opens : ℕ → ℕ → ℕ → List Line → Open → Type 0
Opens limit p place before nothing = (before ≡ []) × (p ≡ place)
Opens limit p place before (keyword_line item) = OpensItem limit p place before item
Opens limit p place before (object_lines item begin object) = OpensObject limit p place before item begin object

-- the keyword line is all of its item
alone : (limit p : ℕ) (line : Line) → IsKeywordLine limit p line → AreLinesOfItem limit p (line ∷ []) (keyword_item p line)
alone limit p line h = record {
  first = line;
  others = [];
  lines = refl;
  begins = h;
  object = refl;
  keyword = refl;
  separator = refl;
  arguments = refl;
  start = refl;
  line_end = refl;
  stands = refl;
  after = omega arith;
}

-- no object follows the keyword line
pub front_alone : (limit p place : ℕ) (before all : List Line) (item : Item) (made : Contents) → OpensItem limit p place before item → begin_with_dash all ≡ false → HasFront limit place all made
    → HasFront limit p (before ++ all) (also (Some item) made)
front_alone limit p place before all item made o a h =
    subst (λ (b : List Line). HasFront limit p (b ++ all) (also (Some item) made)) (sym o.lines)
    (subst (λ (i : Item). HasFront limit p (o.line ∷ all) (also (Some i) made)) (sym o.made)
    (front_item limit p place (o.line ∷ []) all (keyword_item p o.line) made (alone limit p o.line o.begins) (sym o.next) (ap (λ (t : Bool). is_keyword_line o.line.text && t) a ∙ and_false (is_keyword_line o.line.text)) h))
