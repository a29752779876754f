-- A document whose bytes arrive piece by piece: what is known of it, and what a reader of it gives.
use Rattle.std.specs.Prelude.{◌≡◌, ℕ, ◌+◌, ◌-◌, ◌<◌, ◌≤◌, Bool, true, false, List, [], ◌∷◌, ◌++◌, length, drop, Option}
use Rattle.std.specs.Prelude.{Some, None, Result, Ok, Err}
use Rattle.item_terms.specs.declared.fault.DocFault.{DocFault}
use Rattle.item_terms.specs.Items as model
use Rattle.dirdoc_grammar.specs.{declared.take.Take.{Take, TheVariants.{Item, NotYet, End, Fault}}, Seen.seen_item}
use Rattle.dirdoc_grammar.specs.declared.item.Item as item

-- The bytes that were fed and not taken, the place of the first of them, the place that the document may not reach, and
-- whether no more follow.
pub record Fed : Type 0 where
  pub limit : ℕ
  pub place : ℕ
  pub rest : List ℕ
  pub finished : Bool

-- what may follow
abbrev pub MayFollow : Bool → List ℕ → Type 0
MayFollow true more = more ≡ []
MayFollow false more = Unit {0}

-- what the document holds from there on where these bytes follow
abbrev pub left_with : Fed → List ℕ → model.Contents
left_with fed more = model.contents fed.limit fed.place model.nothing (fed.rest ++ more)

-- what comes first: an item, a fault, or nothing
abbrev pub first_by : Option DocFault → List model.Item → Result (Option model.Item) DocFault
first_by fault (item ∷ items) = Ok (Some item)
first_by None [] = Ok None
first_by (Some fault) [] = Err fault

abbrev pub first_of : model.Contents → Result (Option model.Item) DocFault
first_of contents = first_by contents.fault contents.items

-- whatever follows, this comes first
abbrev pub Settles : Fed → Result (Option model.Item) DocFault → Type 0
Settles fed answer = (more : List ℕ) → MayFollow fed.finished more → first_of (left_with fed more) ≡ answer

-- What a reader gives, and what it has then: the item that comes first whatever follows, and what is left behind it; the
-- fault that does; that neither is known yet; or that all is given.
abbrev pub Takes : Fed → Take → Fed → Type 0
Takes old (Item item) new =
    ((more : List ℕ) → MayFollow old.finished more → left_with old more ≡ model.also (Some (seen_item item)) (left_with new more))
    × (new ≡ record old { place = item.after; rest = drop (item.after - old.place) old.rest })
    × (old.place < item.after)
    × (item.after ≤ old.place + length old.rest)
Takes old (Fault fault) new = ((more : List ℕ) → MayFollow old.finished more → left_with old more ≡ model.failed_contents fault) × (new ≡ old)
Takes old NotYet new = (old.finished ≡ false) × ((answer : Result (Option model.Item) DocFault) → Settles old answer → ⊥) × (new ≡ old)
Takes old End new = (old.finished ≡ true) × (left_with old [] ≡ record { items = []; fault = None }) × (new ≡ old)

-- whatever follows, an item that comes first ends at this place or behind it
abbrev pub EndsNoEarlier : ℕ → Fed → Type 0
EndsNoEarlier n fed = (more : List ℕ) (item : model.Item) (rest : model.Contents) → left_with fed more ≡ model.also (Some item) rest → n ≤ item.after

-- a fact that holds where nothing is known yet
abbrev pub IfNotYet : Take → Type 0 → Type 0
IfNotYet (Item item) fact = Unit {0}
IfNotYet (Fault fault) fact = Unit {0}
IfNotYet NotYet fact = fact
IfNotYet End fact = Unit {0}

-- a fact about the item that is given, if one is
abbrev pub IfItem : Take → (item.Item → Type 0) → Type 0
IfItem (Item item) fact = fact item
IfItem (Fault fault) fact = Unit {0}
IfItem NotYet fact = Unit {0}
IfItem End fact = Unit {0}
