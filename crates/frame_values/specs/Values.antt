-- What the items of a section say. Where an item is not there, or says something else, its value is nothing.
use Rattle.std.specs.{Prelude.{ℕ, List, [], ◌∷◌, Option, Some, None}, List.find}
use Rattle.dir_values.specs.declared.digest.Fingerprint.{Fingerprint}
use Rattle.frame_terms.specs.{declared.{document.Taken.Taken, keyword.Keyword.Keyword}, Keywords.same}
use Rattle.frame_values.specs.declared.{values.Value.Value, found.Span.Span}
use Rattle.frame_values.specs.declared.values.Value.TheVariants as value

-- the span of no text
abbrev pub nowhere : Span
nowhere = record { start = 0; end = 0 }

-- where a text stands, and nowhere if there is none
abbrev pub text_in : Option Span → Span
text_in None = nowhere
text_in (Some span) = span

-- twenty zeros
abbrev pub no_digest : List ℕ
no_digest = 0 ∷ 0 ∷ 0 ∷ 0 ∷ 0 ∷ 0 ∷ 0 ∷ 0 ∷ 0 ∷ 0 ∷ 0 ∷ 0 ∷ 0 ∷ 0 ∷ 0 ∷ 0 ∷ 0 ∷ 0 ∷ 0 ∷ 0 ∷ []

-- the identity of nobody
abbrev pub no_identity : Fingerprint
no_identity = record { 0 = no_digest }

module _ {W : Type 0} where
  -- the first item of a keyword
  abbrev pub item_at : List (Taken W) → Keyword → Option (Taken W)
  item_at taken keyword = find (λ (one : Taken W). same one.keyword keyword) taken

  -- where an item begins, and 0 of none
  abbrev pub place_in : Option (Taken W) → ℕ
  place_in None = 0
  place_in (Some one) = one.place

  -- where the keyword of an item ends, and 0 of none
  abbrev pub separator_in : Option (Taken W) → ℕ
  separator_in None = 0
  separator_in (Some one) = one.separator

  -- where the line of an item ends, and 0 of none
  abbrev pub line_end_in : Option (Taken W) → ℕ
  line_end_in None = 0
  line_end_in (Some one) = one.line_end

  -- where an item ends, and 0 of none
  abbrev pub after_in : Option (Taken W) → ℕ
  after_in None = 0
  after_in (Some one) = one.after

module _ {V : Type 0} where
  -- what an item says, where there is one
  abbrev pub value_if : Option (Taken (Value V)) → Value V
  value_if None = value.Nothing
  value_if (Some one) = one.value

  -- what a value is that only items of a kind of document say
  abbrev pub own_of_value : Value V → Option V
  own_of_value (value.Own own) = Some own
  own_of_value _ = None

  -- what only items of a kind of document say, as this one does
  abbrev pub own_in : Option (Taken (Value V)) → Option V
  own_in item = own_of_value (value_if item)

  -- the number that a value is, and 0 of another kind
  abbrev pub number_of_value : Value V → ℕ
  number_of_value (value.Number number) = number
  number_of_value _ = 0

  -- the number that an item says, and 0 of none
  abbrev pub number_in : Option (Taken (Value V)) → ℕ
  number_in item = number_of_value (value_if item)

  -- where the text that a value is stands, if it is one
  abbrev pub text_of_value : Value V → Option Span
  text_of_value (value.Text span) = Some span
  text_of_value _ = None

  -- where the text of an item stands, if there is one
  abbrev pub text_if : Option (Taken (Value V)) → Option Span
  text_if item = text_of_value (value_if item)

  -- the identity that a value is
  abbrev pub fingerprint_of_value : Value V → Fingerprint
  fingerprint_of_value (value.Fingerprint identity) = identity
  fingerprint_of_value _ = no_identity

  -- the identity that an item says
  abbrev pub fingerprint_in : Option (Taken (Value V)) → Fingerprint
  fingerprint_in item = fingerprint_of_value (value_if item)

  -- where the lines of an object stand, if a value is one
  abbrev pub object_of_value : Value V → Span
  object_of_value (value.Object lines) = lines
  object_of_value _ = nowhere

  -- where the lines of an item's object stand
  abbrev pub object_in : Option (Taken (Value V)) → Span
  object_in item = object_of_value (value_if item)
