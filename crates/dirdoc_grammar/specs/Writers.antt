-- What contracts see of a writer, and what its calls may be given.
use Rattle.std.specs.{Prelude.{ℕ, ◌==◌, Bool, true, false, not, ◌&&◌, List, [], ◌∷◌, ◌++◌}, List.list_all}
use Rattle.item_terms.specs.Words.{is_blank}
use Rattle.dirdoc_grammar.specs.declared.writer.Stage.{Stage, TheVariants.{Between, Begun, Rested, Ended}}

-- what a writer has: its text, and what may be written next
pub record Draft : Type 0 where
  pub text : List ℕ
  pub stage : Stage

-- the draft with more text, in this stage
abbrev pub longer_draft : Draft → List ℕ → Stage → Draft
longer_draft draft text stage = record { text = draft.text ++ text; stage = stage }

-- a line was begun and has not ended
abbrev pub in_line : Stage → Bool
in_line Between = false
in_line Begun = true
in_line Rested = true
in_line Ended = false

-- the text is empty or ends with a NL
abbrev pub ends_line : List ℕ → Bool
ends_line [] = true
ends_line (b ∷ []) = b == 10
ends_line (b ∷ c ∷ text) = ends_line (c ∷ text)

-- the byte may stand in an argument: it is no blank, NL or NUL
abbrev pub is_argument_byte : ℕ → Bool
is_argument_byte b = not (is_blank b) && not (b == 10) && not (b == 0)

-- the text is an argument, which is not empty
abbrev pub is_argument : List ℕ → Bool
is_argument [] = false
is_argument (b ∷ text) = list_all is_argument_byte (b ∷ text)
