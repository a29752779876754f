-- The calls that a writer is given, one after the other, and that what they have written are items (dir-spec, meta-format).
use Rattle.std.specs.Prelude.{◌≡◌, ℕ, true, false, List, [], ◌∷◌}
use Rattle.base64.specs.GeneralPurpose.{IsBytes}
use Rattle.item_terms.specs.Words.{are_words}
use Rattle.dirdoc_grammar.specs.{declared.writer.Stage.TheVariants.{Between, Begun, Rested, Ended}, Bodies.object_text}
use Rattle.dirdoc_grammar.specs.{Writers.{Draft, longer_draft, in_line, is_argument}, Writing.{IsKeyword, IsLineRest}}
use Rattle.dirdoc_grammar.specs.Writing.{tail}
use Rattle.grammar_laws.specs.Written.{HasItems}

-- a call of a writer: begin with a keyword, argument or rest with bytes, end, or object with words and bytes
pub data Call : Type 0 where
  begin : List ℕ → Call
  argument : List ℕ → Call
  rest : List ℕ → Call
  end : Call
  object : List ℕ → List ℕ → Call

-- the draft after a call
abbrev pub after : Draft → Call → Draft
after draft (begin keyword) = longer_draft draft keyword Begun
after draft (argument bytes) = longer_draft draft (32 ∷ bytes) Begun
after draft (rest bytes) = longer_draft draft (tail bytes) Rested
after draft end = longer_draft draft (10 ∷ []) Ended
after draft (object words bytes) = longer_draft draft (object_text words bytes) Between

-- the call may be made: what may be written next, and what the call is given
abbrev pub MayCall : Draft → Call → Type 0
MayCall draft (begin keyword) = (in_line draft.stage ≡ false) × IsKeyword keyword
MayCall draft (argument bytes) = (draft.stage ≡ Begun) × (is_argument bytes ≡ true)
MayCall draft (rest bytes) = (draft.stage ≡ Begun) × IsLineRest bytes
MayCall draft end = in_line draft.stage ≡ true
MayCall draft (object words bytes) = (draft.stage ≡ Ended) × (are_words true words ≡ true) × IsBytes bytes

-- the draft after calls, one after the other
abbrev pub after_all : Draft → List Call → Draft
after_all draft [] = draft
after_all draft (call ∷ calls) = after_all (after draft call) calls

-- the calls may be made, one after the other
abbrev pub MayCallAll : Draft → List Call → Type 0
MayCallAll draft [] = Unit {0}
MayCallAll draft (call ∷ calls) = MayCall draft call × MayCallAll (after draft call) calls

-- the draft of a new writer that appends to this text
abbrev pub new_draft : List ℕ → Draft
new_draft before = record { text = before; stage = Between }

-- ---- the law

-- Whatever calls a new writer is given that may be made, one after the other: once it is outside a line, it has written items.
abbrev pub WritersWriteItems : Type 0
WritersWriteItems =
    (before : List ℕ) (calls : List Call) → MayCallAll (new_draft before) calls
    → in_line (after_all (new_draft before) calls).stage ≡ false
    → HasItems before (after_all (new_draft before) calls).text
