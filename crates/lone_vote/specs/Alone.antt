-- A document that stands alone: what bytes are, as one document, and what may stand behind it.
use Rattle.std.specs.Prelude.{◌≡◌, ℕ, List, Option, Some, None, Result, Ok}
use Rattle.frame_terms.specs.declared.fault.ReadRefusal.{ReadRefusal}
use Rattle.vote_doc.specs.Reading.{vote_of}
use Rattle.vote_terms.specs.Votes.{ReadVote}
use Rattle.blank_lines.specs.Blanks.{after_blanks}

-- The bytes are this document, and behind it such lines as may stand there: the first that may not, if there is one, is
-- found by `other`.
pub record Stands {D : Type 0} (read : List ℕ → Result (D × ℕ) ReadRefusal) (other : ℕ → List ℕ → Option ℕ)
    (body : List ℕ) (document : D) : Type 0 where
  pub used : ℕ
  pub reads : read body ≡ Ok (document, used)
  pub alone : other used body ≡ None

-- the body is a vote, and then nothing but blank lines
abbrev pub IsVote : List ℕ → ReadVote → Type 0
IsVote body vote = Stands vote_of after_blanks body vote

-- the body is no such document
abbrev pub NoneIs : {D : Type 0} → (D → Type 0) → Type 0
NoneIs {D} is = (document : D) → is document → ⊥

-- the document that was found, or that there is none
abbrev pub IsFound : {D : Type 0} → (D → Type 0) → Option D → Type 0
IsFound is None = NoneIs is
IsFound is (Some document) = is document
