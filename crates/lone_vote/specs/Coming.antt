-- What is known of bytes that arrive, as a vote alone.
use Rattle.std.specs.Prelude.{◌≡◌, ℕ, List, ◌++◌, length, Ok}
use Rattle.vote_doc.specs.Reading.{vote_of}
use Rattle.vote_terms.specs.Votes.{ReadVote}
use Rattle.vote_feed.specs.{declared.blanks.Blank.Blank, Blanks.blank_of, Feeding.{IsOpen, IsWhole}}
use Rattle.lone_vote.specs.declared.coming.{Known.{Known, TheVariants.{Coming, Whole, Other}}, LoneVote.LoneVote}
use Rattle.lone_vote.specs.Alone.{IsVote, NoneIs}

-- this vote is read of the bytes, and all of them are its
abbrev pub IsVoteOf : List ℕ → ReadVote → Type 0
IsVoteOf bytes vote = vote_of bytes ≡ Ok (vote, length bytes)

-- The bytes begin with this vote, whatever follows, and this is what those behind it are, as blank lines.
pub record BeginsWith (bytes : List ℕ) (vote : ReadVote) (behind : Blank) : Type 0 where
  pub own : List ℕ
  pub rest : List ℕ
  pub parts : bytes ≡ own ++ rest
  pub whole : IsWhole own
  pub is : IsVoteOf own vote
  pub blank : behind ≡ blank_of rest

-- what is known of these bytes, whatever follows
abbrev pub IsKnown : List ℕ → Known → Type 0
IsKnown bytes (Coming feeder) = (feeder ≡ bytes) × IsOpen bytes
IsKnown bytes (Whole vote behind) = BeginsWith bytes vote behind
IsKnown bytes Other = (more : List ℕ) → NoneIs (IsVote (bytes ++ more))

-- these bytes have come of it
abbrev pub HasCome : List ℕ → LoneVote → Type 0
HasCome bytes lone = IsKnown bytes lone.known
