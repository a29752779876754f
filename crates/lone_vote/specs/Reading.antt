-- What is read of the body behind the head of an upload.
use Rattle.std.specs.Prelude.{ℕ, List, Option, Result, Ok, Err}
use Rattle.dir_http.specs.{declared.{fault.HttpFault.HttpFault, head.Head.Head}, Requests.{ReadsBody, body_ahead}}
use Rattle.vote_terms.specs.Votes.{ReadVote}
use Rattle.lone_vote.specs.Alone.{IsFound, IsVote}

-- The body was read, and the vote was found that it is, if it is one.
pub record FindsVote (head : Head) (left : Option (List ℕ)) (found : Option ReadVote) : Type 0 where
  pub body : List ℕ
  pub reads : ReadsBody head.length (body_ahead 0 head left) (Ok body)
  pub is : IsFound (IsVote body) found

-- what is read behind a head: the vote that the body is, if it is one; or why the body was not read
abbrev pub GivesVote : Head → Option (List ℕ) → Result (Option ReadVote) HttpFault → Type 0
GivesVote head left (Ok found) = FindsVote head left found
GivesVote head left (Err fault) = ReadsBody head.length (body_ahead 0 head left) (Err fault)
