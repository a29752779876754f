-- What is read of a connection, as private functions of this crate say it.
use Rattle.std.specs.Prelude.{◌≡◌, ◌<◌, ◌^◌, ℕ, List, length, Option, Ok, Err}
use Rattle.dir_http.specs.{declared.length.Method2.Method2, Requests.{ReadRequest, ReadsWhole}}
use Rattle.http_words.specs.{declared.asked.Asked.Asked, Paths.asked_by}
use Rattle.http_words.specs.declared.asked.Asked.TheVariants as asked
use Rattle.vote_terms.specs.Votes.{ReadVote}
use Rattle.lone_vote.specs.Alone.{IsFound, IsVote}
use Rattle.serve_answers.specs.declared.incoming.Incoming.{Incoming}
use Rattle.serve_answers.specs.declared.incoming.Incoming.TheVariants as incoming

-- A vote is uploaded, and the one was found that the body is, if it is one.
pub record ReadsUpload (left : Option (List ℕ)) (found : Option ReadVote) : Type 0 where
  pub request : ReadRequest
  pub reads : ReadsWhole left (Ok request)
  pub asks : asked_by request.method request.path ≡ asked.PostVote
  pub is : IsFound (IsVote request.body) found

-- This is asked for by this path, with this body, which has fewer than 2^61 bytes.
pub record ReadsAsked (left : Option (List ℕ)) (ask : Asked) (path body : List ℕ) : Type 0 where
  pub method : Method2
  pub reads : ReadsWhole left (Ok (record { method = method; path = path; body = body }))
  pub asks : ask ≡ asked_by method path
  pub short : length body < 2 ^ 61

-- the request that was read, or why none was
abbrev pub ReadsIncoming : Option (List ℕ) → Incoming → Type 0
ReadsIncoming left (incoming.Vote found) = ReadsUpload left found
ReadsIncoming left (incoming.Request ask path body) = ReadsAsked left ask path body
ReadsIncoming left (incoming.Unread fault) = ReadsWhole left (Err fault)
