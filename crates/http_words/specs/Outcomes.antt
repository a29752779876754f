-- What comes of a request, as it is told.
use Rattle.std.specs.Prelude.{◌≡◌, ℕ, List}
use Rattle.dir_http.specs.declared.response.Response.{Response}
use Rattle.http_words.specs.Replies as replies
use Rattle.http_words.specs.declared.outcome.Outcome.{Outcome, TheVariants.{Replied, Found}}

-- the code of each outcome; a document that is found has 200
abbrev pub code_of : Outcome → ℕ
code_of (Replied reply) = replies.code_of reply
code_of (Found text) = 200

-- the body of each outcome
abbrev pub body_of : Outcome → List ℕ
body_of (Replied reply) = replies.body_text reply
body_of (Found text) = text

-- the response has this outcome's code and body
pub record SaysOutcome (outcome : Outcome) (response : Response) : Type 0 where
  pub code : response.code ≡ code_of outcome
  pub body : response.body.items ≡ body_of outcome
