-- The answers that are no documents: the code and the body of each.
use Rattle.std.specs.Prelude.{◌≡◌, ℕ, List, [], ◌∷◌, ◌++◌, codes, decimal, Option, Some, None}
use Rattle.httparse.specs.Ascii.{line_feed}
use Rattle.dir_http.specs.declared.{fault.HttpFault.HttpFault, response.Response.Response}
use Rattle.dir_http.specs.declared.fault.HttpFault.TheVariants as fault
use Rattle.http_words.specs.{Words.word_text, declared.{word.Word.Word, replies.Reply.Reply}}
use Rattle.http_words.specs.declared.word.Word.TheVariants as word
use Rattle.http_words.specs.declared.replies.Reply.TheVariants as reply

-- the code of each answer
abbrev pub code_of : Reply → ℕ
code_of (reply.Done said) = 200
code_of (reply.Taken held lines) = 200
code_of (reply.Refused said) = 400
code_of reply.NotFound = 404
code_of reply.NotAllowed = 405
code_of reply.NoLength = 411
code_of reply.TooLarge = 413
code_of reply.Memory = 500
code_of reply.VerifierFault = 503

-- a word as a line
abbrev pub word_line : Word → List ℕ
word_line said = word_text said ++ line_feed ∷ []

-- how many lines of signatures of how many are held, as a line
abbrev pub taken_text : ℕ → ℕ → List ℕ
taken_text held lines = codes "taken " ++ decimal held ++ codes " of " ++ decimal lines ++ line_feed ∷ []

-- the body of each answer: a line, or nothing
abbrev pub body_text : Reply → List ℕ
body_text (reply.Done said) = word_line said
body_text (reply.Taken held lines) = taken_text held lines
body_text (reply.Refused said) = word_line said
body_text reply.NotFound = []
body_text reply.NotAllowed = []
body_text reply.NoLength = []
body_text reply.TooLarge = []
body_text reply.Memory = []
body_text reply.VerifierFault = []

-- the response has this answer's code and body
pub record SaysReply (answer : Reply) (response : Response) : Type 0 where
  pub code : response.code ≡ code_of answer
  pub body : response.body.items ≡ body_text answer

-- the answer to a request that was not read; after a failed read there is none
abbrev pub reply_to : HttpFault → Option Reply
reply_to fault.BadHead = Some (reply.Refused word.Head)
reply_to fault.NoLength = Some reply.NoLength
reply_to (fault.TooLarge limit) = Some reply.TooLarge
reply_to (fault.Truncated have want) = Some (reply.Refused word.Truncated)
reply_to fault.ReadFault = None
reply_to fault.Memory = Some reply.Memory
