-- What comes of one connection, whatever a request asks to be done.
use Rattle.std.specs.Prelude.{◌≡◌, ◌≢◌, ◌<◌, ℕ, List, [], take, length, Option, Some, Result, Ok, Err}
use Rattle.std.specs.Io.KnownBytes.{Appends}
use Rattle.dir_bytes.specs.Causes.{Rose}
use Rattle.dir_http.specs.{declared.fault.HttpFault.HttpFault, Requests.{ReadRequest, ReadsWhole}}
use Rattle.dir_http.specs.Responses.{response_text}
use Rattle.http_words.specs.declared.{asked.Asked.Asked, replies.Reply.Reply, connection.ConnStatus.ConnStatus}
use Rattle.http_words.specs.{declared.outcome.Outcome.{Outcome, TheVariants.Replied}, Paths.asked_by, Replies.reply_to}
use Rattle.http_words.specs.Outcomes.{code_of, body_of}
use Rattle.http_words.specs.declared.connection.ConnStatus.TheVariants as status

-- the text of the response that tells an outcome
abbrev pub text_of : Outcome → List ℕ
text_of outcome = response_text (code_of outcome) (body_of outcome)

-- after want of memory nothing was written, or a front of the response 500
abbrev pub TriesShortage : Option (List ℕ) → Option (List ℕ) → Type 0
TriesShortage written written_then = (sent : ℕ) × Appends written written_then (take sent (response_text 500 []))

-- What came of writing an outcome as a response. Want of memory is not told as an answer.
abbrev pub Tells : Option (List ℕ) → Option (List ℕ) → ℕ → ℕ → Outcome → ConnStatus → Type 0
Tells written written_then faults faults_then outcome (status.Answered code) =
    (code ≡ code_of outcome) × (code ≢ 500) × Appends written written_then (text_of outcome)
Tells written written_then faults faults_then outcome status.ReadFault = ⊥
Tells written written_then faults faults_then outcome (status.WriteFault sent) =
    (sent < length (text_of outcome)) × Appends written written_then (take sent (text_of outcome))
    × Rose faults faults_then
Tells written written_then faults faults_then outcome status.Memory = TriesShortage written written_then

-- `Does`: what comes of what is asked by a path, with a body; `IsStill`: that nothing was done
module _ (Does : Asked → List ℕ → List ℕ → Outcome → Type 0) (IsStill : Type 0) where
  -- What comes of a request that was read: what it asks for was done. Of one that was not, it is told why, and nothing
  -- was done.
  abbrev pub DoesFor : Result ReadRequest HttpFault → Outcome → Type 0
  DoesFor (Ok request) outcome = Does (asked_by request.method request.path) request.path request.body outcome
  DoesFor (Err fault) outcome =
      (answer : Reply) × (outcome ≡ Replied answer) × (reply_to fault ≡ Some answer) × IsStill

  -- One request was read, and something came of it.
  pub record Handles (left : Option (List ℕ)) (outcome : Outcome) : Type 0 where
    pub read : Result ReadRequest HttpFault
    pub reads : ReadsWhole left read
    pub does : DoesFor read outcome

  module _ (left written written_then : Option (List ℕ)) where
    -- The response was written whole.
    pub record Answers (code : ℕ) : Type 0 where
      pub outcome : Outcome
      pub handles : Handles left outcome
      pub code_is : code ≡ code_of outcome
      pub wrote : Appends written written_then (text_of outcome)

    -- The sink failed behind so many bytes of the response.
    pub record Breaks (faults faults_then sent : ℕ) : Type 0 where
      pub outcome : Outcome
      pub handles : Handles left outcome
      pub fewer : sent < length (text_of outcome)
      pub wrote : Appends written written_then (take sent (text_of outcome))
      pub rose : Rose faults faults_then
