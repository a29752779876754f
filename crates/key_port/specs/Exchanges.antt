-- One exchange with a key service: what is written, and what the answer is.
use Rattle.std.specs.Prelude.{ℕ, ◌≢◌, nat_eq, if◌then◌else◌, List, [], take, codes, IfSome, Some, None}
use Rattle.std.specs.{List.starts_with, declared.option.Option.Option, Io.KnownBytes.{Appends, Consumes, Keeps}}
use Rattle.key_port.specs.declared.verifier.VerifyAnswer.{VerifyAnswer}
use Rattle.key_port.specs.declared.verifier.VerifyAnswer.TheVariants as answer

-- the line that answers yes, and the one that answers no
abbrev pub yes_line : List ℕ
yes_line = codes "yes\n"

abbrev pub no_line : List ℕ
no_line = codes "no\n"

-- what a service that sends these bytes answers: each line but `yes` and `no` is a fault, and so is a line that ends early
unfoldable pub answer_of : List ℕ → VerifyAnswer
answer_of bytes =
    if starts_with nat_eq bytes yes_line then answer.Yes
    else if starts_with nat_eq bytes no_line then answer.No
    else answer.Fault

-- the whole request was written where the service answered, and else a front of it
abbrev pub Asks : Option (List ℕ) → Option (List ℕ) → List ℕ → VerifyAnswer → Type 0
Asks old new request answer.Yes = Appends old new request
Asks old new request answer.No = Appends old new request
Asks old new request answer.Fault = (sent : ℕ) × Appends old new (take sent request)

-- yes was read as the line `yes`, no as the line `no`, and nothing was read behind it
abbrev pub Hears : Option (List ℕ) → Option (List ℕ) → VerifyAnswer → Type 0
Hears old new answer.Yes = Consumes old new yes_line
Hears old new answer.No = Consumes old new no_line
Hears old new answer.Fault = Unit {0}

-- an answer of which no byte came is a fault
abbrev pub answer_or_fault : Option VerifyAnswer → VerifyAnswer
answer_or_fault (Some result) = result
answer_or_fault None = answer.Fault

-- for an answer some byte was there to be read, and without one none was read
abbrev pub Comes : {A : Type 0} → Option (List ℕ) → Option (List ℕ) → Option A → Type 0
Comes old new (Some result) = IfSome old (λ bytes. bytes ≢ [])
Comes old new None = Keeps old new
