-- Whether a request has arrived, as far as its bytes came.
use Rattle.std.specs.Prelude.{◌≡◌, ◌⊎◌, ℕ, ◌<◌, ◌≤◌, List, ◌++◌, length, Ok, Err}
use Rattle.httparse.specs.Grammar.{RequestHead}
use Rattle.dir_http.specs.{declared.fault.HttpFault.HttpFault, Heads.{IsHeadAt, IsOfHead, length_after}}
use Rattle.dir_http.specs.Requests.{AnswersHead, Whatever}

-- a whole request stands at the front: a head, and as many bytes as it announces
abbrev pub HasRequest : List ℕ → Type 0
HasRequest bytes =
    (head : RequestHead) × (rest : List ℕ) × (count : ℕ) × IsHeadAt bytes head rest × (length_after head ≡ Ok count)
    × (count ≤ length rest)

-- whatever follows, the head at the front is refused
abbrev pub IsRefused : List ℕ → Type 0
IsRefused bytes = (e : HttpFault) × IsOfHead e × AnswersHead Whatever bytes (Err e)

-- whatever follows, the request at the front is read, or refused
abbrev pub IsSettled : List ℕ → Type 0
IsSettled bytes = HasRequest bytes ⊎ IsRefused bytes

-- at least so many bytes are still to come before a whole request stands at the front
abbrev pub AwaitsBytes : List ℕ → ℕ → Type 0
AwaitsBytes bytes count = (more : List ℕ) → length more < count → ¬ (HasRequest (bytes ++ more))
