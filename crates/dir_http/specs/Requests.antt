-- What reading a request answers, over a source that tells what it has left.
use Rattle.std.specs.Prelude.{◌≡◌, ℕ, ◌+◌, ◌-◌, ◌≤◌, ◌<◌, List, [], ◌++◌, length, take, drop, Option, Some, None}
use Rattle.std.specs.{Prelude.{Result, Ok, Err}, Global.Vec, Option.option_map, Io.KnownBytes.{Consumes, Keeps}}
use Rattle.std.specs.Io.KnownBytes.{IsAtEnd}
use Rattle.httparse.specs.Grammar.{RequestHead}
use Rattle.dir_http.specs.declared.{fault.HttpFault.HttpFault, head.Head.Head, length.Method2.Method2}
use Rattle.dir_http.specs.{declared.request.Request.Request, Heads.{IsHeadAt, length_after, method_of, head_limit}}
use Rattle.dir_http.specs.declared.fault.HttpFault.TheVariants as fault

-- what is told where the source failed: that, or that what came before is the front of no head
abbrev pub IsFailure : HttpFault → Type 0
IsFailure fault.BadHead = Unit {0}
IsFailure fault.NoLength = ⊥
IsFailure (fault.TooLarge limit) = ⊥
IsFailure (fault.Truncated have want) = ⊥
IsFailure fault.ReadFault = Unit {0}
IsFailure fault.Memory = ⊥

-- the head at the front, if there is one, announces no clear length
abbrev pub HasNoGoodHead : List ℕ → Type 0
HasNoGoodHead bytes =
    (head : RequestHead) (rest : List ℕ) → IsHeadAt bytes head rest → length_after head ≡ Err fault.BadHead

-- the head at the front is refused for this
abbrev pub HasRefusedHead : List ℕ → HttpFault → Type 0
HasRefusedHead bytes e = (head : RequestHead) × (rest : List ℕ) × IsHeadAt bytes head rest × (length_after head ≡ Err e)

-- what was read is this head, which stands at the front, and the body begins with `early` and goes on with what is left
pub record IsReadAs (bytes left : List ℕ) (read : Head) (head : RequestHead) (rest : List ℕ) : Type 0 where
  pub at : IsHeadAt bytes head rest
  pub method : read.method ≡ method_of head.method
  pub path : read.path ≡ head.target
  pub length : length_after head ≡ Ok read.length
  pub body : take read.length rest ≡ take read.length (read.early.items ++ left)

-- what `read_head` answers over these bytes, of which those left were not read
abbrev pub TellsHead : List ℕ → List ℕ → Result Head HttpFault → Type 0
TellsHead bytes left (Ok read) = (head : RequestHead) × (rest : List ℕ) × IsReadAs bytes left read head rest
TellsHead bytes left (Err fault.BadHead) = HasNoGoodHead bytes
TellsHead bytes left (Err fault.NoLength) = HasRefusedHead bytes fault.NoLength
TellsHead bytes left (Err (fault.TooLarge limit)) = HasRefusedHead bytes (fault.TooLarge limit)
TellsHead bytes left (Err (fault.Truncated have want)) = ⊥
TellsHead bytes left (Err fault.ReadFault) = Unit {0}
TellsHead bytes left (Err fault.Memory) = Unit {0}

-- the same, where the source tells
abbrev pub ReadsHead : Option (List ℕ) → Option (List ℕ) → Result Head HttpFault → Type 0
ReadsHead None new result = Unit {0}
ReadsHead (Some bytes) None result = ⊥
ReadsHead (Some bytes) (Some left) result = TellsHead bytes left result

-- what a head of a request is read as where these bytes were taken, and such bytes may follow
abbrev pub AnswersHead : (List ℕ → Type 0) → List ℕ → Result Head HttpFault → Type 0
AnswersHead MayFollow given (Ok read) =
    (head : RequestHead) × (rest : List ℕ) × IsReadAs given [] read head rest
AnswersHead MayFollow given (Err fault.BadHead) = (more : List ℕ) → MayFollow more → HasNoGoodHead (given ++ more)
AnswersHead MayFollow given (Err fault.NoLength) = HasRefusedHead given fault.NoLength
AnswersHead MayFollow given (Err (fault.TooLarge limit)) = HasRefusedHead given (fault.TooLarge limit)
AnswersHead MayFollow given (Err (fault.Truncated have want)) = ⊥
AnswersHead MayFollow given (Err fault.ReadFault) = Unit {0}
AnswersHead MayFollow given (Err fault.Memory) = Unit {0}

-- any bytes may follow
abbrev pub Whatever : List ℕ → Type 0
Whatever more = Unit {0}

-- nothing follows, or the limit of a head was reached
abbrev pub AtEndOrLimit : List ℕ → List ℕ → Type 0
AtEndOrLimit given more = length given < head_limit → more ≡ []

-- the part of the body that is still to come after so many bytes of it
abbrev pub body_ahead : ℕ → Head → Option (List ℕ) → Option (List ℕ)
body_ahead given head left =
    option_map (λ bytes. take (head.length - given) (drop given head.early.items ++ bytes)) left

-- a piece of the body that was given; none only after its last byte
pub record GivesPiece (head : Head) (given count now : ℕ) (before after : Option (List ℕ)) (out : List ℕ) : Type 0 where
  pub bytes : Consumes (body_ahead given head before) (body_ahead now head after) (take count out)
  pub counted : now ≡ given + count
  pub within : now ≤ head.length
  pub fits : count ≤ length out
  pub none : count ≡ 0 → given ≡ head.length

-- the source ended before the body did
pub record EndsInBody (head : Head) (given have want : ℕ) (before : Option (List ℕ)) : Type 0 where
  pub ended : IsAtEnd (body_ahead given head before)
  pub had : have ≡ given
  pub wanted : want ≡ head.length
  pub short : have < want

-- what the next piece of a body is, of which so many bytes were given before and so many are given now
abbrev pub GivesBody : Head → ℕ → ℕ → Option (List ℕ) → Option (List ℕ) → Result ℕ HttpFault → List ℕ → Type 0
GivesBody head given now before after (Ok count) out = GivesPiece head given count now before after out
GivesBody head given now before after (Err (fault.Truncated have want)) out =
    EndsInBody head given have want before × (now ≡ given)
GivesBody head given now before after (Err fault.ReadFault) out =
    Keeps (body_ahead given head before) (body_ahead now head after) × (now ≡ given)
GivesBody head given now before after (Err fault.BadHead) out = ⊥
GivesBody head given now before after (Err fault.NoLength) out = ⊥
GivesBody head given now before after (Err (fault.TooLarge limit)) out = ⊥
GivesBody head given now before after (Err fault.Memory) out = ⊥

-- the bytes of a body that was read, or why it was not
abbrev pub bytes_of : Result (Vec ℕ) HttpFault → Result (List ℕ) HttpFault
bytes_of (Ok body) = Ok body.items
bytes_of (Err e) = Err e

-- what a body of so many announced bytes is read as, where the source tells which of them come
abbrev pub ReadsBody : ℕ → Option (List ℕ) → Result (List ℕ) HttpFault → Type 0
ReadsBody count None result = Unit {0}
ReadsBody count (Some bytes) (Ok body) = (body ≡ bytes) × (length bytes ≡ count)
ReadsBody count (Some bytes) (Err (fault.Truncated have want)) = (have ≡ length bytes) × (want ≡ count) × (have < want)
ReadsBody count (Some bytes) (Err fault.ReadFault) = Unit {0}
ReadsBody count (Some bytes) (Err fault.Memory) = Unit {0}
ReadsBody count (Some bytes) (Err fault.BadHead) = ⊥
ReadsBody count (Some bytes) (Err fault.NoLength) = ⊥
ReadsBody count (Some bytes) (Err (fault.TooLarge limit)) = ⊥

-- a request that was read
pub record ReadRequest : Type 0 where
  pub method : Method2
  pub path : List ℕ
  pub body : List ℕ

-- the request that was read, or why it was not
abbrev pub request_of : Result Request HttpFault → Result ReadRequest HttpFault
request_of (Ok read) = Ok (record { method = read.method; path = read.path; body = read.body.items })
request_of (Err e) = Err e

-- the request that a head and a body are, or why the body was not read
abbrev pub request_with : Head → Result (List ℕ) HttpFault → Result ReadRequest HttpFault
request_with head (Ok body) = Ok (record { method = head.method; path = head.path; body = body })
request_with head (Err e) = Err e

-- the request is this head and so much of the rest as the head announces
pub record IsRequestAs (bytes : List ℕ) (read : ReadRequest) (head : RequestHead) (rest : List ℕ) : Type 0 where
  pub at : IsHeadAt bytes head rest
  pub method : read.method ≡ method_of head.method
  pub path : read.path ≡ head.target
  pub announced : length_after head ≡ Ok (length read.body)
  pub body : read.body ≡ take (length read.body) rest

-- what reading a request answers over these bytes
abbrev pub TellsRequest : List ℕ → Result ReadRequest HttpFault → Type 0
TellsRequest bytes (Ok read) = (head : RequestHead) × (rest : List ℕ) × IsRequestAs bytes read head rest
TellsRequest bytes (Err fault.BadHead) = HasNoGoodHead bytes
TellsRequest bytes (Err fault.NoLength) = HasRefusedHead bytes fault.NoLength
TellsRequest bytes (Err (fault.TooLarge limit)) = HasRefusedHead bytes (fault.TooLarge limit)
TellsRequest bytes (Err (fault.Truncated have want)) =
    (head : RequestHead) × (rest : List ℕ) × IsHeadAt bytes head rest × (length_after head ≡ Ok want)
    × (have ≡ length rest) × (have < want)
TellsRequest bytes (Err fault.ReadFault) = Unit {0}
TellsRequest bytes (Err fault.Memory) = Unit {0}

-- the same, where the source tells
abbrev pub ReadsWhole : Option (List ℕ) → Result ReadRequest HttpFault → Type 0
ReadsWhole None result = Unit {0}
ReadsWhole (Some bytes) result = TellsRequest bytes result

-- a piece of what was read with the head
pub record GivesEarly (head : Head) (given room count : ℕ) (out : List ℕ) : Type 0 where
  pub bytes : take count out ≡ take count (drop given head.early.items)
  pub some : 0 < count
  pub within : count ≤ room
  pub short : given + count ≤ length head.early.items
