-- What a link answers to an exchange, and what is made of it.
use Rattle.std.specs.Prelude.{◌≡◌, ◌⊎◌, ℕ, ◌≤◌, ◌<◌, List, length, Option, Some, None, Result, Ok, Err, vec_len}
use Rattle.dir_bytes.specs.Causes.{Rose}
use Rattle.dir_http.specs.declared.{link.LinkAnswer.LinkAnswer, fetching.FetchFault.FetchFault}
use Rattle.dir_http.specs.{declared.response.Response.Response, Responses.{ReadsAnswer, IsNoResponse}}
use Rattle.dir_http.specs.declared.link.LinkAnswer.TheVariants as link
use Rattle.dir_http.specs.declared.fetching.FetchFault.TheVariants as fault

-- what is got has at most so many bytes
abbrev pub GotWithin : ℕ → LinkAnswer → Type 0
GotWithin limit (link.Got bytes) = vec_len bytes ≤ limit
GotWithin limit link.TooLong = Unit {0}
GotWithin limit link.Fault = Unit {0}
GotWithin limit link.Memory = Unit {0}

-- what is got is what the peer sends, and it is too long only where that has more bytes
abbrev pub TellsSent : Option (List ℕ) → ℕ → LinkAnswer → Type 0
TellsSent None limit answer = Unit {0}
TellsSent (Some sent) limit (link.Got bytes) = bytes.items ≡ sent
TellsSent (Some sent) limit link.TooLong = limit < length sent
TellsSent (Some sent) limit link.Fault = Unit {0}
TellsSent (Some sent) limit link.Memory = Unit {0}

-- the count of faults rose where the link failed, and else is as it was
abbrev pub CountsExchanges : ℕ → ℕ → LinkAnswer → Type 0
CountsExchanges before now (link.Got bytes) = now ≡ before
CountsExchanges before now link.TooLong = now ≡ before
CountsExchanges before now link.Fault = Rose before now × (before ≤ now)
CountsExchanges before now link.Memory = now ≡ before

-- what the bytes that a link gave are read as
abbrev pub ReadsGiven : List ℕ → Result Response FetchFault → Type 0
ReadsGiven bytes (Ok response) = ReadsAnswer bytes response
ReadsGiven bytes (Err fault.BadAnswer) = IsNoResponse bytes
ReadsGiven bytes (Err fault.Memory) = Unit {0}
ReadsGiven bytes (Err fault.LinkFault) = ⊥
ReadsGiven bytes (Err fault.TooLarge) = ⊥

-- what is made of a link's answer
abbrev pub MakesOf : LinkAnswer → Result Response FetchFault → Type 0
MakesOf (link.Got bytes) result = ReadsGiven bytes.items result
MakesOf link.TooLong result = result ≡ Err fault.TooLarge
MakesOf link.Fault result = result ≡ Err fault.LinkFault
MakesOf link.Memory result = result ≡ Err fault.Memory

-- one exchange was made, and this is made of its answer; or none was, for want of memory
abbrev pub AsksOnce : Type 0 → (LinkAnswer → Type 0) → Result Response FetchFault → Type 0
AsksOnce Unasked Steps result =
    ((answer : LinkAnswer) × Steps answer × MakesOf answer result) ⊎ (Unasked × (result ≡ Err fault.Memory))

-- what is read of what the peer sends, where the link tells it
abbrev pub ReadsSent : Option (List ℕ) → ℕ → Result Response FetchFault → Type 0
ReadsSent None limit result = Unit {0}
ReadsSent (Some sent) limit (Ok response) = (length sent ≤ limit) × ReadsAnswer sent response
ReadsSent (Some sent) limit (Err fault.TooLarge) = limit < length sent
ReadsSent (Some sent) limit (Err fault.BadAnswer) = (length sent ≤ limit) × IsNoResponse sent
ReadsSent (Some sent) limit (Err fault.LinkFault) = Unit {0}
ReadsSent (Some sent) limit (Err fault.Memory) = Unit {0}
