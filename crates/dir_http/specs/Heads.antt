-- The head of a request, and how many bytes of body it announces.
use Rattle.std.specs.Prelude.{ℕ, ◌≤◌, nat_le, List, [], ◌∷◌, length, map, filter, codes, if◌then◌else◌, Bool, ◌&&◌, not}
use Rattle.std.specs.{Prelude.{Option, Some, None, Result, Ok, Err}, Str.{bytes_eq, str_eq_ignore_ascii_case}}
use Rattle.httparse.specs.{Grammar.{RequestHead, ReadsRequest, print_request}, Spans.name_and_value}
use Rattle.dir_bytes.specs.Fields.{number}
use Rattle.dir_http.specs.declared.{fault.HttpFault.HttpFault, length.{Method2.Method2, Announcement.Announcement}}
use Rattle.dir_http.specs.declared.fault.HttpFault.TheVariants as fault
use Rattle.dir_http.specs.declared.length.Method2.TheVariants as method
use Rattle.dir_http.specs.declared.length.Announcement.TheVariants as says

-- the most bytes that a head may have
abbrev pub head_limit : ℕ
head_limit = 16384

-- the most fields that a head may have
abbrev pub field_limit : ℕ
field_limit = 64

-- the method that a word names
unfoldable pub method_of : List ℕ → Method2
method_of word =
    if bytes_eq word (codes "GET") then method.Get
    else if bytes_eq word (codes "POST") then method.Post
    else method.Other

-- the most bytes that the body of a POST to a path may have
unfoldable pub path_limit : List ℕ → ℕ
path_limit path =
    if bytes_eq path (codes "/tor/post/vote") then 16777216
    else if bytes_eq path (codes "/tor/post/consensus-signature") then 1048576
    else 65536

-- whether a field's name is `Content-Length`, in letters of either case
unfoldable pub is_length_name : List ℕ → Bool
is_length_name name = str_eq_ignore_ascii_case name (codes "content-length")

-- the values of the fields with that name
unfoldable pub length_values : List (List ℕ × List ℕ) → List (List ℕ)
length_values fields = map (λ field. field.1) (filter (λ field. is_length_name field.0) fields)

-- what the number that a value spells announces, if it spells one
abbrev pub announcement_by : Option ℕ → Announcement
announcement_by None = says.Unclear
announcement_by (Some count) = says.Bytes count

-- what the values of `Content-Length` announce: nothing where there is none, and a number where there is one
abbrev pub announcement : List (List ℕ) → Announcement
announcement [] = says.Nothing
announcement (value ∷ []) = announcement_by (number 18446744073709551615 value)
announcement (value ∷ other ∷ more) = says.Unclear

-- whether a field says that the body is coded, as one that is compressed is (dir-spec, "HTTP headers")
unfoldable pub is_coding : List ℕ × List ℕ → Bool
is_coding field =
    str_eq_ignore_ascii_case field.0 (codes "content-encoding")
    && not (str_eq_ignore_ascii_case field.1 (codes "identity"))

-- how many bytes of body a request has by its method, its path and what is announced, or why it is refused: only a POST
-- has a body
unfoldable pub body_length : Method2 → List ℕ → Announcement → Result ℕ HttpFault
body_length asked path says.Unclear = Err fault.BadHead
body_length method.Post path says.Nothing = Err fault.NoLength
body_length method.Post path (says.Bytes count) =
    if nat_le count (path_limit path) then Ok count else Err (fault.TooLarge (path_limit path))
body_length method.Get path says.Nothing = Ok 0
body_length method.Get path (says.Bytes count) = Ok 0
body_length method.Other path says.Nothing = Ok 0
body_length method.Other path (says.Bytes count) = Ok 0

-- what a head alone may be refused for
abbrev pub IsOfHead : HttpFault → Type 0
IsOfHead fault.BadHead = Unit {0}
IsOfHead fault.NoLength = Unit {0}
IsOfHead (fault.TooLarge limit) = Unit {0}
IsOfHead (fault.Truncated have want) = ⊥
IsOfHead fault.ReadFault = ⊥
IsOfHead fault.Memory = ⊥

-- how many bytes of body follow a head, or why it is refused
abbrev pub length_after : RequestHead → Result ℕ HttpFault
length_after head =
    body_length (method_of head.method) head.target (announcement (length_values (map name_and_value head.fields)))

-- a head of at most so many bytes and fields stands at the front, and then the rest
pub record IsHeadAt (bytes : List ℕ) (head : RequestHead) (rest : List ℕ) : Type 0 where
  pub reads : ReadsRequest bytes head rest
  pub size : length (print_request head) ≤ head_limit
  pub fields : length head.fields ≤ field_limit
