-- The texts of responses and requests, and what a whole response is.
use Rattle.std.specs.Prelude.{◌≡◌, ℕ, ◌≤◌, ◌<◌, ◌==◌, List, [], ◌∷◌, ◌++◌, length, take, drop, map, codes, decimal}
use Rattle.std.specs.{Prelude.{unwrap_or, Bool, false, Option, Some, None, Result, Ok, Err}, List.list_any}
use Rattle.std.specs.Io.KnownBytes.{Appends, Keeps}
use Rattle.http.specs.StatusCode.{reason_phrase}
use Rattle.httparse.specs.{Ascii.{carriage_return, line_feed}, Grammar.{ResponseHead, ReadsResponse, print_response}}
use Rattle.httparse.specs.{Grammar.status_code, Spans.name_and_value}
use Rattle.dir_bytes.specs.Causes.{Rose}
use Rattle.dir_http.specs.declared.{length.Announcement.Announcement, response.Response.Response}
use Rattle.dir_http.specs.declared.{response.WriteRefusal.WriteRefusal, answer_front.AnswerParts.AnswerParts}
use Rattle.dir_http.specs.Heads.{head_limit, field_limit, announcement, length_values, is_coding}
use Rattle.dir_http.specs.declared.length.Announcement.TheVariants as says
use Rattle.dir_http.specs.declared.response.WriteRefusal.TheVariants as refusal

-- the end of a line
abbrev pub line_end : List ℕ
line_end = carriage_return ∷ line_feed ∷ []

-- whether a response may have this code
abbrev pub is_code : ℕ → Bool
is_code code = list_any (λ other. other == code) (200 ∷ 400 ∷ 404 ∷ 405 ∷ 411 ∷ 413 ∷ 500 ∷ 503 ∷ [])

-- the phrase of a code
abbrev pub phrase_of : ℕ → List ℕ
phrase_of code = unwrap_or (reason_phrase code) []

-- the first line of a response
unfoldable pub status_line : ℕ → List ℕ
status_line code = codes "HTTP/1.0 " ++ decimal code ++ codes " " ++ phrase_of code ++ line_end

-- the fields that tell of so many bytes of body
unfoldable pub body_fields : ℕ → List ℕ
body_fields count =
    codes "Content-Type: text/plain" ++ line_end ++ codes "Content-Length: " ++ decimal count ++ line_end

-- the head of a response with so many bytes of body
unfoldable pub head_text : ℕ → ℕ → List ℕ
head_text code count = status_line code ++ body_fields count ++ codes "Connection: close" ++ line_end ++ line_end

-- a response
abbrev pub response_text : ℕ → List ℕ → List ℕ
response_text code body = head_text code (length body) ++ body

-- the text was written whole, or a front of it and the count rose, or nothing where there was no memory
abbrev pub WritesResponse : Option (List ℕ) → Option (List ℕ) → ℕ → ℕ → List ℕ → {A : Type 0} → Result A WriteRefusal
    → Type 0
WritesResponse old new before now text (Ok done) = Appends old new text × (now ≡ before)
WritesResponse old new before now text (Err (refusal.WriteFault sent)) =
    Appends old new (take sent text) × (sent < length text) × Rose before now × (before ≤ now)
WritesResponse old new before now text (Err refusal.Memory) = Keeps old new × (now ≡ before)

-- the request for a path
unfoldable pub get_text : List ℕ → List ℕ
get_text path = codes "GET " ++ path ++ codes " HTTP/1.0" ++ line_end ++ line_end

-- the request that brings a body to a path
unfoldable pub post_text : List ℕ → List ℕ → List ℕ
post_text path body =
    codes "POST " ++ path ++ codes " HTTP/1.0" ++ line_end
    ++ codes "Content-Length: " ++ decimal (length body) ++ line_end ++ line_end ++ body

-- so many bytes are what the head announces, where it announces a number
abbrev pub FitsLength : Announcement → ℕ → Type 0
FitsLength says.Nothing count = Unit {0}
FitsLength (says.Bytes said) count = said ≡ count
FitsLength says.Unclear count = ⊥

-- the bytes are a head of at most so many bytes and fields, and then a body, not coded, of the length that it announces
pub record IsWholeAs (bytes : List ℕ) (head : ResponseHead) (body : List ℕ) : Type 0 where
  pub reads : ReadsResponse bytes head body
  pub size : length (print_response head) ≤ head_limit
  pub fields : length head.fields ≤ field_limit
  pub fits : FitsLength (announcement (length_values (map name_and_value head.fields))) (length body)
  pub plain : list_any is_coding (map name_and_value head.fields) ≡ false

-- the bytes are a whole response of this code and body
abbrev pub IsWholeResponse : List ℕ → ℕ → List ℕ → Type 0
IsWholeResponse bytes code body = (head : ResponseHead) × IsWholeAs bytes head body × (code ≡ status_code head)

-- the bytes are no whole response
abbrev pub IsNoResponse : List ℕ → Type 0
IsNoResponse bytes = (head : ResponseHead) (body : List ℕ) → ¬ (IsWholeAs bytes head body)

-- the bytes are a whole response, or none
abbrev pub TellsWhole : List ℕ → Option AnswerParts → Type 0
TellsWhole bytes None = IsNoResponse bytes
TellsWhole bytes (Some parts) =
    (parts.len ≤ length bytes) × IsWholeResponse bytes parts.code (drop parts.len bytes)

-- what the bytes are read as
abbrev pub ReadsAnswer : List ℕ → Response → Type 0
ReadsAnswer bytes response = IsWholeResponse bytes response.code response.body.items
