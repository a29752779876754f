-- What stands at the front of some bytes.
use Rattle.std.specs.{Prelude.{◌≡◌, ℕ, ◌≤◌, List, length, drop, map}, List.list_any}
use Rattle.httparse.specs.Grammar.{RequestHead, ReadsRequest, HasNoRequest, print_request, ResponseHead, ReadsResponse}
use Rattle.httparse.specs.{Grammar.{print_response, status_code}, Spans.{IsWithin, RequestOverflows, span_bytes}}
use Rattle.httparse.specs.Spans.{name_and_value}
use Rattle.dir_http.specs.declared.{front.{Parts.Parts, Front.Front}, answer_front.AnswerParts.AnswerParts}
use Rattle.dir_http.specs.{declared.answer_front.AnswerFront.AnswerFront, Heads.{field_limit, method_of, announcement}}
use Rattle.dir_http.specs.Heads.{length_values, is_coding}
use Rattle.dir_http.specs.declared.front.Front.TheVariants as front
use Rattle.dir_http.specs.declared.answer_front.AnswerFront.TheVariants as answer

-- the parts are those of this head, which stands at the front
pub record ArePartsOf (bytes : List ℕ) (parts : Parts) (head : RequestHead) : Type 0 where
  pub reads : ReadsRequest bytes head (drop parts.len bytes)
  pub len : parts.len ≡ length (print_request head)
  pub fields : length head.fields ≤ field_limit
  pub method : parts.method ≡ method_of head.method
  pub path : span_bytes bytes parts.path ≡ head.target
  pub announcement : parts.announcement ≡ announcement (length_values (map name_and_value head.fields))

-- the parts lie in the bytes
pub record IsPartsWithin (bytes : List ℕ) (parts : Parts) : Type 0 where
  pub path : IsWithin (length bytes) parts.path
  pub len : parts.len ≤ length bytes

-- what stands at the front, with room for so many fields
abbrev pub TellsFront : List ℕ → Front → Type 0
TellsFront bytes (front.Whole parts) = IsPartsWithin bytes parts × ((head : RequestHead) × ArePartsOf bytes parts head)
TellsFront bytes front.Never = RequestOverflows field_limit bytes
TellsFront bytes front.Open = HasNoRequest bytes

-- the parts are those of this head of a response, which stands at the front
pub record AreAnswerPartsOf (bytes : List ℕ) (parts : AnswerParts) (head : ResponseHead) : Type 0 where
  pub reads : ReadsResponse bytes head (drop parts.len bytes)
  pub len : parts.len ≡ length (print_response head)
  pub fields : length head.fields ≤ field_limit
  pub code : parts.code ≡ status_code head
  pub coded : parts.coded ≡ list_any is_coding (map name_and_value head.fields)
  pub announcement : parts.announcement ≡ announcement (length_values (map name_and_value head.fields))

-- the head of a response at the front, or none with so few fields
abbrev pub TellsAnswer : List ℕ → AnswerFront → Type 0
TellsAnswer bytes (answer.Whole parts) =
    (parts.len ≤ length bytes) × ((head : ResponseHead) × AreAnswerPartsOf bytes parts head)
TellsAnswer bytes answer.No =
    (head : ResponseHead) (rest : List ℕ) → ReadsResponse bytes head rest → ¬ (length head.fields ≤ field_limit)
