-- Header lines that were written.
use Rattle.std.proofs.Common.{◌≡◌, ℕ, Bool, true, false, List, [], ◌∷◌, ◌++◌, refl, sym, ap, ap₂, ◌∙◌, append_assoc}
use Rattle.std.proofs.{Common.{append-nil, subst, if◌then◌else◌}, lemmas.{Bool.false≢true, List.Elements.All-cons}}
use Rattle.std.{proofs.lemmas.List.Elements.{All-head, All-nil, All-tail}, specs.Prelude.{map, All, ◌==◌, ◌&&◌, ◌||◌}}
use Rattle.std.specs.List.{list_any}
use Rattle.item_terms.specs.{Lines.Line, Words.{is_blank, is_blank_line}}
use Rattle.value_laws.proofs.Marks.{behind_again, front_again, mark_is_there}
use Rattle.bandwidth_file.specs.{declared.file.Header.Header, Lines.{at, place_of}, Relays.relay_line}
use Rattle.bandwidth_file.specs.Files.{filled_line, header_of, header_said, is_separator, names_relay}
use Rattle.bandwidth_file.specs.Texts.{header_text}
use Rattle.bandwidth_file.specs.declared.refusal.BandReason.TheVariants as reason
use Rattle.bandwidth_file.specs.declared.said.Said.TheVariants as said
use Rattle.bandwidth_file.specs.declared.section.Section.TheVariants as section
use Rattle.bandwidth_laws.{specs.Again.{StandsInHeader, line_text}, proofs.Saying.{Says, says_one, whole}}

-- neither test passes
pub neither : (a b : Bool) → (a || b) ≡ false → (a ≡ false) × (b ≡ false)
neither true b is = absurd (false≢true (sym is))
neither false b is = (refl, is)

-- its line and an NL are its text
pub header_line_is : (header : Header) → header_text header ≡ line_text header ++ 10 ∷ []
header_line_is header = ap (λ (l : List ℕ). l ++ 10 ∷ []) (append_assoc header.key (61 ∷ []) header.value)

-- a line with a `=` is not blank
not_blank : (key value : List ℕ) → is_blank_line (key ++ 61 ∷ value) ≡ false
not_blank [] value = refl
not_blank (b ∷ key) value =
    ap (λ (t : Bool). is_blank b && t) (not_blank key value) ∙ elim (is_blank b) as (λ t. (t && false) ≡ false) [
      | true ↦ refl
      | false ↦ refl
    ]

-- no byte passes
none_passes : (p : ℕ → Bool) (text : List ℕ) → list_any p text ≡ false → All (λ b. p b ≡ false) text
none_passes p [] none = All-nil (λ b. p b ≡ false)
none_passes p (b ∷ text) none =
    let parts = neither (p b) (list_any p text) none in
    All-cons (λ b. p b ≡ false) b text parts.0 (none_passes p text parts.1)

abbrev header_with : List ℕ → List ℕ → Header
header_with key value = record { key = key; value = value }

-- what stands before and behind the `=`
header_again : (header : Header) → StandsInHeader header → header_of (line_text header) ≡ header
header_again header stands =
    let lacks = none_passes (λ byte. byte == 61) header.key stands.key in
    ap₂ header_with (front_again 61 header.key header.value lacks)
    (behind_again 61 header.key header.value lacks)

-- it says a header
says_header : (header : Header) (place : ℕ) → StandsInHeader header
    → filled_line section.Headers place (line_text header) ≡ said.Header
says_header header place stands =
    let text = line_text header in
    let none = neither (is_separator text) (names_relay text) stands.goes_on in
    ap₂ (λ (a b : Bool). if a then said.Nothing else if b then relay_line place text else header_said place text)
    none.0 none.1
    ∙ ap (λ (t : Bool). if t then said.Header else said.Wrong (at place reason.Header))
    (mark_is_there 61 header.key header.value)

-- header lines say their headers
pub headers_say : (before : List Line) (t : List ℕ) (h more : List Header) → All StandsInHeader more
    → Says before section.Headers t h []
    → Says (before ++ map (λ header. whole (line_text header)) more) section.Headers t (h ++ more) []
headers_say before t h [] each says =
    subst (λ (l : List Line). Says l section.Headers t (h ++ []) []) (sym (append-nil before))
    (subst (λ (l : List Header). Says before section.Headers t l []) (sym (append-nil h)) says)
headers_say before t h (header ∷ more) each says =
    let stands = All-head StandsInHeader header more each in
    let text = line_text header in
    let here = h ++ header ∷ [] in
    let one = says_one before text said.Header section.Headers t h [] section.Headers t here [] says
    (not_blank header.key header.value) stands.bytes stands.within (says_header header (place_of before) stands) refl
    (ap (λ (b : Bool). if b then section.Relays else section.Headers) stands.goes_on) (append-nil t)
    (ap (λ (x : Header). h ++ x ∷ []) (header_again header stands)) refl in
    let lines = map (λ other. whole (line_text other)) more in
    subst (λ (l : List Line). Says l section.Headers t (h ++ header ∷ more) [])
    (append_assoc before (whole text ∷ []) lines)
    (subst (λ (l : List Header). Says ((before ++ whole text ∷ []) ++ lines) section.Headers t l [])
    (append_assoc h (header ∷ []) more)
    (headers_say (before ++ whole text ∷ []) t here more (All-tail StandsInHeader header more each) one))
