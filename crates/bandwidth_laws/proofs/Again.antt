-- A bandwidth file that was written is read again.
use Rattle.std.proofs.Common.{◌≡◌, ℕ, Bool, true, false, List, [], ◌∷◌, ◌++◌, length, Some, None, refl, sym, ap, ◌∙◌}
use Rattle.std.proofs.{Common.{subst, arith, append_assoc, append-nil, if◌then◌else◌}, lemmas.Bool.and_parts}
use Rattle.std.proofs.lemmas.{Bool.{false≢true, not-true}, Fmt.length-decimal-le, List.Elements.All-weaker}
use Rattle.std.specs.{Prelude.{◌<◌, ◌^◌, ◌==◌, ◌&&◌, not, map, codes, decimal, is_none, slice_get}, List.filter}
use Rattle.std.specs.{List.{flat_map, list_all}, Option.option_or}
use Rattle.item_terms.specs.{Lines.{Line, lines}, Words.{is_blank, is_blank_line}}
use Rattle.dir_bytes.proofs.ReadAgain.{number-decimal}
use Rattle.dir_values.specs.declared.digest.Fingerprint.{Fingerprint}
use Rattle.dirdoc_grammar.specs.Writers.{is_argument, is_argument_byte}
use Rattle.frame_laws.proofs.{WordTexts.all_three, Words.word_of_number}
use Rattle.bandwidth_file.specs.declared.{file.{BandFile.BandFile, Header.Header}, refusal.BandFault.BandFault}
use Rattle.bandwidth_file.specs.{declared.said.Row.Row, Lines.{at, place_of}, Files.{end_fault, is_filled, time_said}}
use Rattle.bandwidth_file.specs.{Relays.last_bandwidth, Texts.{header_text, relay_text, text_of}}
use Rattle.bandwidth_file.specs.declared.refusal.BandReason.TheVariants as reason
use Rattle.bandwidth_file.specs.declared.said.Said.TheVariants as said
use Rattle.bandwidth_file.specs.declared.section.Section.TheVariants as section
use Rattle.bandwidth_laws.specs.Again.{FilesAreReadAgain, IsInRange, IsRelayInRange, StandsInHeader, is_line_byte}
use Rattle.bandwidth_laws.{specs.Again.line_text, proofs.{HeaderLines.{header_line_is, headers_say}, LastRows.last_is}}
use Rattle.bandwidth_laws.proofs.RelayLines.{line_bytes, line_of, relay_bytes, relay_line_is, relays_say, row_of}
use Rattle.bandwidth_laws.proofs.{Saying.{Says, says_one, whole}, WrittenLines.{line_each, one_line}}

-- ---- the lines of the text

abbrev header_lines : List Header → List Line
header_lines headers = map (λ header. whole (line_text header)) headers

abbrev relay_lines : List (Fingerprint × ℕ) → List Line
relay_lines relays = map (λ relay. whole (line_of relay)) relays

-- the line between
abbrev separator : List ℕ
separator = codes "====="

-- all of them
abbrev written : BandFile → List Line
written file = whole (decimal file.timestamp) ∷ header_lines file.headers ++ whole separator ∷ relay_lines file.relays

lines_are : (file : BandFile) → IsInRange file → lines (text_of file) ≡ written file
lines_are file is =
    let time = decimal file.timestamp in
    let headers = flat_map header_text file.headers in
    let relays = flat_map relay_text file.relays in
    let rest = headers ++ (codes "=====\n" ++ relays) in
    let behind : lines (codes "=====\n" ++ relays) ≡ whole separator ∷ relay_lines file.relays =
    one_line separator relays refl
    ∙ ap (λ (l : List ℕ). whole separator ∷ lines l) (sym (append-nil relays))
    ∙ ap (λ (l : List Line). whole separator ∷ l) (line_each relay_text line_of relay_line_is file.relays []
    (All-weaker IsRelayInRange (λ relay. list_all is_line_byte (line_of relay) ≡ true) relay_bytes file.relays
    is.relays))
    ∙ ap (λ (l : List Line). whole separator ∷ l) (append-nil (relay_lines file.relays)) in
    let next : lines rest ≡ header_lines file.headers ++ whole separator ∷ relay_lines file.relays =
    line_each header_text line_text header_line_is file.headers (codes "=====\n" ++ relays)
    (All-weaker StandsInHeader (λ header. list_all is_line_byte (line_text header) ≡ true)
    (λ header stands. stands.bytes) file.headers is.headers)
    ∙ ap (λ (l : List Line). header_lines file.headers ++ l) behind in
    ap lines
    (append_assoc ((time ++ 10 ∷ []) ++ headers) (codes "=====\n") relays
    ∙ append_assoc (time ++ 10 ∷ []) headers (codes "=====\n" ++ relays)
    ∙ append_assoc time (10 ∷ []) rest)
    ∙ one_line time rest (line_bytes time (word_of_number file.timestamp))
    ∙ ap (λ (l : List Line). whole time ∷ l) next

-- ---- what they say

-- an argument is not blank
word_not_blank : (word : List ℕ) → is_argument word ≡ true → is_blank_line word ≡ false
word_not_blank [] is = absurd (false≢true is)
word_not_blank (b ∷ word) is =
    let first = (and_parts (is_argument_byte b) (list_all is_argument_byte word) is).0 in
    ap (λ (t : Bool). t && list_all is_blank word)
    (not-true (is_blank b) (all_three (not (is_blank b)) (not (b == 10)) (not (b == 0)) first).0)

says_time : (time : ℕ) → time < 2 ^ 64 → Says (whole (decimal time) ∷ []) section.Headers (time ∷ []) [] []
says_time time fits =
    let word = word_of_number time in
    says_one [] (decimal time) (said.Time time) section.Time [] [] [] section.Headers (time ∷ []) [] []
    (record { sound = refl; behind = refl; times = refl; headers = refl; rows = refl })
    (word_not_blank (decimal time) word) (line_bytes (decimal time) word)
    (let digits = length-decimal-le 20 time (omega arith) (omega (arith, fits)) fits in omega (arith, digits))
    (ap (time_said 0) (number-decimal 18446744073709551615 time (omega (arith, fits)) fits)) refl refl refl refl refl

all_say : (file : BandFile) → IsInRange file
    → Says (written file) section.Relays (file.timestamp ∷ []) file.headers (map row_of file.relays)
all_say file is =
    let first = whole (decimal file.timestamp) ∷ [] in
    let before = first ++ header_lines file.headers in
    let times = file.timestamp ∷ [] in
    let headers = headers_say first times [] file.headers is.headers (says_time file.timestamp is.timestamp) in
    let five : length separator ≡ 5 = refl in
    let ended = says_one before separator said.Nothing section.Headers times file.headers [] section.Relays times
    file.headers [] headers refl refl (omega (arith, five)) refl refl refl refl (append-nil file.headers) refl in
    subst (λ (l : List Line). Says l section.Relays (file.timestamp ∷ []) file.headers (map row_of file.relays))
    (append_assoc before (whole separator ∷ []) (relay_lines file.relays)
    ∙ append_assoc first (header_lines file.headers) (whole separator ∷ relay_lines file.relays))
    (relays_say (before ++ whole separator ∷ []) (file.timestamp ∷ []) file.headers [] file.relays is.relays
    (omega (arith, is.count)) ended)

-- ---- the file

-- there is a line
some_line : (time : ℕ) (more : List Line) → end_fault (whole (decimal time) ∷ more) ≡ None
some_line time more =
    let place = place_of (whole (decimal time) ∷ more) in
    let rest = filter is_filled more in
    ap (λ (b : Bool). if is_none (slice_get (if not b then whole (decimal time) ∷ rest else rest) 0)
    then Some (at place reason.Timestamp) else None)
    (word_not_blank (decimal time) (word_of_number time))

pub files_again : FilesAreReadAgain
files_again file is =
    let same = sym (lines_are file is) in
    let says = all_say file is in
    let more = header_lines file.headers ++ whole separator ∷ relay_lines file.relays in
    let all =
    subst (λ (l : List Line). Says l section.Relays (file.timestamp ∷ []) file.headers (map row_of file.relays)) same
    says in
    record {
      sound = ap (λ (l : List BandFault). option_or (slice_get l 0) (end_fault (lines (text_of file)))) all.sound
          ∙ ap end_fault (sym same) ∙ some_line file.timestamp more;
      timestamp = all.times;
      headers = sym all.headers;
      ascending = is.ascending;
      relays = λ identity. last_is file.relays identity is.ascending
          ∙ ap (λ (rows : List Row). last_bandwidth rows identity) (sym all.rows);
    }
