-- What an item says that was written and is read again: the value that it was written for.
use Rattle.std.proofs.Common.{◌≡◌, ℕ, ◌+◌, ◌*◌, ◌/◌, ◌%◌, ◌<◌, ◌≤◌, true, List, [], ◌∷◌, ◌++◌, length, Some, Ok, refl}
use Rattle.std.{proofs.Common.{ap, subst, ◌∙◌, arith}, specs.{Prelude.{option_map, slice_get}, Str.bytes_eq}}
use Rattle.base64.specs.GeneralPurpose.{IsBytes}
use Rattle.item_terms.specs.{Items.Item, Words.argument_start}
use Rattle.dir_bytes.specs.{Causes.last_moment, FieldTexts.{clock_text, date_text, hex_text, moment_text}, Fields.date}
use Rattle.dir_bytes.{specs.Fields.{hex, time_of_day}, proofs.ReadAgain.{date-date_text, hex-hex_text}}
use Rattle.dir_bytes.proofs.ReadAgain.{time_of_day-clock_text}
use Rattle.dir_values.specs.{declared.digest.{Digest1.Digest1, Fingerprint.Fingerprint}, Arguments.Argument}
use Rattle.dir_values.specs.Digests.{fingerprint, key_digest}
use Rattle.dirdoc_grammar.specs.{Bodies.{begin_line, body_text}, Writers.is_argument, Writing.{tail, written}}
use Rattle.frame_terms.specs.{Keywords.text_of, declared.keyword.Keyword.Keyword}
use Rattle.frame_values.specs.{Arguments.arguments_of, Fields.{is_there, span, span_of}, Lines.argument_of}
use Rattle.frame_values.specs.{Lines.{fingerprint_of, literal, time_of}, Signatures.is_space, declared.found.Span.Span}
use Rattle.frame_values.specs.{Items.{bare, moment_item}, Parts.moment_of}
use Rattle.frame_laws.proofs.Words.{arguments_of_word, arguments_of_words, two_words, word_of_clock, word_of_date}
use Rattle.frame_laws.proofs.Words.{word_of_identity}

-- ---- places

-- where the rest of a line begins that was written at a place
abbrev pub start_of : ℕ → Keyword → List ℕ → ℕ
start_of place keyword rest = argument_start place (text_of keyword ++ tail rest)

-- where that rest stands
abbrev pub rest_at : ℕ → Keyword → List ℕ → Span
rest_at place keyword rest = span (start_of place keyword rest) rest

-- where the lines of an object stand that was written with its item at a place: the item's rest, the object's words
-- and its bytes
abbrev pub lines_at : ℕ → Keyword → List ℕ → List ℕ → List ℕ → Span
lines_at place keyword rest words bytes =
    span (place + (length (text_of keyword ++ tail rest) + 1) + (length (begin_line words) + 1)) (body_text bytes)

-- a line that goes on after its keyword goes on with a space
pub space_first : (rest : List ℕ) → 0 < length rest → is_space (slice_get (tail rest) 0) ≡ true
space_first [] some = absurd (omega arith)
space_first (b ∷ rest) some = refl

-- ---- items whose arguments are known

literal_is : (wanted : List ℕ) (item : Item) (start : ℕ) (text : List ℕ)
    → arguments_of item ≡ record { place = start; text = text } ∷ []
    → bytes_eq text wanted ≡ true → literal wanted item ≡ Ok tt
literal_is wanted item start text args is = rw (args, is) refl

pub word_is_there : (word : List ℕ) → is_argument word ≡ true → is_there word ≡ true
word_is_there [] is = is
word_is_there (b ∷ word) is = refl

argument_is : (item : Item) (a : Argument) → arguments_of item ≡ a ∷ [] → is_there a.text ≡ true
    → argument_of item ≡ Ok (span_of a)
argument_is item a args is = rw (args, is) refl

fingerprint_is : (item : Item) (a : Argument) (identity : Fingerprint) → arguments_of item ≡ a ∷ []
    → fingerprint a.text ≡ Some identity
    → fingerprint_of item ≡ Ok identity
fingerprint_is item a identity args is = rw (args, is) refl

time_is : (item : Item) (a b : Argument) (days seconds : ℕ) → arguments_of item ≡ a ∷ b ∷ [] → date a.text ≡ Some days
    → time_of_day b.text ≡ Some seconds → time_of item ≡ Ok (86400 * days + seconds)
time_is item a b days seconds args day second = rw (args, day, second) refl

-- ---- identities and digests

-- the hex digits of an identity are read as that identity
pub identity_again : (identity : Fingerprint) → length identity.0 ≡ 20 → IsBytes identity.0
    → fingerprint (hex_text identity.0) ≡ Some identity
identity_again identity twenty bytes =
    ap (option_map (λ bytes. record { 0 = bytes }))
    (subst (λ (n : ℕ). hex n (hex_text identity.0) ≡ Some identity.0) twenty (hex-hex_text identity.0 bytes))

-- and those of a key's digest
pub key_again : (key : Digest1) → length key.0 ≡ 20 → IsBytes key.0 → key_digest (hex_text key.0) ≡ Some key
key_again key twenty bytes =
    ap (option_map (λ bytes. record { 0 = bytes }))
    (subst (λ (n : ℕ). hex n (hex_text key.0) ≡ Some key.0) twenty (hex-hex_text key.0 bytes))

-- ---- lines that were written

-- a word that is wanted
pub literal-written : (p : ℕ) (k : Keyword) (text : List ℕ) → is_argument text ≡ true → bytes_eq text text ≡ true
    → literal text (written p (bare k text)) ≡ Ok tt
literal-written p k text is same =
    let start = start_of p k text in
    literal_is text (written p (bare k text)) start text (arguments_of_word start text is) same

-- a word
pub argument-written : (p : ℕ) (k : Keyword) (word : List ℕ) → is_argument word ≡ true
    → argument_of (written p (bare k word)) ≡ Ok (rest_at p k word)
argument-written p k word is =
    let start = start_of p k word in
    argument_is (written p (bare k word)) (record { place = start; text = word }) (arguments_of_word start word is)
    (word_is_there word is)

-- a fingerprint
pub fingerprint-written : (p : ℕ) (k : Keyword) (identity : Fingerprint) → length identity.0 ≡ 20 → IsBytes identity.0
    → fingerprint_of (written p (bare k (hex_text identity.0))) ≡ Ok identity
fingerprint-written p k identity twenty bytes =
    let text = hex_text identity.0 in
    let start = start_of p k text in
    fingerprint_is (written p (bare k text)) (record { place = start; text = text }) identity
    (arguments_of_word start text (word_of_identity identity.0 twenty bytes)) (identity_again identity twenty bytes)

-- a moment, which is never past the calendar
pub time-written : (p : ℕ) (k : Keyword) (m : ℕ) → time_of (written p (moment_item k m)) ≡ Ok (moment_of m)
time-written p k m =
    let n = moment_of m in
    let within : n ≤ last_moment = omega arith in
    let day = date_text (n / 86400) in
    let clock = clock_text (n % 86400) in
    let start = start_of p k (moment_text n) in
    let args =
    arguments_of_words start (day ∷ clock ∷ [])
    (two_words day clock (word_of_date (n / 86400)) (word_of_clock (n % 86400))) in
    let sum : 86400 * (n / 86400) + n % 86400 ≡ n = omega arith in
    time_is (written p (moment_item k m)) (record { place = start; text = day })
    (record { place = start + length day + 1; text = clock })
    (n / 86400) (n % 86400) args
    (date-date_text (n / 86400) (omega (arith, within))) (time_of_day-clock_text (n % 86400) (omega arith))
    ∙ ap (λ (x : ℕ). Ok x) sum
