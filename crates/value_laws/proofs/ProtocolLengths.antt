-- The canonical text of the versions of protocols that a text lists is no longer than that text.
use Rattle.std.proofs.Common.{◌≡◌, ℕ, ◌+◌, ◌-◌, ◌<◌, ◌≤◌, Bool, true, false, List, [], ◌∷◌, length, map, Option, Some}
use Rattle.std.proofs.{Common.{None, refl, sym, ap, subst, ◌∙◌, arith, length-append}, lemmas.Bool.and_parts}
use Rattle.std.proofs.lemmas.{Bool.false≢true, List.Elements.{All-cons, All-head, All-nil, All-tail, All-weaker}}
use Rattle.std.specs.{Prelude.{All, not, option_map, unwrap_or, if◌then◌else◌}, List.{find, fold}, Str.bytes_eq}
use Rattle.item_terms.specs.{Bytes.space, Words.words_of}
use Rattle.dir_values.specs.{Arguments.{Argument, arguments_at, texts_of}, Digests.bytes_below, FlagSets.unless_wrong}
use Rattle.dir_values.{specs.Versions.has_mark, proofs.{ArgumentWords.arguments_words, Orders.AllPairs-head}}
use Rattle.dir_values.proofs.Orders.{AllPairs-tail, apart, apart_back, below-trans, below_or_same}
use Rattle.list_values.specs.{declared.named.Named.Named, Equations.{equals, left_side, right_side}, Maps.Ascend}
use Rattle.list_values.specs.{Maps.{has_name, named_value, value_at, with_value}, NumberSets.{in_ranges, numbers_text}}
use Rattle.list_values.specs.{NumberSets.united_numbers, Protocols.{as_protocols, is_protocol, numbers_at, numbers_in}}
use Rattle.list_values.specs.Protocols.{protocol_text, protocols_text, ranges_in, with_protocol, wrong_protocol}
use Rattle.list_values.proofs.Maps.{Ascend-nil, Ascend-with_value}
use Rattle.value_groups.specs.Listed.{members_of}
use Rattle.value_laws.{specs.Lengths.ProtocolsAreNoLonger, proofs.EdgeTexts.{IsSmall, kept_small, set_room}}
use Rattle.value_laws.proofs.{EdgeTexts.{set_text_room, united_short}, Rooms.{joined_room, room, sides_of, words_room}}
use Rattle.value_laws.proofs.SpelledRanges.{list_short}

-- ---- one protocol more

abbrev Protocol : Type 0
Protocol = Named (List ℕ)

abbrev protocols_room : List Protocol → ℕ
protocols_room protocols = room (map protocol_text protocols)

protocol_size : (protocol : Protocol)
    → length (protocol_text protocol) ≡ length protocol.name + 1 + length (numbers_text protocol.value)
protocol_size protocol = omega (arith, length-append protocol.name (equals ∷ numbers_text protocol.value))

abbrev Before : Protocol → Protocol → Type 0
Before a b = bytes_below a.name b.name ≡ true

-- no protocol behind a name has it
none_there : (protocols : List Protocol) (name : List ℕ)
    → All (λ (other : Protocol). bytes_below name other.name ≡ true) protocols → value_at protocols name ≡ None
none_there [] name all = refl
none_there (first ∷ rest) name all =
    rw (apart_back name first.name (All-head (λ (other : Protocol). bytes_below name other.name ≡ true) first rest all))
    (none_there rest name (All-tail (λ (other : Protocol). bytes_below name other.name ≡ true) first rest all))

abbrev found_numbers : Bool → Protocol → Option (List ℕ) → List ℕ
found_numbers test first later = if test then first.value else unwrap_or later []

numbers_first : (first : Protocol) (rest : List Protocol) (name : List ℕ)
    → numbers_at (first ∷ rest) name ≡ found_numbers (bytes_eq first.name name) first (value_at rest name)
numbers_first first rest name = by (bytes_eq first.name name)
  where
    by : (t : Bool)
        → unwrap_or (option_map (λ (p : Protocol). p.value) (if t then Some first else find (has_name name) rest)) []
        ≡ found_numbers t first (value_at rest name)
    by true = refl
    by false = refl

-- numbers that take so many bytes more than those that have the name take no more together
put_room : (protocols : List Protocol) (name numbers : List ℕ) (more : ℕ) → Ascend protocols → 0 < more
    → length (numbers_text numbers) ≤ set_room (numbers_at protocols name) + more - 1
    → protocols_room (with_value protocols name numbers) ≤ protocols_room protocols + (length name + 1 + more)
put_room [] name numbers more up some few = omega (arith, few, some, protocol_size (named_value name numbers))
put_room (first ∷ rest) name numbers more up some few =
    by (bytes_below first.name name) refl (bytes_eq first.name name) refl
    (ap set_room (numbers_first first rest name))
    (put_room rest name numbers more (AllPairs-tail Before first rest up) some)
  where
    by : (b : Bool) → bytes_below first.name name ≡ b → (e : Bool) → bytes_eq first.name name ≡ e
        → set_room (numbers_at (first ∷ rest) name) ≡ set_room (found_numbers e first (value_at rest name))
        → (length (numbers_text numbers) ≤ set_room (numbers_at rest name) + more - 1
        → protocols_room (with_value rest name numbers) ≤ protocols_room rest + (length name + 1 + more))
        → protocols_room (if b then first ∷ with_value rest name numbers
        else if e then named_value first.name numbers ∷ rest else named_value name numbers ∷ first ∷ rest)
        ≤ protocols_room (first ∷ rest) + (length name + 1 + more)
    by true below true same at later = absurd (false≢true (sym (apart first.name name below) ∙ same))
    by true below false same at later =
        let its = later (omega (arith, few, at)) in omega (arith, its)
    by false below true same at later =
        omega (
          arith,
          few,
          at,
          some,
          protocol_size first,
          protocol_size (named_value first.name numbers),
          set_text_room first.value,
        )
    by false below false same at later =
        let before = below_or_same first.name name below same in
        let none = none_there rest name
        (All-weaker (Before first) (λ (other : Protocol). bytes_below name other.name ≡ true)
        (λ other is. below-trans name first.name other.name before is) rest (AllPairs-head Before first rest up)) in
        let empty = ap (λ (found : Option (List ℕ)). set_room (unwrap_or found [])) none in
        omega (arith, few, at, empty, some, protocol_size (named_value name numbers))

-- ---- words

abbrev SmallNumbers : Protocol → Type 0
SmallNumbers protocol = All IsSmall protocol.value

-- protocols of words take no more bytes than the words
record FitIn (most : ℕ) (protocols : List Protocol) : Type 0 where
  up : Ascend protocols
  small : All SmallNumbers protocols
  few : protocols_room protocols ≤ most

small_value : (protocols : List Protocol) (name numbers : List ℕ) → All SmallNumbers protocols → All IsSmall numbers
    → All SmallNumbers (with_value protocols name numbers)
small_value [] name numbers all is = All-cons SmallNumbers (named_value name numbers) [] is all
small_value (first ∷ rest) name numbers all is =
    by (bytes_below first.name name) (bytes_eq first.name name)
    (small_value rest name numbers (All-tail SmallNumbers first rest all) is)
  where
    by : (b e : Bool) → All SmallNumbers (with_value rest name numbers)
        → All SmallNumbers (if b then first ∷ with_value rest name numbers
        else if e then named_value first.name numbers ∷ rest else named_value name numbers ∷ first ∷ rest)
    by true e later =
        All-cons SmallNumbers first (with_value rest name numbers) (All-head SmallNumbers first rest all) later
    by false true later =
        All-cons SmallNumbers (named_value first.name numbers) rest is (All-tail SmallNumbers first rest all)
    by false false later = All-cons SmallNumbers (named_value name numbers) (first ∷ rest) is all

small_at : (protocols : List Protocol) (name : List ℕ) → All SmallNumbers protocols
    → All IsSmall (numbers_at protocols name)
small_at [] name all = All-nil IsSmall
small_at (first ∷ rest) name all =
    subst (λ (l : List ℕ). All IsSmall l) (sym (numbers_first first rest name))
    (by (bytes_eq first.name name) (small_at rest name (All-tail SmallNumbers first rest all)))
  where
    by : (t : Bool) → All IsSmall (numbers_at rest name)
        → All IsSmall (found_numbers t first (value_at rest name))
    by true later = All-head SmallNumbers first rest all
    by false later = later

-- the word has the form of a protocol
abbrev IsProtocol : List ℕ → Type 0
IsProtocol word = has_mark equals word ≡ true

with_word : (most : ℕ) (protocols : List Protocol) (word : List ℕ) → FitIn most protocols → IsProtocol word
    → FitIn (most + (length word + 1)) (with_protocol protocols word)
with_word most protocols word fit marked =
    let name = left_side word in
    let own = numbers_at protocols name in
    let more = numbers_in word in
    let small_own = small_at protocols name fit.small in
    let small_more = kept_small (in_ranges (unwrap_or (ranges_in (right_side word)) [])) in
    let short = list_short (right_side word) in
    let text = set_text_room more in
    let both = united_short own more small_own small_more in
    let room_more = length (right_side word) + 1 in
    let few = fit.few in
    record {
      up = Ascend-with_value protocols name (united_numbers own more) fit.up;
      small = small_value protocols name (united_numbers own more) fit.small (kept_small _);
      few =
          let put =
          put_room protocols name (united_numbers own more) room_more fit.up (omega arith) (omega (arith, both, short, text)) in
          omega (arith, put, few, sides_of equals word marked);
    }

fold_fits : (words : List (List ℕ)) (most : ℕ) (protocols : List Protocol) → FitIn most protocols
    → All IsProtocol words → protocols_room (fold with_protocol protocols words) ≤ most + room words
fold_fits [] most protocols fit each = let few = fit.few in omega (arith, few)
fold_fits (word ∷ words) most protocols fit each =
    omega (
      arith,
      fold_fits words (most + (length word + 1)) (with_protocol protocols word)
          (with_word most protocols word fit (All-head IsProtocol word words each))
          (All-tail IsProtocol word words each),
    )

-- ---- no argument is wrong

each_protocol : (arguments : List Argument) → wrong_protocol arguments ≡ None → All IsProtocol (texts_of arguments)
each_protocol [] right = All-nil IsProtocol
each_protocol (one ∷ rest) right = by (is_protocol one.text) refl right (each_protocol rest)
  where
    by : (t : Bool) → is_protocol one.text ≡ t
        → option_map (λ (argument : Argument). argument.place)
        (if not t then Some one else find (λ (argument : Argument). not (is_protocol argument.text)) rest) ≡ None
        → (wrong_protocol rest ≡ None → All IsProtocol (texts_of rest)) → All IsProtocol (one.text ∷ texts_of rest)
    by true is found more =
        All-cons IsProtocol one.text (texts_of rest) (and_parts (has_mark equals one.text) _ is).0 (more found)
    by false is found more = absurd (cc found)

-- ---- the law

pub protocols_no_longer : ProtocolsAreNoLonger
protocols_no_longer text = by (wrong_protocol (arguments_at 0 text)) refl
  where
    by : (wrong : Option ℕ) → wrong_protocol (arguments_at 0 text) ≡ wrong
        → length (protocols_text (members_of (unless_wrong wrong (as_protocols (words_of text))))) ≤ length text
    by None right =
        let each =
        subst (λ (l : List (List ℕ)). All IsProtocol l) (arguments_words 0 text)
        (each_protocol (arguments_at 0 text) right) in
        omega (
          arith,
          joined_room space (map protocol_text (as_protocols (words_of text))),
          fold_fits (words_of text) 0 []
              (record { up = Ascend-nil; small = All-nil SmallNumbers; few = omega arith }) each,
          words_room text,
        )
    by (Some place) right = omega arith
