-- Versions of protocols that were written are read again.
use Rattle.std.proofs.Common.{◌≡◌, ℕ, ◌+◌, true, List, [], ◌∷◌, ◌++◌, length, map, Option, Some, None, refl, ap, ap₂}
use Rattle.std.proofs.{Common.{◌∙◌, Bool}, lemmas.{Bool.and_from, List.Elements.{All-cons, All-head, All-nil}}}
use Rattle.std.{proofs.lemmas.List.Elements.All-tail, specs.{Prelude.{All, cond, is_some, not, unwrap_or}, List.find}}
use Rattle.std.specs.Option.{option_map}
use Rattle.dir_values.specs.{Arguments.Argument, FlagSets.{is_name, unless_wrong}}
use Rattle.frame_laws.proofs.{WordTexts.{AreWords, IsWord}, Words.{arguments_of_words, placed, words_of-join}}
use Rattle.list_values.specs.{declared.named.Named.Named, Equations.{equals, left_side, right_side}, Maps.with_value}
use Rattle.list_values.specs.NumberSets.{Range, has_number, in_ranges, numbers_text, numbers_that, ranges_of}
use Rattle.list_values.specs.{NumberSets.united_numbers, Protocols.{as_protocols, is_protocol, numbers_at, numbers_in}}
use Rattle.list_values.specs.Protocols.{protocol_text, ranges_in, with_protocol, wrong_protocol}
use Rattle.list_values.proofs.{NumberLists.same_numbers, RangeLaws.ranges_have}
use Rattle.value_laws.specs.Again.{ProtocolsAreReadAgain, ProtocolsAreRight, ProtocolsFillLines}
use Rattle.value_laws.{specs.Ranges.IsProtocolInRange, proofs.{LineWords.rest_of_words, Marks.behind_again}}
use Rattle.value_laws.proofs.{Marks.{front_again, mark_is_there}, NamedLists.{AreBefore, made_again, none_yet}}
use Rattle.value_laws.proofs.{NamedLists.put_last, NumbersAlone.numbers_alone, ParamsAgain.name_lacks}
use Rattle.value_laws.proofs.{ParamsAgain.word_of_equation, RangesAgain.{numbers_dark, numbers_spelled}}

-- ---- one protocol

abbrev Protocol : Type 0
Protocol = Named (List ℕ)

abbrev word : Protocol → List ℕ
word protocol = protocol_text protocol

left : (protocol : Protocol) → IsProtocolInRange protocol → left_side (word protocol) ≡ protocol.name
left protocol is = front_again equals protocol.name (numbers_text protocol.value) (name_lacks protocol.name is.name)

spelled : (protocol : Protocol) → IsProtocolInRange protocol
    → ranges_in (right_side (word protocol)) ≡ Some (ranges_of protocol.value)
spelled protocol is =
    ap ranges_in (behind_again equals protocol.name (numbers_text protocol.value) (name_lacks protocol.name is.name))
    ∙ numbers_spelled protocol.value is.numbers.each

its_numbers : (protocol : Protocol) → IsProtocolInRange protocol → numbers_in (word protocol) ≡ protocol.value
its_numbers protocol is =
    ap (λ (o : Option (List Range)). numbers_that (in_ranges (unwrap_or o []))) (spelled protocol is)
    ∙ same_numbers (in_ranges (ranges_of protocol.value)) (has_number protocol.value)
    (λ n lt. ranges_have protocol.value n)
    ∙ numbers_alone protocol.value is.numbers

passes : (protocol : Protocol) → IsProtocolInRange protocol → is_protocol (word protocol) ≡ true
passes protocol is =
    and_from _ _ (mark_is_there equals protocol.name (numbers_text protocol.value))
    (and_from _ _ (ap is_name (left protocol is) ∙ is.name)
    (ap (λ (o : Option (List Range)). is_some o) (spelled protocol is)))

words : (protocols : List Protocol) → All IsProtocolInRange protocols → AreWords (map word protocols)
words [] each = All-nil IsWord
words (protocol ∷ rest) each =
    let is = All-head IsProtocolInRange protocol rest each in
    All-cons IsWord (word protocol) (map word rest)
    (word_of_equation protocol.name (numbers_text protocol.value) is.name (numbers_dark protocol.value))
    (words rest (All-tail IsProtocolInRange protocol rest each))

-- ---- none is wrong

right_by : (place : ℕ) (protocols : List Protocol) → All IsProtocolInRange protocols
    → wrong_protocol (placed place (map word protocols)) ≡ None
right_by place [] each = refl
right_by place (protocol ∷ rest) each =
    let first : Argument = record { place = place; text = word protocol } in
    let later = placed (place + length (word protocol) + 1) (map word rest) in
    let other : Option Argument = find (λ (argument : Argument). not (is_protocol argument.text)) later in
    ap (λ (b : Bool). option_map (λ (argument : Argument). argument.place) (cond (not b) (Some first) other))
    (passes protocol (All-head IsProtocolInRange protocol rest each))
    ∙ right_by (place + length (word protocol) + 1) rest (All-tail IsProtocolInRange protocol rest each)

pub protocols_right : ProtocolsAreRight
protocols_right place protocols are =
    ap wrong_protocol (arguments_of_words place (map word protocols) (words protocols are.each))
    ∙ right_by place protocols are.each

-- ---- what is read

put : (protocols : List Protocol) (one : Protocol) → IsProtocolInRange one → AreBefore protocols one
    → with_protocol protocols (word one) ≡ protocols ++ one ∷ []
put protocols one is before =
    let none : numbers_at protocols one.name ≡ [] =
    ap (λ (o : Option (List ℕ)). unwrap_or o []) (none_yet protocols one before) in
    ap₂ (λ (n l : List ℕ). with_value protocols n (united_numbers (numbers_at protocols n) l)) (left one is)
    (its_numbers one is)
    ∙ ap (λ (l : List ℕ). with_value protocols one.name (united_numbers l one.value)) none
    ∙ ap (λ (l : List ℕ). with_value protocols one.name l) (numbers_alone one.value is.numbers)
    ∙ put_last protocols one before

pub protocols_again : ProtocolsAreReadAgain
protocols_again protocols are =
    ap₂ (λ (o : Option ℕ) (l : List (List ℕ)). unless_wrong o (as_protocols l)) (protocols_right 0 protocols are)
    (words_of-join (map word protocols) (words protocols are.each))
    ∙ ap (λ (l : List Protocol). unless_wrong None l)
    (made_again with_protocol word IsProtocolInRange put protocols are.ascend are.each)

pub protocols_fill : ProtocolsFillLines
protocols_fill protocols are = rest_of_words (map word protocols) (words protocols are.each)
