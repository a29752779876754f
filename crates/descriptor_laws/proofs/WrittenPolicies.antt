-- A line of an exit policy that was written is read again.
use Rattle.std.proofs.Common.{◌≡◌, ℕ, ◌-◌, ◌≤◌, ◌<◌, ◌^◌, Bool, true, false, List, [], ◌∷◌, ◌++◌, length, Option, Some}
use Rattle.std.proofs.{Common.{None, refl, sym, ap, ◌∙◌, arith, length-append}, lemmas.Bool.{and_parts, eqb-true}}
use Rattle.std.{proofs.lemmas.Bool.le-leb, specs.Prelude.{decimal, nat_le, ◌==◌, ◌&&◌, option_and_then, option_map}}
use Rattle.std.specs.{Prelude.{if◌then◌else◌, codes, slice_index}, List.list_all}
use Rattle.dir_bytes.{specs.{FieldTexts.address_text, Fields.address}, proofs.ReadAgain.address-address_text}
use Rattle.dir_bytes.proofs.ReadAgain.{number-decimal}
use Rattle.dir_values.specs.declared.policy.{Net.{Net, TheVariants.{Star, V4, V6}}, PolicyItem.PolicyItem}
use Rattle.frame_laws.proofs.{WordTexts.{Dark, both_dark, is_word, length-word, weaker}, Words.IsWord}
use Rattle.frame_laws.proofs.Words.{word_of_address}
use Rattle.dirdoc_grammar.specs.Writers.{is_argument_byte}
use Rattle.exit_summary.specs.PolicyItems.{after_last, before_last, has_last, item_of, item_with, net_of, at_most}
use Rattle.exit_summary.specs.PolicyItems.{bits_of, bits_up_to, first_of, net_of_parts, ones_of, net_with, ports_of}
use Rattle.exit_summary.specs.{PolicyItems.{slash, colon, is_bracketed}, Texts.{item_text, net_text, ports_text}}
use Rattle.exit_summary.specs.Texts.{v4_text}
use Rattle.descriptor_laws.specs.{Lines.PolicyLinesAreReadAgain, Ranges.{IsItemInRange, IsNetInRange}}
use Rattle.descriptor_laws.proofs.{WrittenLines.word_again, PlainTexts.{Plain, address_plain, decimal_plain, is_plain}}
use Rattle.descriptor_laws.proofs.PlainTexts.{lacks, no_bracket, no_last, no_slash, no_star, plain_argument, split_last}
use Rattle.descriptor_laws.proofs.WrittenPorts.{ports_again}

-- ---- nets

in_the_middle : (x z : Bool) → (x && false && z) ≡ false
in_the_middle true z = refl
in_the_middle false z = refl

-- what begins with a digit stands in no brackets
not_bracketed : (b : ℕ) (rest : List ℕ) → is_plain b ≡ true → is_bracketed (b ∷ rest) ≡ false
not_bracketed b rest plain =
    let text = b ∷ rest in
    ap (λ (t : Bool). nat_le 2 (length text) && t && (slice_index text (length text - 1) == 93)) (no_bracket b plain)
    ∙ in_the_middle (nat_le 2 (length text)) (slice_index text (length text - 1) == 93)

-- an address, or one with bits behind a slash
abbrev host_or_parts : List ℕ → Option Net
host_or_parts text =
    if has_last slash text then net_of_parts (before_last slash text) (after_last slash text)
    else net_with (address text) (Some 32)

-- what begins with a digit is no other net
plain_net : (b : ℕ) (rest : List ℕ) → is_plain b ≡ true → net_of (b ∷ rest) ≡ host_or_parts (b ∷ rest)
plain_net b rest plain = rw (no_star b plain, not_bracketed b rest plain) refl

host_net : (text : List ℕ) (ip : ℕ) → 0 < length text → Plain text → address text ≡ Some ip
    → net_of text ≡ Some (V4 ip 32)
host_net [] ip some plain is = absurd (omega (arith, some))
host_net (b ∷ rest) ip some plain is =
    let text = b ∷ rest in
    plain_net b rest (and_parts (is_plain b) (list_all is_plain rest) plain).0
    ∙ ap (λ (t : Bool). if t then net_of_parts (before_last slash text) (after_last slash text)
    else net_with (address text) (Some 32)) (no_last slash text (weaker is_plain (lacks slash) no_slash text plain))
    ∙ ap (λ (o : Option ℕ). net_with o (Some 32)) is

bits_again : (bits : ℕ) → bits ≤ 32 → bits_of (decimal bits) ≡ Some bits
bits_again bits few =
    let other = option_and_then ones_of (address (decimal bits)) in
    ap (λ (o : Option ℕ). first_of (option_and_then (at_most 32) o) other)
    (number-decimal 4294967295 bits (omega (arith, few)) (omega (arith, few)))
    ∙ ap (λ (t : Bool). first_of (if t then Some bits else None) other) (le-leb bits 32 few)

parts_net : (base : List ℕ) (ip bits : ℕ) → 0 < length base → Plain base → address base ≡ Some ip → bits ≤ 32
    → net_of (base ++ slash ∷ decimal bits) ≡ Some (V4 ip bits)
parts_net [] ip bits some plain is few = absurd (omega (arith, some))
parts_net (b ∷ rest) ip bits some plain is few =
    let base = b ∷ rest in
    let digits = decimal bits in
    let text = base ++ slash ∷ digits in
    let first = (and_parts (is_plain b) (list_all is_plain rest) plain).0 in
    let split =
    split_last slash base digits (weaker is_plain (lacks slash) no_slash digits (decimal_plain bits (omega (arith, few)))) in
    plain_net b (rest ++ slash ∷ digits) first
    ∙ ap (λ (t : Bool). if t then net_of_parts (before_last slash text) (after_last slash text)
    else net_with (address text) (Some 32)) split.there
    ∙ ap (λ (l : List ℕ). net_of_parts l (after_last slash text)) split.before
    ∙ ap (λ (l : List ℕ). net_of_parts base l) split.after
    ∙ ap (λ (t : Bool). if t then option_map (λ _. V6) (bits_up_to 128 digits) else net_with (address base) (bits_of digits))
    (not_bracketed b rest first)
    ∙ ap (λ (o : Option ℕ). net_with o (bits_of digits)) is
    ∙ ap (λ (o : Option ℕ). net_with (Some ip) o) (bits_again bits few)

v4_again : (ip bits : ℕ) → ip < 2 ^ 32 → bits ≤ 32 → net_of (v4_text ip bits) ≡ Some (V4 ip bits)
v4_again ip bits fits few =
    let base = address_text ip in
    let some = length-word base (word_of_address ip) in
    let is = address-address_text ip fits in
    let plain = address_plain ip fits in
    let by : (none all : Bool) → ((ip == 0) && (bits == 0)) ≡ none → (bits == 32) ≡ all
    → net_of (if none then codes "*4" else if all then base else base ++ slash ∷ decimal bits) ≡ Some (V4 ip bits) =
    λ none. elim none as (λ none. (all : Bool) → ((ip == 0) && (bits == 0)) ≡ none → (bits == 32) ≡ all
    → net_of (if none then codes "*4" else if all then base else base ++ slash ∷ decimal bits) ≡ Some (V4 ip bits)) [
      | true ↦ λ all zero full.
          let parts = and_parts (ip == 0) (bits == 0) zero in
          ap (λ (n : ℕ). Some (V4 n 0)) (sym (eqb-true ip 0 parts.0))
          ∙ ap (λ (n : ℕ). Some (V4 ip n)) (sym (eqb-true bits 0 parts.1))
      | false ↦ λ all. elim all as (λ all. ((ip == 0) && (bits == 0)) ≡ false → (bits == 32) ≡ all
          → net_of (if all then base else base ++ slash ∷ decimal bits) ≡ Some (V4 ip bits)) [
            | true ↦ λ some_bits full.
                host_net base ip some plain is ∙ ap (λ (n : ℕ). Some (V4 ip n)) (sym (eqb-true bits 32 full))
            | false ↦ λ some_bits part. parts_net base ip bits some plain is few
          ]
    ] in
    by ((ip == 0) && (bits == 0)) (bits == 32) refl refl

net_again : (net : Net) → IsNetInRange net → net_of (net_text net) ≡ Some net
net_again Star is = refl
net_again (V4 ip bits) is = v4_again ip bits is.0 is.1
net_again V6 is = refl

-- ---- the text of an item

v4_dark : (ip bits : ℕ) → ip < 2 ^ 32 → bits ≤ 32 → Dark (v4_text ip bits)
v4_dark ip bits fits few =
    let base = weaker is_plain is_argument_byte plain_argument (address_text ip) (address_plain ip fits) in
    let digits =
    weaker is_plain is_argument_byte plain_argument (decimal bits) (decimal_plain bits (omega (arith, few))) in
    elim ((ip == 0) && (bits == 0)) as (λ t. Dark (if t then codes "*4"
    else if bits == 32 then address_text ip else address_text ip ++ slash ∷ decimal bits)) [
      | true ↦ refl
      | false ↦ elim (bits == 32) as (λ t. Dark (if t then address_text ip else address_text ip ++ slash ∷ decimal bits)) [
        | true ↦ base
        | false ↦ both_dark (address_text ip) (slash ∷ decimal bits) base digits
      ]
    ]

net_dark : (net : Net) → IsNetInRange net → Dark (net_text net)
net_dark Star is = refl
net_dark (V4 ip bits) is = v4_dark ip bits is.0 is.1
net_dark V6 is = refl

-- it is a word
pub word_of_item : (item : PolicyItem) → IsItemInRange item → IsWord (item_text item)
word_of_item item are =
    let net = net_text item.net in
    let ports = ports_text item.low item.high in
    is_word (net ++ colon ∷ ports) (omega (arith, length-append net (colon ∷ ports)))
    (both_dark net (colon ∷ ports) (net_dark item.net are.net_is) (ports_again item.low item.high are.ports_are are.high_is).dark)

-- it spells the item
item_again : (item : PolicyItem) → IsItemInRange item → item_of item.accept (item_text item) ≡ Some item
item_again item are =
    let net = net_text item.net in
    let ports = ports_text item.low item.high in
    let is = ports_again item.low item.high are.ports_are are.high_is in
    let text = net ++ colon ∷ ports in
    let split = split_last colon net ports is.no_colon in
    ap (λ (t : Bool). if t then item_with item.accept (net_of (before_last colon text)) (ports_of (after_last colon text))
    else None) split.there
    ∙ ap (λ (l : List ℕ). item_with item.accept (net_of l) (ports_of (after_last colon text))) split.before
    ∙ ap (λ (l : List ℕ). item_with item.accept (net_of net) (ports_of l)) split.after
    ∙ ap (λ (o : Option Net). item_with item.accept o (ports_of ports)) (net_again item.net are.net_is)
    ∙ ap (λ (o : Option (ℕ × ℕ)). item_with item.accept (Some item.net) o) is.spells

pub policy_again : PolicyLinesAreReadAgain
policy_again place keyword item are =
    word_again (item_of item.accept) place keyword (item_text item) item (word_of_item item are) (item_again item are)
