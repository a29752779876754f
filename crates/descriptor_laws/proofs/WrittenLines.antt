-- Lines of a server descriptor that were written are read again.
use Rattle.std.proofs.Common.{◌≡◌, ℕ, zero, suc, ◌+◌, ◌*◌, ◌≤◌, ◌<◌, ◌^◌, true, false, List, [], ◌∷◌, ◌++◌, length, map}
use Rattle.std.proofs.Common.{Option, Some, Result, Ok, refl, sym, ap, subst, ◌∙◌, arith, append_assoc}
use Rattle.std.{proofs.lemmas.List.Elements.{All-cons, All-nil}, specs.{Prelude.decimal, List.join_with_byte}}
use Rattle.base64.specs.GeneralPurpose.{IsBytes}
use Rattle.item_terms.specs.Items.{Item}
use Rattle.dir_bytes.specs.{FieldTexts.{address_text, base64_text, hex_text}, Fields.{address, base64, number}}
use Rattle.dir_bytes.proofs.{Spelling.length-base64_text, ReadAgain.{address-address_text, base64-base64_text}}
use Rattle.dir_bytes.proofs.ReadAgain.{hex-hex_text, number-decimal}
use Rattle.dir_values.specs.{Arguments.Argument, Names.is_nickname, Numbers.port_of}
use Rattle.dirdoc_grammar.specs.Writing.{written}
use Rattle.frame_terms.specs.declared.keyword.Keyword.{Keyword}
use Rattle.frame_values.specs.{Arguments.{arguments_of, next}, Fields.span_of, Items.bare}
use Rattle.frame_laws.proofs.{Base64Words.word_of_base64, Words.{AreWords, IsWord, arguments_of_word}}
use Rattle.frame_laws.proofs.Words.{arguments_of_words, placed, two_words, word_of_address, word_of_hex}
use Rattle.frame_laws.proofs.Words.{word_of_nickname, word_of_number}
use Rattle.descriptor_frame.specs.Fields.{groups_of, hibernating, key, long_number, padded_key, signature}
use Rattle.descriptor_frame.specs.{Fields.without_padding, Lines.{bandwidth_of, first_of, identity_of, router_of}}
use Rattle.descriptor_frame.specs.declared.said.BandwidthLine.{BandwidthLine}
use Rattle.descriptor_doc.specs.declared.descriptor.Router.{Router}
use Rattle.descriptor_text.specs.Lines.{groups_from, groups_text, router_text}
use Rattle.descriptor_laws.specs.Lines.{BandwidthLinesAreReadAgain, HibernatingLinesAreReadAgain, KeyLinesAreReadAgain}
use Rattle.descriptor_laws.specs.Lines.{IdentityLinesAreReadAgain, RouterLinesAreReadAgain, SignatureLinesAreReadAgain}
use Rattle.descriptor_laws.specs.{Lines.{UptimeLinesAreReadAgain, rest_start}, Ranges.{AreBytes, IsRouterInRange}}

-- ---- an item whose arguments are known

-- what the one argument of an item says
pub first_is : {X : Type 0} (value : List ℕ → Option X) (item : Item) (a : Argument) (x : X) → arguments_of item ≡ a ∷ []
    → value a.text ≡ Some x → first_of value item ≡ Ok x
first_is value item a x args is = rw (args, is) refl

-- the same of a line whose rest is one word
pub word_again : {X : Type 0} (value : List ℕ → Option X) (place : ℕ) (keyword : Keyword) (word : List ℕ) (x : X)
    → IsWord word → value word ≡ Some x → first_of value (written place (bare keyword word)) ≡ Ok x
word_again value place keyword word x is_word is =
    let start = rest_start place keyword word in
    first_is value (written place (bare keyword word)) (record { place = start; text = word }) x
    (arguments_of_word start word is_word) is

-- ---- numbers

long_again : (n : ℕ) → n < 2 ^ 64 → long_number (decimal n) ≡ Some n
long_again n fits = number-decimal 18446744073709551615 n (omega (arith, fits)) fits

pub uptime_again : UptimeLinesAreReadAgain
uptime_again place keyword seconds fits =
    word_again long_number place keyword (decimal seconds) seconds (word_of_number seconds) (long_again seconds fits)

pub hibernating_again : HibernatingLinesAreReadAgain
hibernating_again place keyword true = word_again hibernating place keyword (49 ∷ []) true refl refl
hibernating_again place keyword false = word_again hibernating place keyword (48 ∷ []) false refl refl

-- three words
three_words : (a b c : List ℕ) → IsWord a → IsWord b → IsWord c → AreWords (a ∷ b ∷ c ∷ [])
three_words a b c first second third = All-cons IsWord a (b ∷ c ∷ []) first (two_words b c second third)

three_in_a_row : (a b c : List ℕ) → (a ++ b) ++ c ≡ a ++ (b ++ c)
three_in_a_row a b c = append_assoc a b c

bandwidth_is : (item : Item) (a b c : Argument) (line : BandwidthLine) → arguments_of item ≡ a ∷ b ∷ c ∷ []
    → long_number a.text ≡ Some line.average → long_number b.text ≡ Some line.burst
    → long_number c.text ≡ Some line.observed → bandwidth_of item ≡ Ok line
bandwidth_is item a b c line args first second third = rw (args, first, second, third) refl

pub bandwidth_again : BandwidthLinesAreReadAgain
bandwidth_again place keyword line are =
    let a = decimal line.average in
    let b = decimal line.burst in
    let c = decimal line.observed in
    let text = join_with_byte 32 (a ∷ b ∷ c ∷ []) in
    let start = rest_start place keyword text in
    let args =
    arguments_of_words start (a ∷ b ∷ c ∷ [])
    (three_words a b c (word_of_number line.average) (word_of_number line.burst) (word_of_number line.observed)) in
    ap (λ (l : List ℕ). bandwidth_of (written place (bare keyword l))) (three_in_a_row a (32 ∷ b) (32 ∷ c))
    ∙ bandwidth_is (written place (bare keyword text)) (record { place = start; text = a })
    (record { place = start + length a + 1; text = b }) (record { place = start + length a + 1 + length b + 1; text = c })
    line args (long_again line.average are.average_is) (long_again line.burst are.burst_is)
    (long_again line.observed are.observed_is)

-- ---- keys and signatures

base64_again : (count : ℕ) (bytes : List ℕ) → AreBytes count bytes → base64 count (base64_text bytes) ≡ Some bytes
base64_again count bytes are =
    subst (λ (n : ℕ). base64 n (base64_text bytes) ≡ Some bytes) are.count_is (base64-base64_text bytes are.each)

pub signature_again : SignatureLinesAreReadAgain
signature_again place keyword bytes are =
    word_again signature place keyword (base64_text bytes) bytes
    (word_of_base64 bytes (omega (arith, are.count_is)) are.each) (base64_again 64 bytes are)

-- 43 characters have no padding
without_same : (text : List ℕ) → length text ≡ 43 → without_padding text ≡ text
without_same text is = rw is refl

pub key_again : KeyLinesAreReadAgain
key_again place keyword bytes are =
    let text = base64_text bytes in
    let long : length text ≡ 43 = omega (arith, length-base64_text bytes, are.count_is) in
    let is_word = word_of_base64 bytes (omega (arith, are.count_is)) are.each in
    let is = base64_again 32 bytes are in
    let padded : padded_key text ≡ Some bytes = ap key (without_same text long) ∙ is in
    (word_again key place keyword text bytes is_word is, word_again padded_key place keyword text bytes is_word padded)

-- ---- an identity in ten groups

-- the bytes of a group
group_bytes : (a b : ℕ) (rest : List ℕ) → IsBytes (a ∷ b ∷ rest) → IsBytes (a ∷ b ∷ [])
group_bytes a b rest fits zero = fits 0
group_bytes a b rest fits (suc zero) = fits 1
group_bytes a b rest fits (suc (suc i)) = omega arith

-- a group in front of others
groups_next : (count item place a b : ℕ) (words : List (List ℕ)) (bytes : List ℕ) → IsBytes (a ∷ b ∷ [])
    → groups_of count item (placed (place + length (hex_text (a ∷ b ∷ [])) + 1) words) ≡ Ok bytes
    → groups_of (suc count) item (placed place (hex_text (a ∷ b ∷ []) ∷ words)) ≡ Ok (a ∷ b ∷ bytes)
unfolding groups_of
groups_next count item place a b words bytes fits more = rw (hex-hex_text (a ∷ b ∷ []) fits, more) refl

-- so many groups of two bytes
groups_again : (count item place : ℕ) (bytes : List ℕ) → length bytes ≡ 2 * count → IsBytes bytes
    → groups_of count item (placed place (map hex_text (groups_from count bytes))) ≡ Ok bytes
unfolding groups_of groups_from
groups_again zero item place [] long fits = refl
groups_again zero item place (a ∷ bytes) long fits = absurd (omega (arith, long))
groups_again (suc count) item place [] long fits = absurd (omega (arith, long))
groups_again (suc count) item place (a ∷ []) long fits = absurd (omega (arith, long))
groups_again (suc count) item place (a ∷ b ∷ bytes) long fits =
    groups_next count item place a b (map hex_text (groups_from count bytes)) bytes (group_bytes a b bytes fits)
    (groups_again count item (place + length (hex_text (a ∷ b ∷ [])) + 1) bytes (omega (arith, long))
    (λ i. fits (suc (suc i))))

-- each group is a word
groups_are_words : (count : ℕ) (bytes : List ℕ) → length bytes ≡ 2 * count → IsBytes bytes
    → AreWords (map hex_text (groups_from count bytes))
unfolding groups_from
groups_are_words zero bytes long fits = All-nil IsWord
groups_are_words (suc count) [] long fits = absurd (omega (arith, long))
groups_are_words (suc count) (a ∷ []) long fits = absurd (omega (arith, long))
groups_are_words (suc count) (a ∷ b ∷ bytes) long fits =
    All-cons IsWord (hex_text (a ∷ b ∷ [])) (map hex_text (groups_from count bytes))
    (word_of_hex (a ∷ b ∷ []) (omega arith) (group_bytes a b bytes fits))
    (groups_are_words count bytes (omega (arith, long)) (λ i. fits (suc (suc i))))

-- an item whose groups are known
identity_is : (item : Item) (bytes : List ℕ) → groups_of 10 item.place (arguments_of item) ≡ Ok bytes
    → identity_of item ≡ Ok (record { 0 = bytes })
identity_is item bytes is = ap (λ (r : Result (List ℕ) ℕ). next r (λ found. Ok (record { 0 = found }))) is

pub identity_again : IdentityLinesAreReadAgain
identity_again place keyword identity are =
    let text = groups_text identity in
    let start = rest_start place keyword text in
    let item = written place (bare keyword text) in
    let long : length identity.0 ≡ 2 * 10 = omega (arith, are.count) in
    identity_is item identity.0
    (ap (groups_of 10 place) (arguments_of_words start (map hex_text (groups_from 10 identity.0))
    (groups_are_words 10 identity.0 long are.each))
    ∙ groups_again 10 place start identity.0 long are.each)

-- ---- a relay

pub port_again : (n : ℕ) → n ≤ 65535 → port_of (decimal n) ≡ Some n
port_again n small = number-decimal 65535 n small (omega (arith, small))

router_is : (item : Item) (a b c d e : Argument) (ip or_port socks_port dir_port : ℕ)
    → arguments_of item ≡ a ∷ b ∷ c ∷ d ∷ e ∷ [] → is_nickname a.text ≡ true → address b.text ≡ Some ip
    → port_of c.text ≡ Some or_port → port_of d.text ≡ Some socks_port → port_of e.text ≡ Some dir_port
    → router_of item ≡ Ok (record {
      nickname = span_of a;
      ip = ip;
      or_port = or_port;
      socks_port = socks_port;
      dir_port = dir_port;
    })
router_is item a b c d e ip or_port socks_port dir_port args name number or socks dir =
    rw (args, name, number, or, socks, dir) refl

five_in_a_row : (a b c d e : List ℕ) → (a ++ b) ++ (32 ∷ ((c ++ d) ++ e)) ≡ a ++ (b ++ (32 ∷ (c ++ (d ++ e))))
five_in_a_row a b c d e =
    append_assoc a b (32 ∷ ((c ++ d) ++ e)) ∙ ap (λ (l : List ℕ). a ++ (b ++ (32 ∷ l))) (append_assoc c d e)

-- its words
abbrev words_of_router : Router → List (List ℕ)
words_of_router r =
    r.nickname ∷ address_text r.ip ∷ decimal r.or_port ∷ decimal r.socks_port ∷ decimal r.dir_port ∷ []

router_words : (r : Router) → IsRouterInRange r → AreWords (words_of_router r)
router_words r are =
    let b = address_text r.ip in
    let c = decimal r.or_port in
    let d = decimal r.socks_port in
    let e = decimal r.dir_port in
    All-cons IsWord r.nickname (b ∷ c ∷ d ∷ e ∷ []) (word_of_nickname r.nickname are.nickname_is)
    (All-cons IsWord b (c ∷ d ∷ e ∷ []) (word_of_address r.ip)
    (three_words c d e (word_of_number r.or_port) (word_of_number r.socks_port) (word_of_number r.dir_port)))

-- the text of a relay is that of its words
pub router_shape : (r : Router) → router_text r ≡ join_with_byte 32 (words_of_router r)
router_shape r =
    five_in_a_row r.nickname (32 ∷ address_text r.ip) (decimal r.or_port) (32 ∷ decimal r.socks_port)
    (32 ∷ decimal r.dir_port)

pub router_again : RouterLinesAreReadAgain
router_again place keyword r are =
    let a = r.nickname in
    let b = address_text r.ip in
    let c = decimal r.or_port in
    let d = decimal r.socks_port in
    let e = decimal r.dir_port in
    let text = router_text r in
    let start = rest_start place keyword text in
    let second = start + length a + 1 in
    let third = second + length b + 1 in
    let fourth = third + length c + 1 in
    let fifth = fourth + length d + 1 in
    let split =
    subst (λ (t : List ℕ). arguments_of (written place (bare keyword t)) ≡ placed (rest_start place keyword t) (words_of_router r))
    (sym (router_shape r))
    (arguments_of_words (rest_start place keyword (join_with_byte 32 (words_of_router r))) (words_of_router r)
    (router_words r are)) in
    router_is (written place (bare keyword text)) (record { place = start; text = a }) (record { place = second; text = b })
    (record { place = third; text = c }) (record { place = fourth; text = d }) (record { place = fifth; text = e })
    r.ip r.or_port r.socks_port r.dir_port split are.nickname_is (address-address_text r.ip are.ip_is)
    (port_again r.or_port are.or_port_is) (port_again r.socks_port are.socks_port_is)
    (port_again r.dir_port are.dir_port_is)
