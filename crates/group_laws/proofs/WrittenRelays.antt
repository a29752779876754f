-- A relay's line that was written is read again.
use Rattle.std.proofs.Common.{◌≡◌, ℕ, ◌+◌, ◌*◌, ◌/◌, ◌%◌, ◌≤◌, true, List, [], ◌∷◌, ◌++◌, length, Some, Ok, refl, ap}
use Rattle.std.{proofs.{Common.{subst, ◌∙◌, arith, append_assoc}, lemmas.List.Elements.All-cons}, specs.Prelude.decimal}
use Rattle.std.specs.{Prelude.option_map, List.join_with_byte}
use Rattle.dir_bytes.specs.{Causes.last_moment, FieldTexts.{address_text, base64_text, clock_text, date_text}}
use Rattle.dir_bytes.{specs.Fields.{address, base64, date, time_of_day}, proofs.ReadAgain.address-address_text}
use Rattle.dir_bytes.proofs.ReadAgain.{base64-base64_text, date-date_text, number-decimal, time_of_day-clock_text}
use Rattle.dir_values.specs.{Arguments.{Argument, arguments_at}, Digests.digest1, Names.is_nickname, Numbers.port_of}
use Rattle.dir_values.specs.declared.digest.{Digest1.Digest1, Fingerprint.Fingerprint}
use Rattle.dirdoc_grammar.specs.Writing.{written}
use Rattle.frame_values.specs.{Arguments.arguments_of, Fields.span_of, Items.bare, Parts.moment_of, Ranges.AreTwenty}
use Rattle.item_terms.specs.Items.{Item}
use Rattle.frame_laws.proofs.{Base64Words.word_of_base64, Words.{AreWords, IsWord, arguments_of_words, two_words}}
use Rattle.frame_laws.proofs.Words.{word_of_address, word_of_clock, word_of_date, word_of_nickname, word_of_number}
use Rattle.relay_entries.specs.{Fields.identity, Lines.relay_of, Texts.relay_text}
use Rattle.group_laws.specs.{EntryAgain.{RelayLinesAreReadAgain, rest_start}, Ranges.IsRelayInRange}

-- ---- values

-- the base64 of an identity is read as that identity
pub identity_again : (key : Fingerprint) → AreTwenty key.0 → identity (base64_text key.0) ≡ Some key
identity_again key are =
    ap (option_map (λ bytes. record { 0 = bytes }))
    (subst (λ (n : ℕ). base64 n (base64_text key.0) ≡ Some key.0) are.count (base64-base64_text key.0 are.each))

-- and that of a digest as that digest
pub digest_again : (digest : Digest1) → AreTwenty digest.0 → digest1 (base64_text digest.0) ≡ Some digest
digest_again digest are =
    ap (option_map (λ bytes. record { 0 = bytes }))
    (subst (λ (n : ℕ). base64 n (base64_text digest.0) ≡ Some digest.0) are.count
    (base64-base64_text digest.0 are.each))

-- it is a word
pub word_of_twenty : (bytes : List ℕ) → AreTwenty bytes → IsWord (base64_text bytes)
word_of_twenty bytes are = word_of_base64 bytes (omega (arith, are.count)) are.each

pub port_again : (n : ℕ) → n ≤ 65535 → port_of (decimal n) ≡ Some n
port_again n small = number-decimal 65535 n small (omega (arith, small))

-- ---- an item whose arguments are known

relay_is : (item : Item) (a b c d e f g h : Argument) (key : Fingerprint) (digest : Digest1)
    (days seconds ip or_port dir_port : ℕ)
    → arguments_of item ≡ a ∷ b ∷ c ∷ d ∷ e ∷ f ∷ g ∷ h ∷ [] → is_nickname a.text ≡ true → identity b.text ≡ Some key
    → digest1 c.text ≡ Some digest → date d.text ≡ Some days → time_of_day e.text ≡ Some seconds
    → address f.text ≡ Some ip → port_of g.text ≡ Some or_port → port_of h.text ≡ Some dir_port
    → relay_of item
    ≡ Ok (record {
      nickname = span_of a;
      identity = key;
      digest = digest;
      published = 86400 * days + seconds;
      ip = ip;
      or_port = or_port;
      dir_port = dir_port;
    })
relay_is item a b c d e f g h key digest days seconds ip or_port dir_port args name id of day second number or dir =
    rw (args, name, id, of, day, second, number, or, dir) refl

-- ---- its text

-- the words of a relay's line
abbrev pub words_of_relay : List ℕ → Fingerprint → Digest1 → ℕ → ℕ → ℕ → ℕ → List (List ℕ)
words_of_relay nickname key digest m ip or_port dir_port =
    nickname ∷ base64_text key.0 ∷ base64_text digest.0 ∷ date_text (m / 86400) ∷ clock_text (m % 86400)
    ∷ address_text ip ∷ decimal or_port ∷ decimal dir_port ∷ []

in_a_row : (a b c d e f g h : List ℕ)
    → ((a ++ b) ++ c) ++ ((((d ++ e) ++ f) ++ g) ++ h) ≡ a ++ (b ++ (c ++ (d ++ (e ++ (f ++ (g ++ h))))))
in_a_row a b c d e f g h = simp append_assoc refl

pub relay_shape : (nickname : List ℕ) (key : Fingerprint) (digest : Digest1) (published ip or_port dir_port : ℕ)
    → relay_text nickname key digest published ip or_port dir_port
    ≡ join_with_byte 32 (words_of_relay nickname key digest (moment_of published) ip or_port dir_port)
relay_shape nickname key digest published ip or_port dir_port =
    let m = moment_of published in
    in_a_row nickname (32 ∷ base64_text key.0) (32 ∷ base64_text digest.0) (32 ∷ date_text (m / 86400))
    (32 ∷ clock_text (m % 86400)) (32 ∷ address_text ip) (32 ∷ decimal or_port) (32 ∷ decimal dir_port)

eight_words : (a b c d e f g h : List ℕ) → IsWord a → IsWord b → IsWord c → IsWord d → IsWord e → IsWord f
    → AreWords (g ∷ h ∷ [])
    → AreWords (a ∷ b ∷ c ∷ d ∷ e ∷ f ∷ g ∷ h ∷ [])
eight_words a b c d e f g h first second third fourth fifth sixth others =
    All-cons IsWord a (b ∷ c ∷ d ∷ e ∷ f ∷ g ∷ h ∷ []) first
    (All-cons IsWord b (c ∷ d ∷ e ∷ f ∷ g ∷ h ∷ []) second
    (All-cons IsWord c (d ∷ e ∷ f ∷ g ∷ h ∷ []) third
    (All-cons IsWord d (e ∷ f ∷ g ∷ h ∷ []) fourth
    (All-cons IsWord e (f ∷ g ∷ h ∷ []) fifth
    (All-cons IsWord f (g ∷ h ∷ []) sixth others)))))

relay_words : (nickname : List ℕ) (key : Fingerprint) (digest : Digest1) (m ip or_port dir_port : ℕ)
    → IsRelayInRange nickname key digest ip or_port dir_port
    → AreWords (words_of_relay nickname key digest m ip or_port dir_port)
relay_words nickname key digest m ip or_port dir_port are =
    eight_words nickname (base64_text key.0) (base64_text digest.0) (date_text (m / 86400)) (clock_text (m % 86400))
    (address_text ip) (decimal or_port) (decimal dir_port)
    (word_of_nickname nickname are.nickname_is) (word_of_twenty key.0 are.identity_is)
    (word_of_twenty digest.0 are.digest_is) (word_of_date (m / 86400)) (word_of_clock (m % 86400)) (word_of_address ip)
    (two_words (decimal or_port) (decimal dir_port) (word_of_number or_port) (word_of_number dir_port))

-- ---- the law

pub relay_again : RelayLinesAreReadAgain
relay_again place keyword nickname key digest published ip or_port dir_port are =
    let text = relay_text nickname key digest published ip or_port dir_port in
    let m = moment_of published in
    let within : m ≤ last_moment = omega arith in
    let a = nickname in
    let b = base64_text key.0 in
    let c = base64_text digest.0 in
    let d = date_text (m / 86400) in
    let e = clock_text (m % 86400) in
    let f = address_text ip in
    let g = decimal or_port in
    let h = decimal dir_port in
    let start = rest_start place keyword text in
    let second = start + length a + 1 in
    let third = second + length b + 1 in
    let fourth = third + length c + 1 in
    let fifth = fourth + length d + 1 in
    let sixth = fifth + length e + 1 in
    let seventh = sixth + length f + 1 in
    let eighth = seventh + length g + 1 in
    let sum : 86400 * (m / 86400) + m % 86400 ≡ m = omega arith in
    relay_is (written place (bare keyword text)) (record { place = start; text = a })
    (record { place = second; text = b }) (record { place = third; text = c }) (record { place = fourth; text = d })
    (record { place = fifth; text = e }) (record { place = sixth; text = f }) (record { place = seventh; text = g })
    (record { place = eighth; text = h })
    key digest (m / 86400) (m % 86400) ip or_port dir_port
    (ap (arguments_at start) (relay_shape nickname key digest published ip or_port dir_port)
    ∙ arguments_of_words start (words_of_relay nickname key digest m ip or_port dir_port)
    (relay_words nickname key digest m ip or_port dir_port are))
    are.nickname_is (identity_again key are.identity_is) (digest_again digest are.digest_is)
    (date-date_text (m / 86400) (omega (arith, within))) (time_of_day-clock_text (m % 86400) (omega arith))
    (address-address_text ip are.ip_is) (port_again or_port are.or_port_is) (port_again dir_port are.dir_port_is)
    ∙ ap (λ (x : ℕ). Ok (record {
      nickname = span_of (record { place = start; text = a });
      identity = key;
      digest = digest;
      published = x;
      ip = ip;
      or_port = or_port;
      dir_port = dir_port;
    })) sum
