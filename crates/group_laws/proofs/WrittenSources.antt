-- A line that says who an authority is, and that was written, is read again; and where its words stand.
use Rattle.std.proofs.Common.{◌≡◌, ℕ, ◌+◌, ◌≤◌, true, List, [], ◌∷◌, ◌++◌, length, Some, Ok, refl, sym, ap, subst, ◌∙◌}
use Rattle.std.{proofs.{Common.{append_assoc, arith, length-append}, lemmas.List.Elements.All-cons}, specs.Fmt.decimal}
use Rattle.std.specs.List.{join_with_byte}
use Rattle.item_terms.specs.Items.{Item}
use Rattle.dir_bytes.specs.{FieldTexts.{address_text, hex_text}, Fields.address}
use Rattle.dir_bytes.proofs.ReadAgain.{address-address_text, number-decimal}
use Rattle.dir_values.specs.{Arguments.Argument, Digests.fingerprint, Names.is_nickname, Numbers.port_of}
use Rattle.dir_values.specs.declared.digest.Fingerprint.{Fingerprint}
use Rattle.dirdoc_grammar.specs.Writing.{written}
use Rattle.frame_values.specs.{Arguments.arguments_of, Fields.{is_there, span, span_of}, Items.bare, Lines.source_of}
use Rattle.frame_values.specs.Parts.{part}
use Rattle.frame_laws.proofs.{StandingParts.part_of_part, Words.{AreWords, IsWord, arguments_of_words, two_words}}
use Rattle.frame_laws.proofs.Words.{word_of_address, word_of_identity, word_of_nickname, word_of_number}
use Rattle.frame_laws.proofs.WrittenItems.{identity_again, start_of, word_is_there}
use Rattle.group_laws.specs.LineAgain.{IsSourceInRange, SourceLinesAreReadAgain, source_at, source_text}
use Rattle.group_laws.specs.LineAgain.{words_of_source}

-- each of its words is a word
source_words : (nickname : List ℕ) (identity : Fingerprint) (host : List ℕ) (ip dir_port or_port : ℕ)
    → IsSourceInRange nickname identity host ip dir_port or_port
    → AreWords (words_of_source nickname identity host ip dir_port or_port)
source_words nickname identity host ip dir_port or_port are =
    let b = hex_text identity.0 in
    let d = address_text ip in
    let e = decimal dir_port in
    let f = decimal or_port in
    All-cons IsWord nickname (b ∷ host ∷ d ∷ e ∷ f ∷ []) (word_of_nickname nickname are.nickname_is)
    (All-cons IsWord b (host ∷ d ∷ e ∷ f ∷ []) (word_of_identity identity.0 are.identity_is.count are.identity_is.each)
    (All-cons IsWord host (d ∷ e ∷ f ∷ []) are.address_is
    (All-cons IsWord d (e ∷ f ∷ []) (word_of_address ip)
    (two_words e f (word_of_number dir_port) (word_of_number or_port)))))

-- ---- the line

port_again : (n : ℕ) → n ≤ 65535 → port_of (decimal n) ≡ Some n
port_again n small = number-decimal 65535 n small (omega (arith, small))

source_is : (item : Item) (a b c d e f : Argument) (identity : Fingerprint) (ip dir_port or_port : ℕ)
    → arguments_of item ≡ a ∷ b ∷ c ∷ d ∷ e ∷ f ∷ [] → is_nickname a.text ≡ true → fingerprint b.text ≡ Some identity
    → is_there c.text ≡ true
    → address d.text ≡ Some ip → port_of e.text ≡ Some dir_port → port_of f.text ≡ Some or_port
    → source_of item
    ≡ Ok (record {
      nickname = span_of a;
      identity = identity;
      address = span_of c;
      ip = ip;
      dir_port = dir_port;
      or_port = or_port;
    })
source_is item a b c d e f identity ip dir_port or_port args name id host number dir or =
    rw (args, name, id, host, number, dir, or) refl

pub source_again : SourceLinesAreReadAgain
source_again p k nickname identity host ip dir_port or_port are =
    let a = nickname in
    let b = hex_text identity.0 in
    let c = host in
    let d = address_text ip in
    let e = decimal dir_port in
    let f = decimal or_port in
    let text = source_text nickname identity host ip dir_port or_port in
    let start = start_of p k text in
    let second = start + length a + 1 in
    let third = second + length b + 1 in
    let fourth = third + length c + 1 in
    let fifth = fourth + length d + 1 in
    let sixth = fifth + length e + 1 in
    source_is (written p (bare k text)) (record { place = start; text = a }) (record { place = second; text = b })
    (record { place = third; text = c }) (record { place = fourth; text = d }) (record { place = fifth; text = e })
    (record { place = sixth; text = f })
    identity ip dir_port or_port
    (arguments_of_words start (a ∷ b ∷ c ∷ d ∷ e ∷ f ∷ [])
    (source_words nickname identity host ip dir_port or_port are))
    are.nickname_is (identity_again identity are.identity_is.count are.identity_is.each)
    (word_is_there c are.address_is) (address-address_text ip are.ip_is)
    (port_again dir_port are.dir_port_is) (port_again or_port are.or_port_is)

-- ---- parts of a text that stands in bytes

-- the nickname of the authority
pub nickname_part : (bytes : List ℕ) (start : ℕ) (nickname : List ℕ) (identity : Fingerprint) (host : List ℕ)
    (ip dir_port or_port : ℕ)
    → part bytes (span start (source_text nickname identity host ip dir_port or_port))
    ≡ source_text nickname identity host ip dir_port or_port
    → part bytes (source_at start nickname identity host ip dir_port or_port).nickname ≡ nickname
nickname_part bytes start nickname identity host ip dir_port or_port there =
    let back =
    32 ∷ join_with_byte 32 (hex_text identity.0 ∷ host ∷ address_text ip ∷ decimal dir_port ∷ decimal or_port ∷ []) in
    let front : start + 0 ≡ start = omega arith in
    sym (ap (λ (n : ℕ). part bytes (span n nickname)) front) ∙ part_of_part bytes start [] nickname back there

-- its host name
pub address_part : (bytes : List ℕ) (start : ℕ) (nickname : List ℕ) (identity : Fingerprint) (host : List ℕ)
    (ip dir_port or_port : ℕ)
    → part bytes (span start (source_text nickname identity host ip dir_port or_port))
    ≡ source_text nickname identity host ip dir_port or_port
    → part bytes (source_at start nickname identity host ip dir_port or_port).address ≡ host
address_part bytes start nickname identity host ip dir_port or_port there =
    let b = hex_text identity.0 in
    let front = nickname ++ 32 ∷ (b ++ 32 ∷ []) in
    let back = 32 ∷ join_with_byte 32 (address_text ip ∷ decimal dir_port ∷ decimal or_port ∷ []) in
    let inner : front ++ host ++ back ≡ nickname ++ 32 ∷ (b ++ 32 ∷ (host ++ back)) =
    append_assoc front host back ∙ append_assoc nickname (32 ∷ (b ++ 32 ∷ [])) (host ++ back)
    ∙ ap (λ (l : List ℕ). nickname ++ 32 ∷ l) (append_assoc b (32 ∷ []) (host ++ back)) in
    let stands : part bytes (span start (front ++ host ++ back)) ≡ front ++ host ++ back =
    subst (λ (t : List ℕ). part bytes (span start t) ≡ t) (sym inner) there in
    let place : start + length front ≡ start + length nickname + 1 + length b + 1 =
    omega (arith, length-append nickname (32 ∷ (b ++ 32 ∷ [])), length-append b (32 ∷ [])) in
    sym (ap (λ (n : ℕ). part bytes (span n host)) place) ∙ part_of_part bytes start front host back stands
