-- What the line of a relay, of an address and of flags says is in range.
use Rattle.std.proofs.Common.{◌≡◌, ℕ, ◌+◌, ◌*◌, ◌<◌, ◌≤◌, ◌^◌, true, List, [], ◌∷◌, Result, Ok, Err, refl, sym, ap}
use Rattle.std.{proofs.{Common.{subst, ◌∙◌}, lemmas.Bool.false≢true}, specs.Prelude.All}
use Rattle.base64.specs.GeneralPurpose.{IsBytes}
use Rattle.dir_bytes.specs.Fields.{address, date, time_of_day}
use Rattle.item_terms.specs.{Items.Item, Words.words_of}
use Rattle.dirdoc_grammar.specs.Writers.{is_argument}
use Rattle.dir_values.specs.{Arguments.Argument, Digests.digest1, FlagSets.wrong_flag, Names.is_nickname}
use Rattle.dir_values.specs.{Numbers.port_of, declared.digest.{Digest1.Digest1, Fingerprint.Fingerprint}}
use Rattle.frame_values.specs.{Arguments.{arguments_of, field, front, next, others}, Fields.{is_there, span_if}}
use Rattle.frame_values.specs.{Lines.flags_of, Parts.part, Ranges.AreTwenty, declared.found.Span.Span}
use Rattle.frame_laws.proofs.StandingParts.{rest_part}
use Rattle.relay_entries.specs.{Fields.{identity, is_address}, Lines.{address_of, relay_of}}
use Rattle.relay_entries.specs.declared.said.RelayLine.{RelayLine}
use Rattle.group_laws.specs.Ranges.{IsAddressInRange, IsRelayInRange}
use Rattle.row_laws.proofs.ItemArguments.{AreFound, IsSound, are_found, found_word, front_found, others_found}
use Rattle.row_laws.proofs.ReadSteps.{base64_made, front_bytes, ReadAs, address_within, any_reads, field_reads}
use Rattle.row_laws.proofs.ReadSteps.{next_reads, number_within, rest_reads, span_reads}
use Rattle.range_laws.proofs.ReadNames.{IsName, names_of_words}

-- ---- texts of arguments

-- an identity in base64
pub twenty_reads : (argument : Argument) (text : List ℕ) → IsBytes text
    → ReadAs (λ (key : Fingerprint). AreTwenty key.0) (field argument (identity text))
twenty_reads argument text are =
    base64_made (λ (key : Fingerprint). AreTwenty key.0) (λ b. record { 0 = b }) 20 argument text are
    (λ b count each. record { count = count; each = each })

-- a SHA-1 digest in base64
pub digest_reads : (argument : Argument) (text : List ℕ) → IsBytes text
    → ReadAs (λ (digest : Digest1). AreTwenty digest.0) (field argument (digest1 text))
digest_reads argument text are =
    base64_made (λ (digest : Digest1). AreTwenty digest.0) (λ b. record { 0 = b }) 20 argument text are
    (λ b count each. record { count = count; each = each })

-- ---- a relay

abbrev pub IsLine : List ℕ → RelayLine → Type 0
IsLine bytes line =
    IsRelayInRange (part bytes line.nickname) line.identity line.digest line.ip line.or_port line.dir_port

-- a nickname is some text
pub nickname_there : (text : List ℕ) → is_nickname text ≡ true → is_there text ≡ true
nickname_there [] is = absurd (false≢true is)
nickname_there (b ∷ text) is = refl

abbrev pub IsNickname : List ℕ → Span → Type 0
IsNickname bytes span = is_nickname (part bytes span) ≡ true

-- a nickname is found
pub nickname_reads : (bytes : List ℕ) (item : ℕ) (arguments : List Argument) → AreFound bytes arguments
    → ReadAs (IsNickname bytes)
    (field (front item arguments) (span_if (is_nickname (front item arguments).text) (front item arguments)))
nickname_reads bytes item arguments found =
    let name = front item arguments in
    span_reads (IsNickname bytes) name (is_nickname name.text) (λ is.
    ap is_nickname (front_found bytes item arguments found (nickname_there name.text is)).part ∙ is)

pub port_reads : (argument : Argument) → ReadAs (λ (n : ℕ). n ≤ 65535) (field argument (port_of argument.text))
port_reads argument =
    field_reads (λ (n : ℕ). n ≤ 65535) argument (port_of argument.text)
    (λ n is. number_within 65535 argument.text n is)

pub ip_reads : (argument : Argument) → ReadAs (λ (n : ℕ). n < 2 ^ 32) (field argument (address argument.text))
ip_reads argument =
    field_reads (λ (n : ℕ). n < 2 ^ 32) argument (address argument.text)
    (λ n is. address_within argument.text n is)

-- what is read is such as follows from what it is
pub weaker_reads : {X : Type 0} (P Q : X → Type 0) (read : Result X ℕ) → ((x : X) → P x → Q x) → ReadAs P read
    → ReadAs Q read
weaker_reads P Q (Ok x) follows is = follows x is
weaker_reads P Q (Err place) follows is = tt

-- a relay whose digest is such
pub record IsRelayOf (IsDigest : Digest1 → Type 0) (bytes : List ℕ) (line : RelayLine) : Type 0 where
  pub nickname : IsNickname bytes line.nickname
  pub identity : AreTwenty line.identity.0
  pub digest : IsDigest line.digest
  pub ip : line.ip < 2 ^ 32
  pub or_port : line.or_port ≤ 65535
  pub dir_port : line.dir_port ≤ 65535

-- the relay that an item says, where its digest is read so, and the date from these arguments
abbrev pub relay_with : Item → Result Digest1 ℕ → List Argument → Result RelayLine ℕ
relay_with item digest from_date =
    let name = front item.place (arguments_of item) in
    let key = front item.place (others (arguments_of item)) in
    let day = front item.place from_date in
    let time = front item.place (others from_date) in
    let host = front item.place (others (others from_date)) in
    let or_text = front item.place (others (others (others from_date))) in
    let dir_text = front item.place (others (others (others (others from_date)))) in
    next (field name (span_if (is_nickname name.text) name)) (λ n.
    next (field key (identity key.text)) (λ k.
    next digest (λ g.
    next (field day (date day.text)) (λ days.
    next (field time (time_of_day time.text)) (λ seconds.
    next (field host (address host.text)) (λ i.
    next (field or_text (port_of or_text.text)) (λ o.
    next (field dir_text (port_of dir_text.text)) (λ d. Ok (record {
      nickname = n;
      identity = k;
      digest = g;
      published = 86400 * days + seconds;
      ip = i;
      or_port = o;
      dir_port = d;
    })))))))))

pub relay_with_reads : (IsDigest : Digest1 → Type 0) (bytes : List ℕ) (item : Item) (digest : Result Digest1 ℕ)
    (from_date : List Argument) → IsBytes bytes → IsSound bytes item → ReadAs IsDigest digest
    → ReadAs (IsRelayOf IsDigest bytes) (relay_with item digest from_date)
relay_with_reads IsDigest bytes item digest from_date are sound digest_read =
    let from_key = others (arguments_of item) in
    let from_ip = others (others from_date) in
    let found0 = are_found sound in
    let found1 = others_found bytes (arguments_of item) found0 in
    let name = front item.place (arguments_of item) in
    let key = front item.place from_key in
    let day = front item.place from_date in
    let time = front item.place (others from_date) in
    let host = front item.place from_ip in
    let or_text = front item.place (others from_ip) in
    let dir_text = front item.place (others (others from_ip)) in
    let days = field day (date day.text) in
    let seconds = field time (time_of_day time.text) in
    let Line : RelayLine → Type 0 = IsRelayOf IsDigest bytes in
    let Any : ℕ → Type 0 = λ n. Unit {0} in
    let IsPort : ℕ → Type 0 = λ n. n ≤ 65535 in
    next_reads (IsNickname bytes) Line (field name (span_if (is_nickname name.text) name)) _
    (nickname_reads bytes item.place (arguments_of item) found0) (λ n is_n.
    next_reads (λ (key : Fingerprint). AreTwenty key.0) Line (field key (identity key.text)) _
    (twenty_reads key key.text (front_bytes bytes item.place from_key are found1)) (λ k is_k.
    next_reads IsDigest Line digest _ digest_read (λ g is_g.
    next_reads Any Line days _ (any_reads days) (λ x is_x.
    next_reads Any Line seconds _ (any_reads seconds) (λ y is_y.
    next_reads (λ (i : ℕ). i < 2 ^ 32) Line (field host (address host.text)) _ (ip_reads host) (λ i is_i.
    next_reads IsPort Line (field or_text (port_of or_text.text)) _ (port_reads or_text) (λ o is_o.
    next_reads IsPort Line (field dir_text (port_of dir_text.text)) _ (port_reads dir_text) (λ d is_d.
    record { nickname = is_n; identity = is_k; digest = is_g; ip = is_i; or_port = is_o; dir_port = is_d }))))))))

pub relay_reads : (bytes : List ℕ) (item : Item) → IsBytes bytes → IsSound bytes item → ReadAs (IsLine bytes) (relay_of item)
relay_reads bytes item are sound =
    let from_key = others (arguments_of item) in
    let from_digest = others from_key in
    let digest = front item.place from_digest in
    let found = others_found bytes from_key (others_found bytes (arguments_of item) (are_found sound)) in
    let IsDigest : Digest1 → Type 0 = λ digest. AreTwenty digest.0 in
    weaker_reads (IsRelayOf IsDigest bytes) (IsLine bytes) (relay_of item) (λ line is. record {
      nickname_is = is.nickname;
      identity_is = is.identity;
      digest_is = is.digest;
      ip_is = is.ip;
      or_port_is = is.or_port;
      dir_port_is = is.dir_port;
    })
    (relay_with_reads IsDigest bytes item (field digest (digest1 digest.text)) (others from_digest) are sound
    (digest_reads digest digest.text (front_bytes bytes item.place from_digest are found)))

-- ---- further addresses and flags

address_there : (text : List ℕ) → is_address text ≡ true → is_there text ≡ true
address_there [] is = absurd (cc (is))
address_there (b ∷ text) is = refl

abbrev pub IsAddressAt : List ℕ → Span → Type 0
IsAddressAt bytes span = IsAddressInRange (part bytes span)

pub address_reads : (bytes : List ℕ) (item : Item) → IsSound bytes item → ReadAs (IsAddressAt bytes) (address_of item)
address_reads bytes item sound =
    let first = front item.place (arguments_of item) in
    span_reads (IsAddressAt bytes) first (is_address first.text) (λ is.
    let there = address_there first.text is in
    let found = front_found bytes item.place (arguments_of item) (are_found sound) there in
    record { word = ap is_argument found.part ∙ found_word first.text there found.word; address = ap is_address found.part ∙ is })

abbrev pub AreNamesAt : List ℕ → Span → Type 0
AreNamesAt bytes span = All IsName (words_of (part bytes span))

pub flags_read : (bytes : List ℕ) (item : Item) → IsSound bytes item → ReadAs (AreNamesAt bytes) (flags_of item)
flags_read bytes item sound =
    rest_reads (AreNamesAt bytes) item (wrong_flag [] (arguments_of item)) (λ right.
    subst (λ (text : List ℕ). All IsName (words_of text)) (sym (rest_part sound.in_place))
    (names_of_words item.start item.arguments right))
