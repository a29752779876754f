-- The items of entries that say what is in range may be written, but for the limits.
use Rattle.std.proofs.Common.{ℕ, ◌/◌, ◌%◌, List, [], ◌∷◌, ◌++◌, Option, Some, None, refl, sym, subst}
use Rattle.std.{proofs.lemmas.List.Elements.{All-append, All-cons, All-head, All-nil, All-tail}, specs.Prelude.All}
use Rattle.std.specs.Prelude.{IfSome, codes, decimal, option_map}
use Rattle.dir_bytes.specs.FieldTexts.{address_text, base64_text, clock_text, date_text}
use Rattle.dirdoc_grammar.specs.Writing.{IsLineRest}
use Rattle.grammar_laws.proofs.LineRests.{rest_of_argument}
use Rattle.dir_values.specs.FlagSets.{set_text}
use Rattle.frame_terms.specs.declared.keyword.Keyword.TheVariants as the
use Rattle.frame_values.specs.{Items.{bare, item_if}, Parts.moment_of}
use Rattle.frame_laws.proofs.WordTexts.{AreWords, IsWord, bytes_of, two_words, word_of_address, word_of_clock}
use Rattle.frame_laws.proofs.WordTexts.{word_of_date, word_of_nickname, word_of_number, words_of_flags}
use Rattle.value_laws.proofs.LineWords.{rest_of_words}
use Rattle.relay_entries.specs.Texts.{bandwidths_text, ed_text, methods_text, number_word}
use Rattle.relay_entries.specs.declared.said.{Bandwidths.Bandwidths, EdOpinion.EdOpinion}
use Rattle.relay_entries.specs.declared.said.EdOpinion.TheVariants as opinion
use Rattle.group_laws.{specs.Ranges.{IsAddressInRange, IsOpinionInRange}, proofs.WrittenMethods.word_of_methods}
use Rattle.group_laws.proofs.{WrittenMicros.word_of_thirty_two, WrittenRelays.{relay_shape, word_of_twenty}}
use Rattle.group_laws.proofs.WrittenRelays.{words_of_relay}
use Rattle.vote_terms.specs.declared.entry.{EntryFacts.EntryFacts, MicroFacts.MicroFacts}
use Rattle.vote_text.specs.Entries.{entries_items, entry_items, flag_items, items_each, line_of, micro_items}
use Rattle.vote_text.specs.Entries.{micro_line, relay_items}
use Rattle.vote_laws.{specs.Again.{AreEntryFlags, IsEntryInRange, IsMicroInRange}, proofs.BareRows.{IsBare, if_bare}}
use Rattle.vote_laws.proofs.BareRows.{once_bare, one_bare}

-- the texts of an entry that are rests of lines are such
pub record HasRests (entry : EntryFacts) : Type 0 where
  pub version : IfSome entry.version IsLineRest
  pub protocols : IfSome entry.protocols IsLineRest
  pub policy : IfSome entry.policy IsLineRest

-- what is made of a value that may be there
pub made_rest : {A : Type 0} (P : A → Type 0) (of : A → List ℕ) (value : Option A) → IfSome value P
    → ((a : A) → P a → IsLineRest (of a)) → IfSome (option_map of value) IsLineRest
made_rest P of None is made = tt
made_rest P of (Some a) is made = made a is

-- ---- the relay

relay_rest : (entry : EntryFacts) → IsEntryInRange entry → IsLineRest (line_of entry)
relay_rest entry are =
    let m = moment_of entry.published in
    let relay = are.relay in
    let a = entry.nickname in
    let b = base64_text entry.identity.0 in
    let c = base64_text entry.digest.0 in
    let d = date_text (m / 86400) in
    let e = clock_text (m % 86400) in
    let f = address_text entry.ip in
    let g = decimal entry.or_port in
    let h = decimal entry.dir_port in
    let words =
    All-cons IsWord a (b ∷ c ∷ d ∷ e ∷ f ∷ g ∷ h ∷ []) (word_of_nickname a relay.nickname_is)
    (All-cons IsWord b (c ∷ d ∷ e ∷ f ∷ g ∷ h ∷ []) (word_of_twenty entry.identity.0 relay.identity_is)
    (All-cons IsWord c (d ∷ e ∷ f ∷ g ∷ h ∷ []) (word_of_twenty entry.digest.0 relay.digest_is)
    (All-cons IsWord d (e ∷ f ∷ g ∷ h ∷ []) (word_of_date (m / 86400))
    (All-cons IsWord e (f ∷ g ∷ h ∷ []) (word_of_clock (m % 86400))
    (All-cons IsWord f (g ∷ h ∷ []) (word_of_address entry.ip)
    (two_words g h (word_of_number entry.or_port) (word_of_number entry.dir_port))))))) in
    subst IsLineRest
    (sym (relay_shape a entry.identity entry.digest entry.published entry.ip entry.or_port entry.dir_port))
    (rest_of_words (words_of_relay a entry.identity entry.digest m entry.ip entry.or_port entry.dir_port) words)

-- ---- the rests of its lines

pub flags_rest : (flags : List (List ℕ)) → AreEntryFlags flags → IsLineRest (set_text flags)
flags_rest flags are = rest_of_words flags (words_of_flags flags are.each)

number_words : (bandwidth measured : Option ℕ)
    → AreWords (number_word (codes "Bandwidth=") bandwidth ++ number_word (codes "Measured=") measured)
number_words None None = All-nil IsWord
number_words None (Some n) =
    All-cons IsWord (codes "Measured=" ++ decimal n) [] (bytes_of (decimal n) (word_of_number n)) (All-nil IsWord)
number_words (Some n) None =
    All-cons IsWord (codes "Bandwidth=" ++ decimal n) [] (bytes_of (decimal n) (word_of_number n)) (All-nil IsWord)
number_words (Some n) (Some m) =
    All-cons IsWord (codes "Bandwidth=" ++ decimal n) ((codes "Measured=" ++ decimal m) ∷ [])
    (bytes_of (decimal n) (word_of_number n))
    (All-cons IsWord (codes "Measured=" ++ decimal m) [] (bytes_of (decimal m) (word_of_number m)) (All-nil IsWord))

bandwidths_rest : (w : Bandwidths) → IsLineRest (bandwidths_text w)
bandwidths_rest w =
    rest_of_words (number_word (codes "Bandwidth=") w.bandwidth ++ number_word (codes "Measured=") w.measured)
    (number_words w.bandwidth w.measured)

micro_rest : (line : MicroFacts) → IsMicroInRange line → IsLineRest (micro_line line)
micro_rest line are =
    let a = methods_text line.methods in
    let b = codes "sha256=" ++ base64_text line.digest.0 in
    rest_of_words (a ∷ b ∷ [])
    (two_words a b (word_of_methods line.methods are.methods.some)
    (bytes_of (base64_text line.digest.0) (word_of_thirty_two line.digest.0 are.digest)))

key_rest : (said : EdOpinion) → IsOpinionInRange said → IfSome (ed_text said) IsLineRest
key_rest (opinion.Key bytes) are =
    let word = base64_text bytes in
    rest_of_words (codes "ed25519" ∷ word ∷ []) (two_words (codes "ed25519") word refl (word_of_thirty_two bytes are))
key_rest opinion.None are =
    rest_of_words (codes "ed25519" ∷ codes "none" ∷ []) (two_words (codes "ed25519") (codes "none") refl refl)
key_rest opinion.Absent are = tt

-- ---- its items

addresses_bare : (addresses : List (List ℕ)) → All IsAddressInRange addresses → All IsBare (items_each the.A addresses)
addresses_bare [] are = All-nil IsBare
addresses_bare (text ∷ rest) are =
    All-cons IsBare (bare the.A text) (items_each the.A rest)
    (one_bare the.A text (rest_of_argument text (All-head IsAddressInRange text rest are).word))
    (addresses_bare rest (All-tail IsAddressInRange text rest are))

micros_bare : (lines : List MicroFacts) → All IsMicroInRange lines → All IsBare (micro_items lines)
micros_bare [] are = All-nil IsBare
micros_bare (line ∷ lines) are =
    All-cons IsBare (bare the.M (micro_line line)) (micro_items lines)
    (one_bare the.M (micro_line line) (micro_rest line (All-head IsMicroInRange line lines are)))
    (micros_bare lines (All-tail IsMicroInRange line lines are))

entry_bare : (entry : EntryFacts) → IsEntryInRange entry → HasRests entry → All IsBare (entry_items entry)
entry_bare entry are rests =
    let relay = relay_items entry in
    let addresses = items_each the.A entry.addresses in
    let flags = flag_items entry in
    let version = item_if the.V entry.version in
    let protocols = item_if the.Pr entry.protocols in
    let bandwidths = item_if the.W (option_map bandwidths_text entry.bandwidths) in
    let policy = item_if the.P entry.policy in
    let micros = micro_items entry.micros in
    let key = item_if the.Id (ed_text entry.ed) in
    let relay_bare : All IsBare relay = once_bare the.R (line_of entry) (relay_rest entry are) in
    let flags_bare : All IsBare flags = once_bare the.S (set_text entry.flags) (flags_rest entry.flags are.flags) in
    let width_rest =
    made_rest (λ (w : Bandwidths). Unit {0}) bandwidths_text entry.bandwidths (any entry.bandwidths)
    (λ w is. bandwidths_rest w) in
    All-append IsBare (relay ++ addresses ++ flags ++ version ++ protocols ++ bandwidths ++ policy ++ micros) key
    (All-append IsBare (relay ++ addresses ++ flags ++ version ++ protocols ++ bandwidths ++ policy) micros
    (All-append IsBare (relay ++ addresses ++ flags ++ version ++ protocols ++ bandwidths) policy
    (All-append IsBare (relay ++ addresses ++ flags ++ version ++ protocols) bandwidths
    (All-append IsBare (relay ++ addresses ++ flags ++ version) protocols
    (All-append IsBare (relay ++ addresses ++ flags) version
    (All-append IsBare (relay ++ addresses) flags
    (All-append IsBare relay addresses relay_bare (addresses_bare entry.addresses are.addresses)) flags_bare)
    (if_bare the.V entry.version rests.version)) (if_bare the.Pr entry.protocols rests.protocols))
    (if_bare the.W (option_map bandwidths_text entry.bandwidths) width_rest))
    (if_bare the.P entry.policy rests.policy))
    (micros_bare entry.micros are.micros)) (if_bare the.Id (ed_text entry.ed) (key_rest entry.ed are.ed))
  where
    any : (w : Option Bandwidths) → IfSome w (λ o. Unit {0})
    any None = tt
    any (Some w) = tt

-- the items of entries
pub entries_bare : (entries : List EntryFacts) → All IsEntryInRange entries → All HasRests entries
    → All IsBare (entries_items entries)
entries_bare [] are rests = All-nil IsBare
entries_bare (entry ∷ entries) are rests =
    All-append IsBare (entry_items entry) (entries_items entries)
    (entry_bare entry (All-head IsEntryInRange entry entries are) (All-head HasRests entry entries rests))
    (entries_bare entries (All-tail IsEntryInRange entry entries are) (All-tail HasRests entry entries rests))
