-- The texts in the lines of an entry that is in range are short.
use Rattle.std.proofs.Common.{◌≡◌, ℕ, suc, ◌+◌, ◌/◌, ◌%◌, ◌≤◌, Bool, true, false, List, [], ◌∷◌, ◌++◌, length}
use Rattle.std.proofs.{Common.{length-append, map, filter, Option, Some, None, refl, ap, arith}, lemmas.Bool.and_parts}
use Rattle.std.proofs.lemmas.{Bool.leb-true, Fmt.{length-decimal-le, length-decimal-le_succ}, List.Elements.All-cons}
use Rattle.std.proofs.lemmas.List.Elements.{All-filter, All-head, All-map, All-nil, All-tail, All-weaker}
use Rattle.std.{proofs.lemmas.List.Sums.AllPass-from_list_all, specs.Prelude.{All, IfSome, codes, decimal, nat_le}}
use Rattle.std.specs.{Prelude.{option_and_then, option_map, ◌&&◌, if◌then◌else◌}, List.join_with_byte, Str.bytes_eq}
use Rattle.item_terms.specs.{Bytes.space, Words.{ends_or_blank, is_blank, onto_word, words_of}}
use Rattle.dir_bytes.specs.FieldTexts.{address_text, base64_text, clock_text, date_text}
use Rattle.dir_bytes.proofs.{Days.length-moment_text, Spelling.length-base64_text}
use Rattle.dir_values.specs.FlagSets.{as_set, set_text}
use Rattle.frame_values.specs.Parts.{moment_of}
use Rattle.group_laws.specs.Ranges.{AreBandwidthsInRange, AreThirtyTwo, IsOpinionInRange, IsRelayInRange}
use Rattle.group_laws.proofs.WrittenRelays.{relay_shape, words_of_relay}
use Rattle.relay_entries.specs.{Texts.{bandwidths_text, ed_text, number_word}, declared.said.Bandwidths.Bandwidths}
use Rattle.relay_entries.specs.declared.said.EdOpinion.{EdOpinion}
use Rattle.relay_entries.specs.declared.said.EdOpinion.TheVariants as opinion
use Rattle.descriptor_laws.specs.ReadRanges.{IsShortRest}
use Rattle.flag_rules.specs.{Names.{name_table, names_of}, declared.flags.Flags.Flags}
use Rattle.vote_terms.specs.declared.entry.EntryFacts.{EntryFacts}
use Rattle.vote_text.specs.Entries.{line_of}
use Rattle.vote_maker.specs.Entries.{version_of_platform, version_of_words}
use Rattle.range_laws.proofs.{KeptEntries.count_map, ReadNames.count_of_set, TextSizes.{IsAtMost, address_short}}
use Rattle.range_laws.proofs.TextSizes.{join_short}
use Rattle.vote_laws.proofs.{FlagSets.All-as_set, Members.few_pass}

-- ---- the relay

date_short : (m : ℕ) → length (date_text (m / 86400)) ≤ 19
date_short m =
    omega (arith, length-moment_text m, length-append (date_text (m / 86400)) (32 ∷ clock_text (m % 86400)))

clock_short : (m : ℕ) → length (clock_text (m % 86400)) ≤ 19
clock_short m =
    omega (arith, length-moment_text m, length-append (date_text (m / 86400)) (32 ∷ clock_text (m % 86400)))

port_short : (port : ℕ) → port ≤ 65535 → length (decimal port) ≤ 65536
port_short port small = omega (arith, small, length-decimal-le_succ port (omega (arith, small)))

twenty_short : (bytes : List ℕ) → length bytes ≡ 20 → length (base64_text bytes) ≤ 65536
twenty_short bytes count = omega (arith, count, length-base64_text bytes)

nickname_short : (name : List ℕ) → (nat_le 1 (length name) && nat_le (length name) 19) ≡ true → length name ≤ 65536
nickname_short name is =
    let both = leb-true (length name) 19 (and_parts (nat_le 1 (length name)) (nat_le (length name) 19) is).1 in
    omega (arith, both)

pub relay_short : (entry : EntryFacts)
    → IsRelayInRange entry.nickname entry.identity entry.digest entry.ip entry.or_port entry.dir_port
    → length (line_of entry) ≤ 1000000
relay_short entry are =
    let m = moment_of entry.published in
    let P : List ℕ → Type 0 = IsAtMost 65536 in
    let a = entry.nickname in
    let b = base64_text entry.identity.0 in
    let c = base64_text entry.digest.0 in
    let d = date_text (m / 86400) in
    let e = clock_text (m % 86400) in
    let f = address_text entry.ip in
    let g = decimal entry.or_port in
    let h = decimal entry.dir_port in
    let all =
    All-cons P a (b ∷ c ∷ d ∷ e ∷ f ∷ g ∷ h ∷ []) (nickname_short a (and_parts _ _ are.nickname_is).0)
    (All-cons P b (c ∷ d ∷ e ∷ f ∷ g ∷ h ∷ []) (twenty_short entry.identity.0 are.identity_is.count)
    (All-cons P c (d ∷ e ∷ f ∷ g ∷ h ∷ []) (twenty_short entry.digest.0 are.digest_is.count)
    (All-cons P d (e ∷ f ∷ g ∷ h ∷ []) (omega (arith, date_short m))
    (All-cons P e (f ∷ g ∷ h ∷ []) (omega (arith, clock_short m))
    (All-cons P f (g ∷ h ∷ []) (omega (arith, address_short entry.ip are.ip_is))
    (All-cons P g (h ∷ []) (port_short entry.or_port are.or_port_is)
    (All-cons P h [] (port_short entry.dir_port are.dir_port_is) (All-nil P)))))))) in
    let shape =
    ap (λ (l : List ℕ). length l)
    (relay_shape a entry.identity entry.digest entry.published entry.ip entry.or_port entry.dir_port) in
    let short =
    join_short 65536 32 (words_of_relay a entry.identity entry.digest m entry.ip entry.or_port entry.dir_port) all in
    omega (arith, shape, short)

-- ---- its flags

abbrev IsShortName : Bool × List ℕ → Type 0
IsShortName row = nat_le (length row.1) 64 ≡ true

pub names_short : (flags : Flags) → length (set_text (names_of flags)) ≤ 1000000
unfolding names_of
names_short flags =
    let rows = filter (λ (row : Bool × List ℕ). row.0) (name_table flags) in
    let names : List (List ℕ) = map (λ (row : Bool × List ℕ). row.1) rows in
    let all : All IsShortName (name_table flags) =
    AllPass-from_list_all (λ (row : Bool × List ℕ). nat_le (length row.1) 64) (name_table flags) refl in
    let each : All (λ (name : List ℕ). nat_le (length name) 64 ≡ true) names =
    All-map (λ (name : List ℕ). nat_le (length name) 64 ≡ true) (λ (row : Bool × List ℕ). row.1) rows
    (All-filter (λ (row : Bool × List ℕ). row.0) IsShortName (name_table flags) all) in
    let short = All-weaker (λ (name : List ℕ). nat_le (length name) 64 ≡ true) (IsAtMost 64)
    (λ name is. leb-true (length name) 64 is) names each in
    let few : length (as_set names) ≤ 12 =
    omega (
      arith,
      count_of_set names,
      count_map (λ (row : Bool × List ℕ). row.1) rows,
      few_pass (λ (row : Bool × List ℕ). row.0) (name_table flags),
    ) in
    let text = join_short 64 space (as_set names) (All-as_set (IsAtMost 64) names short) in
    omega (arith, text, few)

-- ---- its version

onto_short : (most b : ℕ) (words : List (List ℕ)) → All (IsAtMost most) words
    → All (IsAtMost (suc most)) (onto_word b words)
onto_short most b [] all = All-cons (IsAtMost (suc most)) (b ∷ []) [] (omega arith) (All-nil (IsAtMost (suc most)))
onto_short most b (word ∷ rest) all =
    All-cons (IsAtMost (suc most)) (b ∷ word) rest (omega (arith, All-head (IsAtMost most) word rest all))
    (All-weaker (IsAtMost most) (IsAtMost (suc most)) (λ w is. omega (arith, is)) rest
    (All-tail (IsAtMost most) word rest all))

words_short : (text : List ℕ) → All (IsAtMost (length text)) (words_of text)
words_short [] = All-nil (IsAtMost 0)
words_short (b ∷ text) = by (is_blank b) (ends_or_blank text) (words_short text)
  where
    longer : All (IsAtMost (length text)) (words_of text) → All (IsAtMost (length (b ∷ text))) (words_of text)
    longer all =
        All-weaker (IsAtMost (length text)) (IsAtMost (length (b ∷ text))) (λ w is. omega (arith, is))
        (words_of text) all

    by : (blank ends : Bool) → All (IsAtMost (length text)) (words_of text)
        → All (IsAtMost (length (b ∷ text)))
        (if blank then words_of text else if ends then (b ∷ []) ∷ words_of text else onto_word b (words_of text))
    by true ends all = longer all
    by false true all = All-cons (IsAtMost (length (b ∷ text))) (b ∷ []) (words_of text) (omega arith) (longer all)
    by false false all = onto_short (length text) b (words_of text) all

abbrev pub IsMillion : List ℕ → Type 0
IsMillion text = length text ≤ 1000000

version_short : (words : List (List ℕ)) → All (IsAtMost 65536) words → IfSome (version_of_words words) IsMillion
version_short [] all = tt
version_short (name ∷ []) all = tt
version_short (name ∷ number ∷ others) all = by (bytes_eq name (codes "Tor"))
  where
    by : (t : Bool) → IfSome (if t then Some (name ++ space ∷ number) else None) IsMillion
    by true =
        let first = All-head (IsAtMost 65536) name (number ∷ others) all in
        let second =
        All-head (IsAtMost 65536) number others (All-tail (IsAtMost 65536) name (number ∷ others) all) in
        omega (arith, first, second, length-append name (space ∷ number))
    by false = tt

pub platform_short : (platform : Option (List ℕ)) → IfSome platform IsShortRest
    → IfSome (option_and_then version_of_platform platform) IsMillion
platform_short None is = tt
platform_short (Some platform) is =
    version_short (words_of platform)
    (All-weaker (IsAtMost (length platform)) (IsAtMost 65536) (λ w it. omega (arith, it, is.short)) (words_of platform)
    (words_short platform))

pub rest_short : (text : Option (List ℕ)) → IfSome text IsShortRest → IfSome text IsMillion
rest_short None is = tt
rest_short (Some text) is = omega (arith, is.short)

-- ---- its numbers and digests

word_short : (key : List ℕ) (n : ℕ) → length key ≤ 64 → n ≤ 4294967295 → IsAtMost 100 (key ++ decimal n)
word_short key n few small =
    omega (
      arith,
      few,
      length-append key (decimal n),
      length-decimal-le 10 n (omega arith) (omega (arith, small)) (omega (arith, small)),
    )

number_words_short : (bandwidth measured : Option ℕ) → IfSome bandwidth (λ n. n ≤ 4294967295)
    → IfSome measured (λ n. n ≤ 4294967295)
    → length (join_with_byte space (number_word (codes "Bandwidth=") bandwidth
    ++ number_word (codes "Measured=") measured))
    ≤ 1000000
number_words_short None None first second = omega arith
number_words_short None (Some m) first second =
    omega (arith, word_short (codes "Measured=") m (omega arith) second)
number_words_short (Some n) None first second =
    omega (arith, word_short (codes "Bandwidth=") n (omega arith) first)
number_words_short (Some n) (Some m) first second =
    omega (
      arith,
      word_short (codes "Bandwidth=") n (omega arith) first,
      word_short (codes "Measured=") m (omega arith) second,
      length-append (codes "Bandwidth=" ++ decimal n) (space ∷ (codes "Measured=" ++ decimal m)),
    )

pub bandwidths_short : (w : Option Bandwidths) → IfSome w AreBandwidthsInRange
    → IfSome (option_map bandwidths_text w) IsMillion
bandwidths_short None are = tt
bandwidths_short (Some w) are = number_words_short w.bandwidth w.measured are.bandwidth are.measured

thirty_two_short : (bytes : List ℕ) → AreThirtyTwo bytes → length (base64_text bytes) ≤ 100
thirty_two_short bytes are = omega (arith, are.count, length-base64_text bytes)

pub key_short : (said : EdOpinion) → IsOpinionInRange said → IfSome (ed_text said) IsMillion
key_short (opinion.Key bytes) are =
    omega (arith, thirty_two_short bytes are, length-append (codes "ed25519 ") (base64_text bytes))
key_short opinion.None are = omega arith
key_short opinion.Absent are = tt
