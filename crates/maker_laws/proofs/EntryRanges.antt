-- The entry of a relay whose descriptor is in range, of which what is known is, is in range.
use Rattle.std.proofs.Common.{◌≡◌, ℕ, ◌≤◌, Bool, true, false, List, [], ◌∷◌, ◌++◌, map, filter, Option, Some, None}
use Rattle.std.proofs.{Common.{refl, arith}, lemmas.{Bool.{and_from, false≢true}, List.Elements.{All-cons, All-filter}}}
use Rattle.std.proofs.lemmas.List.Elements.{All-head, All-map, All-nil, All-tail, All-weaker}
use Rattle.std.{proofs.lemmas.List.Sums.AllPass-from_list_all, specs.Prelude.{All, IfSome, codes, decimal, is_some}}
use Rattle.std.specs.{Prelude.{min, option_and_then, option_map, take, unwrap_or, ◌==◌, ◌/◌, if◌then◌else◌}, List.find}
use Rattle.std.specs.Str.{bytes_eq}
use Rattle.count_terms.specs.declared.newest.Newest.{Newest}
use Rattle.item_terms.specs.{Bytes.{comma, hyphen, space}, Words.words_of}
use Rattle.dir_values.specs.{Digests.identity_below, FlagSets.is_name, Ports.{entries_text, range_text, word_text}}
use Rattle.dir_values.specs.declared.{digest.Fingerprint.Fingerprint, port_range.PortRange.PortRange}
use Rattle.dir_values.proofs.Flags.{Ascend-as_set}
use Rattle.dirdoc_grammar.specs.Writing.{IsLineRest}
use Rattle.grammar_laws.proofs.LineRests.{rest_of_argument}
use Rattle.frame_laws.proofs.WordTexts.{AreWords, Dark, IsWord, both_dark, bytes_of, two_words, word_of_number}
use Rattle.value_laws.proofs.LineWords.{rest_of_words}
use Rattle.exit_summary.specs.Summaries.{summary_of}
use Rattle.descriptor_frame.specs.declared.certificate.EdCert.{EdCert}
use Rattle.group_laws.specs.Ranges.{AreThirtyTwo, IsAddressInRange, IsOpinionInRange}
use Rattle.descriptor_doc.specs.declared.descriptor.Descriptor.{Descriptor}
use Rattle.descriptor_laws.specs.ReadRanges.{IsDescriptorInRange, IsShortAddress, IsShortRest}
use Rattle.flag_rules.specs.{Names.{name_table, names_of}, Relays.ruled_relays, declared.flags.Flags.Flags}
use Rattle.flag_rules.specs.declared.{relay.RelayFacts.RelayFacts, ruling.Ruling.Ruling}
use Rattle.station_input.specs.declared.frame_said.MeasuredRelay.{MeasuredRelay}
use Rattle.maker_laws.{specs.Ranges.IsMeasuredInRange, proofs.{MicroLines.{IsFine, relay_micros}, RestWords.rest_words}}
use Rattle.vote_pool.specs.Summaries.{family_digest_of, micro_digest_of}
use Rattle.vote_laws.{specs.Again.{AreEntryFlags, IsEntryInRange, IsMicroInRange}, proofs.FlagSets.All-as_set}
use Rattle.vote_terms.specs.declared.entry.MicroFacts.{MicroFacts}
use Rattle.vote_maker.specs.Entries.{if_plain, is_ipv6, is_plain, knows_34, made_addresses, made_micros, opinion_of}
use Rattle.vote_maker.specs.{Entries.{version_of_platform, version_of_words}, Listings.{JudgedRelay, entry_of_judged}}
use Rattle.vote_maker.specs.{Listings.judged_relays, Relays.{is_of, known_of, known_relays, most_kilobytes}}
use Rattle.vote_maker.specs.Relays.{unmeasured_relay}
use Rattle.range_laws.proofs.{EntryTexts.HasRests, ReadNames.IsName}

-- ---- what is known of relays

abbrev Is32 : ℕ → Type 0
Is32 n = n ≤ 4294967295

-- its bandwidths have 32 bits
record IsKnownInRange (known : RelayFacts) : Type 0 where
  bandwidth : Is32 known.bandwidth_kb
  measured : IfSome known.measured.kb Is32

abbrev MeasuredIn : Option MeasuredRelay → Type 0
MeasuredIn found = IfSome (unwrap_or (option_map (λ (relay : MeasuredRelay). relay.measured) found) unmeasured_relay).kb Is32

measured_ranged : (relays : List MeasuredRelay) (identity : Fingerprint) → All IsMeasuredInRange relays
    → MeasuredIn (find (is_of identity) relays)
measured_ranged [] identity all = tt
measured_ranged (relay ∷ relays) identity all =
    by (is_of identity relay) (measured_ranged relays identity (All-tail IsMeasuredInRange relay relays all))
  where
    by : (t : Bool) → MeasuredIn (find (is_of identity) relays)
        → MeasuredIn (if t then Some relay else find (is_of identity) relays)
    by true more = All-head IsMeasuredInRange relay relays all
    by false more = more

at_most : (n m : ℕ) → min n m ≤ m
at_most n m = omega arith

known_ranged : (measured : List MeasuredRelay) (d : Descriptor) → All IsMeasuredInRange measured
    → IsKnownInRange (known_of measured d)
known_ranged measured d all = record {
  bandwidth = at_most (min d.bandwidth.average d.bandwidth.observed / 1000) most_kilobytes;
  measured = measured_ranged measured d.identity all;
}

-- ---- relays, each with what is known, ruled and assigned

-- what its descriptor says is in range, and what is known of it
pub record IsJudgedInRange (one : JudgedRelay) : Type 0 where
  pub descriptor : IsDescriptorInRange one.descriptor
  known : IsKnownInRange one.ruled.facts

pub judged_ranged : (measured : List MeasuredRelay) (ds : List Descriptor) (rulings : List Ruling) (flags : List Flags)
    → All IsMeasuredInRange measured → All IsDescriptorInRange ds
    → All IsJudgedInRange (judged_relays ds (ruled_relays (known_relays measured ds) rulings) flags)
judged_ranged measured [] rulings flags are all = All-nil IsJudgedInRange
judged_ranged measured (d ∷ ds) [] flags are all = All-nil IsJudgedInRange
judged_ranged measured (d ∷ ds) (ruling ∷ rulings) [] are all = All-nil IsJudgedInRange
judged_ranged measured (d ∷ ds) (ruling ∷ rulings) (its ∷ flags) are all =
    All-cons IsJudgedInRange
    (record { descriptor = d; ruled = record { facts = known_of measured d; ruling = ruling }; flags = its })
    (judged_relays ds (ruled_relays (known_relays measured ds) rulings) flags)
    (record { descriptor = All-head IsDescriptorInRange d ds all; known = known_ranged measured d are })
    (judged_ranged measured ds rulings flags are (All-tail IsDescriptorInRange d ds all))

-- one stands before the other
abbrev pub IsBelow : JudgedRelay → JudgedRelay → Type 0
IsBelow a b = identity_below a.descriptor.identity b.descriptor.identity ≡ true

-- ---- an entry

abbrev IsNamed : Bool × List ℕ → Type 0
IsNamed row = is_name row.1 ≡ true

flags_ranged : (flags : Flags) → AreEntryFlags (names_of flags)
unfolding names_of
flags_ranged flags =
    let rows = filter (λ (row : Bool × List ℕ). row.0) (name_table flags) in
    let all : All IsNamed (name_table flags) =
    AllPass-from_list_all (λ (row : Bool × List ℕ). is_name row.1) (name_table flags) refl in
    let names : List (List ℕ) = map (λ (row : Bool × List ℕ). row.1) rows in
    record {
      ascend = Ascend-as_set names;
      each = All-as_set IsName names
          (All-map IsName (λ (row : Bool × List ℕ). row.1) rows
          (All-filter (λ (row : Bool × List ℕ). row.0) IsNamed (name_table flags) all));
    }

first_kept : (addresses : List (List ℕ)) → All IsShortAddress addresses → All IsShortAddress (take 1 addresses)
first_kept [] all = all
first_kept (text ∷ rest) all =
    All-cons IsShortAddress text [] (All-head IsShortAddress text rest all) (All-nil IsShortAddress)

-- an address that was found, where it is written plainly
found_kept : (addresses : List (List ℕ)) → All IsShortAddress addresses
    → All IsShortAddress (if_plain (find is_ipv6 addresses))
found_kept [] all = all
found_kept (text ∷ rest) all =
    by (is_ipv6 text) (All-head IsShortAddress text rest all) (found_kept rest (All-tail IsShortAddress text rest all))
  where
    plain : (b : Bool) → IsShortAddress text → All IsShortAddress (if b then text ∷ [] else [])
    plain true is = All-cons IsShortAddress text [] is (All-nil IsShortAddress)
    plain false is = All-nil IsShortAddress

    by : (b : Bool) → IsShortAddress text → All IsShortAddress (if_plain (find is_ipv6 rest))
        → All IsShortAddress (if_plain (if b then Some text else find is_ipv6 rest))
    by true is more = plain (is_plain true false text) is
    by false is more = more

-- a made entry has addresses of the descriptor
pub made_kept : (newest : Newest) (addresses : List (List ℕ)) → All IsShortAddress addresses
    → All IsShortAddress (made_addresses newest addresses)
made_kept newest addresses all = by (knows_34 newest)
  where
    by : (b : Bool) → All IsShortAddress (if b then if_plain (find is_ipv6 addresses) else take 1 addresses)
    by true = found_kept addresses all
    by false = first_kept addresses all

opinion_ranged : (certificate : Option EdCert) → IfSome certificate (λ c. AreThirtyTwo c.signer)
    → IsOpinionInRange (opinion_of certificate)
opinion_ranged None is = tt
opinion_ranged (Some certificate) is = is

pub entry_ranged : (newest : Newest) (one : JudgedRelay) → IsJudgedInRange one
    → IsEntryInRange (entry_of_judged newest one)
entry_ranged newest one is =
    let d = is.descriptor in
    let its = one.descriptor in
    record {
      relay = d.router;
      published = d.published;
      addresses = All-weaker IsShortAddress IsAddressInRange (λ (text : List ℕ) is. is.address)
          (made_addresses newest its.or_addresses) (made_kept newest its.or_addresses d.or_addresses);
      flags = flags_ranged one.flags;
      bandwidths = record { bandwidth = is.known.bandwidth; measured = is.known.measured };
      micros = All-weaker IsFine IsMicroInRange (λ (line : MicroFacts) is. is.range)
          (made_micros newest (is_some its.onion_key) (micro_digest_of its) (family_digest_of its))
          (relay_micros newest its);
      ed = opinion_ranged one.descriptor.identity_ed25519 d.signer;
    }

-- ---- the rests of its lines

version_rest : (words : List (List ℕ)) → AreWords words → IfSome (version_of_words words) IsLineRest
version_rest [] are = tt
version_rest (name ∷ []) are = tt
version_rest (name ∷ number ∷ others) are = by (bytes_eq name (codes "Tor"))
  where
    by : (t : Bool) → IfSome (if t then Some (name ++ space ∷ number) else None) IsLineRest
    by true =
        let rest = All-tail IsWord name (number ∷ others) are in
        rest_of_words (name ∷ number ∷ [])
        (two_words name number (All-head IsWord name (number ∷ others) are) (All-head IsWord number others rest))
    by false = tt

platform_rest : (platform : Option (List ℕ)) → IfSome platform IsShortRest
    → IfSome (option_and_then version_of_platform platform) IsLineRest
platform_rest None is = tt
platform_rest (Some platform) is = version_rest (words_of platform) (rest_words platform is.rest)

short_rest : (text : Option (List ℕ)) → IfSome text IsShortRest → IfSome text IsLineRest
short_rest None is = tt
short_rest (Some text) is = is.rest

abbrev DarkIs : List ℕ → Type 0
DarkIs text = Dark text

range_dark : (range : PortRange) → DarkIs (range_text range)
unfolding range_text
range_dark range = by (range.low == range.high)
  where
    low : DarkIs (decimal range.low)
    low = bytes_of (decimal range.low) (word_of_number range.low)

    high : DarkIs (hyphen ∷ decimal range.high)
    high = and_from _ _ refl (bytes_of (decimal range.high) (word_of_number range.high))

    by : (t : Bool) → DarkIs (if t then decimal range.low else decimal range.low ++ hyphen ∷ decimal range.high)
    by true = low
    by false = both_dark (decimal range.low) (hyphen ∷ decimal range.high) low high

ranges_dark : (ranges : List PortRange) → DarkIs (entries_text comma ranges)
ranges_dark [] = refl
ranges_dark (range ∷ rest) =
    and_from _ _ refl (both_dark (range_text range) (entries_text comma rest) (range_dark range) (ranges_dark rest))

word_is : (accept : Bool) → IsWord (word_text accept)
word_is true = refl
word_is false = refl

first_some : (range : PortRange) (more : List ℕ) → DarkIs (range_text range ++ more)
    → IsWord (range_text range ++ more)
unfolding range_text
first_some range more dark = by (range.low == range.high) dark
  where
    some : (text : List ℕ) → IsWord text → (behind : List ℕ) → DarkIs (text ++ behind) → IsWord (text ++ behind)
    some [] is behind d = absurd (false≢true is)
    some (b ∷ text) is behind d = d

    longer : (text front behind : List ℕ) → IsWord text → DarkIs ((text ++ front) ++ behind)
        → IsWord ((text ++ front) ++ behind)
    longer [] front behind is d = absurd (false≢true is)
    longer (b ∷ text) front behind is d = d

    by : (t : Bool)
        → DarkIs ((if t then decimal range.low else decimal range.low ++ hyphen ∷ decimal range.high) ++ more)
        → IsWord ((if t then decimal range.low else decimal range.low ++ hyphen ∷ decimal range.high) ++ more)
    by true d = some (decimal range.low) (word_of_number range.low) more d
    by false d = longer (decimal range.low) (hyphen ∷ decimal range.high) more (word_of_number range.low) d

policy_rest : (accept : Bool) (ranges : List PortRange) → IsLineRest (word_text accept ++ entries_text space ranges)
policy_rest accept [] = by accept
  where
    by : (t : Bool) → IsLineRest (word_text t ++ [])
    by true = rest_of_argument (codes "accept") refl
    by false = rest_of_argument (codes "reject") refl
policy_rest accept (range ∷ rest) =
    let list = range_text range ++ entries_text comma rest in
    rest_of_words (word_text accept ∷ list ∷ [])
    (two_words (word_text accept) list (word_is accept)
    (first_some range (entries_text comma rest)
    (both_dark (range_text range) (entries_text comma rest) (range_dark range) (ranges_dark rest))))

pub entry_rests : (newest : Newest) (one : JudgedRelay) → IsJudgedInRange one → HasRests (entry_of_judged newest one)
entry_rests newest one is =
    let ports = summary_of one.descriptor.policy in
    record {
      version = platform_rest one.descriptor.platform is.descriptor.platform;
      protocols = short_rest one.descriptor.proto is.descriptor.proto;
      policy = policy_rest ports.accept ports.ranges;
    }
