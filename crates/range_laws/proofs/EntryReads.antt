-- What the lines of bandwidths, of microdescriptors and of an Ed25519 key say is in range.
use lib.Pointwise.{pointwise}
use Rattle.std.proofs.Common.{◌≡◌, ℕ, Bool, true, false, List, [], ◌∷◌, length, drop, take, Option, Some, None, Result}
use Rattle.std.{proofs.Common.{Ok, refl, subst}, specs.Prelude.{IfSome, codes, is_some, nat_eq, option_and_then}}
use Rattle.std.specs.{Prelude.{option_map, if◌then◌else◌}, List.find, Str.bytes_eq}
use Rattle.base64.specs.GeneralPurpose.{IsBytes}
use Rattle.dir_bytes.specs.Fields.{base64}
use Rattle.item_terms.specs.{Items.Item, Words.strip}
use Rattle.dir_values.specs.{Arguments.Argument, Digests.digest2, Numbers.number_of, declared.digest.Digest2.Digest2}
use Rattle.frame_values.specs.{Arguments.{arguments_of, field, front, next, others}, Fields.span_if}
use Rattle.frame_values.specs.declared.found.Span.{Span}
use Rattle.relay_entries.specs.Fields.{are_methods, bandwidth_if, ed_opinion, measured_if, this_key, with_argument}
use Rattle.relay_entries.specs.{Fields.{with_bandwidth, with_either, with_measured}, Lines.after_sha256}
use Rattle.relay_entries.specs.Lines.{bandwidths_of, ed_of, micro_of, named_digest, names_sha256, no_bandwidths}
use Rattle.relay_entries.specs.{Lines.{some_digest, with_arguments}, declared.said.Bandwidths.Bandwidths}
use Rattle.relay_entries.specs.declared.said.{EdOpinion.EdOpinion, MicroLine.MicroLine}
use Rattle.relay_entries.specs.declared.said.EdOpinion.TheVariants as opinion
use Rattle.group_laws.specs.Ranges.{AreBandwidthsInRange, AreThirtyTwo, IsOpinionInRange}
use Rattle.row_laws.proofs.{ItemArguments.{AreFound, IsSound, are_found, others_found}, ReadBytes.base64_bytes}
use Rattle.row_laws.proofs.{ReadBytes.bytes_drop, ReadSteps.{ReadAs, any_reads, field_reads, next_reads, number_within}}
use Rattle.row_laws.proofs.ReadSteps.{found_bytes, front_bytes}

-- ---- bandwidths

with_bandwidth_ranged : (said : Bandwidths) (text : List ℕ) (more : Bandwidths) → AreBandwidthsInRange said
    → with_bandwidth said text ≡ Some more → AreBandwidthsInRange more
with_bandwidth_ranged said text more are is = by (is_some said.bandwidth) (number_of text) refl is
  where
    same_said : (a : Bandwidths) → Some a ≡ Some more → a ≡ more
    same_said a e = cc

    by : (test : Bool) (found : Option ℕ) → number_of text ≡ found
        → (if test then None else bandwidth_if said found) ≡ Some more → AreBandwidthsInRange more
    by true found got e = absurd (cc (e))
    by false None got e = absurd (cc (e))
    by false (Some n) got e =
        subst AreBandwidthsInRange (same_said (record { bandwidth = Some n; measured = said.measured }) e)
        (record { bandwidth = number_within 4294967295 text n got; measured = are.measured })

with_measured_ranged : (said : Bandwidths) (text : List ℕ) (more : Bandwidths) → AreBandwidthsInRange said
    → with_measured said text ≡ Some more → AreBandwidthsInRange more
with_measured_ranged said text more are is = by (is_some said.measured) (number_of text) refl is
  where
    same_said : (a : Bandwidths) → Some a ≡ Some more → a ≡ more
    same_said a e = cc

    by : (test : Bool) (found : Option ℕ) → number_of text ≡ found
        → (if test then None else measured_if said found) ≡ Some more → AreBandwidthsInRange more
    by true found got e = absurd (cc (e))
    by false None got e = absurd (cc (e))
    by false (Some n) got e =
        subst AreBandwidthsInRange (same_said (record { bandwidth = said.bandwidth; measured = Some n }) e)
        (record { bandwidth = are.bandwidth; measured = number_within 4294967295 text n got })

-- with one more argument they are in range too
pub with_either_ranged : (said : Bandwidths) (a b : Option (List ℕ)) (more : Bandwidths) → AreBandwidthsInRange said
    → with_either said a b ≡ Some more → AreBandwidthsInRange more
with_either_ranged said (Some text) b more are is = with_bandwidth_ranged said text more are is
with_either_ranged said None (Some text) more are is = with_measured_ranged said text more are is
with_either_ranged said None None more are is = subst AreBandwidthsInRange (same_said said more is) are
  where
    same_said : (a b : Bandwidths) → Some a ≡ Some b → a ≡ b
    same_said a b e = cc

with_arguments_read : (arguments : List Argument) (said : Bandwidths) → AreBandwidthsInRange said
    → ReadAs AreBandwidthsInRange (with_arguments said arguments)
unfolding with_arguments
with_arguments_read [] said are = are
with_arguments_read (argument ∷ rest) said are =
    next_reads AreBandwidthsInRange AreBandwidthsInRange (field argument (with_argument said argument.text))
    (λ more. with_arguments more rest)
    (field_reads AreBandwidthsInRange argument (with_argument said argument.text)
    (λ more is. with_either_ranged said (strip (codes "Bandwidth=") argument.text) (strip (codes "Measured=") argument.text)
    more are is))
    (λ more is. with_arguments_read rest more is)

pub bandwidths_read : (item : Item) → ReadAs AreBandwidthsInRange (bandwidths_of item)
bandwidths_read item = with_arguments_read (arguments_of item) no_bandwidths (record { bandwidth = tt; measured = tt })

-- ---- microdescriptors

-- what base64 spells by this length
pub thirty_two : (text : List ℕ) (digest : Digest2) → IsBytes text → digest2 text ≡ Some digest → AreThirtyTwo digest.0
thirty_two text digest are is = by (base64 32 text) refl is
  where
    same_digest : (b : List ℕ) → Some (record { 0 = b }) ≡ Some digest → b ≡ digest.0
    same_digest b e = cc

    by : (found : Option (List ℕ)) → base64 32 text ≡ found
        → option_map (λ bytes. record { 0 = bytes }) found ≡ Some digest → AreThirtyTwo digest.0
    by None got e = absurd (cc (e))
    by (Some b) got e =
        let both = base64_bytes 32 text b are got in
        subst AreThirtyTwo (same_digest b e) (record { count = both.0; each = both.1 })

strip_bytes : (prefix text rest : List ℕ) → IsBytes text → strip prefix text ≡ Some rest → IsBytes rest
strip_bytes prefix text rest are is = by (pointwise nat_eq (take (length prefix) text) prefix) is
  where
    same_rest : (a : List ℕ) → Some a ≡ Some rest → a ≡ rest
    same_rest a e = cc

    by : (t : Bool) → (if t then Some (drop (length prefix) text) else None) ≡ Some rest → IsBytes rest
    by true e = subst IsBytes (same_rest (drop (length prefix) text) e) (bytes_drop (length prefix) text are)
    by false e = absurd (cc (e))

abbrev IsDigest : Digest2 → Type 0
IsDigest digest = AreThirtyTwo digest.0

abbrev pub HasDigest : Option Digest2 → Type 0
HasDigest digest = IfSome digest IsDigest

named_bytes : (bytes : List ℕ) (arguments : List Argument) → IsBytes bytes → AreFound bytes arguments
    → IfSome (find names_sha256 arguments) (λ argument. IsBytes argument.text)
named_bytes bytes [] are found = tt
named_bytes bytes (argument ∷ rest) are found =
    by (names_sha256 argument) (named_bytes bytes rest are found.1)
  where
    by : (t : Bool) → IfSome (find names_sha256 rest) (λ a. IsBytes a.text)
        → IfSome (if t then Some argument else find names_sha256 rest) (λ a. IsBytes a.text)
    by true more = found_bytes bytes argument are found.0
    by false more = more

digest_of : (text : Option (List ℕ)) (digest : Digest2) → IfSome text IsBytes
    → option_and_then digest2 text ≡ Some digest → AreThirtyTwo digest.0
digest_of None digest are is = absurd (cc (is))
digest_of (Some text) digest are is = thirty_two text digest are is

stripped : (prefix text : List ℕ) → IsBytes text → IfSome (strip prefix text) IsBytes
stripped prefix text are = by (strip prefix text) refl
  where
    by : (found : Option (List ℕ)) → strip prefix text ≡ found → IfSome found IsBytes
    by None is = tt
    by (Some rest) is = strip_bytes prefix text rest are is

named_reads : (argument : Option Argument) → IfSome argument (λ a. IsBytes a.text)
    → ReadAs HasDigest (named_digest argument)
named_reads None are = tt
named_reads (Some argument) are =
    let found = option_and_then digest2 (after_sha256 argument) in
    next_reads IsDigest HasDigest (field argument found) (λ digest. Ok (Some digest))
    (field_reads IsDigest argument found
    (λ digest is. digest_of (after_sha256 argument) digest (stripped (codes "sha256=") argument.text are) is))
    (λ digest is. is)

some_reads : (bytes : List ℕ) (item : ℕ) (arguments : List Argument) → IsBytes bytes → AreFound bytes arguments
    → ReadAs HasDigest (some_digest item arguments)
some_reads bytes item [] are found = tt
some_reads bytes item (argument ∷ rest) are found =
    named_reads (find names_sha256 (argument ∷ rest)) (named_bytes bytes (argument ∷ rest) are found)

abbrev pub IsMicro : MicroLine → Type 0
IsMicro line = HasDigest line.digest

abbrev micro_made : Span → Option Digest2 → Result MicroLine ℕ
micro_made methods digest = Ok (record { methods = methods; digest = digest })

pub micro_reads : (bytes : List ℕ) (item : Item) → IsBytes bytes → IsSound bytes item → ReadAs IsMicro (micro_of item)
micro_reads bytes item are sound =
    let first = front item.place (arguments_of item) in
    let behind = others (arguments_of item) in
    let f0 = field first (span_if (are_methods first.text) first) in
    let f1 = some_digest item.place behind in
    let m1 = λ (n : Span) (d : Option Digest2). micro_made n d in
    let m0 = λ (n : Span). next f1 (m1 n) in
    next_reads (λ (n : Span). Unit {0}) IsMicro f0 m0 (any_reads f0) (λ n is_n.
    next_reads HasDigest IsMicro f1 (m1 n)
    (some_reads bytes item.place behind are (others_found bytes (arguments_of item) (are_found sound))) (λ d is. is))

-- ---- Ed25519 keys

opinion_ranged : (text : List ℕ) (said : EdOpinion) → IsBytes text → ed_opinion text ≡ Some said → IsOpinionInRange said
opinion_ranged text said are is = by (bytes_eq text (codes "none")) (digest2 text) refl is
  where
    same_said : (a : EdOpinion) → Some a ≡ Some said → a ≡ said
    same_said a e = cc

    by : (t : Bool) (found : Option Digest2) → digest2 text ≡ found
        → (if t then Some opinion.None else option_map this_key found) ≡ Some said → IsOpinionInRange said
    by true found got e = subst IsOpinionInRange (same_said opinion.None e) tt
    by false None got e = absurd (cc (e))
    by false (Some key) got e =
        subst IsOpinionInRange (same_said (opinion.Key key.0) e) (thirty_two text key are got)

pub ed_reads : (bytes : List ℕ) (item : Item) → IsBytes bytes → IsSound bytes item → ReadAs IsOpinionInRange (ed_of item)
ed_reads bytes item are sound =
    let behind = others (arguments_of item) in
    let second = front item.place behind in
    let found = others_found bytes (arguments_of item) (are_found sound) in
    field_reads IsOpinionInRange second (ed_opinion second.text)
    (λ said is. opinion_ranged second.text said (front_bytes bytes item.place behind are found) is)
