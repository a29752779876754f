-- What is read of lines that several kinds of document have is in range, and what items say of such kinds.
use Rattle.std.proofs.Common.{◌≡◌, ℕ, ◌+◌, ◌<◌, ◌≤◌, ◌^◌, Bool, true, false, List, length, Option, None, Result, Ok}
use Rattle.std.{proofs.{Common.{Err, refl, sym, ap, subst, ◌∙◌, arith}, lemmas.Bool.ltb-false}, specs.Prelude.codes}
use Rattle.std.specs.Prelude.{nat_lt, if◌then◌else◌}
use Rattle.dir_bytes.specs.Fields.{address}
use Rattle.item_terms.specs.{Items.Item, Words.words_of}
use Rattle.dirdoc_grammar.specs.{Writers.is_argument, Writing.IsLineRest}
use Rattle.dir_values.specs.{Digests.{fingerprint, key_digest}, Names.is_nickname, Numbers.{number_of, port_of}}
use Rattle.dir_values.specs.declared.{algorithm.Algorithm.Algorithm, digest.{Digest1.Digest1, Fingerprint.Fingerprint}}
use Rattle.frame_terms.specs.{Rows.limit_number, declared.fault.FrameFault.FrameFault}
use Rattle.frame_terms.specs.declared.{fault.FrameReason.TheVariants.TooMany, row.Limit.Limit}
use Rattle.frame_values.specs.{Arguments.{Argument, arguments_of, field, front, next, others}, Faults.too_many}
use Rattle.frame_values.specs.{Fields.{is_there, span_if}, Lines.{delays_of, rest_of, rest_unless, source_of}}
use Rattle.frame_values.specs.{Parts.part, Ranges.AreTwenty, Signatures.{after_algorithm, algorithm_if, has_words}}
use Rattle.frame_values.specs.Signatures.{is_space, object_of, signature_of, signed_by}
use Rattle.frame_values.specs.declared.found.{DirSource.DirSource, Span.Span, VoteSignature.VoteSignature}
use Rattle.frame_values.specs.declared.values.Value.TheVariants as value
use Rattle.frame_laws.proofs.StandingParts.{rest_part}
use Rattle.row_laws.proofs.{ItemArguments.{IsSound, are_found, found_word, front_found, others_found}, ReadSteps.ReadAs}
use Rattle.row_laws.proofs.ReadSteps.{any_reads, field_reads, fingerprint_reads, if_reads, key_digest_reads, next_reads}
use Rattle.row_laws.proofs.ReadSteps.{number_within, rest_reads, span_reads}
use Rattle.range_laws.proofs.{ValueTexts.TextIs, ReadNames.count_words, RelayReads.{ip_reads, nickname_there}}
use Rattle.range_laws.proofs.RelayReads.{port_reads, weaker_reads}

-- ---- values

-- an authority
pub record IsSourceIn (bytes : List ℕ) (source : DirSource) : Type 0 where
  pub nickname : is_nickname (part bytes source.nickname) ≡ true
  pub identity : AreTwenty source.identity.0
  pub address : is_argument (part bytes source.address) ≡ true
  pub ip : source.ip < 2 ^ 32
  pub dir_port : source.dir_port ≤ 65535
  pub or_port : source.or_port ≤ 65535

-- a signature
abbrev pub IsSigned : VoteSignature → Type 0
IsSigned signature = AreTwenty signature.identity.0 × AreTwenty signature.key_digest.0

-- ---- what is read of lines

abbrev pub AreDelays : ℕ × ℕ → Type 0
AreDelays delays = (delays.0 ≤ 4294967295) × (delays.1 ≤ 4294967295)

abbrev both_made : ℕ → ℕ → Result (ℕ × ℕ) ℕ
both_made a b = Ok (a, b)

seconds_read : (argument : Argument) → ReadAs (λ (n : ℕ). n ≤ 4294967295) (field argument (number_of argument.text))
seconds_read argument =
    field_reads (λ (n : ℕ). n ≤ 4294967295) argument (number_of argument.text)
    (λ n is. number_within 4294967295 argument.text n is)

pub delays_read : (item : Item) → ReadAs AreDelays (delays_of item)
delays_read item =
    let first = front item.place (arguments_of item) in
    let second = front item.place (others (arguments_of item)) in
    let f0 = field first (number_of first.text) in
    let f1 = field second (number_of second.text) in
    let m1 = λ (a b : ℕ). both_made a b in
    let m0 = λ (a : ℕ). next f1 (m1 a) in
    next_reads (λ (n : ℕ). n ≤ 4294967295) AreDelays f0 m0 (seconds_read first) (λ a is_a.
    next_reads (λ (n : ℕ). n ≤ 4294967295) AreDelays f1 (m1 a) (seconds_read second) (λ b is_b. (is_a, is_b)))

-- what a span holds passes a test, and is this text
abbrev IsTested : (List ℕ → Bool) → List ℕ → List ℕ → Span → Type 0
IsTested test bytes text span = (test (part bytes span) ≡ true) × (part bytes span ≡ text)

-- an authority of this nickname and this host name
abbrev pub IsNamed : List ℕ → List ℕ → List ℕ → DirSource → Type 0
IsNamed bytes name host source = (part bytes source.nickname ≡ name) × (part bytes source.address ≡ host)

-- an authority that has the names of a line's first argument and its third
abbrev pub IsNamedBy : List ℕ → Item → DirSource → Type 0
IsNamedBy bytes item =
    let from_name = arguments_of item in
    IsNamed bytes (front item.place from_name).text (front item.place (others (others from_name))).text

-- such an authority in range
abbrev IsNamedIn : List ℕ → Item → DirSource → Type 0
IsNamedIn bytes item source = IsSourceIn bytes source × IsNamedBy bytes item source

named_in_reads : (bytes : List ℕ) (item : Item) → IsSound bytes item → ReadAs (IsNamedIn bytes item) (source_of item)
named_in_reads bytes item sound =
    let a0 = arguments_of item in
    let a1 = others a0 in
    let a2 = others a1 in
    let a3 = others a2 in
    let a4 = others a3 in
    let found0 = are_found sound in
    let found2 = others_found bytes a1 (others_found bytes a0 found0) in
    let t0 = front item.place a0 in
    let t1 = front item.place a1 in
    let t2 = front item.place a2 in
    let t3 = front item.place a3 in
    let t4 = front item.place a4 in
    let t5 = front item.place (others a4) in
    let f0 = field t0 (span_if (is_nickname t0.text) t0) in
    let f1 = field t1 (fingerprint t1.text) in
    let f2 = field t2 (span_if (is_there t2.text) t2) in
    let f3 = field t3 (address t3.text) in
    let f4 = field t4 (port_of t4.text) in
    let f5 = field t5 (port_of t5.text) in
    let Source : DirSource → Type 0 = IsNamedIn bytes item in
    next_reads (IsTested is_nickname bytes t0.text) Source f0 _
    (span_reads (IsTested is_nickname bytes t0.text) t0 (is_nickname t0.text) (λ is.
    let stands = (front_found bytes item.place a0 found0 (nickname_there t0.text is)).part in
    (ap is_nickname stands ∙ is, stands))) (λ n is_n.
    next_reads (λ (key : Fingerprint). AreTwenty key.0) Source f1 _ (fingerprint_reads t1 t1.text) (λ k is_k.
    next_reads (IsTested is_argument bytes t2.text) Source f2 _
    (span_reads (IsTested is_argument bytes t2.text) t2 (is_there t2.text) (λ some.
    let found = front_found bytes item.place a2 found2 some in
    (ap is_argument found.part ∙ found_word t2.text some found.word, found.part))) (λ h is_h.
    next_reads (λ (i : ℕ). i < 2 ^ 32) Source f3 _ (ip_reads t3) (λ i is_i.
    next_reads (λ (d : ℕ). d ≤ 65535) Source f4 _ (port_reads t4) (λ d is_d.
    next_reads (λ (o : ℕ). o ≤ 65535) Source f5 _ (port_reads t5) (λ o is_o. (
      record {
        nickname = is_n.0;
        identity = is_k;
        address = is_h.0;
        ip = is_i;
        dir_port = is_d;
        or_port = is_o;
      },
      (is_n.1, is_h.1),
    )))))))

pub source_reads : (bytes : List ℕ) (item : Item) → IsSound bytes item → ReadAs (IsSourceIn bytes) (source_of item)
source_reads bytes item sound =
    weaker_reads (IsNamedIn bytes item) (IsSourceIn bytes) (source_of item) (λ source is. is.0)
    (named_in_reads bytes item sound)

pub named_reads : (bytes : List ℕ) (item : Item) → IsSound bytes item → ReadAs (IsNamedBy bytes item) (source_of item)
named_reads bytes item sound =
    weaker_reads (IsNamedIn bytes item) (IsNamedBy bytes item) (source_of item) (λ source is. is.1)
    (named_in_reads bytes item sound)

abbrev signature_made : Option Algorithm → Fingerprint → Digest1 → Span → Result VoteSignature ℕ
signature_made name signer digest lines =
    Ok (record { algorithm = name; identity = signer; key_digest = digest; signature = lines })

pub signed_reads : (name : Option Algorithm) (arguments : List Argument) (item : Item)
    → ReadAs IsSigned (signed_by name arguments item)
signed_reads name arguments item =
    let t0 = front item.place arguments in
    let t1 = front item.place (others arguments) in
    let f0 = field t0 (fingerprint t0.text) in
    let f1 = field t1 (key_digest t1.text) in
    let f2 = object_of (has_words item.object (codes "SIGNATURE")) item in
    let m2 = λ (s : Fingerprint) (d : Digest1) (lines : Span). signature_made name s d lines in
    let m1 = λ (s : Fingerprint) (d : Digest1). next f2 (m2 s d) in
    let m0 = λ (s : Fingerprint). next f1 (m1 s) in
    next_reads (λ (key : Fingerprint). AreTwenty key.0) IsSigned f0 m0 (fingerprint_reads t0 t0.text) (λ s is_s.
    next_reads (λ (digest : Digest1). AreTwenty digest.0) IsSigned f1 (m1 s) (key_digest_reads t1 t1.text) (λ d is_d.
    next_reads (λ (lines : Span). Unit {0}) IsSigned f2 (m2 s d) (any_reads f2) (λ lines is. (is_s, is_d))))

pub signature_reads : (item : Item) → ReadAs IsSigned (signature_of item)
signature_reads item =
    let name = algorithm_if (front item.place (arguments_of item)) in
    let more = λ (n : Option Algorithm). signed_by n (after_algorithm n (arguments_of item)) item in
    if_reads IsSigned (is_space item.separator) (next name more) (item.place + length item.keyword)
    (next_reads (λ (n : Option Algorithm). Unit {0}) IsSigned name more (any_reads name)
    (λ n is. signed_reads n (after_algorithm n (arguments_of item)) item))

-- ---- rests of lines

-- the rest of a line
pub rest_read : (W : Type 0) (bytes : List ℕ) (item : Item) → IsSound bytes item
    → TextIs {W = W} IsLineRest bytes (value.Text (rest_of item))
rest_read W bytes item sound = subst IsLineRest (sym (rest_part sound.in_place)) sound.rest

-- a text in which nothing is wrong is what stands there
pub text_reads : (P : List ℕ → Type 0) (bytes : List ℕ) (item : Item) (wrong : Option ℕ) → IsSound bytes item
    → (wrong ≡ None → P item.arguments) → ReadAs (λ (span : Span). P (part bytes span)) (rest_unless wrong item)
text_reads P bytes item wrong sound is =
    rest_reads (λ (span : Span). P (part bytes span)) item wrong
    (λ right. subst P (sym (rest_part sound.in_place)) (is right))

abbrev passes : Result (Unit {0}) FrameFault
passes = Ok tt

-- no more arguments than a limit are no more words
pub few_words : (l : Limit) (item : Item) → too_many l item ≡ Ok tt → length (words_of item.arguments) ≤ limit_number l
few_words l item is = by (nat_lt (limit_number l) (length (arguments_of item))) refl is
  where
    past : FrameFault
    past = record { place = item.place; reason = TooMany l }

    by : (t : Bool) → nat_lt (limit_number l) (length (arguments_of item)) ≡ t → (if t then Err past else passes) ≡ passes
        → length (words_of item.arguments) ≤ limit_number l
    by true test e = absurd (cc (e))
    by false test e =
        let few = ltb-false (limit_number l) (length (arguments_of item)) test in
        omega (arith, few, count_words item.start item.arguments)
