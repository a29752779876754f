-- What the items of a station input say is in range, by the kinds of their rows.
use Rattle.std.proofs.Common.{◌≡◌, ℕ, ◌≤◌, Bool, true, false, List, Option, Some, None, Result, Ok, Err, refl, subst}
use Rattle.std.{proofs.Common.sym, specs.Prelude.{IfSome, option_map, if◌then◌else◌}}
use Rattle.item_terms.specs.Items.{Item}
use Rattle.dir_values.specs.{Arguments.Argument, Numbers.number_of, declared.digest.Fingerprint.Fingerprint}
use Rattle.dirdoc_grammar.specs.Writing.{IsLineRest}
use Rattle.frame_terms.specs.declared.row.Limit.TheVariants as limit
use Rattle.frame_values.specs.{Arguments.{arguments_of, field, front, next, others}, Lines.{source_of, rest_of}}
use Rattle.frame_values.specs.{declared.{found.{Span.Span, DirSource.DirSource}, values.Value.Value}, Faults.too_many}
use Rattle.frame_values.specs.Parts.{part}
use Rattle.frame_values.specs.declared.values.Value.TheVariants as value
use Rattle.value_groups.specs.ListLines.{params_of}
use Rattle.list_values.specs.Params.{wrong_param}
use Rattle.authority_certs.specs.declared.frame.CertKind.TheVariants as cert
use Rattle.station_input.specs.{Fields.{Identities, bandwidth, is_dash, long_number, new_identity}, Lines.measured_of}
use Rattle.station_input.specs.{Lines.own_of, Sources.fits_line, Tables.{over_limit, station_tables, value_at}}
use Rattle.station_input.specs.declared.{across.Across.Across, frame.StationKind.StationKind}
use Rattle.station_input.specs.declared.frame_said.{MeasuredRelay.MeasuredRelay, StationValue.StationValue}
use Rattle.station_input.specs.Saying.{measured_if}
use Rattle.station_input.specs.declared.frame.StationKind.TheVariants as kind
use Rattle.station_input.specs.declared.frame_said.StationValue.TheVariants as own
use Rattle.row_laws.proofs.{ItemArguments.IsSound, ReadSteps.{ReadAs, any_reads, field_reads, if_reads, next_reads}}
use Rattle.row_laws.proofs.{ReadSteps.{no_fault, number_within, was_read, rest_reads}, SaidByKinds.said_of_any}
use Rattle.row_laws.proofs.{Saying.Says, KindRanges.{KindIs, kind_read, kind_unless}}
use Rattle.range_laws.proofs.{LineReads.{IsSourceIn, few_words, source_reads, rest_read}, VoteReads.AreFew}
use Rattle.maker_laws.specs.Ranges.{IsMeasuredInRange}
use Rattle.frame_laws.proofs.StandingParts.{rest_part}

-- ---- values

-- what was measured of a relay, where a value says that
abbrev pub MeasuredIs : Value StationValue → Type 0
MeasuredIs v = IfSome (measured_if v) IsMeasuredInRange

-- a relay that was measured
abbrev measured_made : Fingerprint → ℕ → ℕ → ℕ → ℕ → Option ℕ → Result MeasuredRelay ℕ
measured_made identity reached_at wmtbf wfu_ppm known_for kb = Ok (record {
  identity = identity;
  measured = record {
    reached_at = reached_at;
    wmtbf = wmtbf;
    wfu_ppm = wfu_ppm;
    known_for = known_for;
    kb = kb;
  };
})

-- ---- what items say

-- an item of this kind says this
abbrev pub StationSays : List ℕ → StationKind → Value StationValue → Type 0
StationSays bytes of v = Says station_tables bytes of v

abbrev pub own_if : Bool → ℕ → DirSource → Result DirSource ℕ
own_if fits place source = if fits then Ok source else Err place

own_reads : (bytes : List ℕ) (item : Item) → IsSound bytes item → ReadAs (IsSourceIn bytes) (own_of item)
own_reads bytes item sound =
    let name = front item.place (arguments_of item) in
    let host = front item.place (others (others (arguments_of item))) in
    let Source : DirSource → Type 0 = IsSourceIn bytes in
    next_reads Source Source (source_of item)
    (λ source. own_if (fits_line name.text host.text source) item.place source) (source_reads bytes item sound)
    (λ source is. if_reads Source (fits_line name.text host.text source) (Ok source) item.place is)

pub source_is : KindIs station_tables kind.Source (λ (source : DirSource). value.Own (own.Source source)) IsSourceIn
source_is = kind_read own_of (λ across item. refl) (λ bytes are item sound. own_reads bytes item sound)

pub rest_is : KindIs station_tables kind.Rest (λ (span : Span). value.Text span)
    (λ bytes span. IsLineRest (part bytes span))
rest_is =
    kind_read (λ item. Ok (rest_of item)) (λ across item. refl)
    (λ bytes are item sound. rest_read StationValue bytes item sound)

pub params_are : KindIs station_tables kind.Params (λ (span : Span). value.Text span)
    (λ bytes span. AreFew 1024 (part bytes span))
params_are =
    kind_unless (λ across item. too_many limit.Params item) (λ across item. params_of item) (λ across item. refl)
    (λ bytes are across item sound passes.
    rest_reads (λ (span : Span). AreFew 1024 (part bytes span)) item (wrong_param (arguments_of item))
    (λ right. subst (AreFew 1024) (sym (rest_part sound.in_place)) (few_words limit.Params item passes)))

-- ---- measured relays

-- a bandwidth, where one was measured
abbrev KbIs : Option ℕ → Type 0
KbIs kb = IfSome kb (λ n. n ≤ 4294967295)

abbrev kb_if : Bool → Option ℕ → Option (Option ℕ)
kb_if dash number = if dash then Some None else option_map Some number

some_same : (a b : Option ℕ) → Some a ≡ Some b → a ≡ b
some_same a b is = cc

kb_is : (text : List ℕ) (kb : Option ℕ) → bandwidth text ≡ Some kb → KbIs kb
kb_is text kb is = by (is_dash text) (number_of text) refl is
  where
    by : (dash : Bool) (number : Option ℕ) → number_of text ≡ number → kb_if dash number ≡ Some kb → KbIs kb
    by true number e found = subst KbIs (some_same None kb found) tt
    by false None e found = absurd (cc (found))
    by false (Some n) e found = subst KbIs (some_same (Some n) kb found) (number_within 4294967295 text n e)

kb_reads : (argument : Argument) → ReadAs KbIs (field argument (bandwidth argument.text))
kb_reads argument = field_reads KbIs argument (bandwidth argument.text) (λ kb is. kb_is argument.text kb is)

measured_reads : (earlier : Identities) (item : Item) → ReadAs IsMeasuredInRange (measured_of earlier item)
measured_reads earlier item =
    let a0 = arguments_of item in
    let a1 = others a0 in
    let a2 = others a1 in
    let a3 = others a2 in
    let a4 = others a3 in
    let a5 = others a4 in
    let t0 = front item.place a0 in
    let t1 = front item.place a1 in
    let t2 = front item.place a2 in
    let t3 = front item.place a3 in
    let t4 = front item.place a4 in
    let t5 = front item.place a5 in
    let f0 = field t0 (new_identity earlier t0.text) in
    let f1 = field t1 (long_number t1.text) in
    let f2 = field t2 (long_number t2.text) in
    let f3 = field t3 (number_of t3.text) in
    let f4 = field t4 (long_number t4.text) in
    let f5 = field t5 (bandwidth t5.text) in
    let m5 = λ (i : Fingerprint) (a b c d : ℕ) (k : Option ℕ). measured_made i a b c d k in
    let m4 = λ (i : Fingerprint) (a b c d : ℕ). next f5 (m5 i a b c d) in
    let m3 = λ (i : Fingerprint) (a b c : ℕ). next f4 (m4 i a b c) in
    let m2 = λ (i : Fingerprint) (a b : ℕ). next f3 (m3 i a b) in
    let m1 = λ (i : Fingerprint) (a : ℕ). next f2 (m2 i a) in
    let m0 = λ (i : Fingerprint). next f1 (m1 i) in
    let Relay : MeasuredRelay → Type 0 = IsMeasuredInRange in
    let Any : ℕ → Type 0 = λ n. Unit {0} in
    next_reads (λ (i : Fingerprint). Unit {0}) Relay f0 m0 (any_reads f0) (λ i is_i.
    next_reads Any Relay f1 (m1 i) (any_reads f1) (λ a is_a.
    next_reads Any Relay f2 (m2 i a) (any_reads f2) (λ b is_b.
    next_reads Any Relay f3 (m3 i a b) (any_reads f3) (λ c is_c.
    next_reads Any Relay f4 (m4 i a b c) (any_reads f4) (λ d is_d.
    next_reads KbIs Relay f5 (m5 i a b c d) (kb_reads t5) (λ k is_k. is_k))))))

-- whatever the kind, what is said is of no measured relay, or of one that is in range
kinds_measured : (across : Across) (of : StationKind) (item : Item) (v : Value StationValue)
    → value_at across of item ≡ Ok v → MeasuredIs v
kinds_measured across kind.Rest item v is = was_read MeasuredIs (Ok (value.Text (rest_of item))) v tt is
kinds_measured across kind.Nothing item v is = was_read MeasuredIs (Ok value.Nothing) v tt is
kinds_measured across kind.Measured item v is =
    was_read MeasuredIs (value_at across kind.Measured item) v
    (next_reads IsMeasuredInRange MeasuredIs (measured_of across.measured item)
    (λ relay. Ok (value.Own (own.Measured relay))) (measured_reads across.measured item) (λ relay is. is)) is
kinds_measured across (kind.Certificate cert.Version) item v is = said_of_any MeasuredIs _ _ v is (λ a. tt)
kinds_measured across of item v is = said_of_any MeasuredIs _ _ v is (λ a. tt)

pub measured_says : {bytes : List ℕ} {of : StationKind} {v : Value StationValue} → StationSays bytes of v
    → MeasuredIs v
measured_says {bytes} {of} {v} says =
    let across = says.remembered in
    kinds_measured across of says.item v
    (no_fault (over_limit of says.item) (value_at across of says.item) v says.says).1
