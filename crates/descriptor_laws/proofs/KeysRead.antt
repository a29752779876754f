-- What the keys, the identity and the numbers of a descriptor spell is in range.
use Rattle.std.proofs.Common.{◌≡◌, ℕ, zero, suc, ◌<◌, ◌^◌, ◌*◌, Bool, true, false, List, [], ◌∷◌, ◌++◌, length, take}
use Rattle.std.{proofs.Common.{Some, Result, Ok, Err, refl, sym, subst, ◌∙◌, arith, length-append}, specs.Prelude.◌==◌}
use Rattle.std.specs.{Prelude.{◌&&◌, slice_index, if◌then◌else◌}, Result.result_ok}
use Rattle.base64.specs.GeneralPurpose.{IsBytes}
use Rattle.hex.{specs.{Hex.decode_sized, declared.error.FromHexError.FromHexError}, proofs.HexLemmas.decode_of-ok}
use Rattle.hex.proofs.HexLemmas.{decode_sized-ok, decode_sized-twice}
use Rattle.item_terms.specs.Items.{Item}
use Rattle.dir_bytes.specs.Fields.{base64, hex}
use Rattle.dir_values.specs.{Arguments.Argument, declared.digest.Fingerprint.Fingerprint}
use Rattle.frame_values.specs.{Arguments.{arguments_of, field, front, next, others}, Ranges.AreTwenty}
use Rattle.descriptor_frame.specs.Fields.{group_of, groups_of, key, long_number, padded_key, signature, without_padding}
use Rattle.descriptor_frame.specs.Lines.{bandwidth_of, first_of, identity_of}
use Rattle.descriptor_frame.specs.declared.said.BandwidthLine.{BandwidthLine}
use Rattle.descriptor_laws.specs.Ranges.{AreBytes, IsBandwidthInRange}
use Rattle.row_laws.proofs.{ItemArguments.{IsSound, are_found}, ReadBytes.{base64_bytes, bytes_by_test, bytes_take}}
use Rattle.row_laws.proofs.ReadSteps.{ReadAs, field_reads, next_reads, number_within, front_bytes}

-- ---- keys

-- so many bytes in base64
sixty_four : (count : ℕ) (argument : Argument) (text : List ℕ) → IsBytes text
    → ReadAs (AreBytes count) (field argument (base64 count text))
sixty_four count argument text are =
    field_reads (AreBytes count) argument (base64 count text) (λ bytes is.
    let both = base64_bytes count text bytes are is in record { count_is = both.0; each = both.1 })

pub key_reads : (bytes : List ℕ) (item : Item) → IsBytes bytes → IsSound bytes item
    → ReadAs (AreBytes 32) (first_of key item)
key_reads bytes item are sound =
    let first = front item.place (arguments_of item) in
    sixty_four 32 first first.text (front_bytes bytes item.place (arguments_of item) are (are_found sound))

pub padded_reads : (bytes : List ℕ) (item : Item) → IsBytes bytes → IsSound bytes item
    → ReadAs (AreBytes 32) (first_of padded_key item)
padded_reads bytes item are sound =
    let first = front item.place (arguments_of item) in
    sixty_four 32 first (without_padding first.text)
    (without first.text (front_bytes bytes item.place (arguments_of item) are (are_found sound)))
  where
    without : (text : List ℕ) → IsBytes text → IsBytes (without_padding text)
    without text of_text = by ((length text == 44) && (slice_index text 43 == 61))
      where
        by : (t : Bool) → IsBytes (if t then take 43 text else text)
        by true = bytes_take 43 text of_text
        by false = of_text

pub signature_reads : (bytes : List ℕ) (item : Item) → IsBytes bytes → IsSound bytes item
    → ReadAs (AreBytes 64) (first_of signature item)
signature_reads bytes item are sound =
    let first = front item.place (arguments_of item) in
    sixty_four 64 first first.text (front_bytes bytes item.place (arguments_of item) are (are_found sound))

-- ---- numbers

abbrev pub IsLong : ℕ → Type 0
IsLong n = n < 2 ^ 64

long_in : (argument : Argument) → ReadAs IsLong (field argument (long_number argument.text))
long_in argument =
    field_reads IsLong argument (long_number argument.text) (λ n is.
    let within = number_within 18446744073709551615 argument.text n is in omega (arith, within))

pub long_reads : (item : Item) → ReadAs IsLong (first_of long_number item)
long_reads item = long_in (front item.place (arguments_of item))

abbrev line_made : ℕ → ℕ → ℕ → Result BandwidthLine ℕ
line_made average burst observed = Ok (record { average = average; burst = burst; observed = observed })

pub bandwidth_reads : (item : Item) → ReadAs IsBandwidthInRange (bandwidth_of item)
bandwidth_reads item =
    let a0 = arguments_of item in
    let a1 = others a0 in
    let a2 = others a1 in
    let t0 = front item.place a0 in
    let t1 = front item.place a1 in
    let t2 = front item.place a2 in
    let f0 = field t0 (long_number t0.text) in
    let f1 = field t1 (long_number t1.text) in
    let f2 = field t2 (long_number t2.text) in
    let m2 = λ (a b o : ℕ). line_made a b o in
    let m1 = λ (a b : ℕ). next f2 (m2 a b) in
    let m0 = λ (a : ℕ). next f1 (m1 a) in
    next_reads IsLong IsBandwidthInRange f0 m0 (long_in t0) (λ a is_a.
    next_reads IsLong IsBandwidthInRange f1 (m1 a) (long_in t1) (λ b is_b.
    next_reads IsLong IsBandwidthInRange f2 (m2 a b) (long_in t2) (λ o is_o.
    record { average_is = is_a; burst_is = is_b; observed_is = is_o })))

-- ---- an identity in groups of hex digits

append_bytes : (xs ys : List ℕ) → IsBytes xs → IsBytes ys → IsBytes (xs ++ ys)
append_bytes [] ys a b i = b i
append_bytes (x ∷ xs) ys a b zero = a 0
append_bytes (x ∷ xs) ys a b (suc i) = append_bytes xs ys (λ k. a (suc k)) b i

group_bytes : (text bytes : List ℕ) → group_of text ≡ Some bytes → AreBytes 2 bytes
unfolding hex
group_bytes text bytes is = by (decode_sized text 2) refl is
  where
    same_bytes : (a b : List ℕ) → Some a ≡ Some b → a ≡ b
    same_bytes a b e = cc

    by : (r : Result (List ℕ) FromHexError) → decode_sized text 2 ≡ r → result_ok r ≡ Some bytes → AreBytes 2 bytes
    by (Err e) got found = absurd (cc found)
    by (Ok b) got found =
        let long = decode_sized-ok text 2 b got in
        let all = decode_of-ok text b (sym (decode_sized-twice text 2 long) ∙ got) in
        subst (AreBytes 2) (same_bytes b bytes found) (record { count_is = omega (arith, long, all.2); each = all.3 })

-- so many bytes as the groups have
abbrev HaveGroups : ℕ → List ℕ → Type 0
HaveGroups count bytes = AreBytes (count * 2) bytes

groups_read : (count item : ℕ) (arguments : List Argument)
    → ReadAs (HaveGroups count) (groups_of count item arguments)
unfolding groups_of
groups_read zero item arguments = record { count_is = refl; each = bytes_by_test [] refl }
groups_read (suc count) item arguments =
    let first = front item arguments in
    let rest = groups_of count item (others arguments) in
    next_reads (AreBytes 2) (HaveGroups (suc count)) (field first (group_of first.text))
    (λ bytes. next rest (λ more. Ok (bytes ++ more)))
    (field_reads (AreBytes 2) first (group_of first.text) (λ b is. group_bytes first.text b is)) (λ bytes is.
    next_reads (HaveGroups count) (HaveGroups (suc count)) rest (λ more. Ok (bytes ++ more))
    (groups_read count item (others arguments)) (λ more are.
    let total = length-append bytes more in
    let two = is.count_is in
    let others_ = are.count_is in
    record { count_is = omega (arith, total, two, others_); each = append_bytes bytes more is.each are.each }))

pub identity_reads : (item : Item) → ReadAs (λ (identity : Fingerprint). AreTwenty identity.0) (identity_of item)
identity_reads item =
    next_reads (HaveGroups 10) (λ (identity : Fingerprint). AreTwenty identity.0)
    (groups_of 10 item.place (arguments_of item)) (λ bytes. Ok (record { 0 = bytes }))
    (groups_read 10 item.place (arguments_of item)) (λ bytes is. record { count = is.count_is; each = is.each })
