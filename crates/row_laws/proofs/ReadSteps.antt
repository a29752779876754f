-- What is read step by step is such as each step makes it.
use Rattle.std.proofs.Common.{length, ◌≡◌, ℕ, ◌+◌, ◌*◌, ◌<◌, ◌≤◌, Bool, true, false, List, [], ◌∷◌, Option, Some, None}
use Rattle.std.proofs.{Common.{Result, Ok, Err, refl, subst, arith}, lemmas.Bool.{and_parts, leb-true}}
use Rattle.std.specs.{Prelude.{◌&&◌, ◌^◌, nat_le, if◌then◌else◌}, List.{after_first, before_first}, Option.option_map}
use Rattle.std.specs.Str.Parse.{digits_value}
use Rattle.base64.specs.GeneralPurpose.{IsBytes}
use Rattle.dir_bytes.specs.Fields.{base64, address, address_of, hex, is_dot, is_numeral, number}
use Rattle.item_terms.specs.Items.{Item}
use Rattle.dir_values.specs.{Arguments.Argument, Digests.{fingerprint, key_digest}, declared.digest.Digest1.Digest1}
use Rattle.dir_values.specs.declared.digest.Fingerprint.{Fingerprint}
use Rattle.frame_terms.specs.declared.fault.FrameFault.{FrameFault}
use Rattle.frame_values.specs.{Arguments.{field, front, next}, Faults.{at_place, unless_fault}, Fields.span_if}
use Rattle.frame_values.specs.{Fields.span_of, Lines.{rest_of, rest_unless}, Ranges.AreTwenty, declared.found.Span.Span}
use Rattle.row_laws.proofs.{ItemArguments.{AreFound, IsFound}, ReadBytes.{base64_bytes, bytes_by_test, hex_bytes}}
use Rattle.row_laws.proofs.ReadBytes.{part_bytes}

-- ---- steps

-- what is read is such, where something is
abbrev pub ReadAs : {X : Type 0} → (X → Type 0) → Result X ℕ → Type 0
ReadAs P (Ok value) = P value
ReadAs P (Err place) = Unit {0}

same_ok : {X : Type 0} (a b : X) (read : Result X ℕ) → read ≡ Ok a → read ≡ Ok b → a ≡ b
same_ok a b read is too = cc

pub was_read : {X : Type 0} (P : X → Type 0) (read : Result X ℕ) (x : X) → ReadAs P read → read ≡ Ok x → P x
was_read P (Ok y) x reads is = subst P (same_ok y x (Ok y) refl is) reads
was_read P (Err place) x reads is = absurd (cc is)

pub next_reads : {X Y : Type 0} (P : X → Type 0) (Q : Y → Type 0) (found : Result X ℕ) (more : X → Result Y ℕ)
    → ReadAs P found → ((x : X) → P x → ReadAs Q (more x)) → ReadAs Q (next found more)
next_reads P Q (Ok x) more reads then_ = then_ x reads
next_reads P Q (Err place) more reads then_ = tt

pub field_reads : {X : Type 0} (P : X → Type 0) (argument : Argument) (found : Option X)
    → ((x : X) → found ≡ Some x → P x) → ReadAs P (field argument found)
field_reads P argument None is = tt
field_reads P argument (Some x) is = is x refl

pub span_reads : (P : Span → Type 0) (argument : Argument) (passes : Bool) → (passes ≡ true → P (span_of argument))
    → ReadAs P (field argument (span_if passes argument))
span_reads P argument true is = is refl
span_reads P argument false is = tt

pub rest_reads : (P : Span → Type 0) (item : Item) (wrong : Option ℕ) → (wrong ≡ None → P (rest_of item))
    → ReadAs P (rest_unless wrong item)
rest_reads P item None is = is refl
rest_reads P item (Some place) is = tt

pub if_reads : {X : Type 0} (P : X → Type 0) (test : Bool) (found : Result X ℕ) (place : ℕ) → ReadAs P found
    → ReadAs P (if test then found else Err place)
if_reads P true found place reads = reads
if_reads P false found place reads = tt

pub any_reads : {X : Type 0} (read : Result X ℕ) → ReadAs (λ (x : X). Unit {0}) read
any_reads (Ok x) = tt
any_reads (Err place) = tt

-- what was read has no fault
pub no_fault : {V : Type 0} (fault : Result (Unit {0}) FrameFault) (read : Result V ℕ) (v : V)
    → unless_fault fault (at_place read) ≡ Ok v → (fault ≡ Ok tt) × (read ≡ Ok v)
no_fault (Ok done) (Ok a) v is = (refl, cc)
no_fault (Ok done) (Err place) v is = absurd (cc is)
no_fault (Err fault) read v is = absurd (cc is)

-- nor what was read at a place
pub placed : {V : Type 0} (read : Result V ℕ) (v : V) → at_place read ≡ Ok v → read ≡ Ok v
placed (Ok a) v is = cc
placed (Err place) v is = absurd (cc is)

-- ---- numbers

-- a number is not above the limit that it is read with
pub number_within : (limit : ℕ) (text : List ℕ) (n : ℕ) → number limit text ≡ Some n → n ≤ limit
unfolding number
number_within limit text n is = by (is_numeral text && nat_le (digits_value 10 text) limit) refl is
  where
    same_number : (a b : ℕ) → Some a ≡ Some b → a ≡ b
    same_number a b e = cc

    by : (t : Bool) → (is_numeral text && nat_le (digits_value 10 text) limit) ≡ t
        → (if t then Some (digits_value 10 text) else None) ≡ Some n → n ≤ limit
    by true test e =
        subst (λ (k : ℕ). k ≤ limit) (same_number (digits_value 10 text) n e)
        (leb-true (digits_value 10 text) limit (and_parts (is_numeral text)
        (nat_le (digits_value 10 text) limit) test).1)
    by false test e = absurd (cc e)

four_within : (a b c d : Option ℕ) (n : ℕ) → ((x : ℕ) → a ≡ Some x → x ≤ 255) → ((x : ℕ) → b ≡ Some x → x ≤ 255)
    → ((x : ℕ) → c ≡ Some x → x ≤ 255) → ((x : ℕ) → d ≡ Some x → x ≤ 255) → address_of a b c d ≡ Some n → n < 2 ^ 32
four_within (Some a) (Some b) (Some c) (Some d) n fa fb fc fd is =
    let value : ((a * 256 + b) * 256 + c) * 256 + d ≡ n = cc in
    omega (arith, value, fa a refl, fb b refl, fc c refl, fd d refl)
four_within None b c d n fa fb fc fd is = absurd (cc is)
four_within (Some a) None c d n fa fb fc fd is = absurd (cc is)
four_within (Some a) (Some b) None d n fa fb fc fd is = absurd (cc is)
four_within (Some a) (Some b) (Some c) None n fa fb fc fd is = absurd (cc is)

-- an address has 32 bits
pub address_within : (text : List ℕ) (n : ℕ) → address text ≡ Some n → n < 2 ^ 32
unfolding address
address_within text n is =
    let second = after_first is_dot text in
    let third = after_first is_dot second in
    four_within (number 255 (before_first is_dot text)) (number 255 (before_first is_dot second))
    (number 255 (before_first is_dot third)) (number 255 (after_first is_dot third)) n
    (number_within 255 (before_first is_dot text)) (number_within 255 (before_first is_dot second))
    (number_within 255 (before_first is_dot third)) (number_within 255 (after_first is_dot third)) is

-- ---- texts of arguments

-- what is found is bytes
pub found_bytes : (bytes : List ℕ) (argument : Argument) → IsBytes bytes → IsFound bytes argument
    → IsBytes argument.text
found_bytes bytes argument are found = subst IsBytes found.part (part_bytes bytes (span_of argument) are)

-- so is the one in front
pub front_bytes : (bytes : List ℕ) (item : ℕ) (arguments : List Argument) → IsBytes bytes → AreFound bytes arguments
    → IsBytes (front item arguments).text
front_bytes bytes item [] are found = bytes_by_test [] refl
front_bytes bytes item (argument ∷ rest) are found = found_bytes bytes argument are found.0

-- ---- what digits spell

-- what is made of as many bytes as hex digits spell
pub hex_made : {A : Type 0} (P : A → Type 0) (make : List ℕ → A) (argument : Argument) (text : List ℕ)
    → ((bytes : List ℕ) → AreTwenty bytes → P (make bytes)) → ReadAs P (field argument (option_map make (hex 20 text)))
hex_made P make argument text is = by (hex 20 text) refl
  where
    by : (found : Option (List ℕ)) → hex 20 text ≡ found → ReadAs P (field argument (option_map make found))
    by None got = tt
    by (Some b) got = is b (hex_bytes text b got)

pub fingerprint_reads : (argument : Argument) (text : List ℕ)
    → ReadAs (λ (identity : Fingerprint). AreTwenty identity.0) (field argument (fingerprint text))
fingerprint_reads argument text =
    hex_made (λ (identity : Fingerprint). AreTwenty identity.0) (λ b. record { 0 = b }) argument text (λ b are. are)

pub key_digest_reads : (argument : Argument) (text : List ℕ)
    → ReadAs (λ (digest : Digest1). AreTwenty digest.0) (field argument (key_digest text))
key_digest_reads argument text =
    hex_made (λ (digest : Digest1). AreTwenty digest.0) (λ b. record { 0 = b }) argument text (λ b are. are)

-- as many bytes as base64 spells
pub base64_reads : (P : List ℕ → Type 0) (count : ℕ) (argument : Argument) (text : List ℕ) → IsBytes text
    → ((bytes : List ℕ) → length bytes ≡ count → IsBytes bytes → P bytes)
    → ReadAs P (field argument (base64 count text))
base64_reads P count argument text are is =
    field_reads P argument (base64 count text) (λ b found.
    let both = base64_bytes count text b are found in is b both.0 both.1)

-- what is made of them
pub base64_made : {A : Type 0} (P : A → Type 0) (make : List ℕ → A) (count : ℕ) (argument : Argument) (text : List ℕ)
    → IsBytes text → ((bytes : List ℕ) → length bytes ≡ count → IsBytes bytes → P (make bytes))
    → ReadAs P (field argument (option_map make (base64 count text)))
base64_made P make count argument text are is = by (base64 count text) refl
  where
    by : (found : Option (List ℕ)) → base64 count text ≡ found → ReadAs P (field argument (option_map make found))
    by None got = tt
    by (Some b) got = let both = base64_bytes count text b are got in is b both.0 both.1
