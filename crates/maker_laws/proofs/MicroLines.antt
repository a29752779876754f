-- The methods of a made vote and the `m` lines of its entries, by the newest method that is known.
use Rattle.std.proofs.Common.{ℕ, ◌+◌, ◌≤◌, Bool, true, false, List, [], ◌∷◌, ◌++◌, length, length-append, map, Option}
use Rattle.std.proofs.{Common.{Some, None, arith}, lemmas.{Fmt.length-decimal-le_succ, List.Elements.All-cons}}
use Rattle.std.{proofs.lemmas.List.Elements.All-nil, specs.Prelude.{All, codes, decimal, is_some, not, ◌&&◌}}
use Rattle.std.specs.{Prelude.{option_map, if◌then◌else◌}, List.join_with_byte, Str.bytes_eq}
use Rattle.count_terms.specs.declared.newest.Newest.{Newest}
use Rattle.count_terms.specs.declared.newest.Newest.TheVariants as newest_is
use Rattle.item_terms.specs.Bytes.{comma}
use Rattle.dir_bytes.{specs.FieldTexts.base64_text, proofs.Spelling.length-base64_text}
use Rattle.dir_values.specs.declared.digest.Digest2.{Digest2}
use Rattle.exit_summary.specs.Summaries.{summary_of}
use Rattle.group_laws.specs.Ranges.{AreMethodsInRange, AreThirtyTwo}
use Rattle.relay_entries.specs.Texts.{methods_text}
use Rattle.descriptor_doc.specs.declared.descriptor.Descriptor.{Descriptor}
use Rattle.micro_desc.specs.{Makings.micro_with_families, Texts.micro_text, declared.micro.Micro.Micro}
use Rattle.vote_pool.specs.Summaries.{digest_or, family_digest_of, micro_digest_of, micro_text_of, with_digest}
use Rattle.vote_terms.specs.declared.entry.MicroFacts.{MicroFacts}
use Rattle.vote_text.specs.Entries.{micro_line}
use Rattle.vote_laws.{specs.Again.IsMicroInRange, proofs.Digests.thirty_two}
use Rattle.vote_maker.specs.Entries.{knows_34, made_methods, made_micros, micro_of_digest, micros_of}

abbrev Is32 : ℕ → Type 0
Is32 n = n ≤ 4294967295

-- a number of two digits
record IsMethod (n : ℕ) : Type 0 where
  small : Is32 n
  short : length (decimal n) ≤ 100

method : (n : ℕ) → n ≤ 99 → IsMethod n
method n few = record {
  small = omega (arith, few);
  short = omega (arith, few, length-decimal-le_succ n (omega (arith, few)));
}

-- ---- lists of methods

-- there is a method, and each is such a number
record AreSuch (methods : List ℕ) : Type 0 where
  range : AreMethodsInRange methods
  few : length methods ≤ 4
  text : (byte : ℕ) → length (join_with_byte byte (map decimal methods)) ≤ 404

one : (a : ℕ) → IsMethod a → AreSuch (a ∷ [])
one a is = record {
  range = record { some = omega arith; each = All-cons Is32 a [] is.small (All-nil Is32) };
  few = omega arith;
  text = λ byte. omega (arith, is.short);
}

more : (a b : ℕ) (rest : List ℕ) → length rest ≤ 2 → IsMethod a → AreSuch (b ∷ rest)
    → ((byte : ℕ) → length (join_with_byte byte (map decimal (b ∷ rest))) ≤ 303) → AreSuch (a ∷ b ∷ rest)
more a b rest few is are short = record {
  range = record { some = omega arith; each = All-cons Is32 a (b ∷ rest) is.small are.range.each };
  few = omega (arith, few);
  text = λ byte. omega (
    arith,
    is.short,
    short byte,
    length-append (decimal a) (byte ∷ join_with_byte byte (map decimal (b ∷ rest))),
  );
}

last_short : (a byte : ℕ) → IsMethod a → length (join_with_byte byte (map decimal (a ∷ []))) ≤ 101
last_short a byte is = omega (arith, is.short)

more_short : (a b : ℕ) (rest : List ℕ) (byte size : ℕ) → IsMethod a
    → length (join_with_byte byte (map decimal (b ∷ rest))) ≤ size
    → length (join_with_byte byte (map decimal (a ∷ b ∷ rest))) ≤ size + 101
more_short a b rest byte size is short =
    omega (arith, is.short, short, length-append (decimal a) (byte ∷ join_with_byte byte (map decimal (b ∷ rest))))

m32 : IsMethod 32
m32 = method 32 (omega arith)

m33 : IsMethod 33
m33 = method 33 (omega arith)

m34 : IsMethod 34
m34 = method 34 (omega arith)

m35 : IsMethod 35
m35 = method 35 (omega arith)

two_short : (a b byte : ℕ) → IsMethod a → IsMethod b
    → length (join_with_byte byte (map decimal (a ∷ b ∷ []))) ≤ 202
two_short a b byte first second =
    omega (arith, more_short a b [] byte 101 first (last_short b byte second))

three_short : (a b c byte : ℕ) → IsMethod a → IsMethod b → IsMethod c
    → length (join_with_byte byte (map decimal (a ∷ b ∷ c ∷ []))) ≤ 303
three_short a b c byte first second third =
    omega (arith, more_short a b (c ∷ []) byte 202 first (two_short b c byte second third))

two : (a b : ℕ) → IsMethod a → IsMethod b → AreSuch (a ∷ b ∷ [])
two a b first second =
    more a b [] (omega arith) first (one b second) (λ byte. omega (arith, last_short b byte second))

three : (a b c : ℕ) → IsMethod a → IsMethod b → IsMethod c → AreSuch (a ∷ b ∷ c ∷ [])
three a b c first second third =
    more a b (c ∷ []) (omega arith) first (two b c second third)
    (λ byte. omega (arith, two_short b c byte second third))

four : (a b c d : ℕ) → IsMethod a → IsMethod b → IsMethod c → IsMethod d → AreSuch (a ∷ b ∷ c ∷ d ∷ [])
four a b c d first second third fourth =
    more a b (c ∷ d ∷ []) (omega arith) first (three b c d second third fourth)
    (λ byte. three_short b c d byte second third fourth)

-- the methods of a made vote
such : (newest : Newest) → AreSuch (made_methods newest)
such newest_is.Method33 = two 32 33 m32 m33
such newest_is.Method34 = three 32 33 34 m32 m33 m34
such newest_is.Method35 = four 32 33 34 35 m32 m33 m34 m35

pub methods_in_range : (newest : Newest) → AreMethodsInRange (made_methods newest)
methods_in_range newest = (such newest).range

pub methods_few : (newest : Newest) → length (made_methods newest) ≤ 4
methods_few newest = (such newest).few

pub methods_short : (newest : Newest) (byte : ℕ) → length (join_with_byte byte (map decimal (made_methods newest))) ≤ 404
methods_short newest = (such newest).text

-- ---- `m` lines

-- an `m` line is in range, and is short
pub record IsFine (line : MicroFacts) : Type 0 where
  pub range : IsMicroInRange line
  pub short : length (micro_line line) ≤ 1000000

fine : (methods : List ℕ) (digest : Digest2) → AreSuch methods → AreThirtyTwo digest.0
    → IsFine (micro_of_digest methods digest)
fine methods digest are is =
    let text = base64_text digest.0 in
    let spelled : length text ≤ 100 = omega (arith, is.count, length-base64_text digest.0) in
    record {
      range = record { methods = are.range; digest = is };
      short = omega (
        arith,
        spelled,
        are.text comma,
        length-append (methods_text methods) (codes " sha256=" ++ text),
        length-append (codes " sha256=") text,
      );
    }

-- so are those of a relay
pub micros_fine : (newest : Newest) (digest family : Digest2) → AreThirtyTwo digest.0 → AreThirtyTwo family.0
    → All IsFine (micros_of newest digest family)
micros_fine newest_is.Method33 digest family first second =
    let line = micro_of_digest (made_methods newest_is.Method33) digest in
    All-cons IsFine line [] (fine (made_methods newest_is.Method33) digest (such newest_is.Method33) first) (All-nil IsFine)
micros_fine newest_is.Method34 digest family first second =
    let line = micro_of_digest (made_methods newest_is.Method34) digest in
    All-cons IsFine line [] (fine (made_methods newest_is.Method34) digest (such newest_is.Method34) first) (All-nil IsFine)
micros_fine newest_is.Method35 digest family first second = by (bytes_eq digest.0 family.0)
  where
    whole : MicroFacts
    whole = micro_of_digest (made_methods newest_is.Method35) digest

    before : MicroFacts
    before = micro_of_digest (made_methods newest_is.Method34) digest

    later : MicroFacts
    later = micro_of_digest (35 ∷ []) family

    by : (t : Bool) → All IsFine (if t then whole ∷ [] else before ∷ later ∷ [])
    by true =
        All-cons IsFine whole [] (fine (made_methods newest_is.Method35) digest (such newest_is.Method35) first) (All-nil IsFine)
    by false =
        All-cons IsFine before (later ∷ []) (fine (made_methods newest_is.Method34) digest (such newest_is.Method34) first)
        (All-cons IsFine later [] (fine (35 ∷ []) family (one 35 m35) second) (All-nil IsFine))

-- the digest of a microdescriptor with families has thirty-two bytes
family_thirty_two : (d : Descriptor) → AreThirtyTwo (family_digest_of d).0
family_thirty_two d = by (micro_with_families d (summary_of d.policy))
  where
    by : (found : Option Micro) → AreThirtyTwo (digest_or (option_map with_digest found) (micro_digest_of d)).0
    by None = thirty_two (micro_text_of d)
    by (Some micro) = thirty_two (micro_text micro)

pub relay_micros : (newest : Newest) (d : Descriptor)
    → All IsFine (made_micros newest (is_some d.onion_key) (micro_digest_of d) (family_digest_of d))
relay_micros newest d = by (knows_34 newest && not (is_some d.onion_key))
  where
    by : (b : Bool) → All IsFine (if b then [] else micros_of newest (micro_digest_of d) (family_digest_of d))
    by true = All-nil IsFine
    by false =
        micros_fine newest (micro_digest_of d) (family_digest_of d) (thirty_two (micro_text_of d)) (family_thirty_two d)
