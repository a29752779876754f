-- A digest of another flavour that is read is hex, where it stands.
use Rattle.std.proofs.Common.{◌≡◌, ℕ, Bool, true, false, List, [], ◌∷◌, Option, Some, None, Result, Ok, refl, sym}
use Rattle.std.{proofs.Common.subst, specs.Prelude.{is_some, unwrap_or, if◌then◌else◌}}
use Rattle.item_terms.specs.Items.{Item, items_from}
use Rattle.dir_bytes.specs.HexBytes.{hex_bytes}
use Rattle.dir_values.specs.Arguments.{Argument}
use Rattle.frame_values.specs.{Arguments.{arguments_of, field, front, next, others}, Fields.{is_there, span_of}}
use Rattle.frame_values.specs.{Parts.part, declared.found.Span.Span}
use Rattle.detached_frame.specs.Lines.{additional_digest_of, hex, word}
use Rattle.detached_frame.specs.declared.said.AdditionalDigestLine.{AdditionalDigestLine}
use Rattle.detached_doc.specs.Facts.{hex_in}
use Rattle.row_laws.proofs.{ItemArguments.{AreFound, IsSound, are_found, front_found, others_found}, ReadSteps.ReadAs}
use Rattle.row_laws.proofs.{ReadSteps.{any_reads, next_reads, was_read}, Saying.{EachSound, all_sound}}
use Rattle.consensus_laws.specs.HexDigests.{DigestsAreHex, EachSpellsDigest}

-- what stands there is hex
abbrev IsHex : List ℕ → Span → Type 0
IsHex bytes span = hex_bytes (part bytes span) ≡ Some (hex_in bytes span)

some_is : (found : Option (List ℕ)) → is_some found ≡ true → found ≡ Some (unwrap_or found [])
some_is None is = absurd (cc is)
some_is (Some bytes) is = refl

hex_reads : (bytes : List ℕ) (item : ℕ) (arguments : List Argument) → AreFound bytes arguments
    → ReadAs (IsHex bytes) (field (front item arguments) (hex (front item arguments)))
hex_reads bytes item arguments found = by (is_some (hex_bytes text)) (is_there text) refl refl
  where
    argument : Argument
    argument = front item arguments

    text : List ℕ
    text = argument.text

    by : (h t : Bool) → is_some (hex_bytes text) ≡ h → is_there text ≡ t
        → ReadAs (IsHex bytes)
        (field argument (if h then (if t then Some (span_of argument) else None) else None))
    by false t is there = tt
    by true false is there = tt
    by true true is there =
        let stands : part bytes (span_of argument) ≡ text = (front_found bytes item arguments found there).part in
        subst (λ (l : List ℕ). hex_bytes l ≡ Some (unwrap_or (hex_bytes l) [])) (sym stands)
        (some_is (hex_bytes text) is)

abbrev line_made : Span → Span → Span → Result AdditionalDigestLine ℕ
line_made flavour algorithm digest = Ok (record { flavour = flavour; algorithm = algorithm; digest = digest })

abbrev IsHexLine : List ℕ → AdditionalDigestLine → Type 0
IsHexLine bytes line = IsHex bytes line.digest

abbrev Any : Span → Type 0
Any span = Unit {0}

digest_reads : (bytes : List ℕ) (item : Item) → IsSound bytes item
    → ReadAs (IsHexLine bytes) (additional_digest_of item)
digest_reads bytes item sound =
    let a0 = arguments_of item in
    let a1 = others a0 in
    let a2 = others a1 in
    let found2 = others_found bytes a1 (others_found bytes a0 (are_found sound)) in
    let t0 = front item.place a0 in
    let t1 = front item.place a1 in
    let t2 = front item.place a2 in
    let f0 = field t0 (word t0) in
    let f1 = field t1 (word t1) in
    let f2 = field t2 (hex t2) in
    let m2 = λ (f a d : Span). line_made f a d in
    let m1 = λ (f a : Span). next f2 (m2 f a) in
    let m0 = λ (f : Span). next f1 (m1 f) in
    next_reads Any (IsHexLine bytes) f0 m0 (any_reads f0) (λ f is_f.
    next_reads Any (IsHexLine bytes) f1 (m1 f) (any_reads f1) (λ a is_a.
    next_reads (IsHex bytes) (IsHexLine bytes) f2 (m2 f a) (hex_reads bytes item.place a2 found2) (λ d is_d. is_d)))

each_hex : (bytes : List ℕ) (items : List Item) → EachSound bytes items → EachSpellsDigest bytes items
each_hex bytes [] sound = tt
each_hex bytes (item ∷ items) sound = (
  λ line is. was_read (IsHexLine bytes) (additional_digest_of item) line (digest_reads bytes item sound.0) is,
  each_hex bytes items sound.1,
)

pub digests_hex : DigestsAreHex
digests_hex start limit bytes = each_hex bytes (items_from start limit bytes).items (all_sound start limit bytes)
