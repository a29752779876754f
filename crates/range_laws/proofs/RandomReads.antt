-- A shared random value that is read is in range, in whichever section of a vote it stands.
use Rattle.std.proofs.Common.{ℕ, ◌≤◌, List, Option, Some, None, Result, Ok, Err, Bool, true, false}
use Rattle.std.specs.{Prelude.{IfSome, length, slice_index, take, ◌==◌, ◌&&◌, if◌then◌else◌}, Option.option_or}
use Rattle.base64.specs.GeneralPurpose.{IsBytes}
use Rattle.item_terms.specs.Items.{Item}
use Rattle.dir_values.specs.{Numbers.number_of, declared.digest.Digest2.Digest2}
use Rattle.frame_values.specs.Arguments.{arguments_of, field, front, next, others}
use Rattle.value_groups.specs.{Lines.random_of, Values.{padded_digest, without_padding}}
use Rattle.value_groups.specs.declared.{line.RandomLine.RandomLine, value.SharedRandom.SharedRandom}
use Rattle.group_laws.specs.{LineAgain.IsRandomInRange, Ranges.AreThirtyTwo}
use Rattle.vote_frame.specs.declared.frame.VoteValue.TheVariants as own
use Rattle.vote_doc.specs.Saying.{random_of_value}
use Rattle.row_laws.proofs.{ItemArguments.{IsSound, are_found, others_found}, ReadBytes.bytes_take, ReadSteps.ReadAs}
use Rattle.row_laws.proofs.ReadSteps.{field_reads, next_reads, number_within, front_bytes}
use Rattle.range_laws.proofs.EntryReads.{thirty_two}

-- without its padding a text is of bytes too
bare_bytes : (text : List ℕ) → IsBytes text → IsBytes (without_padding text)
bare_bytes text are = by ((length text == 44) && (slice_index text 43 == 61))
  where
    by : (t : Bool) → IsBytes (if t then take 43 text else text)
    by true = bytes_take 43 text are
    by false = are

abbrev IsCount : ℕ → Type 0
IsCount n = n ≤ 4294967295

abbrev IsValue : Digest2 → Type 0
IsValue value = AreThirtyTwo value.0

abbrev random_made : ℕ → Digest2 → Result SharedRandom ℕ
random_made count value = Ok (record { count = count; value = value })

-- what is read of its line, in any document that has such
pub random_reads : (bytes : List ℕ) (item : Item) → IsBytes bytes → IsSound bytes item → ReadAs IsRandomInRange (random_of item)
random_reads bytes item are sound =
    let first = front item.place (arguments_of item) in
    let behind = others (arguments_of item) in
    let second = front item.place behind in
    let found = others_found bytes (arguments_of item) (are_found sound) in
    let f0 = field first (number_of first.text) in
    let f1 = field second (padded_digest second.text) in
    let m1 = λ (n : ℕ) (d : Digest2). random_made n d in
    let m0 = λ (n : ℕ). next f1 (m1 n) in
    next_reads IsCount IsRandomInRange f0 m0
    (field_reads IsCount first (number_of first.text) (λ n is. number_within 4294967295 first.text n is)) (λ n small.
    next_reads IsValue IsRandomInRange f1 (m1 n)
    (field_reads IsValue second (padded_digest second.text) (λ d is.
    thirty_two (without_padding second.text) d
    (bare_bytes second.text (front_bytes bytes item.place behind are found)) is))
    (λ d its. record { count = small; length_is = its.count; each = its.each }))

-- ---- what an item says

-- the value of a line, where it has one
pub random_ranged : (line : RandomLine) (read : Result SharedRandom ℕ) → ReadAs IsRandomInRange read
    → IfSome (random_of_value (Some (own.Random line read))) IsRandomInRange
random_ranged line (Ok random) is = is
random_ranged line (Err place) is = tt

-- that of the preamble, or else that of the authority's section
pub either_ranged : (known other : Option SharedRandom) → IfSome known IsRandomInRange → IfSome other IsRandomInRange
    → IfSome (option_or known other) IsRandomInRange
either_ranged None other is its = its
either_ranged (Some random) other is its = is
