-- A consensus method that is read is below 2 ^ 32.
use Rattle.std.{proofs.Common.{◌≡◌, ℕ, ◌≤◌, Ok, arith}, specs.Prelude.min}
use Rattle.item_terms.specs.Items.{Item}
use Rattle.dir_values.specs.Numbers.{number_of}
use Rattle.frame_values.specs.Arguments.{arguments_of, field, front}
use Rattle.consensus_frame.specs.Lines as lines
use Rattle.row_laws.proofs.ReadSteps.{ReadAs, field_reads, next_reads, number_within, was_read}
use Rattle.consensus_laws.specs.Methods.{MethodsAreNotCapped}

abbrev IsWhole : ℕ → Type 0
IsWhole number = number ≤ 4294967295

method_reads : (item : Item) → ReadAs IsWhole (lines.method_of item)
method_reads item =
    let first = front item.place (arguments_of item) in
    next_reads IsWhole IsWhole (field first (number_of first.text)) (λ n. Ok n)
    (field_reads IsWhole first (number_of first.text) (λ n is. number_within 4294967295 first.text n is)) (λ n is. is)

pub methods_whole : MethodsAreNotCapped
methods_whole item number is =
    let within : number ≤ 4294967295 = was_read IsWhole (lines.method_of item) number (method_reads item) is in
    let same : min number 4294967295 ≡ number = omega (arith, within) in
    same
