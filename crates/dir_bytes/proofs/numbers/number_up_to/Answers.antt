use Rattle.std.{proofs.Common.{arith, sym, ◌∙◌, ℕ, ◌≡◌, true, get_or}, specs.Char.is_ascii_digit}
use Rattle.dir_bytes.proofs.Numerals.{none_if_too_much, digit_parts}
use Rattle.dir_bytes.proofs.numbers.number_up_to.Goals as goal

pub returns-then-value-limit-clause-value : goal.returns-then-value-limit-clause-value
returns-then-value-limit-clause-value c =
    let byte : ℕ = get_or c.args.text.now c.digits.byte-index 0 in
    let is_digit : is_ascii_digit byte ≡ true = sym c.is_ascii_digit.ensures.value ∙ c.if-not-is_ascii_digit.false in
    let digit = digit_parts byte is_digit in
    sym (none_if_too_much c.args.limit c.args.text.now c.digits.byte-index c.digits.value c.digits-test.true c.digits.invariant.value (omega (arith, digit, c.if-value-limit.true, c.requires)))
