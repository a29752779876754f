use Rattle.std.proofs.Common.{◌≡◌, ℕ, ◌/◌, length, ap, ◌∙◌, arith}
use Rattle.dir_bytes.{specs.{Fields.hex, FieldTexts.hex_text}, proofs.ReadAgain.hex-hex_text}
use Rattle.dir_bytes.proofs.Spelling.{length-hex_text}
use Rattle.dir_bytes.proofs.hex_bytes.hex_bytes_are_read_again.Goals as goal

pub returns : goal.returns
returns c = λ bytes fits.
    let half : length (hex_text bytes) / 2 ≡ length bytes = omega (arith, length-hex_text bytes) in
    ap (λ (n : ℕ). hex n (hex_text bytes)) half ∙ hex-hex_text bytes fits
