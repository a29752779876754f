use Rattle.std.proofs.Common.{arith}
use Rattle.key_port.proofs.SignedWords.{fits_line}
use Rattle.key_port.proofs.sign_lines.signature_of.Goals as goal

pub is_line_of-requires : goal.is_line_of-requires
is_line_of-requires c = fits_line c.decode_signature.new.out (omega (arith, c.decode_signature.ensures.len, c.requires))
