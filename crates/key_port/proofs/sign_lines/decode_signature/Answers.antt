use Rattle.std.proofs.Common.{rules}
use Rattle.key_port.proofs.SignedWords.{decoded}
use Rattle.key_port.proofs.sign_lines.decode_signature.Goals as goal

pub returns-clause-found : goal.returns-clause-found
returns-clause-found c =
    decoded c.args.line.now c.decode_to_slice-decoded.new.out _ c.decode_to_slice-decoded.result
    (rw (← c.hex_part.ensures) c.decode_to_slice-decoded.ensures.value) (search rules) c.requires
