use Rattle.std.proofs.KnownBytes.{Keeps-refl}
use Rattle.key_port.{specs.SignedLines.signed_or_fault, proofs.SignedWords.asks_to_sign}
use Rattle.key_port.proofs.signing.exchange_signing.Goals as goal

pub returns-in-Done-clause-asked : goal.returns-in-Done-clause-asked
returns-in-Done-clause-asked g c = asks_to_sign _ _ _ (signed_or_fault c.hear_signature.result) (rw (← c.write_sign_request.ensures, ← c.as_bytes.ensures) c.in-Done.ensures.0)

pub returns-in-Failed-clause-comes : goal.returns-in-Failed-clause-comes
returns-in-Failed-clause-comes g c = Keeps-refl (g.S.Source.left c.args.source.now)
