use Rattle.std.proofs.KnownBytes.{Keeps-refl}
use Rattle.key_port.{specs.Exchanges.answer_or_fault, proofs.Answering.asks_whole}
use Rattle.key_port.proofs.asking.exchange.Goals as goal

pub returns-in-Done-clause-asked : goal.returns-in-Done-clause-asked
returns-in-Done-clause-asked g c = asks_whole _ _ _ (answer_or_fault c.hear.result) (rw (← c.write_request.ensures, ← c.as_bytes.ensures) c.in-Done.ensures.0)

pub returns-in-Failed-clause-comes : goal.returns-in-Failed-clause-comes
returns-in-Failed-clause-comes g c = Keeps-refl (g.S.Source.left c.args.source.now)
