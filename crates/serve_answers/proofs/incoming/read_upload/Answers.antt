use Rattle.serve_answers.proofs.HeadFirst.{upload_read}
use Rattle.serve_answers.proofs.incoming.read_upload.Goals as goal

pub returns-in-Ok-clause-reads : goal.returns-in-Ok-clause-reads
returns-in-Ok-clause-reads g c = λ left at.
    upload_read left (g.S.Source.left c.args.conn.now) c.args.head.now c.in-Ok.found at c.requires.asks
    c.in-Ok.ensures.answer
