use Rattle.detached_doc.proofs.Rests.{plain_four}
use Rattle.detached_doc.proofs.writing.put_plain.Goals as goal

pub returns : goal.returns
returns c =
    plain_four c.args.page.now c.put.new.self c.put_algorithm.new.page c.put_signer.new.page c.put_object.new.page
    c.args.line.now c.as_bytes.result.now c.as_bytes-2.result.now c.as_bytes.ensures c.as_bytes-2.ensures c.put.ensures
    c.put_algorithm.ensures c.put_signer.ensures c.put_object.ensures
