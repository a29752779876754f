use Rattle.detached_doc.proofs.BodyTurns.{parts_put}
use Rattle.detached_doc.proofs.object.put_object.Goals as goal

pub returns : goal.returns
returns c =
    parts_put c.args.page.now c.put_dashed.new.page c.put_body.new.page c.put_dashed-2.new.page c.args.words.now
    c.args.bytes.now c.put_dashed.ensures c.put_body.ensures c.put_dashed-2.ensures
