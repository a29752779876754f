use Rattle.http_words.proofs.Telling.{shortage_tried}
use Rattle.http_words.proofs.connection.tell_shortage.Goals as goal

pub returns-clause-tries : goal.returns-clause-tries
returns-clause-tries g c =
    shortage_tried (g.K.Sink.written c.args.sink.now) (g.K.Sink.written c.write_response.new.sink)
    (g.K.Sink.faults c.args.sink.now) (g.K.Sink.faults c.write_response.new.sink) c.new.result.items
    c.write_response.result c.new.ensures.items c.write_response.ensures
