use Rattle.std.proofs.Common.{◌-◌, List, ℕ, take, drop, length, subst, arith, length-take, length-drop, ◌∙◌}
use Rattle.std.{proofs.lemmas.List.take_rest, specs.Io.KnownBytes.Appends}
use Rattle.dir_bytes.proofs.Appending.{appends_more}
use Rattle.dir_bytes.proofs.writing.write_all.Goals as goal

pub pieces-preserved : goal.pieces-preserved
pieces-preserved g c =
    let piece = c.in-Took.ensures in
    let bytes = c.args.bytes.now in
    let sent = c.pieces.sent in
    let wrote = subst (λ (l : List ℕ). Appends (g.K.Sink.written c.pieces.sink) (g.K.Sink.written c.write.new.self) (take c.in-Took.count l)) (take_rest bytes sent) piece.bytes in
    record {
      sent = omega (arith, piece.within.1, length-take (length bytes - sent) (drop sent bytes), length-drop sent bytes);
      written = appends_more (g.K.Sink.written c.args.sink.now) (g.K.Sink.written c.pieces.sink) (g.K.Sink.written c.write.new.self) bytes sent c.in-Took.count c.pieces.invariant.written wrote;
      faults = piece.cause ∙ c.pieces.invariant.faults;
    }
