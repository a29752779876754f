use Rattle.std.proofs.Common.{arith, rules, ◌∙◌}
use Rattle.dir_bytes.proofs.Copies.{taken_off}
use Rattle.dir_bytes.proofs.memory_source.MemorySourceSource.read.Goals as goal

pub returns-clause-bytes : goal.returns-clause-bytes
returns-clause-bytes c = taken_off c.args.self.now.bytes.items c.copy_from_slice.new.self _ c.args.self.now.place c.room_before_cut-count.result (omega arith) (c.copy_from_slice.ensures.after ∙ search rules)
