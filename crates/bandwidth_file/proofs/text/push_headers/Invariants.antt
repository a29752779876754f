use Rattle.std.{proofs.Common.{◌≡◌, ◌++◌, drop}, specs.List.flat_map}
use Rattle.bandwidth_file.specs.Texts.{header_text}
use Rattle.bandwidth_file.proofs.text.push_headers.Given as goal

abbrev pub invariant-loop-header : goal.invariant-loop-header
invariant-loop-header l = l.out.items ++ flat_map header_text (drop l.header-index l.headers) ≡ l.fn.out.items ++ flat_map header_text l.headers
