use Rattle.std.{proofs.Common.{◌≡◌, map, drop}, specs.List.list_any}
use Rattle.dir_http.specs.Heads.{is_coding}
use Rattle.httparse.specs.Spans.{header_bytes}
use Rattle.dir_http.proofs.length.is_coded.Given as goal

abbrev pub invariant-fields : goal.invariant-fields
invariant-fields l =
    list_any is_coding (map (header_bytes l.bytes) (drop l.field-index l.fields))
    ≡ list_any is_coding (map (header_bytes l.bytes) l.fields)
