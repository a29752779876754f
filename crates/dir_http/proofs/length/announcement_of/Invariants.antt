use Rattle.std.{proofs.Common.{◌≡◌, All, length, map, take}, specs.Option.option_to_list}
use Rattle.dir_http.specs.Heads as heads
use Rattle.httparse.specs.Spans.{IsWithin, span_bytes, header_bytes}
use Rattle.dir_http.proofs.length.announcement_of.Given as goal

abbrev pub invariant-fields : goal.invariant-fields
invariant-fields l = record {
  within : All (IsWithin (length l.bytes)) (option_to_list l.value);
  values : map (span_bytes l.bytes) (option_to_list l.value)
      ≡ heads.length_values (map (header_bytes l.bytes) (take l.field-index l.fields));
}
