-- What a microdescriptor says of which something was kept (dir-spec, "Computing microdescriptors").
use Rattle.std.specs.{Prelude.{ℕ, List}, Option.option_map}
use Rattle.frame_values.specs.Parts.{bytes_in, part}
use Rattle.descriptor_doc.specs.Descriptors.{words_in}
use Rattle.micro_desc.specs.declared.{head.MicroHead.MicroHead, micro.Micro.Micro}

-- what the microdescriptor says of which this was kept, in these bytes
abbrev pub micro_in : List ℕ → MicroHead → Micro
micro_in bytes head = record {
  onion_key = option_map (bytes_in bytes) head.onion_key;
  ntor_onion_key = head.ntor_onion_key;
  family = option_map (words_in bytes) head.family;
  family_ids = option_map (part bytes) head.family_ids;
  p = option_map (part bytes) head.p;
  p6 = option_map (part bytes) head.p6;
  id = head.id;
}
