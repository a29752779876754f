use Rattle.std.{proofs.Common.{◌≡◌, ◌++◌, filter_map, length, take}, specs.List.list_any}
use Rattle.item_terms.specs.Items.{items_of}
use Rattle.descriptor_doc.specs.{FamilyCerts.{cert_said, says_no_cert}, Reading.max_descriptor}
use Rattle.descriptor_doc.proofs.families.family_certs_in.Given as goal

-- the certificates so far, and those of the items that are left, are those of all; none so far lacks one
abbrev pub invariant-items : goal.invariant-items
invariant-items l = record {
  certs :
      l.certs.items ++ filter_map cert_said l.items.items
      ≡ filter_map cert_said (items_of max_descriptor (take max_descriptor l.text)).items;
  whole :
      list_any says_no_cert l.items.items
      ≡ list_any says_no_cert (items_of max_descriptor (take max_descriptor l.text)).items;
}

abbrev pub decreases-items : goal.decreases-items
decreases-items l = length l.items.items
