-- A descriptor that an authority reads, with its families or without, is in range.
use Rattle.std.proofs.Common.{sym, subst}
use Rattle.count_terms.specs.declared.newest.Newest.{Newest, TheVariants.{Method33, Method34, Method35}}
use Rattle.descriptor_doc.specs.{Reading.as_read, declared.descriptor.Descriptor.Descriptor}
use Rattle.descriptor_doc.proofs.ReadUnder.{own_read}
use Rattle.descriptor_laws.specs.ReadRanges.{DescriptorsReadAreInRange, IsDescriptorInRange}
use Rattle.maker_laws.specs.Given.{IsDescriptor}

-- what it says of its families is not asked for
also_with : (newest : Newest) (d : Descriptor) → IsDescriptorInRange d → IsDescriptorInRange (as_read newest d)
also_with Method33 d is = is
also_with Method34 d is = record {
  router = is.router;
  socks_port = is.socks_port;
  published = is.published;
  signer = is.signer;
  platform = is.platform;
  proto = is.proto;
  or_addresses = is.or_addresses;
}
also_with Method35 d is = record {
  router = is.router;
  socks_port = is.socks_port;
  published = is.published;
  signer = is.signer;
  platform = is.platform;
  proto = is.proto;
  or_addresses = is.or_addresses;
}

pub descriptor_ranged : DescriptorsReadAreInRange → (d : Descriptor) → IsDescriptor d → IsDescriptorInRange d
descriptor_ranged law d is =
    let found = own_read is.newest is.input d is.used is.read in
    subst IsDescriptorInRange (sym found.same)
    (also_with is.newest found.own (law is.input found.own is.used is.bytes found.read))
