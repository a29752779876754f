-- The family certificates of a relay, as the items `family-cert` of its descriptor say them (dir-spec, "Server descriptor
-- format"; cert-spec, "Document formats", type 12).
use Rattle.std.specs.Prelude.{Bool, true, false, List, codes, filter_map, Option, Some, None, option_and_then}
use Rattle.std.specs.{Prelude.if◌then◌else◌, List.list_any, Str.bytes_eq}
use Rattle.item_terms.specs.Items.{Item, Object}
use Rattle.dirdoc_grammar.specs.Bodies.{decoded_bytes}
use Rattle.frame_values.specs.Signatures.{has_words}
use Rattle.descriptor_frame.specs.{Certificates.family_certificate_of, declared.certificate.EdCert.EdCert}
use Rattle.descriptor_doc.specs.declared.families.FamilyItem.{FamilyItem, TheVariants.{Cert, NoCert, Other}}

-- whether an item is one of a family
abbrev pub is_family_item : Item → Bool
is_family_item item = bytes_eq item.keyword (codes "family-cert")

-- the family certificate that the lines of an object spell, where they spell one
abbrev pub cert_in : Option Object → Option EdCert
cert_in None = None
cert_in (Some object) = option_and_then family_certificate_of (decoded_bytes object.text)

-- the family certificate that an object is, where it is one: its words are `FAMILY CERT`
abbrev pub cert_of : Option Object → Option EdCert
cert_of object = if has_words object (codes "FAMILY CERT") then cert_in object else None

-- what an item of a family says
abbrev pub said_by : Option EdCert → FamilyItem
said_by None = NoCert
said_by (Some cert) = Cert cert

-- what an item says of the relay's families
abbrev pub family_item : Item → FamilyItem
family_item item = if is_family_item item then said_by (cert_of item.object) else Other

-- the family certificate that is said, where one is
abbrev pub cert_if : FamilyItem → Option EdCert
cert_if Other = None
cert_if (Cert cert) = Some cert
cert_if NoCert = None

-- the same of an item
abbrev pub cert_said : Item → Option EdCert
cert_said item = cert_if (family_item item)

-- whether one has to be said, and is not
abbrev pub lacks_cert : FamilyItem → Bool
lacks_cert Other = false
lacks_cert (Cert cert) = false
lacks_cert NoCert = true

-- the same of an item
abbrev pub says_no_cert : Item → Bool
says_no_cert item = lacks_cert (family_item item)

-- the family certificates that items say, in their order; none at all, where one of a family says none
abbrev pub family_certs_of : List Item → Option (List EdCert)
family_certs_of items = if list_any says_no_cert items then None else Some (filter_map cert_said items)
