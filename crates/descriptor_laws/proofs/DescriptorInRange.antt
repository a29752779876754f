-- What is read of a server descriptor is in range.
use Rattle.std.proofs.Common.{◌≡◌, ℕ, ◌-◌, ◌≤◌, Bool, true, false, List, [], ◌∷◌, length, drop, Option, Some, None}
use Rattle.std.proofs.{Common.{refl, subst, arith, length-take, length-drop}, lemmas.List.Elements.{All-cons, All-head}}
use Rattle.std.{proofs.lemmas.List.Elements.All-nil, specs.Prelude.{All, IfSome, filter_map, map, option_and_then}}
use Rattle.std.specs.{Prelude.{option_map, if◌then◌else◌}, List.cons_option}
use Rattle.base64.specs.GeneralPurpose.{IsBytes}
use Rattle.item_terms.specs.Items.{items_of}
use Rattle.dirdoc_grammar.specs.Writing.{IsLineRest}
use Rattle.frame_terms.specs.{Documents.group, Keywords.same, Rows.row, Sections.row_of, declared.document.Group.Group}
use Rattle.frame_terms.specs.declared.{keyword.Keyword.Keyword, row.Count.TheVariants.{Many, One, Optional}}
use Rattle.frame_terms.specs.declared.keyword.Keyword.TheVariants as the
use Rattle.frame_values.specs.{Parts.{bytes_in, part}, Values.{item_at, text_if, text_of_value}}
use Rattle.frame_values.specs.declared.found.Span.{Span}
use Rattle.frame_values.specs.declared.values.Value.TheVariants as value
use Rattle.document_laws.{specs.Items.AreItemsIn, proofs.Taking.are_said}
use Rattle.vote_laws.proofs.Digests.{twenty}
use Rattle.group_laws.specs.Ranges.{AreThirtyTwo, IsAddressInRange}
use Rattle.descriptor_frame.specs.{Tables.{descriptor_tables, rows}, declared.said.DescriptorValue.DescriptorValue}
use Rattle.descriptor_frame.specs.declared.said.DescriptorKind.TheVariants as kind
use Rattle.descriptor_frame.specs.declared.said.DescriptorValue.TheVariants as own
use Rattle.descriptor_doc.specs.{Descriptors.{certificate_in, descriptor_in, signed_part}, Heads.kept_of}
use Rattle.descriptor_doc.specs.{Reading.{front_of, max_descriptor}, declared.descriptor.Descriptor.Descriptor}
use Rattle.descriptor_doc.specs.Saying as says
use Rattle.descriptor_parts.proofs.DescriptorDocument.{DescriptorTaken, IsReadOf, Said, of_section}
use Rattle.descriptor_parts.proofs.{LastItem.first_found, OfText.{IsOwn, is_own}}
use Rattle.range_laws.proofs.ValueTexts.{TextIs, text_ranged}
use Rattle.row_laws.proofs.{ReadBytes.{bytes_drop, bytes_take, object_bytes}, Saying.{all_sound, each_stands}}
use Rattle.descriptor_laws.specs.ReadRanges.{DescriptorsReadAreInRange, IsDescriptorInRange, IsShortAddress}
use Rattle.descriptor_laws.{specs.ReadRanges.IsShortRest, proofs.DescriptorReads.{EachDescriptorStands, IsRouter}}
use Rattle.descriptor_laws.proofs.DescriptorReads.{RouterIs, address_says, item_says, rest_says, router_says}
use Rattle.descriptor_laws.proofs.{DescriptorReads.stands_for, Signers.signer_is}

-- ---- texts that are short

part_short : (bytes : List ℕ) (span : Span) → length (part bytes span) ≤ length bytes
part_short bytes span =
    let taken = length-take (span.end - span.start) (drop span.start bytes) in
    let left = length-drop span.start bytes in
    omega (arith, taken, left)

address_row : row_of rows the.OrAddress ≡ Some (row the.OrAddress Many kind.Address)
unfolding same
address_row = refl

module _ (bytes : List ℕ) (short : length bytes ≤ max_descriptor) where
  short_rest : (o : Option Span) → IfSome (option_map (part bytes) o) IsLineRest
      → IfSome (option_map (part bytes) o) IsShortRest
  short_rest None is = tt
  short_rest (Some span) is =
      record { rest = is; short = omega (arith, short, part_short bytes span) }

  -- ---- further addresses

  addresses_are : (taken : List DescriptorTaken) → EachDescriptorStands bytes taken
      → All IsShortAddress (map (part bytes) (filter_map says.address_if taken))
  addresses_are [] each = All-nil IsShortAddress
  addresses_are (one ∷ taken) each =
      by (same one.keyword the.OrAddress) refl (addresses_are taken each.1)
    where
      others : List Span
      others = filter_map says.address_if taken

      by_said : (v : Said) → TextIs IsAddressInRange bytes v → All IsShortAddress (map (part bytes) others)
          → All IsShortAddress (map (part bytes) (cons_option (text_of_value v) others))
      by_said (value.Text span) is more =
          All-cons IsShortAddress (part bytes span) (map (part bytes) others)
          (record { address = is; short = omega (arith, short, part_short bytes span) }) more
      by_said _ is more = more

      by : (t : Bool) → same one.keyword the.OrAddress ≡ t → All IsShortAddress (map (part bytes) others)
          → All IsShortAddress
          (map (part bytes) (cons_option (if t then text_of_value one.value else None) others))
      by true e more =
          by_said one.value
          (address_says
          (stands_for bytes one the.OrAddress (row the.OrAddress Many kind.Address) address_row each.0 e)) more
      by false e more = more

  -- ---- the certificate

  signer_in_range : IsBytes bytes → (o : Option Span)
      → IfSome (option_and_then (certificate_in bytes) o) (λ certificate. AreThirtyTwo certificate.signer)
  signer_in_range are None = tt
  signer_in_range are (Some lines) = signer_is (bytes_in bytes lines) (object_bytes bytes lines are)

  -- ---- the relay

  router_is : (o : Option DescriptorTaken) (one : DescriptorTaken) → o ≡ Some one
      → IfSome o (λ one. RouterIs bytes one.value) → IsRouter bytes (says.router_in o)
  router_is None one there is = absurd (cc there)
  router_is (Some found) one there is = by found.value is
    where
      by_own : (it : DescriptorValue) → RouterIs bytes (value.Own it)
          → IsRouter bytes (says.router_of_value (Some it))
      by_own (own.Router line) is = is
      by_own _ is = absurd is

      by : (v : Said) → RouterIs bytes v → IsRouter bytes (says.router_in (Some (record found { value = v })))
      by (value.Own it) is = by_own it is
      by _ is = absurd is

  -- ---- the descriptor

  all_in_range : IsBytes bytes → (d : Descriptor) (read : IsReadOf bytes d (length bytes))
      → IsDescriptorInRange (descriptor_in bytes (kept_of read.taken))
  unfolding same
  all_in_range are d read =
      let taken = read.taken in
      let items = (items_of max_descriptor bytes).items in
      let Are : Group (Unit {0}) Said → Type 0 = λ g. AreItemsIn descriptor_tables g.section items g.taken in
      let said =
      are_said descriptor_tables (length bytes) (items_of max_descriptor bytes) (of_section taken (length bytes))
      read.read in
      let each =
      each_stands descriptor_tables bytes tt items taken (all_sound 0 max_descriptor bytes)
      (All-head Are (group tt taken) [] said) in
      let rest = λ (keyword : Keyword) (there : row_of rows keyword ≡ Some (row keyword Optional kind.Rest)).
      short_rest (text_if (item_at taken keyword))
      (text_ranged IsLineRest bytes (item_at taken keyword)
      (item_says bytes (TextIs IsLineRest bytes) taken keyword (row keyword Optional kind.Rest) there
      (λ v says. rest_says says) each)) in
      let router =
      router_is (item_at taken the.Router) read.items.first_one
      (first_found items taken (length bytes) read.items)
      (item_says bytes (RouterIs bytes) taken the.Router (row the.Router One kind.Router) refl
      (λ v says. router_says says) each) in
      record {
        router = record {
          nickname_is = router.nickname;
          identity_is = twenty (descriptor_in bytes (kept_of taken)).signing_key;
          digest_is = twenty (signed_part bytes (kept_of taken).head);
          ip_is = router.ip;
          or_port_is = router.or_port;
          dir_port_is = router.dir_port;
        };
        socks_port = router.socks_port;
        published = omega arith;
        signer = signer_in_range are (says.object_if (item_at taken the.IdentityEd25519));
        platform = rest the.Platform refl;
        proto = rest the.Proto refl;
        or_addresses = addresses_are taken each;
      }

-- what is read from bytes has bytes for its text
pub text_bytes : (bytes : List ℕ) (d : Descriptor) → IsBytes bytes → IsOwn bytes d → IsBytes d.text
text_bytes bytes d are own =
    subst IsBytes own.part
    (bytes_take own.end (drop (front_of bytes) bytes) (bytes_drop (front_of bytes) bytes are))

-- A descriptor that is read from bytes is in range.
pub descriptors_in_range : DescriptorsReadAreInRange
descriptors_in_range input d used are is =
    let own = is_own input d used is in
    subst IsDescriptorInRange own.read.says
    (all_in_range d.text own.short (text_bytes input d are own) d own.read)
