-- What is read of a server descriptor says what can be written.
use Rattle.std.proofs.Common.{◌≡◌, ℕ, ◌-◌, Bool, true, false, List, [], length, Option, Some, None, refl, sym, ap}
use Rattle.std.proofs.{Common.{subst, ◌∙◌, arith}, lemmas.List.{take-append-drop, Elements.{All-head, All-weaker}}}
use Rattle.std.specs.Prelude.{All, IfSome, option_and_then, option_map, if◌then◌else◌}
use Rattle.base64.specs.GeneralPurpose.{IsBytes}
use Rattle.item_terms.specs.Items.{items_of}
use Rattle.descriptor_frame.specs.Certificates.{begins_well, certificate_of, signer_of, with_signer}
use Rattle.descriptor_frame.specs.declared.{certificate.EdCert.EdCert, said.DescriptorValue.DescriptorValue}
use Rattle.descriptor_frame.specs.Tables.{descriptor_tables}
use Rattle.frame_terms.specs.{Documents.group, Keywords.same, Rows.row, declared.document.Group.Group}
use Rattle.frame_terms.specs.declared.row.Count.TheVariants.{One, Optional}
use Rattle.frame_terms.specs.declared.keyword.Keyword.TheVariants as the
use Rattle.frame_values.specs.{Parts.{bytes_in, part}, Ranges.AreTwenty, Values.{item_at, text_if}}
use Rattle.frame_values.specs.declared.found.Span.{Span}
use Rattle.frame_values.specs.declared.values.Value.TheVariants as value
use Rattle.document_laws.{specs.Items.AreItemsIn, proofs.Taking.are_said}
use Rattle.descriptor_frame.specs.declared.said.DescriptorKind.TheVariants as kind
use Rattle.descriptor_frame.specs.declared.said.DescriptorValue.TheVariants as own
use Rattle.descriptor_doc.specs.Descriptors.{certificate_in, descriptor_in, ed_signature_in, ports_in, words_in}
use Rattle.descriptor_doc.specs.{Heads.kept_of, Reading.max_descriptor, declared.descriptor.Descriptor.Descriptor}
use Rattle.descriptor_doc.specs.declared.head.Head.{Head}
use Rattle.descriptor_doc.specs.Saying as says
use Rattle.descriptor_text.specs.Texts.{certificate_bytes}
use Rattle.descriptor_laws.specs.Ranges.{AreBytes, IsAddressInRange, IsBandwidthInRange, IsCertificateInRange}
use Rattle.descriptor_laws.specs.{Ranges.SaysInRange, ReadRanges.{IsDescriptorInRange, IsShortAddress}}
use Rattle.descriptor_laws.{specs.Values.ReadDescriptorsSayInRange, proofs.DescriptorInRange.descriptors_in_range}
use Rattle.descriptor_laws.proofs.{DescriptorInRange.text_bytes, DescriptorReads.item_says, ItemsSay.AreArguments}
use Rattle.descriptor_laws.proofs.ItemsSay.{BandwidthIs, FingerprintIs, KeyIs, SignatureIs, UptimeIs, bandwidth_says}
use Rattle.descriptor_laws.proofs.ItemsSay.{family_says, fingerprint_says, key_says, padded_says, policies_are}
use Rattle.descriptor_laws.proofs.{ItemsSay.{signature_says, uptime_says}, KeysRead.IsLong, PortsRead.HasApart}
use Rattle.descriptor_laws.proofs.PortsRead.{summary_in}
use Rattle.descriptor_parts.proofs.{DescriptorDocument.{DescriptorTaken, IsReadOf, Said, of_section}, OfText.is_own}
use Rattle.range_laws.proofs.ValueTexts.{TextIs, text_ranged}
use Rattle.row_laws.proofs.{ReadBytes.object_bytes, Saying.{all_sound, each_stands}, ItemWords.IsArgument}

-- an item, if there is one
abbrev TakenIf : Type 0
TakenIf = Option DescriptorTaken

-- ---- what is kept of an item

key_ranged : (o : TakenIf) → IfSome o (λ one. KeyIs one.value) → IfSome (says.key_in o) (AreBytes 32)
key_ranged None is = tt
key_ranged (Some one) is = by one.value is
  where
    by_own : (it : DescriptorValue) → KeyIs (value.Own it) → IfSome (says.key_of_value (Some it)) (AreBytes 32)
    by_own (own.Key bytes) is = is
    by_own _ is = tt

    by : (v : Said) → KeyIs v → IfSome (says.key_in (Some (record one { value = v }))) (AreBytes 32)
    by (value.Own it) is = by_own it is
    by _ is = tt

uptime_ranged : (o : TakenIf) → IfSome o (λ one. UptimeIs one.value) → IfSome (says.uptime_in o) IsLong
uptime_ranged None is = tt
uptime_ranged (Some one) is = by one.value is
  where
    by_own : (it : DescriptorValue) → UptimeIs (value.Own it) → IfSome (says.uptime_of_value (Some it)) IsLong
    by_own (own.Uptime seconds) is = is
    by_own _ is = tt

    by : (v : Said) → UptimeIs v → IfSome (says.uptime_in (Some (record one { value = v }))) IsLong
    by (value.Own it) is = by_own it is
    by _ is = tt

no_bandwidth : IsBandwidthInRange says.no_bandwidth
no_bandwidth = record { average_is = omega arith; burst_is = omega arith; observed_is = omega arith }

bandwidth_ranged : (o : TakenIf) → IfSome o (λ one. BandwidthIs one.value) → IsBandwidthInRange (says.bandwidth_in o)
bandwidth_ranged None is = no_bandwidth
bandwidth_ranged (Some one) is = by one.value is
  where
    by_own : (it : DescriptorValue) → BandwidthIs (value.Own it)
        → IsBandwidthInRange (says.bandwidth_of_value (Some it))
    by_own (own.Bandwidth bandwidth) is = is
    by_own _ is = no_bandwidth

    by : (v : Said) → BandwidthIs v → IsBandwidthInRange (says.bandwidth_in (Some (record one { value = v })))
    by (value.Own it) is = by_own it is
    by _ is = no_bandwidth

fingerprint_ranged : (o : TakenIf) → IfSome o (λ one. FingerprintIs one.value)
    → IfSome (says.fingerprint_if o) (λ identity. AreTwenty identity.0)
fingerprint_ranged None is = tt
fingerprint_ranged (Some one) is = by one.value is
  where
    by : (v : Said) → FingerprintIs v
        → IfSome (says.fingerprint_if (Some (record one { value = v }))) (λ identity. AreTwenty identity.0)
    by (value.Fingerprint identity) is = is
    by _ is = tt

signature_ranged : (bytes : List ℕ) (head : Head) (o : TakenIf) → IfSome o (λ one. SignatureIs one.value)
    → IfSome (option_map (ed_signature_in bytes head) (says.ed_signature_in o))
    (λ signature. AreBytes 64 signature.signature)
signature_ranged bytes head None is = tt
signature_ranged bytes head (Some one) is = by one.value is
  where
    by_own : (it : DescriptorValue) → SignatureIs (value.Own it)
        → IfSome (option_map (ed_signature_in bytes head) (says.ed_signature_of_value (Some it)))
        (λ signature. AreBytes 64 signature.signature)
    by_own (own.EdSignature b) is = is
    by_own _ is = tt

    by : (v : Said) → SignatureIs v
        → IfSome (option_map (ed_signature_in bytes head) (says.ed_signature_in (Some (record one { value = v }))))
        (λ signature. AreBytes 64 signature.signature)
    by (value.Own it) is = by_own it is
    by _ is = tt

-- ---- what stands in spans

-- a certificate is what its bytes are
certificate_bytes_are : (raw : List ℕ) (found : EdCert) → certificate_of raw ≡ Some found
    → certificate_bytes found ≡ raw
certificate_bytes_are raw found is = by (begins_well raw) (signer_of raw) is
  where
    bytes_or : Option EdCert → List ℕ
    bytes_or None = raw
    bytes_or (Some c) = certificate_bytes c

    by : (t : Bool) (signer : Option (List ℕ)) → (if t then with_signer raw signer else None) ≡ Some found
        → certificate_bytes found ≡ raw
    by true (Some signer) is = sym (ap bytes_or is) ∙ take-append-drop (length raw - 64) raw
    by true None is = absurd (cc is)
    by false signer is = absurd (cc is)

certificate_ranged : (raw : List ℕ) → IsBytes raw → IfSome (certificate_of raw) IsCertificateInRange
certificate_ranged raw are = by (certificate_of raw) refl
  where
    by : (found : Option EdCert) → certificate_of raw ≡ found → IfSome found IsCertificateInRange
    by None is = tt
    by (Some c) is =
        let whole = certificate_bytes_are raw c is in
        record { says = ap certificate_of whole ∙ is; each = subst IsBytes (sym whole) are }

module _ (bytes : List ℕ) where
  certificate_is : IsBytes bytes → (o : Option Span)
      → IfSome (option_and_then (certificate_in bytes) o) IsCertificateInRange
  certificate_is are None = tt
  certificate_is are (Some lines) = certificate_ranged (bytes_in bytes lines) (object_bytes bytes lines are)

  ports_are : (o : Option Span) → IfSome (option_and_then (ports_in bytes) o) HasApart
  ports_are None = tt
  ports_are (Some span) = summary_in (part bytes span)

  family_is : (o : Option Span) → IfSome (option_map (part bytes) o) AreArguments
      → IfSome (option_map (words_in bytes) o) (λ relays. All IsArgument relays)
  family_is None is = tt
  family_is (Some span) is = is

  -- ---- the descriptor

  all_say : IsBytes bytes → (d : Descriptor) (read : IsReadOf bytes d (length bytes))
      → IsDescriptorInRange (descriptor_in bytes (kept_of read.taken))
      → SaysInRange (descriptor_in bytes (kept_of read.taken))
  unfolding same
  all_say are d read ranged =
      let taken = read.taken in
      let items = (items_of max_descriptor bytes).items in
      let Are : Group (Unit {0}) Said → Type 0 = λ g. AreItemsIn descriptor_tables g.section items g.taken in
      let said =
      are_said descriptor_tables (length bytes) (items_of max_descriptor bytes) (of_section taken (length bytes))
      read.read in
      let each =
      each_stands descriptor_tables bytes tt items taken (all_sound 0 max_descriptor bytes)
      (All-head Are (group tt taken) [] said) in
      record {
        router = record {
          nickname_is = ranged.router.nickname_is;
          ip_is = ranged.router.ip_is;
          or_port_is = ranged.router.or_port_is;
          socks_port_is = ranged.socks_port;
          dir_port_is = ranged.router.dir_port_is;
        };
        identity_ed25519 = certificate_is are (says.object_if (item_at taken the.IdentityEd25519));
        master_key_ed25519 =
            key_ranged (item_at taken the.MasterKeyEd25519)
            (item_says bytes KeyIs taken the.MasterKeyEd25519 (row the.MasterKeyEd25519 Optional kind.Key) refl
            (λ v says. key_says are says) each);
        published = ranged.published;
        fingerprint =
            fingerprint_ranged (item_at taken the.Fingerprint)
            (item_says bytes FingerprintIs taken the.Fingerprint (row the.Fingerprint Optional kind.Fingerprint) refl
            (λ v says. fingerprint_says says) each);
        uptime =
            uptime_ranged (item_at taken the.Uptime)
            (item_says bytes UptimeIs taken the.Uptime (row the.Uptime Optional kind.Uptime) refl
            (λ v says. uptime_says says) each);
        bandwidth =
            bandwidth_ranged (item_at taken the.Bandwidth)
            (item_says bytes BandwidthIs taken the.Bandwidth (row the.Bandwidth One kind.Bandwidth) refl
            (λ v says. bandwidth_says says) each);
        ntor_onion_key =
            key_ranged (item_at taken the.NtorOnionKey)
            (item_says bytes KeyIs taken the.NtorOnionKey (row the.NtorOnionKey Optional kind.PaddedKey) refl
            (λ v says. padded_says are says) each);
        policy = policies_are bytes taken each;
        ipv6_policy = ports_are (text_if (item_at taken the.Ipv6Policy));
        family =
            family_is (text_if (item_at taken the.Family))
            (text_ranged AreArguments bytes (item_at taken the.Family)
            (item_says bytes (TextIs AreArguments bytes) taken the.Family (row the.Family Optional kind.Rest) refl
            (λ v says. family_says says) each));
        or_addresses =
            All-weaker IsShortAddress IsAddressInRange
            (λ text is. record { word = is.address.word; address = is.address.address }) _ ranged.or_addresses;
        router_sig_ed25519 =
            signature_ranged bytes (kept_of taken).head (item_at taken the.RouterSigEd25519)
            (item_says bytes SignatureIs taken the.RouterSigEd25519
            (row the.RouterSigEd25519 Optional kind.EdSignature) refl (λ v says. signature_says are says) each);
      }

-- Each value of a descriptor that is read from bytes is one that can be written and read again.
pub say_in_range : ReadDescriptorsSayInRange
say_in_range input d used are is =
    let own_ = is_own input d used is in
    let ranged = descriptors_in_range input d used are is in
    subst SaysInRange own_.read.says
    (all_say d.text (text_bytes input d are own_) d own_.read
    (subst IsDescriptorInRange (sym own_.read.says) ranged))
