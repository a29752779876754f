-- What is kept of a server descriptor that was written says what the descriptor says, with what is computed from its text.
use Rattle.std.proofs.Common.{◌≡◌, ℕ, ◌+◌, List, [], ◌++◌, length, Option, Some, None, refl, ap, ◌∙◌, arith}
use Rattle.std.{proofs.Common.length-append, specs.Prelude.{IfSome, option_map}}
use Rattle.sha1.specs.Sha1.{sha1}
use Rattle.sha2.specs.Sha256.{sha256}
use Rattle.dirdoc_grammar.specs.Writing.{items_text}
use Rattle.frame_terms.specs.{Keywords.{same, text_of}, Rows.row, declared.document.Taken.Taken}
use Rattle.frame_terms.specs.declared.row.{Count.TheVariants.Optional, Row.Row}
use Rattle.frame_terms.specs.declared.keyword.Keyword.TheVariants as the
use Rattle.frame_values.specs.Values.{item_at, separator_in}
use Rattle.frame_laws.proofs.{ReadRows.{IsRead, Stand, item_of_row, place_of, row_read}, RowValues.moment_said}
use Rattle.frame_laws.proofs.RowValues.{object_said, text_if_said}
use Rattle.descriptor_frame.specs.declared.said.DescriptorKind.{DescriptorKind}
use Rattle.descriptor_frame.specs.declared.said.DescriptorKind.TheVariants as kind
use Rattle.descriptor_doc.specs.{Descriptors.{descriptor_in, ed_prefix, ed_signature_in}, Heads.{head_of, kept_with}}
use Rattle.descriptor_doc.specs.{Heads.none_kept, Reading.max_descriptor, Saying.{ItemIf, bandwidth_in}}
use Rattle.descriptor_doc.specs.Saying.{ed_signature_in as ed_said, fingerprint_if, hibernating_in, key_in, uptime_in}
use Rattle.descriptor_doc.specs.declared.descriptor.{Descriptor.Descriptor, EdSignature.EdSignature}
use Rattle.descriptor_text.specs.Texts.{descriptor_text}
use Rattle.descriptor_laws.specs.{Again.{as_written, signature_as_written, unsigned_items}, Ranges.AreBytes}
use Rattle.descriptor_laws.{specs.Ranges.SaysInRange, proofs.DescriptorRead.{all_of_it, back_all, back_place}}
use Rattle.descriptor_laws.proofs.DescriptorRows.{Says, ed_signature_entry, groups_entry, hibernating_entry, key_entry}
use Rattle.descriptor_laws.proofs.{DescriptorRows.{row_maybe, uptime_entry}, DescriptorSame.entries}
use Rattle.descriptor_laws.proofs.DescriptorSays.{back_read, ed_begins, ed_signed_is, front_read, policy_is, signed_is}
use Rattle.descriptor_laws.proofs.{DescriptorSays.whole_is, DescriptorTexts.ed_front, ValuesSaid.addresses_said}
use Rattle.descriptor_laws.proofs.ValuesSaid.{certificate_said, family_said, key_object_said, mark_said, ports_said}
use Rattle.descriptor_laws.proofs.ValuesSaid.{router_is_said, value_said}

module _ (d : Descriptor) (are : SaysInRange d) (rest : List ℕ)
    (stand : Stand max_descriptor (descriptor_text d ++ rest) 0 (entries d)) where
  abbrev bytes : List ℕ
  bytes = descriptor_text d ++ rest

  abbrev found : List (Taken Says)
  found = all_of_it d are

  abbrev ed_row : Row DescriptorKind
  ed_row = row the.RouterSigEd25519 Optional kind.EdSignature

  -- its Ed25519 signature, with what that is made over
  ed_is_said : (signature : Option EdSignature) (place : ℕ) → d.router_sig_ed25519 ≡ signature
      → IfSome signature (λ one. AreBytes 64 one.signature)
      → place ≡ length (items_text (unsigned_items d))
      → IsRead max_descriptor bytes found place (row_maybe ed_row ed_signature_entry signature)
      → option_map (ed_signature_in bytes (head_of found)) (ed_said (item_at found the.RouterSigEd25519))
      ≡ option_map (signature_as_written d) signature
  ed_is_said None place is fits at read =
      ap (λ (o : ItemIf). option_map (ed_signature_in bytes (head_of found)) (ed_said o)) (item_of_row read)
  ed_is_said (Some signature) place is fits at read =
      let keyword = text_of the.RouterSigEd25519 in
      let separator : (head_of found).ed_separator ≡ length (ed_front d) =
      ap (λ (o : ItemIf). separator_in o) (item_of_row read)
      ∙ sums place (length (items_text (unsigned_items d))) (length keyword) (length (ed_front d)) at
      (length-append (items_text (unsigned_items d)) keyword) in
      ap (λ (o : ItemIf). option_map (ed_signature_in bytes (head_of found)) (ed_said o)) (item_of_row read)
      ∙ ap (λ (l : List ℕ). Some (record {
        signature = signature.signature;
        covered = record { 0 = sha256 (ed_prefix ++ l) };
      })) (ed_signed_is d are rest stand signature is fits separator)
    where
      sums : (p u k f : ℕ) → p ≡ u → f ≡ u + k → p + k ≡ f
      sums p u k f first second = omega (arith, first, second)

  -- all that is kept
  pub descriptor_says : descriptor_in bytes (kept_with none_kept tt found) ≡ as_written d
  unfolding same
  descriptor_says =
      let front = front_read d are rest stand in
      let back = back_read d are rest stand in
      let signing = object_said _ _ d.signing_key (row_read the.SigningKey front refl) in
      λ i. record {
        router = router_is_said _ d.router (row_read the.Router front refl) i;
        identity_ed25519 =
            certificate_said _ d.identity_ed25519 are.identity_ed25519 (row_read the.IdentityEd25519 front refl) i;
        master_key_ed25519 =
            value_said key_in (key_entry the.MasterKeyEd25519) _ d.master_key_ed25519 refl (λ a p. refl)
            (row_read the.MasterKeyEd25519 front refl) i;
        platform = text_if_said _ d.platform (row_read the.Platform front refl) i;
        published = moment_said _ d.published are.published (row_read the.Published front refl) i;
        fingerprint =
            value_said fingerprint_if groups_entry _ d.fingerprint refl (λ a p. refl)
            (row_read the.Fingerprint front refl) i;
        uptime = value_said uptime_in uptime_entry _ d.uptime refl (λ a p. refl) (row_read the.Uptime front refl) i;
        bandwidth = ap bandwidth_in (item_of_row (row_read the.Bandwidth front refl)) i;
        hibernating =
            value_said hibernating_in hibernating_entry _ d.hibernating refl (λ a p. refl)
            (row_read the.Hibernating front refl) i;
        onion_key = key_object_said _ d.onion_key (row_read the.OnionKey front refl) i;
        signing_key = signing i;
        ntor_onion_key =
            value_said key_in (key_entry the.NtorOnionKey) _ d.ntor_onion_key refl (λ a p. refl)
            (row_read the.NtorOnionKey front refl) i;
        policy = policy_is d are i;
        ipv6_policy = ports_said _ d.ipv6_policy are.ipv6_policy (row_read the.Ipv6Policy back refl) i;
        family = family_said _ d.family are.family (row_read the.Family back refl) i;
        or_addresses = addresses_said _ d.or_addresses refl (row_read the.OrAddress back refl) i;
        tunnelled_dir_server = mark_said _ d.tunnelled_dir_server (row_read the.TunnelledDirServer back refl) i;
        proto = text_if_said _ d.proto (row_read the.Proto back refl) i;
        contact = text_if_said _ d.contact (row_read the.Contact back refl) i;
        router_sig_ed25519 =
            ed_is_said d.router_sig_ed25519 (place_of (back_place d) the.RouterSigEd25519 (back_all d)) refl
            are.router_sig_ed25519 (ed_begins d) (row_read the.RouterSigEd25519 back refl) i;
        router_signature = object_said _ _ d.router_signature (row_read the.RouterSignature back refl) i;
        identity = record { 0 = sha1 (signing i) };
        digest = record { 0 = sha1 (signed_is d are rest stand i) };
        text = whole_is d are rest stand i;
        family_certs = Some [];
      }
