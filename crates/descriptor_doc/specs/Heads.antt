-- What is kept of a descriptor's items. The table sees to it that each item is there which has to stand; where one is not,
-- its value is nothing.
use Rattle.std.specs.Prelude.{List, [], ◌++◌, filter_map}
use Rattle.frame_terms.specs.declared.keyword.Keyword.TheVariants as the
use Rattle.frame_terms.specs.declared.document.Taken.{Taken}
use Rattle.frame_values.specs.{declared.values.Value.Value, Values.{item_at, place_in, separator_in, line_end_in}}
use Rattle.frame_values.specs.Values.{after_in, number_in, text_if, object_in}
use Rattle.descriptor_frame.specs.declared.said.DescriptorValue.{DescriptorValue}
use Rattle.descriptor_doc.specs.{declared.{head.Head.Head, kept.Kept.Kept}, Saying.{router_in, key_in, uptime_in}}
use Rattle.descriptor_doc.specs.Saying.{bandwidth_in, hibernating_in, ed_signature_in, object_if, fingerprint_if}
use Rattle.descriptor_doc.specs.Saying.{is_there, policy_if, address_if}

-- what is kept of the items that stand at most once
abbrev pub head_of : List (Taken (Value DescriptorValue)) → Head
head_of taken = record {
  begin = place_in (item_at taken the.Router);
  ed_separator = separator_in (item_at taken the.RouterSigEd25519);
  signed_end = line_end_in (item_at taken the.RouterSignature);
  end = after_in (item_at taken the.RouterSignature);
  router = router_in (item_at taken the.Router);
  identity_ed25519 = object_if (item_at taken the.IdentityEd25519);
  master_key_ed25519 = key_in (item_at taken the.MasterKeyEd25519);
  platform = text_if (item_at taken the.Platform);
  published = number_in (item_at taken the.Published);
  fingerprint = fingerprint_if (item_at taken the.Fingerprint);
  uptime = uptime_in (item_at taken the.Uptime);
  bandwidth = bandwidth_in (item_at taken the.Bandwidth);
  hibernating = hibernating_in (item_at taken the.Hibernating);
  onion_key = object_if (item_at taken the.OnionKey);
  signing_key = object_in (item_at taken the.SigningKey);
  ntor_onion_key = key_in (item_at taken the.NtorOnionKey);
  ipv6_policy = text_if (item_at taken the.Ipv6Policy);
  family = text_if (item_at taken the.Family);
  tunnelled_dir_server = is_there (item_at taken the.TunnelledDirServer);
  proto = text_if (item_at taken the.Proto);
  contact = text_if (item_at taken the.Contact);
  router_sig_ed25519 = ed_signature_in (item_at taken the.RouterSigEd25519);
  router_signature = object_in (item_at taken the.RouterSignature);
}

-- what is kept of these items
abbrev pub kept_of : List (Taken (Value DescriptorValue)) → Kept
kept_of taken = record {
  head = head_of taken;
  policy = filter_map policy_if taken;
  addresses = filter_map address_if taken;
}

-- what is kept where nothing was read
abbrev pub none_kept : Kept
none_kept = kept_of []

-- what is kept after the one section of a descriptor
abbrev pub kept_with : Kept → Unit {0} → List (Taken (Value DescriptorValue)) → Kept
kept_with kept section taken = record {
  head = head_of taken;
  policy = kept.policy ++ filter_map policy_if taken;
  addresses = kept.addresses ++ filter_map address_if taken;
}
