-- A server descriptor, row by row of its table: the items of its exit policy stand in their order between the others.
use Rattle.std.{proofs.Common.{ℕ, Bool, false, List, [], ◌∷◌, Option, Some, None}, specs.Prelude.{codes, decimal}}
use Rattle.std.specs.Prelude.{if◌then◌else◌}
use Rattle.dir_bytes.specs.FieldTexts.{base64_text}
use Rattle.dir_values.specs.{Ports.{Ports, summary_text}, declared.digest.Fingerprint.Fingerprint as Identity}
use Rattle.dir_values.specs.declared.policy.PolicyItem.{PolicyItem}
use Rattle.descriptor_frame.specs.declared.{certificate.EdCert.EdCert, said.BandwidthLine.BandwidthLine}
use Rattle.descriptor_frame.specs.declared.said.{DescriptorKind.DescriptorKind, DescriptorValue.DescriptorValue}
use Rattle.frame_terms.specs.{Rows.row, declared.{keyword.Keyword.Keyword, row.Count.TheVariants.{One, Optional, Many}}}
use Rattle.frame_terms.specs.declared.row.Row.{Row}
use Rattle.frame_terms.specs.declared.keyword.Keyword.TheVariants as the
use Rattle.frame_values.specs.declared.values.Value.{Value}
use Rattle.frame_values.specs.declared.values.Value.TheVariants as value
use Rattle.frame_laws.proofs.{Entries.Entry, RowValues.{moment_entry, object_entry, own_entry, row_each, row_if}}
use Rattle.frame_laws.proofs.{RowValues.{silent_entry, text_entry}, SaidRows.{RowSays, row_once}}
use Rattle.exit_summary.specs.Texts.{item_text}
use Rattle.descriptor_frame.specs.declared.said.DescriptorKind.TheVariants as kind
use Rattle.descriptor_frame.specs.declared.said.DescriptorValue.TheVariants as own
use Rattle.descriptor_doc.specs.declared.descriptor.{Descriptor.Descriptor, EdSignature.EdSignature, Router.Router}
use Rattle.descriptor_text.specs.Lines.{bandwidth_text, ed_signature_text, family_text, groups_text, hibernating_text}
use Rattle.descriptor_text.specs.{Lines.router_text, Texts.{certificate_bytes, policy_keyword, rsa_words}}
use Rattle.descriptor_laws.specs.Lines.{rest_start, router_at}

-- what an item says
abbrev pub Says : Type 0
Says = Value DescriptorValue

-- an item that is written
abbrev pub Written : Type 0
Written = Entry Says

-- what is said by a row
abbrev pub RowOf : Type 0
RowOf = RowSays DescriptorKind Says

-- ---- its items

module _ {A : Type 0} where
  -- an item where there is a value
  abbrev pub entries_if : (A → Written) → Option A → List Written
  entries_if entry None = []
  entries_if entry (Some a) = entry a ∷ []

  -- the same of a row
  abbrev pub row_maybe : Row DescriptorKind → (A → Written) → Option A → RowOf
  row_maybe row entry value = record { row = row; entries = entries_if entry value }

abbrev pub router_entry : Router → Written
router_entry r =
    own_entry the.Router (router_text r) (λ p. own.Router (router_at (rest_start p the.Router (router_text r)) r))

abbrev pub certificate_entry : EdCert → Written
certificate_entry c = object_entry the.IdentityEd25519 (codes "ED25519 CERT") (certificate_bytes c)

abbrev pub key_entry : Keyword → List ℕ → Written
key_entry keyword bytes = own_entry keyword (base64_text bytes) (λ p. own.Key bytes)

abbrev pub groups_entry : Identity → Written
groups_entry identity = record {
  keyword = the.Fingerprint;
  rest = groups_text identity;
  spaced = false;
  object = None;
  value = λ p. value.Fingerprint identity;
}

abbrev pub uptime_entry : ℕ → Written
uptime_entry seconds = own_entry the.Uptime (decimal seconds) (λ p. own.Uptime seconds)

abbrev pub bandwidth_entry : BandwidthLine → Written
bandwidth_entry line = own_entry the.Bandwidth (bandwidth_text line) (λ p. own.Bandwidth line)

abbrev pub hibernating_entry : Bool → Written
hibernating_entry rests = own_entry the.Hibernating (hibernating_text rests) (λ p. own.Hibernating rests)

abbrev pub key_object : Keyword → List ℕ → Written
key_object keyword bytes = object_entry keyword rsa_words bytes

abbrev pub policy_entry : PolicyItem → Written
policy_entry item = own_entry (policy_keyword item.accept) (item_text item) (λ p. own.Policy item)

abbrev pub ports_entry : Ports → Written
ports_entry ports = text_entry the.Ipv6Policy (summary_text ports)

abbrev pub family_entry : List (List ℕ) → Written
family_entry relays = text_entry the.Family (family_text relays)

abbrev pub marks_if : Bool → List Written
marks_if holds = if holds then silent_entry the.TunnelledDirServer [] ∷ [] else []

abbrev pub ed_signature_entry : EdSignature → Written
ed_signature_entry signature =
    own_entry the.RouterSigEd25519 (ed_signature_text signature) (λ p. own.EdSignature signature.signature)

-- its last item
abbrev pub signature_entry : Descriptor → Written
signature_entry d = object_entry the.RouterSignature (codes "SIGNATURE") d.router_signature

-- ---- its rows

abbrev pub first_row : Row DescriptorKind
first_row = row the.Router One kind.Router

-- the row of the items of its exit policy
abbrev pub policy_row : Bool → Row DescriptorKind
policy_row accept = row (policy_keyword accept) Many (kind.Policy accept)

abbrev pub last_row : Row DescriptorKind
last_row = row the.RouterSignature One kind.Signature

-- those before its exit policy
abbrev pub front_rows : Descriptor → List RowOf
front_rows d =
    row_maybe (row the.IdentityEd25519 Optional kind.Certificate) certificate_entry d.identity_ed25519
    ∷ row_maybe (row the.MasterKeyEd25519 Optional kind.Key) (key_entry the.MasterKeyEd25519) d.master_key_ed25519
    ∷ row_if (row the.Platform Optional kind.Rest) d.platform
    ∷ row_once (row the.Published One kind.Time) (moment_entry the.Published d.published)
    ∷ row_maybe (row the.Fingerprint Optional kind.Fingerprint) groups_entry d.fingerprint
    ∷ row_maybe (row the.Uptime Optional kind.Uptime) uptime_entry d.uptime
    ∷ row_once (row the.Bandwidth One kind.Bandwidth) (bandwidth_entry d.bandwidth)
    ∷ row_maybe (row the.Hibernating Optional kind.Hibernating) hibernating_entry d.hibernating
    ∷ row_maybe (row the.OnionKey Optional kind.Object) (key_object the.OnionKey) d.onion_key
    ∷ row_once (row the.SigningKey One kind.Object) (key_object the.SigningKey d.signing_key)
    ∷ row_maybe (row the.NtorOnionKey Optional kind.PaddedKey) (key_entry the.NtorOnionKey) d.ntor_onion_key
    ∷ []

-- those behind it, but the last
abbrev pub back_rows : Descriptor → List RowOf
back_rows d =
    row_maybe (row the.Ipv6Policy Optional kind.Ports) ports_entry d.ipv6_policy
    ∷ row_maybe (row the.Family Optional kind.Rest) family_entry d.family
    ∷ row_each (row the.OrAddress Many kind.Address) d.or_addresses
    ∷ record { row = row the.TunnelledDirServer Optional kind.Nothing; entries = marks_if d.tunnelled_dir_server }
    ∷ row_if (row the.Proto Optional kind.Rest) d.proto
    ∷ row_if (row the.Contact Optional kind.Rest) d.contact
    ∷ row_maybe (row the.RouterSigEd25519 Optional kind.EdSignature) ed_signature_entry d.router_sig_ed25519
    ∷ []
