-- What the rows of a server descriptor say is what their kinds ask for.
use Rattle.std.proofs.Common.{◌≡◌, ℕ, Bool, true, false, List, [], ◌∷◌, Option, Some, None, Result, Ok, refl, ap, ◌∙◌}
use Rattle.std.{proofs.{Common.arith, lemmas.Bool.both_ways}, specs.Prelude.{◌<◌, ◌^◌, All, IfSome, IsTrue, is_some}}
use Rattle.std.specs.Prelude.{option_and_then}
use Rattle.dir_values.specs.{Arguments.Argument, Ports.{Ports, are_ranges}}
use Rattle.dir_values.specs.declared.{digest.Fingerprint.Fingerprint as Identity, policy.PolicyItem.PolicyItem}
use Rattle.dir_values.{specs.declared.refusal.ValueRefusal.ValueRefusal, proofs.PortsAgain.ports_again}
use Rattle.dirdoc_grammar.specs.Writing.{written}
use Rattle.grammar_laws.proofs.WrittenBytes.{decoded-body_text}
use Rattle.descriptor_frame.specs.{Certificates.certificate_of, declared.certificate.EdCert.EdCert}
use Rattle.descriptor_frame.specs.declared.said.{BandwidthLine.BandwidthLine, DescriptorKind.DescriptorKind}
use Rattle.descriptor_frame.specs.declared.said.{DescriptorValue.DescriptorValue, RouterLine.RouterLine}
use Rattle.descriptor_frame.specs.{Fields.is_address, Lines.{address_of, is_certificate, ports_at, value_at}}
use Rattle.descriptor_frame.specs.Tables.{descriptor_tables}
use Rattle.item_terms.specs.Items.{Item}
use Rattle.frame_terms.specs.{Rows.{is_one, row}, declared.{keyword.Keyword.Keyword, row.Count.Count}}
use Rattle.frame_terms.specs.declared.row.{Count.TheVariants.{One, Optional, Many}, Row.Row}
use Rattle.frame_terms.specs.declared.keyword.Keyword.TheVariants as the
use Rattle.frame_values.specs.{Arguments.{arguments_of, next}, Faults.at_place, Fields.span_of, Items.bare}
use Rattle.frame_values.specs.{Ranges.AreTwenty, Signatures.object_of, declared.found.Span.Span}
use Rattle.frame_values.specs.declared.values.Value.TheVariants as value
use Rattle.frame_laws.proofs.{Both.both_hold, Entries.{AlwaysSuits, item_of}, ManyRows.said_of_each}
use Rattle.frame_laws.proofs.{RowCounts.said_once, RowValues.{moment_entry, row_each, row_if, said_any_if}}
use Rattle.frame_laws.proofs.{RowValues.{silent_entry, text_entry}, SaidRows.{AreSaid, IsSaid, row_once}}
use Rattle.frame_laws.proofs.{Words.arguments_of_word, WrittenItems.{start_of, time-written}}
use Rattle.descriptor_frame.specs.declared.said.DescriptorKind.TheVariants as kind
use Rattle.descriptor_frame.specs.declared.said.DescriptorValue.TheVariants as own
use Rattle.descriptor_doc.specs.declared.descriptor.{Descriptor.Descriptor, EdSignature.EdSignature, Router.Router}
use Rattle.descriptor_text.specs.Texts.{certificate_bytes, policy_keyword}
use Rattle.descriptor_laws.specs.Ranges.{AreBytes, IsAddressInRange, IsBandwidthInRange, IsCertificateInRange}
use Rattle.descriptor_laws.specs.Ranges.{IsItemInRange, IsRouterInRange, SaysInRange}
use Rattle.descriptor_laws.proofs.WrittenLines.{bandwidth_again, hibernating_again, identity_again, key_again}
use Rattle.descriptor_laws.proofs.WrittenLines.{router_again, signature_again, uptime_again}
use Rattle.descriptor_laws.proofs.{WrittenPolicies.policy_again, DescriptorRows.{Says, Written, back_rows}}
use Rattle.descriptor_laws.proofs.DescriptorRows.{bandwidth_entry, certificate_entry, ed_signature_entry, family_entry}
use Rattle.descriptor_laws.proofs.DescriptorRows.{first_row, front_rows, groups_entry, hibernating_entry, key_entry}
use Rattle.descriptor_laws.proofs.DescriptorRows.{key_object, last_row, marks_if, policy_entry, policy_row, ports_entry}
use Rattle.descriptor_laws.proofs.DescriptorRows.{router_entry, row_maybe, signature_entry, uptime_entry}

-- ---- what its items say

-- what is said of what was read
abbrev says : {A : Type 0} → (A → Says) → Result A ℕ → Result Says ℕ
says of read = next read (λ found. Ok (of found))

-- an item of one of the kinds
pub suits : (of : DescriptorKind) (keyword : Keyword) (count : Count) (entry : Written) → keyword ≡ entry.keyword
    → ((p : ℕ) → value_at of (written p (item_of entry)) ≡ Ok (entry.value p))
    → AlwaysSuits descriptor_tables (row keyword count of) entry
suits of keyword count entry named says_ =
    λ across p. record { keyword = named; known = refl; value = ap at_place (says_ p) }

-- a value or none, of a row that need not stand
said_maybe : {A : Type 0} (row : Row DescriptorKind) (entry : A → Written) (P : A → Type 0) (value : Option A)
    → is_one row.count ≡ false → IfSome value P → ((a : A) → P a → AlwaysSuits descriptor_tables row (entry a))
    → IsSaid descriptor_tables (row_maybe row entry value)
said_maybe row entry P None optional is suits_ = record {
  some = λ i. absurd (both_ways (is_one row.count) optional i);
  few = λ i. omega arith;
  suits = tt;
}
said_maybe row entry P (Some a) optional is suits_ =
    record { some = λ i. omega arith; few = λ i. omega arith; suits = both_hold (suits_ a is) tt }

-- any value or none
said_any : {A : Type 0} (row : Row DescriptorKind) (entry : A → Written) (value : Option A)
    → is_one row.count ≡ false → ((a : A) → AlwaysSuits descriptor_tables row (entry a))
    → IsSaid descriptor_tables (row_maybe row entry value)
said_any row entry None optional suits_ =
    said_maybe row entry (λ a. Unit {0}) None optional tt (λ a is. suits_ a)
said_any row entry (Some a) optional suits_ =
    said_maybe row entry (λ a. Unit {0}) (Some a) optional tt (λ a is. suits_ a)

-- the bytes of a certificate are one
certificate_says : (c : EdCert) → IsCertificateInRange c → (p : ℕ)
    → value_at kind.Certificate (written p (item_of (certificate_entry c))) ≡ Ok ((certificate_entry c).value p)
certificate_says c are p =
    let item = written p (item_of (certificate_entry c)) in
    let is : is_certificate item.object ≡ true =
    ap (λ (o : Option (List ℕ)). is_some (option_and_then certificate_of o))
    (decoded-body_text (certificate_bytes c) are.each)
    ∙ ap (λ (o : Option EdCert). is_some o) are.says in
    ap (λ (t : Bool). says value.Object (object_of t item)) is

-- an address
address_is : (item : Item) (a : Argument) → arguments_of item ≡ a ∷ [] → is_address a.text ≡ true
    → address_of item ≡ Ok (span_of a)
address_is item a args is = rw (args, is) refl

address_says : (text : List ℕ) → IsAddressInRange text → (p : ℕ)
    → value_at kind.Address (written p (item_of {V = Says} (text_entry the.OrAddress text)))
    ≡ Ok ((text_entry {W = DescriptorValue} the.OrAddress text).value p)
address_says text are p =
    let start = start_of p the.OrAddress text in
    ap (says (λ (found : Span). value.Text found))
    (address_is (written p (bare the.OrAddress text)) (record { place = start; text = text })
    (arguments_of_word start text are.word) are.address)

-- a summary of ports
ports_say : (ports : Ports) → IsTrue (are_ranges ports.ranges) → (p : ℕ)
    → value_at kind.Ports (written p (item_of (ports_entry ports))) ≡ Ok ((ports_entry ports).value p)
ports_say ports are p =
    let item = written p (item_of (ports_entry ports)) in
    ap (λ (r : Result Ports ValueRefusal). says (λ (found : Span). value.Text found) (ports_at item r)) (ports_again ports are)

-- an item of its exit policy
pub suits_policy : (item : PolicyItem) → IsItemInRange item
    → AlwaysSuits descriptor_tables (policy_row item.accept) (policy_entry item)
suits_policy item are =
    suits (kind.Policy item.accept) (policy_keyword item.accept) Many (policy_entry item) refl
    (λ p. ap (says (λ (found : PolicyItem). value.Own (own.Policy found))) (policy_again p (policy_keyword item.accept) item are))

-- its first item
pub suits_router : (r : Router) → IsRouterInRange r → AlwaysSuits descriptor_tables first_row (router_entry r)
suits_router r are =
    suits kind.Router the.Router One (router_entry r) refl
    (λ p. ap (says (λ (found : RouterLine). value.Own (own.Router found))) (router_again p the.Router r are))

-- its last item
pub suits_signature : (d : Descriptor) → AlwaysSuits descriptor_tables last_row (signature_entry d)
suits_signature d = suits kind.Signature the.RouterSignature One (signature_entry d) refl (λ p. refl)

-- ---- what is said of its rows

abbrev say : List ℕ → Says
say bytes = value.Own (own.Key bytes)

said_key : (keyword : Keyword) (bytes : Option (List ℕ)) → IfSome bytes (AreBytes 32)
    → IsSaid descriptor_tables (row_maybe (row keyword Optional kind.Key) (key_entry keyword) bytes)
said_key keyword bytes are =
    said_maybe (row keyword Optional kind.Key) (key_entry keyword) (AreBytes 32) bytes refl are (λ key is.
    suits kind.Key keyword Optional (key_entry keyword key) refl (λ p. ap (says say) (key_again p keyword key is).0))

said_padded : (keyword : Keyword) (bytes : Option (List ℕ)) → IfSome bytes (AreBytes 32)
    → IsSaid descriptor_tables (row_maybe (row keyword Optional kind.PaddedKey) (key_entry keyword) bytes)
said_padded keyword bytes are =
    said_maybe (row keyword Optional kind.PaddedKey) (key_entry keyword) (AreBytes 32) bytes refl are (λ key is.
    suits kind.PaddedKey keyword Optional (key_entry keyword key) refl (λ p. ap (says say) (key_again p keyword key is).1))

said_certificate : (c : Option EdCert) → IfSome c IsCertificateInRange
    → IsSaid descriptor_tables (row_maybe (row the.IdentityEd25519 Optional kind.Certificate) certificate_entry c)
said_certificate c are =
    said_maybe (row the.IdentityEd25519 Optional kind.Certificate) certificate_entry IsCertificateInRange c refl are
    (λ one is. suits kind.Certificate the.IdentityEd25519 Optional (certificate_entry one) refl (certificate_says one is))

said_rest : (keyword : Keyword) (text : Option (List ℕ))
    → IsSaid descriptor_tables (row_if (row keyword Optional kind.Rest) text)
said_rest keyword text =
    said_any_if descriptor_tables (row keyword Optional kind.Rest) text refl
    (λ one. suits kind.Rest keyword Optional (text_entry keyword one) refl (λ p. refl))

said_published : (moment : ℕ)
    → IsSaid descriptor_tables (row_once (row the.Published One kind.Time) (moment_entry the.Published moment))
said_published moment =
    said_once descriptor_tables (row the.Published One kind.Time) (moment_entry the.Published moment)
    (suits kind.Time the.Published One (moment_entry the.Published moment) refl
    (λ p. ap (says (λ (number : ℕ). value.Number number)) (time-written p the.Published moment)))

said_identity : (identity : Option Identity) → IfSome identity (λ one. AreTwenty one.0)
    → IsSaid descriptor_tables (row_maybe (row the.Fingerprint Optional kind.Fingerprint) groups_entry identity)
said_identity identity are =
    said_maybe (row the.Fingerprint Optional kind.Fingerprint) groups_entry (λ one. AreTwenty one.0) identity refl are
    (λ one is. suits kind.Fingerprint the.Fingerprint Optional (groups_entry one) refl
    (λ p. ap (says (λ (found : Identity). value.Fingerprint found)) (identity_again p the.Fingerprint one is)))

said_uptime : (uptime : Option ℕ) → IfSome uptime (λ seconds. seconds < 2 ^ 64)
    → IsSaid descriptor_tables (row_maybe (row the.Uptime Optional kind.Uptime) uptime_entry uptime)
said_uptime uptime are =
    said_maybe (row the.Uptime Optional kind.Uptime) uptime_entry (λ seconds. seconds < 2 ^ 64) uptime refl are
    (λ one is. suits kind.Uptime the.Uptime Optional (uptime_entry one) refl
    (λ p. ap (says (λ (found : ℕ). value.Own (own.Uptime found))) (uptime_again p the.Uptime one is)))

said_bandwidth : (line : BandwidthLine) → IsBandwidthInRange line
    → IsSaid descriptor_tables (row_once (row the.Bandwidth One kind.Bandwidth) (bandwidth_entry line))
said_bandwidth line are =
    said_once descriptor_tables (row the.Bandwidth One kind.Bandwidth) (bandwidth_entry line)
    (suits kind.Bandwidth the.Bandwidth One (bandwidth_entry line) refl
    (λ p. ap (says (λ (found : BandwidthLine). value.Own (own.Bandwidth found))) (bandwidth_again p the.Bandwidth line are)))

said_hibernating : (rests : Option Bool)
    → IsSaid descriptor_tables (row_maybe (row the.Hibernating Optional kind.Hibernating) hibernating_entry rests)
said_hibernating rests =
    said_any (row the.Hibernating Optional kind.Hibernating) hibernating_entry rests refl
    (λ one. suits kind.Hibernating the.Hibernating Optional (hibernating_entry one) refl
    (λ p. ap (says (λ (found : Bool). value.Own (own.Hibernating found))) (hibernating_again p the.Hibernating one)))

said_onion : (bytes : Option (List ℕ))
    → IsSaid descriptor_tables (row_maybe (row the.OnionKey Optional kind.Object) (key_object the.OnionKey) bytes)
said_onion bytes =
    said_any (row the.OnionKey Optional kind.Object) (key_object the.OnionKey) bytes refl
    (λ one. suits kind.Object the.OnionKey Optional (key_object the.OnionKey one) refl (λ p. refl))

said_signing : (bytes : List ℕ)
    → IsSaid descriptor_tables (row_once (row the.SigningKey One kind.Object) (key_object the.SigningKey bytes))
said_signing bytes =
    said_once descriptor_tables (row the.SigningKey One kind.Object) (key_object the.SigningKey bytes)
    (suits kind.Object the.SigningKey One (key_object the.SigningKey bytes) refl (λ p. refl))

said_ports : (ports : Option Ports) → IfSome ports (λ one. IsTrue (are_ranges one.ranges))
    → IsSaid descriptor_tables (row_maybe (row the.Ipv6Policy Optional kind.Ports) ports_entry ports)
said_ports ports are =
    said_maybe (row the.Ipv6Policy Optional kind.Ports) ports_entry (λ one. IsTrue (are_ranges one.ranges)) ports refl are
    (λ one is. suits kind.Ports the.Ipv6Policy Optional (ports_entry one) refl (ports_say one is))

said_family : (relays : Option (List (List ℕ)))
    → IsSaid descriptor_tables (row_maybe (row the.Family Optional kind.Rest) family_entry relays)
said_family relays =
    said_any (row the.Family Optional kind.Rest) family_entry relays refl
    (λ one. suits kind.Rest the.Family Optional (family_entry one) refl (λ p. refl))

said_addresses : (texts : List (List ℕ)) → All IsAddressInRange texts
    → IsSaid descriptor_tables (row_each (row the.OrAddress Many kind.Address) texts)
said_addresses texts are =
    said_of_each descriptor_tables (row the.OrAddress Many kind.Address) (text_entry the.OrAddress) IsAddressInRange texts
    refl refl are
    (λ one is. suits kind.Address the.OrAddress Many (text_entry the.OrAddress one) refl (address_says one is))

said_mark : (holds : Bool)
    → IsSaid descriptor_tables (record { row = row the.TunnelledDirServer Optional kind.Nothing; entries = marks_if holds })
said_mark true =
    said_once descriptor_tables (row the.TunnelledDirServer Optional kind.Nothing) (silent_entry the.TunnelledDirServer [])
    (suits kind.Nothing the.TunnelledDirServer Optional (silent_entry the.TunnelledDirServer []) refl (λ p. refl))
said_mark false =
    said_any {A = ℕ} (row the.TunnelledDirServer Optional kind.Nothing) (λ n. silent_entry the.TunnelledDirServer []) None refl
    (λ n. suits kind.Nothing the.TunnelledDirServer Optional (silent_entry the.TunnelledDirServer []) refl (λ p. refl))

said_ed_signature : (signature : Option EdSignature) → IfSome signature (λ one. AreBytes 64 one.signature)
    → IsSaid descriptor_tables
    (row_maybe (row the.RouterSigEd25519 Optional kind.EdSignature) ed_signature_entry signature)
said_ed_signature signature are =
    said_maybe (row the.RouterSigEd25519 Optional kind.EdSignature) ed_signature_entry (λ one. AreBytes 64 one.signature)
    signature refl are
    (λ one is. suits kind.EdSignature the.RouterSigEd25519 Optional (ed_signature_entry one) refl
    (λ p. ap (says (λ (found : List ℕ). value.Own (own.EdSignature found)))
    (signature_again p the.RouterSigEd25519 one.signature is)))

pub front_said : (d : Descriptor) → SaysInRange d → AreSaid descriptor_tables (front_rows d)
front_said d are =
    both_hold (said_certificate d.identity_ed25519 are.identity_ed25519)
    (both_hold (said_key the.MasterKeyEd25519 d.master_key_ed25519 are.master_key_ed25519)
    (both_hold (said_rest the.Platform d.platform)
    (both_hold (said_published d.published)
    (both_hold (said_identity d.fingerprint are.fingerprint)
    (both_hold (said_uptime d.uptime are.uptime)
    (both_hold (said_bandwidth d.bandwidth are.bandwidth)
    (both_hold (said_hibernating d.hibernating)
    (both_hold (said_onion d.onion_key)
    (both_hold (said_signing d.signing_key)
    (both_hold (said_padded the.NtorOnionKey d.ntor_onion_key are.ntor_onion_key) tt))))))))))

pub back_said : (d : Descriptor) → SaysInRange d → AreSaid descriptor_tables (back_rows d)
back_said d are =
    both_hold (said_ports d.ipv6_policy are.ipv6_policy)
    (both_hold (said_family d.family)
    (both_hold (said_addresses d.or_addresses are.or_addresses)
    (both_hold (said_mark d.tunnelled_dir_server)
    (both_hold (said_rest the.Proto d.proto)
    (both_hold (said_rest the.Contact d.contact)
    (both_hold (said_ed_signature d.router_sig_ed25519 are.router_sig_ed25519) tt))))))
