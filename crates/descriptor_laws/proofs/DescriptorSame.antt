-- The items of a server descriptor's text are those of its rows.
use Rattle.std.proofs.Common.{◌≡◌, ℕ, Bool, true, false, List, [], ◌∷◌, ◌++◌, Option, Some, None, refl, sym, ap, ◌∙◌}
use Rattle.std.{proofs.{Common.{append_assoc, append-nil}, lemmas.List.map-append}, specs.Prelude.{codes, decimal, map}}
use Rattle.std.specs.Prelude.{option_map}
use Rattle.dir_bytes.specs.FieldTexts.{base64_text}
use Rattle.dir_values.specs.{Ports.summary_text, declared.policy.PolicyItem.PolicyItem}
use Rattle.dirdoc_grammar.specs.Writing.{NewItem}
use Rattle.descriptor_frame.specs.declared.{certificate.EdCert.EdCert, said.DescriptorValue.DescriptorValue}
use Rattle.frame_terms.specs.declared.keyword.Keyword.{Keyword}
use Rattle.frame_terms.specs.declared.keyword.Keyword.TheVariants as the
use Rattle.frame_values.specs.Items.{bare, item_if}
use Rattle.frame_laws.proofs.{Entries.item_of, RowValues.{items_if, moment_entry, text_entry, text_entry_if}}
use Rattle.frame_laws.proofs.SaidRows.{entries_of}
use Rattle.descriptor_doc.specs.declared.descriptor.Descriptor.{Descriptor}
use Rattle.descriptor_text.specs.Lines.{ed_signature_text, family_text, groups_text, hibernating_text}
use Rattle.descriptor_text.specs.Texts.{address_items, certificate_bytes, descriptor_items, exit_items, front_items}
use Rattle.descriptor_text.specs.Texts.{mark_if, object_if, policy_item, rsa_words, service_items}
use Rattle.descriptor_laws.{specs.Again.{ed_signature_items, unsigned_items}, proofs.DescriptorRead.{front_all, others}}
use Rattle.descriptor_laws.proofs.{DescriptorRead.policy_entries, DescriptorRows.{Written, bandwidth_entry}}
use Rattle.descriptor_laws.proofs.DescriptorRows.{certificate_entry, ed_signature_entry, entries_if, family_entry}
use Rattle.descriptor_laws.proofs.DescriptorRows.{groups_entry, hibernating_entry, key_entry, key_object, marks_if}
use Rattle.descriptor_laws.proofs.DescriptorRows.{policy_entry, ports_entry, router_entry, signature_entry}
use Rattle.descriptor_laws.proofs.DescriptorRows.{uptime_entry}

-- ---- an item where there is a value

-- a value whose item has a text
same_if : {A : Type 0} (k : Keyword) (entry : A → Written) (text : A → List ℕ) (value : Option A)
    → ((a : A) → item_of (entry a) ≡ bare k (text a))
    → map item_of (entries_if entry value) ≡ item_if k (option_map text value)
same_if k entry text None is = refl
same_if k entry text (Some a) is = ap (λ (i : NewItem). i ∷ []) (is a)

same_certificate : (c : Option EdCert)
    → map item_of (entries_if certificate_entry c)
    ≡ object_if the.IdentityEd25519 (codes "ED25519 CERT") (option_map certificate_bytes c)
same_certificate None = refl
same_certificate (Some c) = refl

same_onion : (bytes : Option (List ℕ))
    → map item_of (entries_if (key_object the.OnionKey) bytes) ≡ object_if the.OnionKey rsa_words bytes
same_onion None = refl
same_onion (Some bytes) = refl

same_mark : (holds : Bool) → map item_of (marks_if holds) ≡ mark_if the.TunnelledDirServer holds
same_mark true = refl
same_mark false = refl

same_policy : (items : List PolicyItem) → map item_of (map policy_entry items) ≡ map policy_item items
same_policy [] = refl
same_policy (item ∷ items) = ap (λ (l : List NewItem). policy_item item ∷ l) (same_policy items)

same_addresses : (texts : List (List ℕ))
    → map item_of (map (text_entry {W = DescriptorValue} the.OrAddress) texts) ≡ map (bare the.OrAddress) texts
same_addresses [] = refl
same_addresses (text ∷ texts) = ap (λ (l : List NewItem). bare the.OrAddress text ∷ l) (same_addresses texts)

-- ---- the parts, in groups

front_groups : (r c k p t f u b h o s n : List Written)
    → map item_of (r ++ (c ++ (k ++ (p ++ (t ++ (f ++ (u ++ (b ++ (h ++ (o ++ (s ++ (n ++ []))))))))))))
    ≡ (map item_of r ++ map item_of c ++ map item_of k)
    ++ (map item_of p ++ (map item_of t ++ map item_of f))
    ++ (map item_of u ++ (map item_of b ++ map item_of h))
    ++ (map item_of o ++ (map item_of s ++ map item_of n))
front_groups r c k p t f u b h o s n = simp (append_assoc, map-append, append-nil) refl

pub front_same : (d : Descriptor) → map item_of (entries_of (front_all d)) ≡ front_items d
front_same d =
    let c = entries_if certificate_entry d.identity_ed25519 in
    let k = entries_if (key_entry the.MasterKeyEd25519) d.master_key_ed25519 in
    let p : List Written = text_entry_if the.Platform d.platform in
    let f = entries_if groups_entry d.fingerprint in
    let u = entries_if uptime_entry d.uptime in
    let h = entries_if hibernating_entry d.hibernating in
    let o = entries_if (key_object the.OnionKey) d.onion_key in
    let n = entries_if (key_entry the.NtorOnionKey) d.ntor_onion_key in
    let t : Written = moment_entry the.Published d.published in
    let b = bandwidth_entry d.bandwidth in
    let s = key_object the.SigningKey d.signing_key in
    let r = router_entry d.router in
    front_groups (r ∷ []) c k p (t ∷ []) f u (b ∷ []) h o (s ∷ []) n
    ∙ grouped (item_of r) (item_of t) (item_of b) (item_of s)
    (same_certificate d.identity_ed25519)
    (same_if the.MasterKeyEd25519 (key_entry the.MasterKeyEd25519) base64_text d.master_key_ed25519 (λ a. refl))
    (items_if DescriptorValue the.Platform d.platform)
    (same_if the.Fingerprint groups_entry groups_text d.fingerprint (λ a. refl))
    (same_if the.Uptime uptime_entry decimal d.uptime (λ a. refl))
    (same_if the.Hibernating hibernating_entry hibernating_text d.hibernating (λ a. refl))
    (same_onion d.onion_key)
    (same_if the.NtorOnionKey (key_entry the.NtorOnionKey) base64_text d.ntor_onion_key (λ a. refl))
  where
    grouped : (r t b s : NewItem) {c c2 k k2 p p2 f f2 u u2 h h2 o o2 n n2 : List NewItem}
        → c ≡ c2 → k ≡ k2 → p ≡ p2 → f ≡ f2 → u ≡ u2 → h ≡ h2 → o ≡ o2 → n ≡ n2
        → (r ∷ c ++ k) ++ (p ++ t ∷ f) ++ (u ++ b ∷ h) ++ (o ++ s ∷ n)
        ≡ (r ∷ c2 ++ k2) ++ (p2 ++ t ∷ f2) ++ (u2 ++ b ∷ h2) ++ (o2 ++ s ∷ n2)
    grouped r t b s ec ek ep ef eu eh eo en =
        λ i. (r ∷ ec i ++ ek i) ++ (ep i ++ t ∷ ef i) ++ (eu i ++ b ∷ eh i) ++ (eo i ++ s ∷ en i)

back_groups : (e i f a m p c : List Written)
    → map item_of (e ++ (i ++ (f ++ (a ++ (m ++ (p ++ c))))))
    ≡ (map item_of e ++ map item_of i) ++ (map item_of f ++ map item_of a)
    ++ (map item_of m ++ map item_of p ++ map item_of c)
back_groups e i f a m p c = simp (append_assoc, map-append) refl

-- the items behind the first ones, but those of the signatures
abbrev pub middle_entries : Descriptor → List Written
middle_entries d =
    policy_entries d
    ++ (entries_if ports_entry d.ipv6_policy ++ (entries_if family_entry d.family
    ++ (map (text_entry the.OrAddress) d.or_addresses ++ (marks_if d.tunnelled_dir_server
    ++ (text_entry_if the.Proto d.proto ++ text_entry_if the.Contact d.contact)))))

pub middle_same : (d : Descriptor)
    → map item_of (middle_entries d) ≡ exit_items d ++ address_items d ++ service_items d
middle_same d =
    let i = entries_if ports_entry d.ipv6_policy in
    let f = entries_if family_entry d.family in
    let a : List Written = map (text_entry the.OrAddress) d.or_addresses in
    let m = marks_if d.tunnelled_dir_server in
    let p : List Written = text_entry_if the.Proto d.proto in
    let c : List Written = text_entry_if the.Contact d.contact in
    back_groups (policy_entries d) i f a m p c
    ∙ grouped (same_policy d.policy)
    (same_if the.Ipv6Policy ports_entry summary_text d.ipv6_policy (λ a. refl))
    (same_if the.Family family_entry family_text d.family (λ a. refl))
    (same_addresses d.or_addresses) (same_mark d.tunnelled_dir_server) (items_if DescriptorValue the.Proto d.proto)
    (items_if DescriptorValue the.Contact d.contact)
  where
    grouped : {e e2 i i2 f f2 a a2 m m2 p p2 c c2 : List NewItem}
        → e ≡ e2 → i ≡ i2 → f ≡ f2 → a ≡ a2 → m ≡ m2 → p ≡ p2 → c ≡ c2
        → (e ++ i) ++ (f ++ a) ++ (m ++ p ++ c) ≡ (e2 ++ i2) ++ (f2 ++ a2) ++ (m2 ++ p2 ++ c2)
    grouped ee ei ef ea em ep ec = λ j. (ee j ++ ei j) ++ (ef j ++ ea j) ++ (em j ++ ep j ++ ec j)

-- ---- all of them

-- the items before both signatures
abbrev pub unsigned_entries : Descriptor → List Written
unsigned_entries d = entries_of (front_all d) ++ middle_entries d

pub unsigned_same : (d : Descriptor) → map item_of (unsigned_entries d) ≡ unsigned_items d
unsigned_same d =
    map-append item_of (entries_of (front_all d)) (middle_entries d)
    ∙ ap (λ (l : List NewItem). l ++ map item_of (middle_entries d)) (front_same d)
    ∙ ap (λ (l : List NewItem). front_items d ++ l) (middle_same d)

-- the item of the Ed25519 signature
abbrev pub ed_entries : Descriptor → List Written
ed_entries d = entries_if ed_signature_entry d.router_sig_ed25519

pub ed_same : (d : Descriptor) → map item_of (ed_entries d) ≡ ed_signature_items d
ed_same d = same_if the.RouterSigEd25519 ed_signature_entry ed_signature_text d.router_sig_ed25519 (λ a. refl)

-- all items
abbrev pub entries : Descriptor → List Written
entries d = router_entry d.router ∷ (others d ++ signature_entry d ∷ [])

in_order : (x p i f a m q c s : List Written)
    → x ++ (p ++ (i ++ (f ++ (a ++ (m ++ (q ++ (c ++ (s ++ []))))))))
    ≡ (x ++ (p ++ (i ++ (f ++ (a ++ (m ++ (q ++ c))))))) ++ s
in_order x p i f a m q c s = simp (append_assoc, append-nil) refl

-- those before the last are those before the signatures, and the first signature
pub before_same : (d : Descriptor) → router_entry d.router ∷ others d ≡ unsigned_entries d ++ ed_entries d
before_same d =
    in_order (entries_of (front_all d)) (policy_entries d) (entries_if ports_entry d.ipv6_policy)
    (entries_if family_entry d.family) (map (text_entry the.OrAddress) d.or_addresses) (marks_if d.tunnelled_dir_server)
    (text_entry_if the.Proto d.proto) (text_entry_if the.Contact d.contact) (ed_entries d)

pub before_items : (d : Descriptor)
    → map item_of (router_entry d.router ∷ others d) ≡ unsigned_items d ++ ed_signature_items d
before_items d =
    ap (map item_of) (before_same d) ∙ map-append item_of (unsigned_entries d) (ed_entries d)
    ∙ ap (λ (l : List NewItem). l ++ map item_of (ed_entries d)) (unsigned_same d)
    ∙ ap (λ (l : List NewItem). unsigned_items d ++ l) (ed_same d)

-- the items of the text
pub items_parts : (d : Descriptor)
    → descriptor_items d ≡ (unsigned_items d ++ ed_signature_items d) ++ item_of (signature_entry d) ∷ []
items_parts d =
    regroup (front_items d) (exit_items d ++ address_items d ++ service_items d) (ed_signature_items d)
    (item_of (signature_entry d) ∷ [])
  where
    regroup : (f m e l : List NewItem) → f ++ (m ++ (e ++ l)) ≡ ((f ++ m) ++ e) ++ l
    regroup f m e l = simp append_assoc refl

pub descriptor_same : (d : Descriptor) → map item_of (entries d) ≡ descriptor_items d
descriptor_same d =
    map-append item_of (router_entry d.router ∷ others d) (signature_entry d ∷ [])
    ∙ ap (λ (l : List NewItem). l ++ item_of (signature_entry d) ∷ []) (before_items d) ∙ sym (items_parts d)
