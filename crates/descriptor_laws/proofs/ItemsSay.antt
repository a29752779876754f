-- What the items of a server descriptor say can be written, by the kinds of their rows.
use Rattle.std.proofs.Common.{◌≡◌, ℕ, Bool, true, false, List, [], ◌∷◌, Option, Some, None, Result, Ok, refl, sym}
use Rattle.std.proofs.{Common.{subst, inl, inr}, lemmas.{Bool.leb-true, List.Elements.{All-cons, All-nil}}}
use Rattle.std.specs.{Prelude.{All, IfSome, filter_map, if◌then◌else◌}, List.cons_option}
use Rattle.base64.specs.GeneralPurpose.{IsBytes}
use Rattle.item_terms.specs.{Items.Item, Words.words_of}
use Rattle.dir_values.specs.declared.{digest.Fingerprint.Fingerprint, policy.{Net.Net, PolicyItem.PolicyItem}}
use Rattle.dir_values.specs.declared.policy.Net.TheVariants as net
use Rattle.exit_summary.specs.{Policies.is_net, PolicyItems.item_of}
use Rattle.frame_values.specs.{Arguments.{arguments_of, front, next}, Lines.rest_of, Ranges.AreTwenty}
use Rattle.frame_values.specs.declared.values.Value.TheVariants as value
use Rattle.frame_laws.proofs.StandingParts.{rest_part}
use Rattle.document_laws.specs.Items.{IsItemIn}
use Rattle.descriptor_frame.specs.{Fields.{key, long_number, padded_key, signature}, Lines.{bandwidth_of, first_of}}
use Rattle.descriptor_frame.specs.{Lines.{identity_of, value_at}, Tables.descriptor_tables}
use Rattle.descriptor_frame.specs.declared.said.{BandwidthLine.BandwidthLine, DescriptorKind.DescriptorKind}
use Rattle.descriptor_frame.specs.declared.said.DescriptorValue.{DescriptorValue}
use Rattle.descriptor_frame.specs.declared.said.DescriptorKind.TheVariants as kind
use Rattle.descriptor_frame.specs.declared.said.DescriptorValue.TheVariants as own
use Rattle.descriptor_doc.specs.Saying as says
use Rattle.descriptor_laws.specs.Ranges.{AreBytes, IsBandwidthInRange, IsItemInRange, IsNetInRange}
use Rattle.descriptor_laws.proofs.{DescriptorReads.{DescriptorSays, EachDescriptorStands}, KeysRead.IsLong}
use Rattle.descriptor_laws.proofs.KeysRead.{bandwidth_reads, identity_reads, key_reads, long_reads, padded_reads}
use Rattle.descriptor_laws.proofs.{KeysRead.signature_reads, PoliciesRead.{IsItemRead, IsNetRead, item_in}}
use Rattle.descriptor_parts.proofs.DescriptorDocument.{DescriptorTaken, Said}
use Rattle.range_laws.proofs.ValueTexts.{TextIs}
use Rattle.row_laws.proofs.{ItemArguments.IsSound, ReadSteps.{ReadAs, field_reads, next_reads, placed, was_read}}
use Rattle.row_laws.proofs.{SaidByKinds.said_of_any, Saying.Stands, ItemWords.{IsArgument, words_are_arguments}}

-- ---- values

abbrev pub KeyIs : Said → Type 0
KeyIs (value.Own (own.Key bytes)) = AreBytes 32 bytes
KeyIs _ = Unit {0}

abbrev pub UptimeIs : Said → Type 0
UptimeIs (value.Own (own.Uptime seconds)) = IsLong seconds
UptimeIs _ = Unit {0}

abbrev pub BandwidthIs : Said → Type 0
BandwidthIs (value.Own (own.Bandwidth bandwidth)) = IsBandwidthInRange bandwidth
BandwidthIs _ = Unit {0}

abbrev pub SignatureIs : Said → Type 0
SignatureIs (value.Own (own.EdSignature bytes)) = AreBytes 64 bytes
SignatureIs _ = Unit {0}

abbrev pub FingerprintIs : Said → Type 0
FingerprintIs (value.Fingerprint identity) = AreTwenty identity.0
FingerprintIs _ = Unit {0}

abbrev pub PolicyIs : Said → Type 0
PolicyIs (value.Own (own.Policy item)) = IsItemRead item
PolicyIs _ = Unit {0}

-- the words of a text are arguments
abbrev pub AreArguments : List ℕ → Type 0
AreArguments text = All IsArgument (words_of text)

-- ---- what items say

-- what is made of what is read
made_reads : {A : Type 0} (P : A → Type 0) (Q : Said → Type 0) (read : Result A ℕ) (of : A → Said) → ReadAs P read
    → ((a : A) → P a → Q (of a)) → ReadAs Q (next read (λ a. Ok (of a)))
made_reads P Q read of reads is = next_reads P Q read (λ a. Ok (of a)) reads is

module _ {bytes : List ℕ} {v : Said} where
  said : (P : Said → Type 0) (of : DescriptorKind)
      → ((item : Item) → IsSound bytes item → ReadAs P (value_at of item)) → DescriptorSays bytes of v → P v
  said P of reads says =
      was_read P (value_at of says.item) v (reads says.item says.sound) (placed (value_at of says.item) v says.says)

  pub key_says : IsBytes bytes → DescriptorSays bytes kind.Key v → KeyIs v
  key_says are =
      said KeyIs kind.Key (λ item sound.
      made_reads (AreBytes 32) KeyIs (first_of key item) (λ (b : List ℕ). value.Own (own.Key b))
      (key_reads bytes item are sound) (λ b is. is))

  pub padded_says : IsBytes bytes → DescriptorSays bytes kind.PaddedKey v → KeyIs v
  padded_says are =
      said KeyIs kind.PaddedKey (λ item sound.
      made_reads (AreBytes 32) KeyIs (first_of padded_key item) (λ (b : List ℕ). value.Own (own.Key b))
      (padded_reads bytes item are sound) (λ b is. is))

  pub signature_says : IsBytes bytes → DescriptorSays bytes kind.EdSignature v → SignatureIs v
  signature_says are =
      said SignatureIs kind.EdSignature (λ item sound.
      made_reads (AreBytes 64) SignatureIs (first_of signature item)
      (λ (b : List ℕ). value.Own (own.EdSignature b)) (signature_reads bytes item are sound) (λ b is. is))

  pub uptime_says : DescriptorSays bytes kind.Uptime v → UptimeIs v
  uptime_says =
      said UptimeIs kind.Uptime (λ item sound.
      made_reads IsLong UptimeIs (first_of long_number item) (λ (s : ℕ). value.Own (own.Uptime s)) (long_reads item)
      (λ s is. is))

  pub bandwidth_says : DescriptorSays bytes kind.Bandwidth v → BandwidthIs v
  bandwidth_says =
      said BandwidthIs kind.Bandwidth (λ item sound.
      made_reads IsBandwidthInRange BandwidthIs (bandwidth_of item)
      (λ (w : BandwidthLine). value.Own (own.Bandwidth w)) (bandwidth_reads item) (λ w is. is))

  pub fingerprint_says : DescriptorSays bytes kind.Fingerprint v → FingerprintIs v
  fingerprint_says =
      said FingerprintIs kind.Fingerprint (λ item sound.
      made_reads (λ (f : Fingerprint). AreTwenty f.0) FingerprintIs (identity_of item)
      (λ (f : Fingerprint). value.Fingerprint f) (identity_reads item) (λ f is. is))

  pub family_says : DescriptorSays bytes kind.Rest v → TextIs AreArguments bytes v
  family_says =
      said (TextIs AreArguments bytes) kind.Rest (λ item sound.
      subst AreArguments (sym (rest_part sound.in_place)) (words_are_arguments item.arguments sound.rest))

-- ---- what is said of the policy, by any kind

policy_of_kinds : (of : DescriptorKind) (item : Item) (v : Said) → value_at of item ≡ Ok v → PolicyIs v
policy_of_kinds kind.Rest item v is = was_read PolicyIs (Ok (value.Text (rest_of item))) v tt is
policy_of_kinds kind.Nothing item v is = was_read PolicyIs (Ok value.Nothing) v tt is
policy_of_kinds (kind.Policy accept) item v is =
    let first = front item.place (arguments_of item) in
    was_read PolicyIs (value_at (kind.Policy accept) item) v
    (made_reads IsItemRead PolicyIs (first_of (item_of accept) item) (λ (p : PolicyItem). value.Own (own.Policy p))
    (field_reads IsItemRead first (item_of accept first.text) (λ p is.
    subst (λ (o : Option PolicyItem). IfSome o IsItemRead) is (item_in accept first.text))) (λ p is. is)) is
policy_of_kinds of item v is = said_of_any PolicyIs _ _ v is (λ a. tt)

policy_says : (bytes : List ℕ) (one : DescriptorTaken) → Stands descriptor_tables bytes tt one → PolicyIs one.value
policy_says bytes one stands = by stands.within
  where
    by : IsItemIn descriptor_tables stands.remembered tt stands.item one → PolicyIs one.value
    by (inl is) =
        subst (λ (o : DescriptorTaken). PolicyIs o.value) (sym is.stands)
        (policy_of_kinds is.row.kind stands.item is.value
        (placed (value_at is.row.kind stands.item) is.value is.says))
    by (inr is) = absurd (cc is.begins)

-- a net of which no more than 32 bits count is in range
net_in_range : (n : Net) → IsNetRead n → is_net n ≡ true → IsNetInRange n
net_in_range net.Star is few = tt
net_in_range (net.V4 address bits) is few = (is, leb-true bits 32 few)
net_in_range net.V6 is few = tt

policy_in_range : (v : Said) → PolicyIs v → IfSome (says.policy_of_value v) IsItemInRange
policy_in_range (value.Own it) is = by_own it is
  where
    by_item : (item : PolicyItem) → IsItemRead item → (t : Bool) → is_net item.net ≡ t
        → IfSome (if t then Some item else None) IsItemInRange
    by_item item is true few =
        record { net_is = net_in_range item.net is.net few; ports_are = is.ports; high_is = is.high }
    by_item item is false few = tt

    by_own : (it : DescriptorValue) → PolicyIs (value.Own it)
        → IfSome (says.policy_of_value (value.Own it)) IsItemInRange
    by_own (own.Policy item) is = by_item item is (is_net item.net) refl
    by_own _ is = tt
policy_in_range _ is = tt

-- each item of the policy is in range
pub policies_are : (bytes : List ℕ) (taken : List DescriptorTaken) → EachDescriptorStands bytes taken
    → All IsItemInRange (filter_map says.policy_if taken)
policies_are bytes [] each = All-nil IsItemInRange
policies_are bytes (one ∷ taken) each =
    by (says.policy_if one) (policy_in_range one.value (policy_says bytes one each.0))
    (policies_are bytes taken each.1)
  where
    by : (found : Option PolicyItem) → IfSome found IsItemInRange → All IsItemInRange (filter_map says.policy_if taken)
        → All IsItemInRange (cons_option found (filter_map says.policy_if taken))
    by None is more = more
    by (Some item) is more = All-cons IsItemInRange item (filter_map says.policy_if taken) is more
