-- A certificate, row by row of its section's table, in any kind of document that has certificates.
use Rattle.std.proofs.Common.{◌≡◌, ℕ, true, false, List, [], ◌∷◌, Option, Some, Result, Ok, refl, ap, ◌∙◌, sym}
use Rattle.std.{proofs.{Common.append_assoc, lemmas.List.map-append}, specs.Prelude.{IfSome, codes, map}}
use Rattle.dirdoc_grammar.specs.{Writers.is_argument, Writing.written}
use Rattle.item_terms.specs.Items.{Item}
use Rattle.frame_terms.specs.{Keywords.same, Order.{is_keyword, section_if}, Rows.row, Sections.row_of, Tables.Tables}
use Rattle.frame_terms.specs.declared.{document.Taken.Taken, keyword.Keyword.Keyword, row.Count.Count}
use Rattle.frame_terms.specs.declared.{row.{Count.TheVariants.{One, Optional}, Row.Row}, section.Shape.Shape}
use Rattle.frame_terms.specs.declared.keyword.Keyword.TheVariants as the
use Rattle.frame_values.specs.{Arguments.next, declared.{found.Span.Span, values.Value.Value}, Faults.at_place}
use Rattle.frame_values.specs.Ranges.{AreTwenty}
use Rattle.dir_values.specs.declared.digest.Fingerprint.{Fingerprint as Identity}
use Rattle.frame_values.specs.declared.values.Value.TheVariants as value
use Rattle.frame_laws.proofs.{Both.both_hold, Ends.{IsEnded, entries_to}, Entries.{AlwaysSuits, Entry, all_taken}}
use Rattle.frame_laws.proofs.{Entries.item_of, LastRows.rows_to, RowCounts.said_once, RowValues.moment_entry}
use Rattle.frame_laws.proofs.RowValues.{object_entry, identity_entry, items_if, row_if, said_if, text_entry}
use Rattle.frame_laws.proofs.{RowValues.silent_entry, SaidRows.{AreSaid, IsSaid, RowSays, are_apart, row_once}}
use Rattle.frame_laws.proofs.{Sections.Section, TableRows.are_plain, WrittenItems.argument-written}
use Rattle.frame_laws.proofs.WrittenItems.{fingerprint-written, literal-written, time-written}
use Rattle.authority_certs.specs.{Tables.{cert_rows, cert_shape, cert_value}, Texts.cert_items, declared.cert.Cert.Cert}
use Rattle.authority_certs.specs.declared.frame.CertKind.{CertKind, TheVariants.{Version, Address, Fingerprint, Time}}
use Rattle.authority_certs.specs.declared.frame.CertKind.TheVariants.{Key, Crosscert, Certification}
use Rattle.certificate_laws.specs.Again.{SaysInRange}

-- ---- its rows and its items

module _ {W : Type 0} where
  -- its first item
  abbrev pub certificate_version : Entry (Value W)
  certificate_version = silent_entry the.DirKeyCertificateVersion (codes "3")

  -- its last item
  abbrev pub certification : Cert → Entry (Value W)
  certification cert = object_entry the.DirKeyCertification (codes "SIGNATURE") cert.certification

module _ {K W : Type 0} (kind : CertKind → K) where
  -- a key
  abbrev key_row : Keyword → List ℕ → RowSays K (Value W)
  key_row keyword bytes = row_once (row keyword One (kind Key)) (object_entry keyword (codes "RSA PUBLIC KEY") bytes)

  -- a moment
  abbrev moment_row : Keyword → ℕ → RowSays K (Value W)
  moment_row keyword moment = row_once (row keyword One (kind Time)) (moment_entry keyword moment)

  -- the signature of the identity key by the signing key
  abbrev crosscert_row : List ℕ → RowSays K (Value W)
  crosscert_row bytes =
      row_once (row the.DirKeyCrosscert One (kind Crosscert))
      (object_entry the.DirKeyCrosscert (codes "ID SIGNATURE") bytes)

  -- what it says by the rows between the first and the last
  abbrev pub certificate_rows : Cert → List (RowSays K (Value W))
  certificate_rows cert =
      row_if (row the.DirAddress Optional (kind Address)) cert.address
      ∷ row_once (row the.Fingerprint One (kind Fingerprint)) (identity_entry the.Fingerprint cert.fingerprint)
      ∷ key_row the.DirIdentityKey cert.identity_key
      ∷ moment_row the.DirKeyPublished cert.published
      ∷ moment_row the.DirKeyExpires cert.expires
      ∷ key_row the.DirSigningKey cert.signing_key
      ∷ crosscert_row cert.crosscert
      ∷ []

module _ {K : Type 0} where
  -- the row of its last item
  abbrev pub last_row : (CertKind → K) → Row K
  last_row kind = row the.DirKeyCertification One (kind Certification)

module _ {S K W : Type 0} where
  -- its section, up to the last item
  abbrev pub certificate : S → (CertKind → K) → Cert → Section S K (Value W)
  certificate name kind cert = record {
    name = name;
    first = row the.DirKeyCertificateVersion One (kind Version);
    opener = certificate_version;
    middle = certificate_rows kind cert;
  }

  -- all its rows
  abbrev pub all_rows : S → (CertKind → K) → Cert → List (RowSays K (Value W))
  all_rows name kind cert = rows_to (certificate name kind cert) (last_row kind) (certification cert)

module _ {W : Type 0} where
  -- the section of one that stands alone
  abbrev pub lone_certificate : Cert → Section (Unit {0}) CertKind (Value W)
  lone_certificate cert = certificate tt (λ kind. kind) cert

  -- all its items, whatever document it stands in
  abbrev pub cert_entries : Cert → List (Entry (Value W))
  cert_entries cert = entries_to (lone_certificate cert) (certification cert)

  -- what is taken of them
  abbrev pub cert_taken : ℕ → Cert → List (Taken (Value W))
  cert_taken place cert = all_taken place (cert_entries cert)

-- the items of its text are these
pub certificate_same : (W : Type 0) (cert : Cert) → cert_items cert ≡ map item_of (cert_entries {W = W} cert)
certificate_same W cert = simp (append_assoc, map-append, items_if) refl

-- ---- what its items say

module _ {W : Type 0} where
  -- what is said of what was read
  abbrev says : {A : Type 0} → (A → Value W) → Result A ℕ → Result (Value W) ℕ
  says of read = next read (λ found. Ok (of found))

  version_says : (p : ℕ)
      → cert_value {V = W} Version (written p (item_of {V = Value W} certificate_version)) ≡ Ok value.Nothing
  version_says p =
      ap (says (λ _. value.Nothing)) (literal-written p the.DirKeyCertificateVersion (codes "3") refl refl)

  address_says : (address : List ℕ) → is_argument address ≡ true → (p : ℕ)
      → cert_value {V = W} Address (written p (item_of {V = Value W} (text_entry the.DirAddress address)))
      ≡ Ok ((text_entry the.DirAddress address).value p)
  address_says address is p =
      ap (says (λ (text : Span). value.Text text)) (argument-written p the.DirAddress address is)

  identity_says : (identity : Identity) → AreTwenty identity.0 → (p : ℕ)
      → cert_value {V = W} Fingerprint (written p (item_of {V = Value W} (identity_entry the.Fingerprint identity)))
      ≡ Ok (value.Fingerprint identity)
  identity_says identity are p =
      ap (says (λ (found : Identity). value.Fingerprint found))
      (fingerprint-written p the.Fingerprint identity are.count are.each)

  time_says : (keyword : Keyword) (moment : ℕ) (p : ℕ)
      → cert_value {V = W} Time (written p (item_of {V = Value W} (moment_entry keyword moment)))
      ≡ Ok ((moment_entry keyword moment).value p)
  time_says keyword moment p = ap (says (λ (number : ℕ). value.Number number)) (time-written p keyword moment)

-- ---- a document that has certificates

-- The tables have certificates in this section, with their kinds among their own.
pub record HasCertificates {S K W X : Type 0} (tables : Tables S K (Value W) X) (name : S)
    (kind : CertKind → K) : Type 0 where
  pub rows : tables.rows name ≡ cert_rows kind
  pub shape : tables.shape name ≡ cert_shape
  pub plain : (cert : Cert) → are_plain tables name (certificate_rows kind cert) ≡ true
  pub known : (of : CertKind) (item : Item) → tables.ignores (kind of) item ≡ false
  pub values : (across : X) (of : CertKind) (item : Item)
      → tables.value_of across (kind of) item ≡ at_place (cert_value of item)

module _ {S K W X : Type 0} (tables : Tables S K (Value W) X) (name : S) (kind : CertKind → K)
    (has : HasCertificates tables name kind) where
  -- an item of one of the kinds
  suits : (of : CertKind) (keyword : Keyword) (count : Count) (entry : Entry (Value W)) → keyword ≡ entry.keyword
      → ((p : ℕ) → cert_value of (written p (item_of entry)) ≡ Ok (entry.value p))
      → AlwaysSuits tables (row keyword count (kind of)) entry
  suits of keyword count entry named says_ = λ across p. record {
    keyword = named;
    known = has.known of (written p (item_of entry));
    value = has.values across of (written p (item_of entry)) ∙ ap at_place (says_ p);
  }

  -- its first item
  pub suits_version : AlwaysSuits tables (row the.DirKeyCertificateVersion One (kind Version)) certificate_version
  suits_version = suits Version the.DirKeyCertificateVersion One certificate_version refl version_says

  said_address : (address : Option (List ℕ)) → IfSome address (λ text. is_argument text ≡ true)
      → IsSaid tables (row_if (row the.DirAddress Optional (kind Address)) address)
  said_address address are =
      said_if tables (row the.DirAddress Optional (kind Address)) address (λ text. is_argument text ≡ true) refl are
      (λ text is. suits Address the.DirAddress Optional (text_entry the.DirAddress text) refl (address_says text is))

  said_identity : (identity : Identity) → AreTwenty identity.0
      → IsSaid tables
      (row_once (row the.Fingerprint One (kind Fingerprint)) (identity_entry the.Fingerprint identity))
  said_identity identity are =
      said_once tables (row the.Fingerprint One (kind Fingerprint)) (identity_entry the.Fingerprint identity)
      (suits Fingerprint the.Fingerprint One (identity_entry the.Fingerprint identity) refl
      (identity_says identity are))

  said_key : (keyword : Keyword) (bytes : List ℕ) → IsSaid tables (key_row kind keyword bytes)
  said_key keyword bytes =
      let entry : Entry (Value W) = object_entry keyword (codes "RSA PUBLIC KEY") bytes in
      said_once tables (row keyword One (kind Key)) entry (suits Key keyword One entry refl (λ p. refl))

  said_moment : (keyword : Keyword) (moment : ℕ) → IsSaid tables (moment_row kind keyword moment)
  said_moment keyword moment =
      let entry : Entry (Value W) = moment_entry keyword moment in
      said_once tables (row keyword One (kind Time)) entry
      (suits Time keyword One entry refl (time_says keyword moment))

  said_crosscert : (bytes : List ℕ) → IsSaid tables (crosscert_row kind bytes)
  said_crosscert bytes =
      let entry : Entry (Value W) = object_entry the.DirKeyCrosscert (codes "ID SIGNATURE") bytes in
      said_once tables (row the.DirKeyCrosscert One (kind Crosscert)) entry
      (suits Crosscert the.DirKeyCrosscert One entry refl (λ p. refl))

  rows_said : (cert : Cert) → SaysInRange cert → AreSaid tables (certificate_rows kind cert)
  rows_said cert are =
      both_hold (said_address cert.address are.address)
      (both_hold (said_identity cert.fingerprint are.fingerprint)
      (both_hold (said_key the.DirIdentityKey cert.identity_key)
      (both_hold (said_moment the.DirKeyPublished cert.published)
      (both_hold (said_moment the.DirKeyExpires cert.expires)
      (both_hold (said_key the.DirSigningKey cert.signing_key)
      (both_hold (said_crosscert cert.crosscert) tt))))))

  rows_apart : are_apart (cert_rows kind) ≡ true
  unfolding same
  rows_apart = refl

  last_there : row_of (cert_rows kind) the.DirKeyCertification ≡ Some (last_row kind)
  unfolding same
  last_there = refl

  last_ends : is_keyword (Some the.DirKeyCertification) the.DirKeyCertification ≡ true
  unfolding same
  last_ends = refl

  -- it is a section that ends with its last item
  pub certificate_ended : (cert : Cert) → SaysInRange cert
      → IsEnded tables (certificate name kind cert) (last_row kind) (certification cert)
  certificate_ended cert are = record {
    written = record {
      table = sym has.rows;
      apart = ap are_apart has.rows ∙ rows_apart;
      plain = has.plain cert;
      opens = refl;
      said = rows_said cert are;
    };
    ends_it = record {
      row_there = ap (λ (rows : List (Row K)). row_of rows the.DirKeyCertification) has.rows ∙ last_there;
      last = ap (λ (shape : Shape S). is_keyword shape.last the.DirKeyCertification) has.shape ∙ last_ends;
    };
    inside = ap (λ (shape : Shape S). section_if tables the.DirKeyCertification shape.inner) has.shape;
    suits = suits Certification the.DirKeyCertification One (certification cert) refl (λ p. refl);
  }
