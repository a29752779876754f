-- What is kept of a certificate that was written says what the certificate says, with the digest of its covered text.
use Rattle.std.proofs.Common.{◌≡◌, ℕ, ◌+◌, List, [], ◌∷◌, ◌++◌, length, take, drop, Option, Some, refl, sym, ap, subst}
use Rattle.std.proofs.{Common.{◌∙◌, append_assoc, arith}, lemmas.List.{length-append, map-append}}
use Rattle.std.specs.Prelude.{codes, map}
use Rattle.sha1.specs.Sha1.{sha1}
use Rattle.dirdoc_grammar.specs.{Bodies.object_text, Writing.{NewItem, item_text, items_text}}
use Rattle.frame_terms.specs.{Keywords.{same, text_of}, Tables.Tables, declared.document.Taken.Taken}
use Rattle.frame_terms.specs.declared.keyword.Keyword.TheVariants as the
use Rattle.frame_values.specs.{Items.bare, Values.{after_in, item_at, line_end_in}, declared.values.Value.Value}
use Rattle.frame_values.proofs.ItemsTexts.{sections}
use Rattle.frame_laws.proofs.{Ends.end_with-last, Entries.{item_of, taken_at}, LastRows.{last_item, section_to_is_read}}
use Rattle.frame_laws.proofs.{Places.{after_all, after_all-same}, ReadRows.{AreRead, Stand, row_read}}
use Rattle.frame_laws.proofs.RowValues.{identity_said, items_if, moment_said, object_said, text_if_said}
use Rattle.frame_laws.proofs.{Sections.{end_of, entries_in}, StandingParts.front_stands, WrittenRows.from_place}
use Rattle.frame_laws.proofs.WrittenRows.{text_of_entries}
use Rattle.authority_certs.specs.{Certs.{cert_in, covered_part, whole_part}, Heads.head_of, Texts.cert_text}
use Rattle.authority_certs.specs.declared.{cert.Cert.Cert, frame.CertKind.CertKind}
use Rattle.certificate_laws.{specs.Again.{SaysInRange, as_written, covered_items}, proofs.CertRows.HasCertificates}
use Rattle.certificate_laws.proofs.CertRows.{all_rows, lone_certificate, cert_entries, cert_taken, certificate}
use Rattle.certificate_laws.proofs.CertRows.{certificate_ended, certificate_same, certification, last_row}

-- ---- the covered text

abbrev covered_text : Cert → List ℕ
covered_text cert = items_text (covered_items cert)

-- the text of the last item's object
abbrev last_object : Cert → List ℕ
last_object cert = object_text (codes "SIGNATURE") cert.certification

module _ (W : Type 0) where
  -- the text of all items but the last
  abbrev front_text : Cert → List ℕ
  front_text cert = text_of_entries (entries_in (lone_certificate {W = W} cert))

  -- of the covered items the last one has no object
  covered_same : (cert : Cert)
      → covered_items cert
      ≡ map item_of (entries_in (lone_certificate {W = W} cert)) ++ bare the.DirKeyCertification [] ∷ []
  covered_same cert = simp (append_assoc, map-append, items_if) refl

  -- the covered text ends with the last item's keyword line
  covered_parts : (cert : Cert)
      → covered_text cert ≡ front_text cert ++ (item_text (bare the.DirKeyCertification []) ++ [])
  covered_parts cert =
      ap items_text (covered_same cert)
      ∙ sections (map item_of (entries_in (lone_certificate {W = W} cert))) (bare the.DirKeyCertification [] ∷ [])

  -- the whole text goes on with the object
  whole_parts : (cert : Cert) → cert_text cert ≡ covered_text cert ++ (last_object cert ++ [])
  whole_parts cert =
      let entries = entries_in (lone_certificate {W = W} cert) in
      ap items_text (certificate_same W cert ∙ map-append item_of entries (certification cert ∷ []))
      ∙ sections (map item_of entries) (item_of {V = Value W} (certification cert) ∷ [])
      ∙ split (front_text cert) (text_of the.DirKeyCertification ++ []) (last_object cert)
      ∙ ap (λ (l : List ℕ). l ++ (last_object cert ++ [])) (sym (covered_parts cert))
    where
      split : (front line object : List ℕ)
          → front ++ ((line ++ 10 ∷ object) ++ []) ≡ (front ++ ((line ++ 10 ∷ []) ++ [])) ++ (object ++ [])
      split front line object = simp append_assoc refl

  -- it is as long as the items before the last and its keyword line
  covered_length : (cert : Cert)
      → length (covered_text cert) ≡ length (front_text cert) + (length (text_of the.DirKeyCertification ++ []) + 1)
  covered_length cert =
      ap (λ (l : List ℕ). length l) (covered_parts cert)
      ∙ size (front_text cert) (text_of the.DirKeyCertification ++ [])
    where
      size : (front keyword : List ℕ)
          → length (front ++ ((keyword ++ 10 ∷ []) ++ [])) ≡ length front + (length keyword + 1)
      size front keyword =
          omega (
            arith,
            length-append front ((keyword ++ 10 ∷ []) ++ []),
            length-append (keyword ++ 10 ∷ []) [],
            length-append keyword (10 ∷ []),
          )

  -- where the certificate's items end
  pub cert_ends : (place : ℕ) (cert : Cert)
      → after_all place (cert_entries {W = W} cert) ≡ place + length (cert_text cert)
  cert_ends place cert =
      after_all-same place (cert_entries {W = W} cert)
      ∙ ap (λ (l : List NewItem). place + length (items_text l)) (sym (certificate_same W cert))

  -- it begins with its first item
  begins_at : (place : ℕ) (cert : Cert) → (head_of (cert_taken {W = W} place cert)).begin ≡ place
  unfolding same
  begins_at place cert = refl

-- ---- in a document that has certificates

module _ {S K W X : Type 0} (tables : Tables S K (Value W) X) (name : S) (kind : CertKind → K)
    (has : HasCertificates tables name kind)
    (place : ℕ) (cert : Cert) (are : SaysInRange cert) where
  -- where its last item begins
  abbrev last_place : ℕ
  last_place = end_of place (lone_certificate {W = W} cert)

  last_is : item_at (cert_taken {W = W} place cert) the.DirKeyCertification
      ≡ Some (taken_at last_place (certification cert))
  last_is =
      last_item tables place (certificate name kind cert) (last_row kind) (certification cert)
      (certificate_ended tables name kind has cert are).written refl

  -- the covered text ends with the last item's line
  covered_ends : (head_of (cert_taken {W = W} place cert)).covered_end ≡ place + length (covered_text cert)
  covered_ends =
      let entries = entries_in (lone_certificate {W = W} cert) in
      ap (λ (o : Option (Taken (Value W))). line_end_in o) last_is
      ∙ sums last_place place (length (front_text W cert)) (length (text_of the.DirKeyCertification ++ []))
      (length (covered_text cert))
      (after_all-same place entries) (covered_length W cert)
    where
      sums : (end place f k c : ℕ) → end ≡ place + f → c ≡ f + (k + 1) → end + (k + 1) ≡ place + c
      sums end place f k c first second = omega (arith, first, second)

  -- the covered text is what stands there
  covered_is : (bytes : List ℕ) → take (length (cert_text cert)) (drop place bytes) ≡ cert_text cert
      → covered_part bytes (head_of (cert_taken {W = W} place cert)) ≡ covered_text cert
  covered_is bytes there =
      let head = head_of (cert_taken {W = W} place cert) in
      from_place bytes head.begin head.covered_end place (covered_text cert) (begins_at W place cert) covered_ends
      (front_stands bytes (covered_text cert) (last_object cert ++ []) place
      (subst (λ (l : List ℕ). take (length l) (drop place bytes) ≡ l) (whole_parts W cert) there))

  -- the certificate's bytes are its text
  pub whole_is : (bytes : List ℕ) → take (length (cert_text cert)) (drop place bytes) ≡ cert_text cert
      → whole_part bytes (head_of (cert_taken {W = W} place cert)) ≡ cert_text cert
  whole_is bytes there =
      let head = head_of (cert_taken {W = W} place cert) in
      from_place bytes head.begin head.end place (cert_text cert) (begins_at W place cert)
      (ap (λ (o : Option (Taken (Value W))). after_in o) last_is
      ∙ sym (end_with-last place (lone_certificate {W = W} cert) (certification cert)) ∙ cert_ends W place cert) there

  -- What was taken of the certificate says what the certificate says, where its items stand, and their text at the
  -- place where it begins.
  pub certificate_says : (limit : ℕ) (bytes : List ℕ) → Stand limit bytes place (cert_entries {W = W} cert)
      → take (length (cert_text cert)) (drop place bytes) ≡ cert_text cert
      → cert_in bytes (head_of (cert_taken {W = W} place cert)) ≡ as_written cert
  unfolding same
  certificate_says limit bytes stand there =
      let ended = certificate_ended tables name kind has cert are in
      let read : AreRead limit bytes (cert_taken {W = W} place cert) place (all_rows name kind cert) =
      section_to_is_read tables place (certificate name kind cert) (last_row kind)
      (certification cert) ended.written refl limit bytes stand in
      let covered = covered_is bytes there in
      λ i. record {
        address = text_if_said _ cert.address (row_read the.DirAddress read refl) i;
        fingerprint = identity_said _ cert.fingerprint (row_read the.Fingerprint read refl) i;
        identity_key = object_said _ _ cert.identity_key (row_read the.DirIdentityKey read refl) i;
        published = moment_said _ cert.published are.published (row_read the.DirKeyPublished read refl) i;
        expires = moment_said _ cert.expires are.expires (row_read the.DirKeyExpires read refl) i;
        signing_key = object_said _ _ cert.signing_key (row_read the.DirSigningKey read refl) i;
        crosscert = object_said _ _ cert.crosscert (row_read the.DirKeyCrosscert read refl) i;
        certification = object_said _ _ cert.certification (row_read the.DirKeyCertification read refl) i;
        covered = record { 0 = sha1 (covered i) };
      }
