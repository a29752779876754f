-- What is kept of a certificate's section says what is in range, in any kind of document that has certificates.
use Rattle.std.proofs.{Common.{◌≡◌, ℕ, true, false, List, Some, refl, sym, ap, ◌∙◌, arith}, lemmas.Bool.false≢true}
use Rattle.std.specs.Prelude.{IfSome, option_map}
use Rattle.base64.specs.GeneralPurpose.{IsBytes}
use Rattle.item_terms.specs.Items.{Item}
use Rattle.dir_values.specs.declared.digest.Fingerprint.{Fingerprint}
use Rattle.frame_terms.specs.declared.{document.Taken.Taken, keyword.Keyword.Keyword, row.Count.TheVariants.One}
use Rattle.frame_terms.specs.{declared.row.{Count.TheVariants.Optional, Row.Row}, Keywords.same, Order.inner, Rows.row}
use Rattle.frame_terms.specs.{Sections.row_of, Tables.Tables}
use Rattle.frame_terms.specs.declared.keyword.Keyword.TheVariants as the
use Rattle.frame_values.specs.{Faults.at_place, Parts.part, Ranges.AreTwenty, Values.{fingerprint_in, text_if}}
use Rattle.frame_values.specs.declared.{found.Span.Span, values.Value.Value}
use Rattle.frame_values.specs.declared.values.Value.TheVariants as value
use Rattle.frame_laws.proofs.{KnownWords.same-through, Words.IsWord}
use Rattle.authority_certs.specs.{Certs.cert_in, Heads.{head_of, no_head}, Tables.{cert_rows, cert_value}}
use Rattle.authority_certs.specs.declared.{frame.CertKind.CertKind, head.CertHead.CertHead}
use Rattle.authority_certs.specs.declared.frame.CertKind.TheVariants as kind
use Rattle.certificate_laws.specs.Again.{SaysInRange}
use Rattle.row_laws.proofs.{Columns.{a_word, an_identity, identity_laws, last, last_laws, word_laws}, ItemKinds.Kind}
use Rattle.row_laws.proofs.{ItemKinds.{KindLaws, of_line, of_line_laws}, KindRanges.{IsNotInside, KindIs, field_is}}
use Rattle.row_laws.proofs.{KindRanges.{kind_read, laws_read}, ReadBytes.{object_bytes, twenty_zeros}}
use Rattle.row_laws.proofs.Saying.{EachStands}
use Rattle.range_laws.proofs.CertItems.{HasBytes}

-- ---- kinds

abbrev address_kind : Kind Span (List ℕ)
address_kind = of_line (last a_word)

address_laws : KindLaws address_kind IsWord IsWord
address_laws = of_line_laws (last a_word) IsWord (last_laws a_word IsWord word_laws)

abbrev holder_kind : Kind Fingerprint Fingerprint
holder_kind = of_line (last an_identity)

holder_laws : KindLaws holder_kind (λ f. AreTwenty f.0) (λ f. AreTwenty f.0)
holder_laws = of_line_laws (last an_identity) _ (last_laws an_identity _ identity_laws)

-- ---- a document that has certificates

-- The tables have certificates in this section, with their kinds among their own; the section stands in another only
-- behind its opener.
pub record HaveCertificates {S K W X : Type 0} (tables : Tables S K (Value W) X) (name : S)
    (kind_of : CertKind → K) : Type 0 where
  pub rows : tables.rows name ≡ cert_rows kind_of
  pub values : (across : X) (of : CertKind) (item : Item)
      → tables.value_of across (kind_of of) item ≡ at_place (cert_value of item)
  pub apart : (around : S) (keyword : Keyword) → inner tables around keyword ≡ Some name
      → same the.DirKeyCertificateVersion keyword ≡ true

-- an opener is no other item
apart_from : (keyword other : Keyword) → same the.DirKeyCertificateVersion keyword ≡ true → same keyword other ≡ true
    → same the.DirKeyCertificateVersion other ≡ false → ⊥
apart_from keyword other opens is not =
    false≢true (sym not ∙ same-through the.DirKeyCertificateVersion keyword other opens ∙ is)

module _ {S K W X : Type 0} (tables : Tables S K (Value W) X) (name : S) (kind_of : CertKind → K)
    (has : HaveCertificates tables name kind_of) where
  address_is : KindIs tables (kind_of kind.Address) (λ (span : Span). value.Text span)
      (λ bytes span. IsWord (part bytes span))
  address_is =
      kind_read address_kind.read (λ across item. has.values across kind.Address item)
      (λ bytes are. laws_read address_laws bytes)

  holder_is : KindIs tables (kind_of kind.Fingerprint) (λ (f : Fingerprint). value.Fingerprint f)
      (λ bytes f. AreTwenty f.0)
  holder_is =
      kind_read holder_kind.read (λ across item. has.values across kind.Fingerprint item)
      (λ bytes are. laws_read holder_laws bytes)

  -- but for its opener no item begins the section
  apart : (keyword : Keyword) → same the.DirKeyCertificateVersion keyword ≡ false → IsNotInside tables name keyword
  apart keyword not around other named begins = apart_from other keyword (has.apart around other begins) named not

  own_row_found : (keyword : Keyword) (own : Row K) → row_of (cert_rows kind_of) keyword ≡ Some own
      → row_of (tables.rows name) keyword ≡ Some own
  own_row_found keyword own is = ap (λ (rows : List (Row K)). row_of rows keyword) has.rows ∙ is

  -- what its items say is in range
  pub section_says : (bytes : List ℕ) → IsBytes bytes → (taken : List (Taken (Value W)))
      → EachStands tables bytes name taken → SaysInRange (cert_in bytes (head_of taken))
  unfolding same
  section_says bytes are taken each =
      let address = row the.DirAddress Optional (kind_of kind.Address) in
      let holder = row the.Fingerprint One (kind_of kind.Fingerprint) in
      record {
        address =
            field_is tables bytes are name taken each the.DirAddress address (own_row_found the.DirAddress address refl)
            (apart the.DirAddress refl) address_is (λ o. option_map (part bytes) (text_if o)) (λ o. IfSome o IsWord)
            (λ none. tt) (λ one span is. is);
        fingerprint =
            field_is tables bytes are name taken each the.Fingerprint holder (own_row_found the.Fingerprint holder refl)
            (apart the.Fingerprint refl) holder_is fingerprint_in (λ f. AreTwenty f.0) (λ none. twenty_zeros)
            (λ one f is. is);
        published = omega arith;
        expires = omega arith;
      }

-- the keys and signatures are bytes, whatever is kept
pub has_bytes : (bytes : List ℕ) (head : CertHead) → IsBytes bytes → HasBytes (cert_in bytes head)
has_bytes bytes head are = record {
  identity_key = object_bytes bytes head.identity_key are;
  signing_key = object_bytes bytes head.signing_key are;
  crosscert = object_bytes bytes head.crosscert are;
  certification = object_bytes bytes head.certification are;
}

-- where nothing was read, what is kept says what is in range
pub nothing_says : (bytes : List ℕ) → SaysInRange (cert_in bytes no_head)
nothing_says bytes =
    record { address = tt; fingerprint = twenty_zeros; published = omega arith; expires = omega arith }
