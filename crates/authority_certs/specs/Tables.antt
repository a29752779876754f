-- The items of a certificate and what they say (dir-spec, "Creating key certificates").
use Rattle.std.specs.Prelude.{ℕ, false, ◌||◌, List, [], ◌∷◌, Some, None, Result, Ok, codes}
use Rattle.item_terms.specs.Items.{Item}
use Rattle.frame_terms.specs.declared.keyword.Keyword.TheVariants as the
use Rattle.frame_terms.specs.declared.{row.{Count.TheVariants.{One, Optional}, Row.Row}, section.Shape.Shape}
use Rattle.frame_terms.specs.{Rows.row, Tables.Tables}
use Rattle.frame_terms.specs.declared.row.Limit.TheVariants as limit
use Rattle.frame_terms.specs.declared.section.Again.TheVariants as again
use Rattle.frame_values.specs.{declared.values.Value.Value, Faults.at_place, Arguments.next, Lines.{literal, time_of}}
use Rattle.frame_values.specs.{Lines.{argument_of, fingerprint_of}, Signatures.{has_words, object_of}}
use Rattle.frame_values.specs.declared.values.Value.TheVariants as value
use Rattle.authority_certs.specs.declared.frame.CertKind.{CertKind, TheVariants.{Version, Address, Fingerprint, Time}}
use Rattle.authority_certs.specs.declared.frame.CertKind.TheVariants.{Key, Crosscert, Certification}

module _ {K : Type 0} where
  -- the items of a certificate, in a document that has their kinds among its own; the first one opens it
  abbrev pub cert_rows : (CertKind → K) → List (Row K)
  cert_rows kind =
      row the.DirKeyCertificateVersion One (kind Version)
      ∷ row the.DirAddress Optional (kind Address)
      ∷ row the.Fingerprint One (kind Fingerprint)
      ∷ row the.DirIdentityKey One (kind Key)
      ∷ row the.DirKeyPublished One (kind Time)
      ∷ row the.DirKeyExpires One (kind Time)
      ∷ row the.DirSigningKey One (kind Key)
      ∷ row the.DirKeyCrosscert One (kind Crosscert)
      ∷ row the.DirKeyCertification One (kind Certification)
      ∷ []

module _ {S : Type 0} where
  -- how it begins and ends, and how many bytes it may have inside another document
  abbrev pub cert_shape : Shape S
  cert_shape = record {
    opener = the.DirKeyCertificateVersion;
    last = Some the.DirKeyCertification;
    again = again.Nothing;
    inner = None;
    limit = Some limit.Certificate;
  }

module _ {V : Type 0} where
  -- what its items say, or the place of what is wrong
  abbrev pub cert_value : CertKind → Item → Result (Value V) ℕ
  cert_value Version item = next (literal (codes "3") item) (λ _. Ok value.Nothing)
  cert_value Address item = next (argument_of item) (λ text. Ok (value.Text text))
  cert_value Fingerprint item = next (fingerprint_of item) (λ identity. Ok (value.Fingerprint identity))
  cert_value Time item = next (time_of item) (λ number. Ok (value.Number number))
  cert_value Key item =
      next (object_of (has_words item.object (codes "RSA PUBLIC KEY")) item) (λ lines. Ok (value.Object lines))
  cert_value Crosscert item =
      next (object_of (has_words item.object (codes "ID SIGNATURE") || has_words item.object (codes "SIGNATURE")) item)
      (λ lines. Ok (value.Object lines))
  cert_value Certification item =
      next (object_of (has_words item.object (codes "SIGNATURE")) item) (λ lines. Ok (value.Object lines))

-- the tables of a certificate that stands alone
abbrev pub cert_tables : Tables (Unit {0}) CertKind (Value (Unit {0})) (Unit {0})
cert_tables = record {
  first = tt;
  sections = tt ∷ [];
  shape = λ _. cert_shape;
  rows = λ _. cert_rows (λ kind. kind);
  strangers = λ _ _. false;
  ignores = λ _ _. false;
  value_of = λ _ kind item. at_place (cert_value kind item);
  start = tt;
  note = λ _ _. Ok tt;
}
