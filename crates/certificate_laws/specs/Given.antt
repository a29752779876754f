-- The bytes of a certificate that may stand as they are in another document (dir-spec, "Creating key certificates").
use Rattle.std.specs.{Prelude.{◌≡◌, ℕ, true, false, List, length, IfSome, None, Ok}, List.AllByRecursion}
use Rattle.item_terms.specs.{Items.{Item, items_of}, Words.{first_is, is_letter_or_digit}}
use Rattle.frame_terms.specs.{Keywords.word_of, Order.is_strange, Sections.row_of, Tables.Tables}
use Rattle.authority_certs.specs.{Reading.{cert_of, max_cert}, Tables.cert_rows, declared.cert.Cert.Cert}

module _ {S K V X : Type 0} where
  -- the item may stand in a certificate that is this section of a document: it is one of a certificate's, or the
  -- document knows it not
  abbrev pub IsNoStranger : Tables S K V X → S → Item → Type 0
  IsNoStranger tables section item =
      IfSome (word_of item.keyword)
      (λ keyword. row_of (cert_rows (λ kind. kind)) keyword ≡ None → is_strange tables section keyword ≡ false)

-- The bytes are one certificate, from their first byte to their last, that says this; and none of its items is one of
-- the document's frame around it.
pub record IsGiven {S K V X : Type 0} (tables : Tables S K V X) (section : S) (bytes : List ℕ)
    (cert : Cert) : Type 0 where
  pub read : cert_of bytes ≡ Ok (cert, length bytes)
  pub first : first_is is_letter_or_digit bytes ≡ true
  pub strangers : AllByRecursion (λ (item : Item). IsNoStranger tables section item) (items_of max_cert bytes).items
