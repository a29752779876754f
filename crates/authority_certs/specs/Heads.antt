-- What is kept of a certificate's section. The table of the section sees to it that each item is there which has to
-- stand; where one is not, its value is nothing.
use Rattle.std.specs.Prelude.{List, None}
use Rattle.frame_terms.specs.declared.keyword.Keyword.TheVariants.{DirAddress, Fingerprint, DirIdentityKey}
use Rattle.frame_terms.specs.declared.keyword.Keyword.TheVariants.{DirKeyCertificateVersion, DirKeyPublished}
use Rattle.frame_terms.specs.declared.keyword.Keyword.TheVariants.{DirKeyExpires, DirSigningKey, DirKeyCrosscert}
use Rattle.frame_terms.specs.declared.{keyword.Keyword.TheVariants.DirKeyCertification, document.Taken.Taken}
use Rattle.frame_values.specs.{declared.values.Value.Value, Values.{item_at, place_in, line_end_in, after_in, nowhere}}
use Rattle.frame_values.specs.Values.{number_in, text_if, no_identity, fingerprint_in, object_in}
use Rattle.authority_certs.specs.declared.head.CertHead.{CertHead}

-- where nothing was read
abbrev pub no_head : CertHead
no_head = record {
  begin = 0;
  covered_end = 0;
  end = 0;
  address = None;
  fingerprint = no_identity;
  identity_key = nowhere;
  published = 0;
  expires = 0;
  signing_key = nowhere;
  crosscert = nowhere;
  certification = nowhere;
}

module _ {V : Type 0} where
  -- what is kept of a certificate's items
  abbrev pub head_of : List (Taken (Value V)) → CertHead
  head_of taken = record {
    begin = place_in (item_at taken DirKeyCertificateVersion);
    covered_end = line_end_in (item_at taken DirKeyCertification);
    end = after_in (item_at taken DirKeyCertification);
    address = text_if (item_at taken DirAddress);
    fingerprint = fingerprint_in (item_at taken Fingerprint);
    identity_key = object_in (item_at taken DirIdentityKey);
    published = number_in (item_at taken DirKeyPublished);
    expires = number_in (item_at taken DirKeyExpires);
    signing_key = object_in (item_at taken DirSigningKey);
    crosscert = object_in (item_at taken DirKeyCrosscert);
    certification = object_in (item_at taken DirKeyCertification);
  }

-- what is kept after the one section of a certificate that stands alone
abbrev pub head_with : CertHead → Unit {0} → List (Taken (Value (Unit {0}))) → CertHead
head_with head section taken = head_of taken
