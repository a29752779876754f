-- What is signed of each document that is read, in words (dir-spec, "Creating key certificates", "Vote and consensus
-- status document formats").
use Rattle.std.specs.Prelude.{◌≡◌, ◌≢◌, ℕ, ◌+◌, ◌<◌, ◌^◌, List, ◌∷◌, ◌++◌, drop, length, All, Ok, codes}
use Rattle.sha1.specs.Sha1.{sha1}
use Rattle.item_terms.specs.Items.{Item, items_of}
use Rattle.dir_values.specs.declared.digest.Digest1.{Digest1}
use Rattle.authority_certs.specs.{declared.cert.Cert.Cert, Reading.{cert_of, max_cert}}
use Rattle.vote_terms.specs.Votes.{ReadVote, max_vote}
use Rattle.vote_doc.specs.Reading.{vote_from}
use Rattle.vote_laws.specs.Texts.{IsLineOf, text_before, text_through}

-- ---- certificates

-- The digest is that of what is covered of a certificate, which has these two as its first item and its last: the text of
-- all items before the last one, and the keyword line of that one, with its NL.
pub record IsOfCovered (bytes : List ℕ) (first last : Item) (digest : Digest1) : Type 0 where
  pub line : List ℕ
  pub is_line : IsLineOf bytes last line
  pub covered : digest.0 ≡ sha1 (text_before bytes first last ++ line)

-- The certificate that the bytes begin with: its first item is the first one there is, and its last one, with which it
-- ends, is its certification. Its digest is that of what is covered.
pub record IsCertificateOfItems (bytes : List ℕ) (cert : Cert) (used : ℕ) : Type 0 where
  pub first : Item
  pub between : List Item
  pub last : Item
  pub left : List Item
  pub come : (items_of max_cert bytes).items ≡ first ∷ (between ++ last ∷ left)
  pub begins : first.keyword ≡ codes "dir-key-certificate-version"
  pub certifies : last.keyword ≡ codes "dir-key-certification"
  pub ends : last.after ≡ used
  pub covered : IsOfCovered bytes first last cert.covered

-- Of each certificate that is read `covered` is the digest of the text from its first item through the NL of the keyword
-- line of its last.
abbrev pub CertificatesCoverTheirItems : Type 0
CertificatesCoverTheirItems =
    (bytes : List ℕ) (cert : Cert) (used : ℕ) → cert_of bytes ≡ Ok (cert, used) → IsCertificateOfItems bytes cert used

-- ---- votes

-- no item has this keyword
abbrev pub NoneHas : List ℕ → List Item → Type 0
NoneHas keyword items = All (λ item. item.keyword ≢ keyword) items

-- The certificate of a vote, among the items between its first and its last: it begins with the first of them that is a
-- `dir-key-certificate-version`, and ends with the first behind it that is a certification.
pub record HasCertificate (items : List Item) : Type 0 where
  pub before : List Item
  pub first : Item
  pub inside : List Item
  pub last : Item
  pub behind : List Item
  pub come : items ≡ before ++ first ∷ (inside ++ last ∷ behind)
  pub none_before : NoneHas (codes "dir-key-certificate-version") before
  pub begins : first.keyword ≡ codes "dir-key-certificate-version"
  pub none_inside : NoneHas (codes "dir-key-certification") inside
  pub certifies : last.keyword ≡ codes "dir-key-certification"

-- The vote that the bytes begin with: its first item is the first one there is, and its last one, with which it ends, is
-- its signature. What is signed is the text of all items before the last, the word
-- `directory-signature` and one space; so begins the text of all items. Of its certificate the vote has all bytes, and the
-- digest of what is covered.
pub record IsVoteOfItems (bytes : List ℕ) (vote : ReadVote) (used : ℕ) : Type 0 where
  pub first : Item
  pub between : List Item
  pub last : Item
  pub left : List Item
  pub come : (items_of max_vote bytes).items ≡ first ∷ (between ++ last ∷ left)
  pub begins : first.keyword ≡ codes "network-status-version"
  pub signs : last.keyword ≡ codes "directory-signature"
  pub ends : last.after ≡ used
  pub whole : vote.whole ≡ text_through bytes first last
  pub signed : vote.signed ≡ text_before bytes first last ++ codes "directory-signature "
  pub rest : List ℕ
  pub stands : vote.whole ≡ vote.signed ++ rest
  pub certificate : HasCertificate between
  pub certificate_bytes : vote.certificate_bytes ≡ text_through bytes certificate.first certificate.last
  pub covered : IsOfCovered bytes certificate.first certificate.last vote.says.certificate.covered

-- Of each vote that is read, in an input of fewer than 2 ^ 62 bytes, `signed` is the text of all items before its
-- signature, the word `directory-signature` and one space: the items are those from its place on.
abbrev pub VotesSignTheirItems : Type 0
VotesSignTheirItems =
    (start : ℕ) (bytes : List ℕ) (vote : ReadVote) (after : ℕ) → length bytes < 2 ^ 62
    → vote_from start bytes ≡ Ok (vote, after)
    → (used : ℕ) × (after ≡ start + used) × IsVoteOfItems (drop start bytes) vote used
