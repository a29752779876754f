-- What it means that the bytes of a certificate stand inside another document.
use Rattle.std.specs.Prelude.{◌≡◌, ℕ, ◌+◌, ◌≤◌, false, List, [], ◌∷◌, ◌++◌, length, map, take, Option, None, Ok}
use Rattle.item_terms.specs.{Items.{Item, contents, nothing}, declared.fault.DocFault.DocFault}
use Rattle.dirdoc_grammar.specs.Writing.{in_front}
use Rattle.frame_terms.specs.{Documents.{group, onto, read_items}, Sections.stands, Tables.Tables}
use Rattle.frame_terms.specs.declared.document.Taken.{Taken}
use Rattle.frame_terms.specs.declared.keyword.Keyword.TheVariants as the
use Rattle.frame_values.specs.declared.values.Value.{Value}
use Rattle.authority_certs.specs.{Certs.{cert_in, whole_part}, Heads.head_of, Reading.cert_of, declared.cert.Cert.Cert}
use Rattle.vote_frame.specs.Tables.{vote_tables}
use Rattle.vote_frame.specs.declared.frame.VoteSection.TheVariants as section
use Rattle.grammar_laws.specs.Moved.{moved_item}
use Rattle.certificate_laws.specs.{Given.IsGiven, Lifted.moved_taken, Within.AreTakenIn}

-- Of bytes that are given for a certificate: their items, and what is taken of them when they are read alone; it lies
-- within them, says the certificate, and has all of them for its bytes. Wherever the bytes stand, in front of whatever
-- follows, their items are the same, so many bytes further on. Behind the items of the section around it they are the
-- certificate's section, and the document goes on behind them.
pub record StandsInside {S K W X : Type 0} (tables : Tables S K (Value W) X) (outer section : S) (bytes : List ℕ)
    (cert : Cert) : Type 0 where
  pub items : List Item
  pub first : Taken (Value (Unit {0}))
  pub taken : List (Taken (Value (Unit {0})))
  pub opens : first.keyword ≡ the.DirKeyCertificateVersion
  pub within : AreTakenIn bytes (first ∷ taken)
  pub says : cert_in bytes (head_of (first ∷ taken)) ≡ cert
  pub whole : whole_part bytes (head_of (first ∷ taken)) ≡ bytes
  pub fits : length bytes ≤ 65536
  pub items_there : (limit n : ℕ) (more : List ℕ) → n + length bytes ≤ limit
      → contents limit n nothing (bytes ++ more)
      ≡ in_front (map (moved_item n) items) (contents limit (n + length bytes) nothing more)
  pub section_there : (n length_ : ℕ) (across : X) (one : Taken (Value W)) (before : List (Taken (Value W)))
      (fault : Option DocFault) (rest : List Item) → stands the.DirKeyCertificateVersion (one ∷ before) ≡ false
      → read_items tables length_ across (record { section = outer; taken = one ∷ before; around = None }) fault
      (map (moved_item n) items ++ rest)
      ≡ onto (group section (map (moved_taken n) (first ∷ taken)))
      (read_items tables length_ across
      (record { section = outer; taken = (one ∷ before) ++ moved_taken n first ∷ []; around = None }) fault rest)

-- Bytes that are given for a certificate stand inside a vote.
abbrev pub GivenStandInside : Type 0
GivenStandInside = (bytes : List ℕ) (cert : Cert) → IsGiven vote_tables section.Certificate bytes cert
    → StandsInside vote_tables section.Authority section.Certificate bytes cert

-- A certificate's own part alone, from the bytes' first to its end, is read as the same certificate.
abbrev pub OwnPartsAreCertificates : Type 0
OwnPartsAreCertificates = (bytes : List ℕ) (cert : Cert) (used : ℕ) → cert_of bytes ≡ Ok (cert, used)
    → cert_of (take used bytes) ≡ Ok (cert, used)
