-- Of each certificate that is read the covered text is that of all its items but the last one's object.
use Rattle.std.proofs.Common.{◌≡◌, ℕ, ◌≤◌, List, [], ◌∷◌, ◌++◌, length, Result, Ok, Err, refl, sym, ap, subst, ◌∙◌}
use Rattle.std.{proofs.{Common.{arith, inl, inr, append_assoc, append-nil}, lemmas.Option.none-some}, specs.Prelude.map}
use Rattle.std.specs.Prelude.{replicate}
use Rattle.item_terms.specs.Items.{Item, items_of}
use Rattle.frame_terms.specs.declared.{document.{Group.Group, Taken.Taken}, fault.ReadRefusal.ReadRefusal}
use Rattle.frame_terms.specs.Documents.{Document, document_of, finish}
use Rattle.frame_values.specs.declared.values.Value.{Value}
use Rattle.authority_certs.specs.{declared.cert.Cert.Cert, Certs.cert_in, Heads.{head_of, head_with, no_head}}
use Rattle.authority_certs.specs.{Reading.{max_cert, with_cert}, Tables.cert_tables}
use Rattle.document_laws.specs.Order as order
use Rattle.document_laws.specs.{Order.{AreInOrder, Part, sections_of}, Passing.EndsWith, Documents.{AreParts, EndsSo}}
use Rattle.document_laws.specs.{Documents.IsDocument, Parts.{AreBetween, AreOthers, IsPart}}
use Rattle.vote_kinds.proofs.ClearVotes.{vote_kinds_are_exact}
use Rattle.vote_laws.specs.Signed.{CertificatesCoverTheirItems, IsOfCovered, IsCertificateOfItems}
use Rattle.vote_laws.proofs.{Covered.covered_is, Lines.{Follow, items_follow}, Pairs.parts_are, PartItems.IsCertificate}
use Rattle.vote_laws.proofs.{PartItems.{is_certificate, last_ends}, Slices.{among, begins_before}}

-- ---- a certificate

abbrev V : Type 0
V = Value (Unit {0})

abbrev X : Type 0
X = Unit {0}

module _ (bytes : List ℕ) where
  abbrev items : List Item
  items = (items_of max_cert bytes).items

  -- what is kept of its items is what stands at its first and its last
  module _ (part : Part (Unit {0}) V) (next : X) (is : IsPart cert_tables cert_tables.start part next)
      (between : AreBetween cert_tables tt is.with_first is.items_between is.between is.before_last)
      (left : List Item) (come : items ≡ part.items ++ left) (used : ℕ) (end_is : EndsWith part.items used) where
    abbrev last_item : Item
    last_item = is.ends.0

    abbrev last_one : Taken V
    last_one = is.ends.1

    abbrev taken : List (Taken V)
    taken = part.whole.taken

    items_are : part.items ≡ is.first_item ∷ (is.items_between ++ last_item ∷ [])
    items_are = is.come ∙ ap (λ (l : List Item). is.first_item ∷ (is.items_between ++ l)) is.ends.2

    taken_are : taken ≡ is.first_one ∷ (is.between ++ last_one ∷ [])
    taken_are = is.are ∙ ap (λ (l : List (Taken V)). is.first_one ∷ (is.between ++ l)) is.ends.3

    come_is : items ≡ is.first_item ∷ (is.items_between ++ last_item ∷ left)
    come_is =
        come
        ∙ ap (λ (l : List Item). l ++ left) items_are
        ∙ ap (λ (l : List Item). is.first_item ∷ l) (append_assoc is.items_between (last_item ∷ []) left)

    cert_is : IsCertificate is.first_item last_item (head_of taken)
    cert_is =
        subst (λ (l : List (Taken V)). IsCertificate is.first_item last_item (head_of l)) (sym taken_are)
        (is_certificate cert_tables tt tt refl tt is.with_first is.before_last is.first_item is.items_between last_item
        is.first_one is.between last_one is.begins.said is.opens between is.ends.4.said is.ends.5)

    signed : (cert : Cert) (end : ℕ) → cert ≡ cert_in bytes (head_of taken) → end ≡ used
        → IsCertificateOfItems bytes cert end
    signed cert end same_cert ends =
        let follow : Follow bytes 0 items = items_follow 0 max_cert bytes in
        let all : Follow bytes 0 (is.first_item ∷ (is.items_between ++ last_item ∷ left)) =
        subst (λ (l : List Item). Follow bytes 0 l) come_is follow in
        let found = (among bytes is.first_item.after is.items_between last_item left all.1).0 in
        let le : is.first_item.place ≤ last_item.place =
        omega (arith, found.later, begins_before bytes 0 is.first_item all.0) in
        record {
          first = is.first_item;
          between = is.items_between;
          last = last_item;
          left = left;
          come = come_is;
          begins = cert_is.begins;
          certifies = cert_is.certifies;
          ends =
              sym (last_ends part.items (is.first_item ∷ is.items_between) last_item used items_are end_is)
              ∙ sym ends;
          covered = subst (λ (c : Cert). IsOfCovered bytes is.first_item last_item c.covered) (sym same_cert)
              (covered_is bytes is.first_item.after is.first_item last_item (head_of taken) found le cert_is.begin
              cert_is.covered_end);
        }

  -- what is read of a document of one section
  abbrev D : Type 0
  D = Document (Unit {0}) V

  by_others : (part : Part (Unit {0}) V) (next : X) (is : IsPart cert_tables cert_tables.start part next)
      → AreOthers cert_tables tt is.with_first is.items_between part.inside is.between is.before_last
      → (left : List Item) (document : D) (cert : Cert) (end : ℕ) → items ≡ part.items ++ left
      → document.groups ≡ part.inside ++ part.whole ∷ [] → EndsWith part.items document.used
      → with_cert bytes (finish head_with no_head (Ok document)) ≡ Ok (cert, end) → IsCertificateOfItems bytes cert end
  by_others part next is (inl (none, between)) left document cert end come are ends e =
      let groups_are : document.groups ≡ part.whole ∷ [] =
      are ∙ ap (λ (l : List (Group (Unit {0}) V)). l ++ part.whole ∷ []) none in
      let read : Ok (cert_in bytes (head_of part.whole.taken), document.used) ≡ Ok (cert, end) =
      sym (ap (λ (l : List (Group (Unit {0}) V)).
      with_cert bytes (finish head_with no_head (Ok (record { groups = l; used = document.used })))) groups_are) ∙ e in
      let parts = parts_are (cert_in bytes (head_of part.whole.taken)) cert document.used end read in
      signed part next is between left come document.used ends cert end (sym parts.0) (sym parts.1)
  by_others part next is (inr have) left document cert end come are ends e =
      absurd (none-some have.whole.section have.is.opens)

  -- it is one part alone
  by_parts : (parts : List (Part (Unit {0}) V)) (left : List Item) (document : D) (cert : Cert) (end : ℕ)
      → items ≡ order.items_of parts ++ left → document.groups ≡ sections_of parts
      → AreInOrder cert_tables cert_tables.sections (map (λ (part : Part (Unit {0}) V). part.whole.section) parts)
      → AreParts cert_tables cert_tables.start parts
      → EndsSo cert_tables (length bytes) (items_of max_cert bytes).fault parts left document.used
      → with_cert bytes (finish head_with no_head (Ok document)) ≡ Ok (cert, end) → IsCertificateOfItems bytes cert end
  by_parts [] left document cert end come are in_order each ends e = absurd ends
  by_parts (part ∷ []) left document cert end come are in_order (next, is, each) ends e =
      by_others part next is is.others left document cert end
      (come ∙ ap (λ (l : List Item). l ++ left) (append-nil part.items)) are ends e
  by_parts (part ∷ other ∷ parts) left document cert end come are (number, others, stand, one, none) each ends e =
      absurd (cc (stand
      ∙ ap (λ (n : ℕ). replicate n tt ++ others) one ∙ ap (λ (l : List (Unit {0})). tt ∷ l) none))

  by_document : (document : D) (cert : Cert) (end : ℕ)
      → IsDocument cert_tables (length bytes) (items_of max_cert bytes) document
      → with_cert bytes (finish head_with no_head (Ok document)) ≡ Ok (cert, end) → IsCertificateOfItems bytes cert end
  by_document document cert end is e =
      by_parts is.parts is.left document cert end is.come is.are is.in_order is.each is.ends e

  by_read : (cert : Cert) (end : ℕ) (read : Result D ReadRefusal)
      → document_of cert_tables (length bytes) (items_of max_cert bytes) ≡ read
      → with_cert bytes (finish head_with no_head read) ≡ Ok (cert, end) → IsCertificateOfItems bytes cert end
  by_read cert end (Err refusal) e is = absurd (cc (is))
  by_read cert end (Ok document) e is =
      by_document document cert end
      ((vote_kinds_are_exact.certificates (length bytes) (items_of max_cert bytes) document).0 e) is

pub certificates_cover_their_items : CertificatesCoverTheirItems
certificates_cover_their_items bytes cert used e =
    by_read bytes cert used (document_of cert_tables (length bytes) (items_of max_cert bytes)) refl e
