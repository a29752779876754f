-- Items that are those of a certificate that stands alone are read as it.
use Rattle.std.proofs.Common.{◌≡◌, ℕ, List, [], ◌∷◌, ◌++◌, length, None, Result, Ok, refl, sym, ap, subst, ◌∙◌}
use Rattle.std.proofs.Common.{append-nil}
use Rattle.item_terms.specs.Items.{Contents, Item, items_of}
use Rattle.frame_terms.specs.{Documents.{Document, finish, group}, declared.document.Group.Group}
use Rattle.frame_terms.specs.declared.fault.ReadRefusal.{ReadRefusal}
use Rattle.authority_certs.specs.{Certs.cert_in, Heads.{head_of, head_with, no_head}, Reading.{cert_of, max_cert}}
use Rattle.authority_certs.specs.{Reading.with_cert, Tables.cert_tables}
use Rattle.document_laws.specs.{Order.Part, Documents.IsDocument, Parts.IsPart}
use Rattle.vote_kinds.proofs.ClearVotes.{vote_kinds_are_exact}
use Rattle.certificate_laws.{specs.Within.AreTakenIn, proofs.{Holding.{CertTaken, Said}, InVotes.votes_hold}}
use Rattle.certificate_laws.proofs.Lone.{first_taken, lone_is}
use Rattle.vote_frame.specs.Tables.{vote_tables}
use Rattle.vote_frame.specs.declared.frame.VoteSection.TheVariants as vote
use Rattle.vote_frame.specs.declared.frame.VoteKind.TheVariants as vote_kind

-- ---- a certificate that stands alone

abbrev alone_group : List CertTaken → List (Group (Unit {0}) Said)
alone_group taken = group tt taken ∷ []

abbrev pub alone_part : List Item → List CertTaken → Part (Unit {0}) Said
alone_part items taken = record { items = items; inside = []; whole = group tt taken }

-- items that are those of a certificate, and end with the text, are read as it
pub record IsAlone (bytes : List ℕ) (taken : List CertTaken) : Type 0 where
  pub read : cert_of bytes ≡ Ok (cert_in bytes (head_of taken), length bytes)
  pub within : AreTakenIn bytes taken
  pub end : (head_of taken).end ≡ length bytes

abbrev taken_or : List (Group (Unit {0}) Said) → List CertTaken
taken_or [] = []
taken_or (one ∷ groups) = one.taken

pub alone_is : (bytes : List ℕ) (items : List Item) (taken : List CertTaken) (before : List Item) (last : Item)
    → items_of max_cert bytes ≡ record { items = items; fault = None }
    → IsPart cert_tables tt (alone_part items taken) tt → items ≡ before ++ last ∷ [] → length bytes ≡ last.after
    → IsAlone bytes taken
alone_is bytes items taken before last contents is_part parts ends =
    let document : Document (Unit {0}) Said = record { groups = alone_group taken; used = length bytes } in
    let come : (items_of max_cert bytes).items ≡ (items ++ []) ++ [] =
    ap (λ (c : Contents). c.items) contents
    ∙ sym (append-nil items) ∙ sym (append-nil (items ++ [])) in
    let is_document : IsDocument cert_tables (length bytes) (items_of max_cert bytes) document =
    record {
      parts = alone_part items taken ∷ [];
      left = [];
      come = come;
      are = refl;
      in_order = (1, [], refl, refl, refl);
      each = (tt, is_part, tt);
      ends = record { before = before; last = last; parts = parts; ends = ends };
    } in
    let read = (vote_kinds_are_exact.certificates (length bytes) (items_of max_cert bytes) document).1 is_document in
    let lone =
    lone_is vote_tables vote.Authority vote.Certificate vote_kind.Certificate vote_kind.Version votes_hold bytes
    document read
    refl in
    let same_taken : first_taken lone.alone.begins ∷ lone.goes.taken ≡ taken =
    sym (ap taken_or lone.goes.groups) in
    record {
      read = ap (λ (r : Result (Document (Unit {0}) Said) ReadRefusal). with_cert bytes
          (finish head_with no_head r)) read;
      within = subst (AreTakenIn bytes) same_taken lone.within;
      end = ap (λ (l : List CertTaken). (head_of l).end) (sym same_taken) ∙ lone.end;
    }
