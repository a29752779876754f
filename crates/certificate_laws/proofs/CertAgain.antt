-- A certificate that was written is read again.
use Rattle.std.proofs.Common.{◌≡◌, ℕ, ◌+◌, true, false, List, [], ◌++◌, length, Result, Ok, refl, ap, subst, ◌∙◌, sym}
use Rattle.std.{proofs.Common.arith, specs.Prelude.{◌&&◌, map}}
use Rattle.item_terms.specs.{Items.{Contents, contents, nothing}, Words.begins_dash}
use Rattle.grammar_laws.proofs.ItemsAgain.{items_again}
use Rattle.dirdoc_grammar.specs.Writing.{AreWritable, NewItem, all_written, in_front, is_open, items_text}
use Rattle.frame_terms.specs.{Documents.{Document, document_of, finish}, Keywords.same, Rows.row}
use Rattle.frame_terms.specs.declared.{fault.ReadRefusal.ReadRefusal, row.Count.TheVariants.One}
use Rattle.frame_terms.specs.declared.keyword.Keyword.TheVariants as the
use Rattle.frame_values.specs.declared.values.Value.{Value}
use Rattle.frame_laws.proofs.{Ends.alone_read, Entries.item_of, Following.IsFirst, Places.after_all, ReadRows.Stand}
use Rattle.frame_laws.proofs.{Remembered.notes_nothing, Sections.entries_in, StandingParts.between_stands}
use Rattle.frame_laws.proofs.{TableRows.are_plain, WrittenRows.{is_closed, stand_written}}
use Rattle.authority_certs.specs.{Certs.cert_in, Heads.{head_of, head_with, no_head}, Reading.{max_cert, with_cert}}
use Rattle.authority_certs.specs.{Tables.cert_tables, Texts.{cert_items, cert_text}, declared.cert.Cert.Cert}
use Rattle.authority_certs.specs.declared.frame.CertKind.{CertKind, TheVariants.Version}
use Rattle.certificate_laws.specs.Again.{CertificatesAreReadAgain, IsInRange, as_written}
use Rattle.certificate_laws.proofs.CertRows.{HasCertificates, lone_certificate, cert_entries, cert_taken}
use Rattle.certificate_laws.proofs.CertRows.{certificate_ended, certificate_rows, certificate_same, certification}
use Rattle.certificate_laws.proofs.{CertRows.{last_row, suits_version}, CertSays.{cert_ends, certificate_says}}

-- what its items say that no other kind of document's do: nothing
abbrev Own : Type 0
Own = Unit {0}

abbrev itself : CertKind → CertKind
itself kind = kind

-- a document that is a certificate has one
plain : (cert : Cert) → are_plain cert_tables tt (certificate_rows itself cert) ≡ true
unfolding same
plain cert = refl

itself_has : HasCertificates cert_tables tt itself
itself_has = record {
  rows = refl;
  shape = refl;
  plain = plain;
  known = λ of item. refl;
  values = λ across of item. refl;
}

-- its last item has an object, so that no other may follow
closed : (cert : Cert) (rest : List ℕ)
    → (is_open (map item_of (cert_entries {W = Own} cert)) && begins_dash rest) ≡ false
closed cert rest = is_closed (entries_in (lone_certificate {W = Own} cert)) (certification cert) rest refl

-- what is kept says what the certificate says
kept_says : (cert : Cert) (rest : List ℕ) → IsInRange cert
    → cert_in (cert_text cert ++ rest) (head_of (cert_taken {W = Own} 0 cert)) ≡ as_written cert
kept_says cert rest are =
    let same_text = ap items_text (certificate_same Own cert) in
    let may = subst (λ (l : List NewItem). AreWritable max_cert 0 l) (certificate_same Own cert) are.items in
    let stand = stand_written max_cert (cert_entries {W = Own} cert) rest may (closed cert rest) in
    certificate_says cert_tables tt itself itself_has 0 cert are.says max_cert (cert_text cert ++ rest)
    (subst (λ (l : List ℕ). Stand max_cert (l ++ rest) 0 (cert_entries {W = Own} cert)) (sym same_text) stand)
    (between_stands [] (cert_text cert) rest)

-- the first item of a certificate
begins_it : IsFirst cert_tables (row the.DirKeyCertificateVersion One Version)
unfolding same
begins_it = record { begins = refl; row_there = refl }

-- it ends where its text ends
ends_there : (cert : Cert) → after_all 0 (cert_entries {W = Own} cert) ≡ length (cert_text cert)
ends_there cert = omega (arith, cert_ends Own 0 cert)

abbrev read_as : List ℕ → Result (Document (Unit {0}) (Value Own)) ReadRefusal → Result (Cert × ℕ) ReadRefusal
read_as bytes document = with_cert bytes (finish head_with no_head document)

abbrev answer : Cert → ℕ → Result (Cert × ℕ) ReadRefusal
answer cert used = Ok (cert, used)

pub certificates_again : CertificatesAreReadAgain
certificates_again cert rest are =
    let bytes = cert_text cert ++ rest in
    let after = contents max_cert (0 + length (cert_text cert)) nothing rest in
    let same_items = certificate_same Own cert in
    let closed_too =
    subst (λ (l : List NewItem). (is_open l && begins_dash rest) ≡ false) (sym same_items) (closed cert rest) in
    ap (λ (c : Contents). read_as bytes (document_of cert_tables (length bytes) c))
    (items_again max_cert 0 (cert_items cert) rest are.items closed_too)
    ∙ ap (λ (l : List NewItem). read_as bytes
    (document_of cert_tables (length bytes) (in_front (all_written 0 l) after))) same_items
    ∙ ap (λ (d : Result (Document (Unit {0}) (Value Own)) ReadRefusal). read_as bytes d)
    (alone_read cert_tables (length bytes) tt 0 (lone_certificate cert) (last_row itself)
    (certification cert) after.fault after.items
    (certificate_ended cert_tables tt itself itself_has cert are.says) tt refl begins_it
    (suits_version cert_tables tt itself itself_has tt 0)
    (notes_nothing cert_tables (λ across one. refl) tt (cert_taken 0 cert)))
    ∙ ap (λ (c : Cert). answer c (after_all 0 (cert_entries {W = Own} cert))) (kept_says cert rest are)
    ∙ ap (λ (n : ℕ). answer (as_written cert) n) (ends_there cert)
