-- A vote that was written is read: its document, and where it ends.
use Rattle.std.proofs.Common.{◌≡◌, ℕ, ◌+◌, ◌≤◌, false, List, [], ◌∷◌, ◌++◌, length, take, Option, None, Some, Result}
use Rattle.std.proofs.Common.{Ok, refl, sym, ap, subst, ◌∙◌, append_assoc, append-nil, arith}
use Rattle.std.{proofs.Math.Seq.{drop-append_seam, take-append_seam}, specs.Prelude.{◌&&◌, map}}
use Rattle.item_terms.specs.{Items.{Contents, Item, contents, nothing}, Words.begins_dash}
use Rattle.item_terms.specs.declared.fault.DocFault.{DocFault}
use Rattle.grammar_laws.proofs.ItemsAgain.{items_again}
use Rattle.dirdoc_grammar.specs.Writing.{NewItem, all_written, in_front, is_open, items_text, lacks_object, written}
use Rattle.frame_terms.specs.{Decisions.made_by, Documents.{document_of, finish, group, onto, read_items, start}}
use Rattle.frame_terms.specs.{Keywords.same, Sections.lacking_keyword, declared.document.Group.Group}
use Rattle.frame_terms.specs.declared.{document.Made.TheVariants.Enters, fault.ReadRefusal.ReadRefusal}
use Rattle.frame_terms.specs.declared.keyword.Keyword.TheVariants as the
use Rattle.frame_values.specs.declared.values.Value.{Value}
use Rattle.frame_laws.proofs.{Ends.{entering, first_ends, inside_read, taken_to-parts}, Entries.{after_one, all_taken}}
use Rattle.frame_laws.proofs.{Entries.{item_of, taken_at}, Following.{first_read, section_read}, Groups.groups_in}
use Rattle.frame_laws.proofs.{LastRows.section_to_whole, Both.both_hold, Passing.{EachPasses, notes_passing, rows_pass}}
use Rattle.frame_laws.proofs.{Remembered.{Notes, notes_both}, RowValues.text_entry_if, Places.after_all}
use Rattle.frame_laws.proofs.{Places.{after_all-append, both_written}, Sections.{entries_in, others_in}}
use Rattle.frame_laws.proofs.{Sections.{section_before_last, section_whole, taken_in}, Steps.opening}
use Rattle.frame_laws.proofs.WrittenRows.{ends_with_text, is_closed}
use Rattle.certificate_laws.proofs.CertRows.{certificate, certificate_ended, certificate_version, certification}
use Rattle.certificate_laws.proofs.{CertRows.last_row, CertSays.cert_ends}
use Rattle.value_groups.specs.declared.line.RandomLine.TheVariants as line
use Rattle.vote_terms.specs.{Votes.{ReadVote, max_vote}, declared.facts.SignatureFacts.SignatureFacts}
use Rattle.vote_terms.specs.declared.facts.VoteFacts.{VoteFacts}
use Rattle.vote_text.specs.Texts.{vote_items, vote_text}
use Rattle.blank_lines.specs.Behind.{behind}
use Rattle.vote_doc.specs.{Facts.vote_in, Kept.{kept_with, none_kept}, Reading.{vote_from, vote_of, with_facts}}
use Rattle.vote_doc.specs.declared.kept.Kept.{Kept}
use Rattle.vote_frame.specs.{Across.nothing_across, Tables.vote_tables, declared.frame.VoteSection.VoteSection}
use Rattle.vote_frame.specs.declared.frame.VoteSection.TheVariants.{Authority, Certificate, Footer, Preamble}
use Rattle.vote_frame.specs.declared.frame.VoteValue.{VoteValue}
use Rattle.vote_frame.specs.declared.frame.VoteKind.TheVariants as kind
use Rattle.vote_laws.{specs.Again.{HasValuesInRange, IsInRange}, proofs.{EntryRows.taken_parts, Heard.forgotten}}
use Rattle.vote_laws.proofs.{Heard.{is_quiet, is_quiet_kind, kinds_pass}, Values.values_in, VoteItems.VoteEntry}
use Rattle.vote_laws.proofs.VoteItems.{VotePart, VoteTaken, signature_entry, source_entry, suits_source, suits_version}
use Rattle.vote_laws.proofs.{VoteRandoms.{notes_randoms, random_if}, VotePlaces.{VoteDocument, all_kept}}
use Rattle.vote_laws.proofs.VotePlaces.{authority_place, certificate_place, entries_place, in_certificate, in_footer}
use Rattle.vote_laws.proofs.VotePlaces.{in_preamble, section_quiet, section_to_quiet, sections_of, vote_document}
use Rattle.vote_laws.proofs.{VotePlaces.{vote_end, vote_kept}, VoteRows.{authority, certificate_row, footer, preamble}}
use Rattle.vote_laws.proofs.{VoteRows.{preamble_rows, preamble_said}, VoteSame.{footer_entries, in_cert, in_list}}
use Rattle.vote_laws.proofs.{VoteSame.{vote_entries, vote_same}, VoteTail.{remembered, tail_read}}
use Rattle.vote_laws.proofs.VoteWritten.{authority_follows, authority_written, has_certificate, preamble_first}
use Rattle.vote_laws.proofs.VoteWritten.{preamble_written}

-- the certificate in its section
abbrev in_section : VoteFacts → VotePart
in_section facts = certificate Certificate kind.Certificate facts.certificate

-- the certificate passes not its limit
certificate_fits : (facts : VoteFacts) → IsInRange facts → entries_place facts ≤ certificate_place facts + 65536
certificate_fits facts are =
    let fits = are.certificate.fits in
    omega (arith, fits, cert_ends VoteValue (certificate_place facts) facts.certificate)

-- its first item begins it inside the section of its authority
certificate_made : (facts : VoteFacts) → IsInRange facts
    → made_by vote_tables (remembered facts)
    (opening Authority (taken_in (authority_place facts) (authority facts)) None)
    (written (certificate_place facts) (item_of {V = Value VoteValue} certificate_version))
    ≡ Ok (Enters Certificate (taken_at (certificate_place facts) certificate_version))
unfolding same
certificate_made facts are =
    let place = certificate_place facts in
    let before = authority_place facts in
    let next = after_one {V = Value VoteValue} place certificate_version in
    let near : next ≤ place + 65536 =
    less next (entries_place facts) (place + 65536)
    (first_ends place (in_section facts) (certification facts.certificate)) (certificate_fits facts are) in
    entering vote_tables (remembered facts) Authority Certificate (taken_at before (authority facts).opener)
    (others_in before (authority facts)) place certificate_version
    certificate_row (record { row_there = refl; not_last = refl; begins_nothing = refl }) refl
    (section_before_last vote_tables (authority facts) certificate_row before
    (authority_written facts (values_in facts are))) near
    (suits_version the.DirKeyCertificateVersion (remembered facts) place)
  where
    less : (a b c : ℕ) → a ≤ b → b ≤ c → a ≤ c
    less a b c first second = omega (arith, first, second)

-- what its authority's section has with that item lacks nothing
pub authority_whole : (facts : VoteFacts) → HasValuesInRange facts
    → lacking_keyword (vote_tables.rows Authority)
    (taken_in (authority_place facts) (authority facts) ++ taken_at (certificate_place facts) certificate_version ∷ [])
    ≡ None
authority_whole facts are =
    subst (λ (l : List VoteTaken). lacking_keyword (vote_tables.rows Authority) l ≡ None)
    (taken_to-parts (authority_place facts) (authority facts) certificate_version)
    (section_to_whole vote_tables (authority_place facts) (authority facts) certificate_row certificate_version
    (authority_written facts are) refl)

-- nothing is remembered of the preamble
pub preamble_quiet : (facts : VoteFacts) → HasValuesInRange facts → EachPasses is_quiet (entries_in (preamble facts))
preamble_quiet facts are =
    both_hold (λ place. refl)
    (rows_pass vote_tables is_quiet is_quiet_kind kinds_pass (preamble_rows facts) refl (preamble_said facts are))

-- the shared random values are remembered of the section of the authority
pub authority_notes : (place : ℕ) (facts : VoteFacts)
    → Notes vote_tables nothing_across (taken_in place (authority facts)) (remembered facts)
authority_notes place facts =
    let front = source_entry facts ∷ text_entry_if the.Contact facts.contact in
    let p = random_if line.Previous facts.random_previous in
    let c = random_if line.Current facts.random_current in
    let next = after_all place front in
    let quiet : EachPasses is_quiet front = both_hold (λ at. refl) (contact_quiet facts.contact) in
    subst (λ (l : List VoteTaken). Notes vote_tables nothing_across l (remembered facts))
    (sym (taken_parts place front p c)
    ∙ ap (λ (l : List VoteEntry). all_taken place (front ++ (p ++ l))) (sym (append-nil c)))
    (notes_both vote_tables nothing_across nothing_across (all_taken place front)
    (all_taken next p ++ all_taken (after_all next p) c) (remembered facts)
    (notes_passing vote_tables is_quiet forgotten nothing_across place front quiet)
    (notes_randoms next facts.random_previous facts.random_current))
  where
    contact_quiet : (contact : Option (List ℕ)) → EachPasses is_quiet (text_entry_if the.Contact contact)
    contact_quiet None = tt
    contact_quiet (Some text) = both_hold (λ at. refl) tt

-- the items of a vote make it
document_read : (length_ : ℕ) (facts : VoteFacts) (fault : Option DocFault) (more : List Item) → IsInRange facts
    → read_items vote_tables length_ nothing_across (start vote_tables) fault
    (all_written 0 (map item_of (vote_entries facts)) ++ more) ≡ Ok (vote_document facts)
document_read length_ facts fault more are =
    let none = nothing_across in
    let known = remembered facts in
    let p = entries_in (preamble facts) in
    let a = entries_in (authority facts) in
    let c = in_cert facts in
    let ef = in_list facts ++ footer_entries facts in
    let at_a = authority_place facts in
    let at_c = certificate_place facts in
    let at_e = entries_place facts in
    let in_p = in_preamble facts in
    let in_a = taken_in at_a (authority facts) in
    let one : VoteTaken = taken_at at_c certificate_version in
    let rest_a = all_written at_a (map item_of (a ++ (c ++ ef))) ++ more in
    let rest_c = all_written at_c (map item_of (c ++ ef)) ++ more in
    let rest_e = all_written at_e (map item_of ef) ++ more in
    let values = values_in facts are in
    let whole = preamble_written facts values in
    let source = authority_written facts values in
    let cert =
    certificate_ended vote_tables Certificate kind.Certificate has_certificate facts.certificate
    are.certificate.says in
    let quiet_p = preamble_quiet facts values in
    let quiet_c =
    section_to_quiet (in_section facts) (certification facts.certificate)
    (section_quiet (in_section facts) (λ n. refl) refl cert.written.said) (λ n. refl) in
    let entries = groups_in at_e (sections_of facts) ++ group Footer (in_footer facts) ∷ [] in
    ap (λ (l : List Item). read_items vote_tables length_ none (start vote_tables) fault l)
    (both_written 0 p (a ++ (c ++ ef)) more)
    ∙ first_read vote_tables length_ none none 0 (preamble facts) [] fault rest_a refl preamble_first whole
    (suits_version the.NetworkStatusVersion none 0) (notes_passing vote_tables is_quiet forgotten none 0 p quiet_p)
    ∙ ap (λ (l : List Item). read_items vote_tables length_ none (opening Preamble in_p None) fault l)
    (both_written at_a a (c ++ ef) more)
    ∙ section_read vote_tables length_ none known Preamble (taken_at 0 (preamble facts).opener)
    (others_in 0 (preamble facts)) at_a (authority facts)
    (certificate_row ∷ []) fault rest_c (section_whole vote_tables (preamble facts) 0 whole) authority_follows
    source (suits_source facts values none at_a) (authority_notes at_a facts)
    ∙ ap (λ (r : Result VoteDocument ReadRefusal). onto (group Preamble in_p) r)
    (ap (λ (l : List Item). read_items vote_tables length_ known (opening Authority in_a None) fault l)
    (both_written at_c c ef more)
    ∙ inside_read vote_tables length_ known at_c (in_section facts) (last_row kind.Certificate)
    (certification facts.certificate) fault rest_e cert
    known Authority (taken_at at_a (authority facts).opener) (others_in at_a (authority facts))
    (certificate_fits facts are)
    (certificate_made facts are) (notes_passing vote_tables is_quiet forgotten known at_c c quiet_c)
    ∙ ap (λ (r : Result VoteDocument ReadRefusal). onto (group Certificate (in_certificate facts)) r)
    (tail_read length_ at_e facts fault more are.entries are.signature (taken_at at_a (authority facts).opener)
    (others_in at_a (authority facts) ++ one ∷ []) (authority_whole facts values)
    ∙ ap (λ (l : List VoteTaken). with_authority_group l entries (vote_end facts))
    (sym (taken_to-parts at_a (authority facts) certificate_version))))
  where
    with_authority_group : List VoteTaken → List (Group VoteSection (Value VoteValue)) → ℕ
        → Result VoteDocument ReadRefusal
    with_authority_group taken groups used =
        Ok (record { groups = group Authority taken ∷ groups; used = used })

-- it ends where the vote's text ends
pub used_of : (facts : VoteFacts) → vote_end facts ≡ length (vote_text facts)
used_of facts =
    let p = entries_in (preamble facts) in
    let a = entries_in (authority facts) in
    let c = in_cert facts in
    let e = in_list facts in
    let f = footer_entries facts in
    sym (after_all-append 0 p (a ++ (c ++ (e ++ f)))
    ∙ after_all-append (authority_place facts) a (c ++ (e ++ f))
    ∙ after_all-append (certificate_place facts) c (e ++ f)
    ∙ after_all-append (entries_place facts) e f)
    ∙ ends_with_text (vote_entries facts)
    ∙ ap (λ (l : List NewItem). length (items_text l)) (sym (vote_same facts))

-- its last item has an object, so that no other may follow
pub has_object : (signature : SignatureFacts) → lacks_object (signature_entry signature).object ≡ false
has_object signature = refl

pub closed : (facts : VoteFacts) (rest : List ℕ) → (is_open (vote_items facts) && begins_dash rest) ≡ false
closed facts rest =
    let p = entries_in (preamble facts) in
    let a = entries_in (authority facts) in
    let c = in_cert facts in
    let e = in_list facts in
    let f = entries_in footer in
    let last = signature_entry facts.signature in
    ap (λ (l : List NewItem). is_open l && begins_dash rest)
    (vote_same facts ∙ ap (map item_of) (joined p a c e f (last ∷ [])))
    ∙ is_closed (p ++ (a ++ (c ++ (e ++ f)))) last rest (has_object facts.signature)
  where
    joined : (p a c e f l : List VoteEntry)
        → p ++ (a ++ (c ++ (e ++ (f ++ l)))) ≡ (p ++ (a ++ (c ++ (e ++ f)))) ++ l
    joined p a c e f l = simp append_assoc refl

-- what is read of a document of these bytes
abbrev pub read_as : List ℕ → Result VoteDocument ReadRefusal → Result (ReadVote × ℕ) ReadRefusal
read_as bytes document = with_facts bytes (finish kept_with none_kept document)

-- what is kept is the answer
abbrev pub answer : Kept → List ℕ → ℕ → Result (ReadVote × ℕ) ReadRefusal
answer kept bytes end = Ok (vote_in (take end bytes) kept, end)

-- the vote that a text is
abbrev pub text_vote : VoteFacts → ReadVote
text_vote facts = vote_in (vote_text facts) (vote_kept facts)

-- a vote that was written is read, whatever stands behind it, and ends where its text ends
text_read : (facts : VoteFacts) (rest : List ℕ) → IsInRange facts
    → vote_of (vote_text facts ++ rest) ≡ Ok (text_vote facts, length (vote_text facts))
text_read facts rest are =
    let text = vote_text facts in
    let all = text ++ rest in
    let items = vote_items facts in
    let after = contents max_vote (0 + length text) nothing rest in
    ap (λ (c : Contents). read_as all (document_of vote_tables (length all) c))
    (items_again max_vote 0 items rest are.items (closed facts rest))
    ∙ ap (λ (l : List NewItem). read_as all (document_of vote_tables (length all) (in_front (all_written 0 l) after)))
    (vote_same facts)
    ∙ ap (λ (d : Result VoteDocument ReadRefusal). read_as all d)
    (document_read (length all) facts after.fault after.items are)
    ∙ ap (λ (k : Kept). answer k all (vote_end facts)) (all_kept facts are)
    ∙ ap (λ (n : ℕ). answer (vote_kept facts) all n) (used_of facts)
    ∙ ap (λ (l : List ℕ). Ok (vote_in l (vote_kept facts), length text)) (take-append_seam text rest)

-- and whatever stands before it
pub vote_read : (front : List ℕ) (facts : VoteFacts) (rest : List ℕ) → IsInRange facts
    → vote_from (length front) (front ++ (vote_text facts ++ rest))
    ≡ Ok (text_vote facts, length front + length (vote_text facts))
vote_read front facts rest are =
    ap (λ (l : List ℕ). behind (length front) (vote_of l)) (drop-append_seam front (vote_text facts ++ rest))
    ∙ ap (behind (length front)) (text_read facts rest are)
