-- A vote that was written is read again.
use Rattle.std.proofs.Common.{◌≡◌, ℕ, false, List, [], ◌∷◌, ◌++◌, length, take, drop, refl, sym, ap, subst, ◌∙◌}
use Rattle.std.{proofs.{Common.{append_assoc, append-nil}, lemmas.List.map-append}, specs.Prelude.{◌&&◌, map}}
use Rattle.item_terms.specs.Words.{begins_dash}
use Rattle.dirdoc_grammar.specs.Writing.{AreWritable, NewItem, is_open, items_text}
use Rattle.frame_terms.specs.Keywords.{same}
use Rattle.frame_values.proofs.ItemsTexts.{sections}
use Rattle.frame_laws.proofs.{Ends.entries_to, Entries.item_of, LastRows.section_to_is_read, Places.after_all-append}
use Rattle.frame_laws.proofs.{ReadRows.{Stand, both_stand}, SaidRows.{entries_of, row_once}, Sections.entries_in}
use Rattle.frame_laws.proofs.{Sections.{rows_in, section_is_read}, StandingParts.between_stands}
use Rattle.frame_laws.proofs.WrittenRows.{ends_with_text, stand_written, text_of_entries}
use Rattle.authority_certs.specs.Texts.{cert_text}
use Rattle.certificate_laws.proofs.CertRows.{certificate_rows, certificate_same, certificate_version, certification}
use Rattle.certificate_laws.{proofs.CertSays.{certificate_says, whole_is}, specs.Again.as_written}
use Rattle.vote_terms.specs.{declared.facts.VoteFacts.VoteFacts, Votes.max_vote}
use Rattle.vote_text.specs.Texts.{vote_text}
use Rattle.vote_frame.specs.{Tables.vote_tables, declared.frame.VoteSection.TheVariants.Certificate}
use Rattle.vote_frame.specs.declared.frame.VoteValue.{VoteValue}
use Rattle.vote_frame.specs.declared.frame.VoteKind.TheVariants as kind
use Rattle.vote_laws.{specs.Again.{IsInRange, IsReadBack, VotesAreReadAgain, as_read}, proofs.EntryKept.entries_say}
use Rattle.vote_laws.proofs.{EntryKept.kept_list, VoteRows.{authority, certificate_row, facts_said, footer, front_read}}
use Rattle.vote_laws.proofs.{VoteRows.preamble, Values.values_in, VoteItems.{VoteEntry, signature_entry, signature_row}}
use Rattle.vote_laws.proofs.VotePlaces.{authority_place, certificate_place, entries_place, footer_place, in_authority}
use Rattle.vote_laws.proofs.{VotePlaces.{in_certificate, in_footer, in_preamble, vote_end, vote_kept}, VoteRead.closed}
use Rattle.vote_laws.proofs.{VoteRead.{text_vote, used_of, vote_read}, VoteSame.{footer_entries, in_cert, in_list}}
use Rattle.vote_laws.proofs.{VoteSame.{vote_entries, vote_same}, VoteSigned.{begins_at, from_first, signed_is}}
use Rattle.vote_laws.proofs.VoteWritten.{authority_written, footer_ended, has_certificate, preamble_written}

-- the items of a vote stand in its text
all_stand : (facts : VoteFacts) → IsInRange facts → Stand max_vote (vote_text facts) 0 (vote_entries facts)
all_stand facts are =
    let same_items = vote_same facts in
    subst (λ (l : List ℕ). Stand max_vote l 0 (vote_entries facts))
    (append-nil (text_of_entries (vote_entries facts)) ∙ ap items_text (sym same_items))
    (stand_written max_vote (vote_entries facts) []
    (subst (λ (l : List NewItem). AreWritable max_vote 0 l) same_items are.items)
    (subst (λ (l : List NewItem). (is_open l && begins_dash []) ≡ false) same_items (closed facts [])))

-- the certificate's text stands in the vote's where its section begins
certificate_stands : (facts : VoteFacts)
    → take (length (cert_text facts.certificate)) (drop (certificate_place facts) (vote_text facts))
    ≡ cert_text facts.certificate
certificate_stands facts =
    let p = entries_in (preamble facts) in
    let a = entries_in (authority facts) in
    let c = in_cert facts in
    let f = in_list facts ++ footer_entries facts in
    let before = text_of_entries (p ++ a) in
    let cert = cert_text facts.certificate in
    let shape : vote_text facts ≡ before ++ (cert ++ text_of_entries f) =
    ap items_text
    (vote_same facts ∙ ap (map item_of) (sym (append_assoc p a (c ++ f))) ∙ map-append item_of (p ++ a) (c ++ f))
    ∙ sections (map item_of (p ++ a)) (map item_of (c ++ f))
    ∙ ap (λ (l : List ℕ). before ++ l)
    (ap items_text (map-append item_of c f) ∙ sections (map item_of c) (map item_of f)
    ∙ ap (λ (l : List NewItem). items_text l ++ text_of_entries f)
    (sym (certificate_same VoteValue facts.certificate))) in
    let place : certificate_place facts ≡ length before = sym (after_all-append 0 p a) ∙ ends_with_text (p ++ a) in
    ap (λ (n : ℕ). take (length cert) (drop n (vote_text facts))) place
    ∙ ap (λ (l : List ℕ). take (length cert) (drop (length before) l)) shape
    ∙ between_stands before cert (text_of_entries f)

-- what is kept says what the vote says
kept_says : (facts : VoteFacts) → IsInRange facts → (text_vote facts).says ≡ as_read facts
unfolding same
kept_says facts are =
    let text = vote_text facts in
    let p = entries_in (preamble facts) in
    let a = entries_in (authority facts) in
    let c = in_cert facts in
    let e = in_list facts in
    let f = footer_entries facts in
    let one : VoteEntry = certificate_version in
    let at_a = authority_place facts in
    let at_c = certificate_place facts in
    let at_e = entries_place facts in
    let from_p = both_stand max_vote text 0 p (a ++ (c ++ (e ++ f))) (all_stand facts are) in
    let from_a = both_stand max_vote text at_a a (c ++ (e ++ f)) from_p.back in
    let from_c = both_stand max_vote text at_c c (e ++ f) from_a.back in
    let from_e = both_stand max_vote text at_e e f from_c.back in
    let others : List VoteEntry =
    entries_of (certificate_rows kind.Certificate facts.certificate) ++ certification facts.certificate ∷ [] in
    let more = others ++ (e ++ f) in
    let to_one = (both_stand max_vote text at_a (entries_to (authority facts) one) more
    (subst (λ (l : List VoteEntry). Stand max_vote text at_a l)
    (sym (append_assoc a (one ∷ []) more)) from_p.back)).front in
    let ended = footer_ended facts.signature are.signature in
    let values = values_in facts are in
    let authority_read =
    section_to_is_read vote_tables at_a (authority facts) certificate_row one (authority_written facts values) refl
    max_vote text to_one in
    facts_said facts values (in_preamble facts) (in_certificate facts) (in_authority facts) (in_footer facts)
    (kept_list at_e facts.entries) (as_written facts.certificate)
    (section_is_read vote_tables max_vote text 0 (preamble facts) [] (preamble_written facts values) from_p.front)
    (front_read (rows_in (authority facts)) (row_once certificate_row one ∷ []) authority_read)
    (section_to_is_read vote_tables (footer_place facts) footer signature_row
    (signature_entry facts.signature) ended.written refl max_vote text from_e.back)
    (certificate_says vote_tables Certificate kind.Certificate has_certificate at_c facts.certificate
    are.certificate.says max_vote text from_c.front (certificate_stands facts))
    (entries_say max_vote text at_e facts.entries are.entries.each from_e.front)

-- ---- its bytes

ends_at : (facts : VoteFacts) → (vote_kept facts).head.end ≡ vote_end facts
unfolding same
ends_at facts = refl

-- the vote's bytes are its text
kept_whole : (facts : VoteFacts) → (text_vote facts).whole ≡ vote_text facts
kept_whole facts =
    let head = (vote_kept facts).head in
    from_first (vote_text facts) (vote_text facts) [] head.begin head.end (begins_at facts)
    (ends_at facts ∙ used_of facts) (sym (append-nil (vote_text facts)))

pub votes_again : VotesAreReadAgain
votes_again front facts rest below are =
    let back : IsReadBack facts (text_vote facts) = record {
      says = kept_says facts are;
      whole = kept_whole facts;
      signed = signed_is facts are;
      certificate_bytes =
          whole_is vote_tables Certificate kind.Certificate has_certificate (certificate_place facts)
          facts.certificate are.certificate.says (vote_text facts) (certificate_stands facts);
    } in
    (text_vote facts, vote_read front facts rest are, back)
