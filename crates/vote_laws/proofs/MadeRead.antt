-- The text of a vote that was made is read.
use Rattle.std.proofs.Common.{◌≡◌, ℕ, ◌+◌, ◌≤◌, true, false, List, [], ◌∷◌, ◌++◌, length, take, Option, None, Result}
use Rattle.std.proofs.{Common.{Ok, refl, sym, ap, subst, ◌∙◌, arith, append_assoc}, lemmas.Bool.and_right}
use Rattle.std.{proofs.{lemmas.List.length-append, Math.Seq.{drop-append_seam, take-append_seam}}, specs.Prelude.map}
use Rattle.std.specs.Prelude.{◌&&◌}
use Rattle.item_terms.specs.{Items.{Contents, Item, contents, nothing}, Words.{begins_dash, first_is}}
use Rattle.item_terms.specs.{Words.is_letter_or_digit, declared.fault.DocFault.DocFault}
use Rattle.dirdoc_grammar.specs.Writing.{AreWritable, NewItem, all_written, in_front, is_open}
use Rattle.grammar_laws.{proofs.{ItemsAgain.items_again, WrittenBytes.differs}, specs.Moved.moved_item}
use Rattle.frame_terms.specs.{Documents.{document_of, group, onto, read_items, start}, Sections.lacking_keyword}
use Rattle.frame_terms.specs.{Sections.stands, declared.fault.ReadRefusal.ReadRefusal}
use Rattle.frame_terms.specs.declared.keyword.Keyword.TheVariants as the
use Rattle.frame_laws.proofs.{Entries.{item_of, taken_at}, Following.{first_read, section_read}, Passing.notes_passing}
use Rattle.frame_laws.proofs.{Places.{after_all-append, both_written}, Sections.{entries_in, others_in}}
use Rattle.frame_laws.proofs.{Sections.{section_before_last, section_whole}, WrittenRows.{ends_behind, is_closed}}
use Rattle.certificate_laws.{proofs.CertRows.certificate_version, specs.{Inside.StandsInside, Lifted.moved_taken}}
use Rattle.vote_terms.specs.{Votes.{ReadVote, max_vote}, declared.facts.VoteFacts.VoteFacts}
use Rattle.vote_text.specs.Made.{made_text}
use Rattle.blank_lines.specs.Behind as places
use Rattle.vote_doc.specs.{Facts.vote_in, Reading.{vote_from, vote_of}, declared.kept.Kept.Kept}
use Rattle.vote_frame.specs.{Across.nothing_across, Tables.vote_tables}
use Rattle.vote_frame.specs.declared.frame.VoteSection.TheVariants.{Authority, Certificate, Preamble}
use Rattle.vote_laws.{specs.{Again.HasValuesInRange, Made.IsMadeInRange}, proofs.Heard.{forgotten, is_quiet}}
use Rattle.vote_laws.proofs.VoteItems.{VoteEntry, VoteTaken, signature_entry, suits_source, suits_version}
use Rattle.vote_laws.proofs.VotePlaces.{VoteDocument, authority_place, certificate_place, end_from, in_preamble}
use Rattle.vote_laws.proofs.VoteRead.{answer, authority_notes, authority_whole, has_object, preamble_quiet, read_as}
use Rattle.vote_laws.proofs.{VoteRows.{authority, certificate_row, footer, preamble}, VoteSame.footer_entries}
use Rattle.vote_laws.proofs.{VoteSame.in_list, VoteTail.{remembered, tail_read}, MadeKept.in_authority_alone}
use Rattle.vote_laws.proofs.MadeKept.{lacking_same, made_all_kept, made_document, made_kept, made_place}
use Rattle.vote_laws.proofs.MadeTexts.{before_entries, before_same, before_text, behind_entries, behind_same}
use Rattle.vote_laws.proofs.{MadeTexts.{behind_text, text_parts, writable_at}, VoteWritten.authority_follows}
use Rattle.vote_laws.proofs.VoteWritten.{authority_written, preamble_first, preamble_written}

-- the bytes of a certificate stand in a vote
abbrev pub InVote : VoteFacts → List ℕ → Type 0
InVote facts bytes = StandsInside vote_tables Authority Certificate bytes facts.certificate

-- what is taken of them there
abbrev pub given_first : (facts : VoteFacts) (bytes : List ℕ) → InVote facts bytes → VoteTaken
given_first facts bytes stand = moved_taken (length (before_text facts)) stand.first

abbrev pub given_taken : (facts : VoteFacts) (bytes : List ℕ) → InVote facts bytes → List VoteTaken
given_taken facts bytes stand = map (moved_taken (length (before_text facts))) stand.taken

module _ (facts : VoteFacts) (bytes : List ℕ) (stand : InVote facts bytes) (are : HasValuesInRange facts) where
  -- the certificate stands not yet in the section of its authority
  none_before : stands the.DirKeyCertificateVersion (in_authority_alone facts) ≡ false
  none_before =
      section_before_last vote_tables (authority facts) certificate_row (authority_place facts)
      (authority_written facts are)

  -- with its first item that section lacks nothing
  lacks_nothing : lacking_keyword (vote_tables.rows Authority) (in_authority_alone facts ++ given_first facts bytes stand ∷ [])
      ≡ None
  lacks_nothing =
      lacking_same (vote_tables.rows Authority) (in_authority_alone facts) (given_first facts bytes stand)
      (taken_at (certificate_place facts) certificate_version) stand.opens
      ∙ authority_whole facts are

  -- the items make the document
  document_read : (length_ : ℕ) (fault : Option DocFault) (more : List Item)
      → read_items vote_tables length_ nothing_across (start vote_tables) fault
      (all_written 0 (map item_of (before_entries facts))
      ++ (map (moved_item (length (before_text facts))) stand.items
      ++ (all_written (made_place facts bytes) (map item_of (behind_entries facts)) ++ more)))
      ≡ Ok (made_document facts bytes (given_first facts bytes stand) (given_taken facts bytes stand))
  document_read length_ fault more =
      let none = nothing_across in
      let known = remembered facts in
      let p = entries_in (preamble facts) in
      let a = entries_in (authority facts) in
      let at_a = authority_place facts in
      let at_c = length (before_text facts) in
      let at_e = made_place facts bytes in
      let in_p = in_preamble facts in
      let one : VoteTaken = taken_at at_a (authority facts).opener in
      let rest_e = all_written at_e (map item_of (behind_entries facts)) ++ more in
      let rest_c = map (moved_item at_c) stand.items ++ rest_e in
      let rest_a = all_written at_a (map item_of a) ++ rest_c in
      let wrote = preamble_written facts are in
      ap (λ (l : List Item). read_items vote_tables length_ none (start vote_tables) fault l)
      (both_written 0 p a rest_c)
      ∙ first_read vote_tables length_ none none 0 (preamble facts) [] fault rest_a refl preamble_first wrote
      (suits_version the.NetworkStatusVersion none 0)
      (notes_passing vote_tables is_quiet forgotten none 0 p (preamble_quiet facts are))
      ∙ section_read vote_tables length_ none known Preamble (taken_at 0 (preamble facts).opener)
      (others_in 0 (preamble facts)) at_a (authority facts) (certificate_row ∷ []) fault rest_c
      (section_whole vote_tables (preamble facts) 0 wrote) authority_follows (authority_written facts are)
      (suits_source facts are none at_a) (authority_notes at_a facts)
      ∙ ap (λ (r : Result VoteDocument ReadRefusal). onto (group Preamble in_p) r)
      (stand.section_there at_c length_ known one (others_in at_a (authority facts)) fault rest_e none_before
      ∙ ap (λ (r : Result VoteDocument ReadRefusal). onto
      (group Certificate (given_first facts bytes stand ∷ given_taken facts bytes stand)) r)
      (tail_read length_ at_e facts fault more are.entries are.signature one
      (others_in at_a (authority facts) ++ given_first facts bytes stand ∷ []) lacks_nothing))

-- ---- the items of the text

no_dash : (bytes more : List ℕ) → first_is is_letter_or_digit bytes ≡ true → begins_dash (bytes ++ more) ≡ false
no_dash [] more first = absurd (cc first)
no_dash (b ∷ bytes) more first = differs is_letter_or_digit 45 b refl first

-- the text ends so far behind the certificate's bytes
text_ends : (facts : VoteFacts) (bytes : List ℕ)
    → made_place facts bytes + length (behind_text facts) ≡ length (made_text facts bytes)
text_ends facts bytes =
    sums (length (before_text facts)) (length bytes) (length (behind_text facts)) (length (bytes ++ behind_text facts))
    (length (made_text facts bytes)) (length-append bytes (behind_text facts))
    (ap (λ (l : List ℕ). length l) (text_parts facts bytes)
    ∙ length-append (before_text facts) (bytes ++ behind_text facts))
  where
    sums : (a b c more all : ℕ) → more ≡ b + c → all ≡ a + more → a + b + c ≡ all
    sums a b c more all size whole = omega (arith, size, whole)

-- and the items behind it end there
pub ends_at : (facts : VoteFacts) (bytes : List ℕ)
    → end_from (made_place facts bytes) facts ≡ length (made_text facts bytes)
ends_at facts bytes =
    let place = made_place facts bytes in
    sym (after_all-append place (in_list facts) (footer_entries facts)) ∙ ends_behind place (behind_entries facts)
    ∙ text_ends facts bytes

module _ (facts : VoteFacts) (bytes : List ℕ) (are : IsMadeInRange facts bytes) where
  within : made_place facts bytes + length (behind_text facts) ≤ max_vote
  within = subst (λ (n : ℕ). n ≤ max_vote) (sym (text_ends facts bytes)) are.fits

  -- the items may stand where they do
  pub before_may : AreWritable max_vote 0 (map item_of (before_entries facts))
  before_may = subst (λ (l : List NewItem). AreWritable max_vote 0 l) (before_same facts) are.before

  pub behind_may : AreWritable max_vote 0 (map item_of (behind_entries facts))
  behind_may = subst (λ (l : List NewItem). AreWritable max_vote 0 l) (behind_same facts) are.behind

  later_may : AreWritable max_vote (made_place facts bytes) (map item_of (behind_entries facts))
  later_may = writable_at max_vote 0 (made_place facts bytes) (map item_of (behind_entries facts)) behind_may within

  -- the certificate passes not the limit of a vote
  bytes_fit : made_place facts bytes ≤ max_vote
  bytes_fit = shorter (made_place facts bytes) (length (behind_text facts)) max_vote within
    where
      shorter : (a b most : ℕ) → a + b ≤ most → a ≤ most
      shorter a b most le = omega (arith, le)

pub before_closed : (facts : VoteFacts) (bytes more : List ℕ) → first_is is_letter_or_digit bytes ≡ true
    → (is_open (map item_of (before_entries facts)) && begins_dash (bytes ++ more)) ≡ false
before_closed facts bytes more first =
    and_right (is_open (map item_of (before_entries facts))) (begins_dash (bytes ++ more)) (no_dash bytes more first)

pub behind_closed : (facts : VoteFacts) (rest : List ℕ)
    → (is_open (map item_of (behind_entries facts)) && begins_dash rest) ≡ false
behind_closed facts rest =
    let last = signature_entry facts.signature in
    ap (λ (l : List VoteEntry). is_open (map item_of l) && begins_dash rest)
    (sym (append_assoc (in_list facts) (entries_in footer) (last ∷ [])))
    ∙ is_closed (in_list facts ++ entries_in footer) last rest (has_object facts.signature)

-- the contents of the text
made_contents : (facts : VoteFacts) (bytes rest : List ℕ) (stand : InVote facts bytes)
    → first_is is_letter_or_digit bytes ≡ true → IsMadeInRange facts bytes
    → contents max_vote 0 nothing (made_text facts bytes ++ rest)
    ≡ in_front (all_written 0 (map item_of (before_entries facts)))
    (in_front (map (moved_item (length (before_text facts))) stand.items)
    (in_front (all_written (made_place facts bytes) (map item_of (behind_entries facts)))
    (contents max_vote (made_place facts bytes + length (behind_text facts)) nothing rest)))
made_contents facts bytes rest stand first are =
    let place = length (before_text facts) in
    let before = map item_of (before_entries facts) in
    let behind = map item_of (behind_entries facts) in
    let more = bytes ++ (behind_text facts ++ rest) in
    let here : 0 + place ≡ place = omega arith in
    ap (λ (l : List ℕ). contents max_vote 0 nothing l)
    (ap (λ (l : List ℕ). l ++ rest) (text_parts facts bytes)
    ∙ joined (before_text facts) bytes (behind_text facts) rest)
    ∙ items_again max_vote 0 before more (before_may facts bytes are)
    (before_closed facts bytes (behind_text facts ++ rest) first)
    ∙ ap (λ (n : ℕ). in_front (all_written 0 before) (contents max_vote n nothing more)) here
    ∙ ap (λ (c : Contents). in_front (all_written 0 before) c)
    (stand.items_there max_vote place (behind_text facts ++ rest) (bytes_fit facts bytes are)
    ∙ ap (λ (c : Contents). in_front (map (moved_item place) stand.items) c)
    (items_again max_vote (made_place facts bytes) behind rest (later_may facts bytes are) (behind_closed facts rest)))
  where
    joined : (a b c r : List ℕ) → (a ++ (b ++ c)) ++ r ≡ a ++ (b ++ (c ++ r))
    joined a b c r = simp append_assoc refl

-- ---- the text

-- what is kept of a made vote
abbrev pub given_kept : (facts : VoteFacts) (bytes : List ℕ) → InVote facts bytes → Kept
given_kept facts bytes stand =
    made_kept facts bytes (given_first facts bytes stand ∷ given_taken facts bytes stand)

-- the vote that its text is
abbrev pub made_vote : (facts : VoteFacts) (bytes : List ℕ) → InVote facts bytes → ReadVote
made_vote facts bytes stand = vote_in (made_text facts bytes) (given_kept facts bytes stand)

-- it is read, whatever stands behind it, and ends where its text ends
text_read : (facts : VoteFacts) (bytes rest : List ℕ) (stand : InVote facts bytes)
    → first_is is_letter_or_digit bytes ≡ true → IsMadeInRange facts bytes
    → vote_of (made_text facts bytes ++ rest) ≡ Ok (made_vote facts bytes stand, length (made_text facts bytes))
text_read facts bytes rest stand first are =
    let text = made_text facts bytes in
    let all = text ++ rest in
    let kept = given_kept facts bytes stand in
    let after = contents max_vote (made_place facts bytes + length (behind_text facts)) nothing rest in
    ap (λ (c : Contents). read_as all (document_of vote_tables (length all) c))
    (made_contents facts bytes rest stand first are)
    ∙ ap (λ (d : Result VoteDocument ReadRefusal). read_as all d)
    (document_read facts bytes stand are.values (length all) after.fault after.items)
    ∙ ap (λ (k : Kept). answer k all (end_from (made_place facts bytes) facts))
    (made_all_kept facts bytes (given_first facts bytes stand) (given_taken facts bytes stand) stand.opens
    are.values.entries)
    ∙ ap (λ (n : ℕ). answer kept all n) (ends_at facts bytes)
    ∙ ap (λ (l : List ℕ). Ok (vote_in l kept, length text)) (take-append_seam text rest)

-- and whatever stands before it
pub made_read : (front : List ℕ) (facts : VoteFacts) (bytes rest : List ℕ) (stand : InVote facts bytes)
    → first_is is_letter_or_digit bytes ≡ true → IsMadeInRange facts bytes
    → vote_from (length front) (front ++ (made_text facts bytes ++ rest))
    ≡ Ok (made_vote facts bytes stand, length front + length (made_text facts bytes))
made_read front facts bytes rest stand first are =
    let all = made_text facts bytes ++ rest in
    ap (λ (l : List ℕ). places.behind (length front) (vote_of l)) (drop-append_seam front all)
    ∙ ap (places.behind (length front)) (text_read facts bytes rest stand first are)
