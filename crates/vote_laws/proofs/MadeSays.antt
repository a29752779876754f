-- What is kept of a vote that was made says what it says.
use Rattle.std.proofs.Common.{◌≡◌, ℕ, ◌+◌, true, List, [], ◌∷◌, ◌++◌, length, refl, sym, ap, subst, ◌∙◌, append_assoc}
use Rattle.std.proofs.{Common.append-nil, lemmas.List.length-append}
use Rattle.item_terms.specs.Words.{first_is, is_letter_or_digit}
use Rattle.frame_terms.specs.Keywords.{same}
use Rattle.frame_laws.proofs.{LastRows.section_to_is_read, ReadRows.{Stand, both_stand}, Sections.entries_in}
use Rattle.frame_laws.proofs.{Sections.section_is_read, WrittenRows.{stand_behind, stand_written}}
use Rattle.authority_certs.specs.{Certs.cert_in, Heads.head_of}
use Rattle.vote_terms.specs.{declared.facts.VoteFacts.VoteFacts, Votes.max_vote}
use Rattle.vote_text.specs.Made.{made_text}
use Rattle.vote_frame.specs.Tables.{vote_tables}
use Rattle.vote_laws.proofs.{EntryKept.{entries_say, kept_list}, VoteRows.{authority, certificate_row, facts_said}}
use Rattle.vote_laws.proofs.{VoteRows.{footer, preamble}, VoteItems.{signature_entry, signature_row}}
use Rattle.vote_laws.proofs.VotePlaces.{authority_place, footer_from, footer_taken, in_preamble}
use Rattle.vote_laws.proofs.{VoteSame.{footer_entries, in_list}, MadeKept.{in_authority_alone, made_place}}
use Rattle.vote_laws.proofs.MadeRead.{InVote, before_closed, before_may, behind_closed, behind_may, given_first}
use Rattle.vote_laws.proofs.{MadeRead.{given_taken, made_vote}, MadeTexts.{before_entries, before_text, behind_entries}}
use Rattle.vote_laws.proofs.{MadeTexts.{behind_text, text_parts}, VoteWritten.{authority_written, footer_ended}}
use Rattle.vote_laws.{proofs.VoteWritten.preamble_written, specs.Made.IsMadeInRange}

module _ (facts : VoteFacts) (bytes : List ℕ) (first : first_is is_letter_or_digit bytes ≡ true)
    (are : IsMadeInRange facts bytes) where
  abbrev text : List ℕ
  text = made_text facts bytes

  -- the items before the certificate stand in the text
  before_stand : Stand max_vote text 0 (before_entries facts)
  before_stand =
      subst (λ (l : List ℕ). Stand max_vote l 0 (before_entries facts)) (sym (text_parts facts bytes))
      (stand_written max_vote (before_entries facts) (bytes ++ behind_text facts) (before_may facts bytes are)
      (before_closed facts bytes (behind_text facts) first))

  abbrev front : List ℕ
  front = before_text facts ++ bytes

  -- and those behind it
  behind_stand : Stand (length front + max_vote) text (made_place facts bytes) (behind_entries facts)
  behind_stand =
      let limit = length front + max_vote in
      let whole : front ++ (behind_text facts ++ []) ≡ text =
      ap (λ (l : List ℕ). front ++ l) (append-nil (behind_text facts))
      ∙ append_assoc (before_text facts) bytes (behind_text facts) ∙ sym (text_parts facts bytes) in
      subst (λ (n : ℕ). Stand limit text n (behind_entries facts)) (length-append (before_text facts) bytes)
      (subst (λ (l : List ℕ). Stand limit l (length front) (behind_entries facts)) whole
      (stand_behind front max_vote (behind_entries facts) [] (behind_may facts bytes are) (behind_closed facts [])))

  -- what is kept says what the vote says
  pub made_says : (stand : InVote facts bytes)
      → cert_in text (head_of (given_first facts bytes stand ∷ given_taken facts bytes stand)) ≡ facts.certificate
      → (made_vote facts bytes stand).says ≡ facts
  unfolding same
  made_says stand certificate =
      let values = are.values in
      let later = length front + max_vote in
      let at_a = authority_place facts in
      let at_e = made_place facts bytes in
      let before =
      both_stand max_vote text 0 (entries_in (preamble facts)) (entries_in (authority facts)) before_stand in
      let behind = both_stand later text at_e (in_list facts) (footer_entries facts) behind_stand in
      let ended = footer_ended facts.signature values.signature in
      facts_said facts values (in_preamble facts) (given_first facts bytes stand ∷ given_taken facts bytes stand)
      (in_authority_alone facts) (footer_taken at_e facts) (kept_list at_e facts.entries) facts.certificate
      (section_is_read vote_tables max_vote text 0 (preamble facts) [] (preamble_written facts values) before.front)
      (section_is_read vote_tables max_vote text at_a (authority facts) (certificate_row ∷ [])
      (authority_written facts values) before.back)
      (section_to_is_read vote_tables (footer_from at_e facts) footer signature_row
      (signature_entry facts.signature) ended.written refl later text behind.back)
      certificate
      (entries_say later text at_e facts.entries values.entries.each behind.front)
