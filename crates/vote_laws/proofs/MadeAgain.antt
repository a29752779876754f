-- A vote that was made is read again.
use Rattle.std.proofs.Common.{◌≡◌, ℕ, ◌+◌, ◌-◌, ◌^◌, ◌≤◌, true, List, [], ◌∷◌, ◌++◌, length, refl, sym, ap, ◌∙◌}
use Rattle.std.{proofs.{Common.{append-nil, arith}, lemmas.List.length-append}, specs.Prelude.{codes, min}}
use Rattle.item_terms.specs.Words.{first_is, is_letter_or_digit}
use Rattle.frame_terms.specs.Keywords.{same}
use Rattle.frame_laws.proofs.{LastRows.last_item, Places.after_all-append, Sections.{end_of, entries_in}}
use Rattle.frame_laws.proofs.WrittenRows.{ends_behind}
use Rattle.authority_certs.specs.{Certs.{cert_in, whole_part}, Heads.head_of}
use Rattle.vote_terms.specs.declared.facts.VoteFacts.{VoteFacts}
use Rattle.vote_text.specs.Made.{made_signed, made_text, signature_rest}
use Rattle.vote_doc.specs.{Heads.signed_to, declared.kept.Kept.Kept}
use Rattle.vote_frame.specs.{Tables.vote_tables, declared.frame.VoteValue.VoteValue}
use Rattle.vote_laws.proofs.{VoteItems.{VoteTaken, signature_entry, signature_row}, VotePlaces.{end_from, footer_from}}
use Rattle.vote_laws.proofs.{VoteRows.footer, VoteSame.in_list, VoteSigned.from_first, MadeKept.made_place}
use Rattle.vote_laws.proofs.MadeRead.{InVote, ends_at, given_first, given_kept, given_taken, made_read, made_vote}
use Rattle.vote_laws.proofs.{MadeSays.made_says, MadeTexts.{before_text, behind_text, signed_parts, text_parts}}
use Rattle.vote_laws.{proofs.{MadeTexts.unsigned_behind, VoteWritten.footer_ended}, specs.Made.IsMadeInRange}
use Rattle.vote_laws.specs.Made.{IsMadeVote, MadeVotesAreRead}
use Rattle.certificate_laws.{specs.Within.SayTheSame, proofs.{InVotes.given_stand, MovedParts.certs_say}}

module _ (facts : VoteFacts) (bytes : List ℕ) (stand : InVote facts bytes)
    (first : first_is is_letter_or_digit bytes ≡ true) (are : IsMadeInRange facts bytes) where
  abbrev text : List ℕ
  text = made_text facts bytes

  abbrev kept : Kept
  kept = given_kept facts bytes stand

  abbrev taken : List VoteTaken
  taken = given_first facts bytes stand ∷ given_taken facts bytes stand

  -- where the entries begin
  abbrev place : ℕ
  place = made_place facts bytes

  -- ---- its certificate

  -- what is taken of the bytes says there what it says alone
  say_the_same : SayTheSame VoteValue (before_text facts) bytes (behind_text facts) (stand.first ∷ stand.taken)
  say_the_same =
      certs_say VoteValue (before_text facts) bytes (behind_text facts) (stand.first ∷ stand.taken) stand.within

  certificate_says : cert_in text (head_of taken) ≡ facts.certificate
  certificate_says =
      ap (λ (l : List ℕ). cert_in l (head_of taken)) (text_parts facts bytes) ∙ say_the_same.says ∙ stand.says

  certificate_whole : whole_part text (head_of taken) ≡ bytes
  certificate_whole =
      ap (λ (l : List ℕ). whole_part l (head_of taken)) (text_parts facts bytes) ∙ say_the_same.whole ∙ stand.whole

  -- ---- its bytes

  begins_at : kept.head.begin ≡ 0
  unfolding same
  begins_at = refl

  ends_with : kept.head.end ≡ end_from place facts
  unfolding same
  ends_with = refl

  whole_is : (made_vote facts bytes stand).whole ≡ text
  whole_is =
      from_first text text [] kept.head.begin kept.head.end begins_at (ends_with ∙ ends_at facts bytes)
      (sym (append-nil text))

  -- the signature's item begins where the text before it ends
  signature_place : end_of (footer_from place facts) footer ≡ place + length (unsigned_behind facts)
  signature_place =
      sym (after_all-append place (in_list facts) (entries_in footer))
      ∙ ends_behind place (in_list facts ++ entries_in footer)

  signed_size : length (made_signed facts bytes)
      ≡ length (before_text facts) + (length bytes + (length (unsigned_behind facts) + 20))
  signed_size =
      let word = codes "directory-signature " in
      let u = unsigned_behind facts in
      ap (λ (l : List ℕ). length l) (signed_parts facts bytes)
      ∙ length-append (before_text facts) (bytes ++ (u ++ word))
      ∙ ap (λ (n : ℕ). length (before_text facts) + n) (length-append bytes (u ++ word)
      ∙ ap (λ (n : ℕ). length bytes + n) (length-append u word))

  ends_signed : kept.head.signed_end ≡ length (made_signed facts bytes)
  ends_signed =
      let ended = footer_ended facts.signature are.values.signature in
      ap signed_to
      (last_item vote_tables (footer_from place facts) footer signature_row
      (signature_entry facts.signature) ended.written refl)
      ∙ sums (end_of (footer_from place facts) footer) (length (before_text facts)) (length bytes)
      (length (unsigned_behind facts)) (length (made_signed facts bytes)) (length (signature_rest facts.signature))
      (length text) signature_place signed_size
      (length-append (made_signed facts bytes) (signature_rest facts.signature)) are.fits
    where
      sums : (end a b c signed more all : ℕ) → end ≡ a + b + c → signed ≡ a + (b + (c + 20)) → all ≡ signed + more
          → all ≤ 16777216 → min (end + 19 + 1) (2 ^ 64 - 1) ≡ signed
      sums end a b c signed more all last size whole within = omega (arith, last, size, whole, within)

  signed_is : (made_vote facts bytes stand).signed ≡ made_signed facts bytes
  signed_is =
      from_first text (made_signed facts bytes) (signature_rest facts.signature) kept.head.begin kept.head.signed_end
      begins_at ends_signed refl

  is_made : IsMadeVote facts bytes (made_vote facts bytes stand)
  is_made = record {
    says = made_says facts bytes first are stand certificate_says;
    whole = whole_is;
    signed = signed_is;
    certificate_bytes = certificate_whole;
  }

pub made_again : MadeVotesAreRead
made_again front facts bytes rest below given are =
    let stand = given_stand bytes facts.certificate given in (
      made_vote facts bytes stand,
      made_read front facts bytes rest stand given.first are,
      is_made facts bytes stand given.first are,
    )
