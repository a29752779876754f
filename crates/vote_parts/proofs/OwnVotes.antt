-- A vote is read of its own part alone, and kept of that.
use Rattle.std.proofs.Common.{◌≡◌, ℕ, ◌+◌, ◌≤◌, List, drop, length, take, Result, Ok, Err, refl, sym, ap, subst, ◌∙◌}
use Rattle.std.proofs.{Common.{arith, length-take}, lemmas.List.take_all}
use Rattle.item_terms.specs.Items.{items_of}
use Rattle.frame_terms.specs.{Documents.{document_of, finish}, declared.fault.ReadRefusal.ReadRefusal}
use Rattle.grammar_laws.proofs.OwnPart.{own_part_same, within_text}
use Rattle.vote_frame.specs.Tables.{vote_tables}
use Rattle.vote_terms.specs.Votes.{ReadVote, max_vote}
use Rattle.blank_lines.specs.Behind.{behind}
use Rattle.vote_doc.specs.{Facts.vote_in, Kept.{kept_with, none_kept}, Reading.{vote_of, with_facts}}
use Rattle.vote_parts.specs.Own.{IsOwn, OwnVotesAreRead, PlacedVotesAreRead, VoteDocument, says}
use Rattle.vote_parts.proofs.VoteEnds.{vote_ends}

abbrev Read : Type 0
Read = Result (ReadVote × ℕ) ReadRefusal

abbrev document_in : List ℕ → Result VoteDocument ReadRefusal
document_in bytes = document_of vote_tables (length bytes) (items_of max_vote bytes)

abbrev says_of : List ℕ → Result VoteDocument ReadRefusal → Read
says_of bytes r = with_facts bytes (finish kept_with none_kept r)

abbrev vote_or : ReadVote → Read → ReadVote
vote_or other (Ok (vote, end)) = vote
vote_or other (Err refusal) = other

abbrev end_or : ℕ → Read → ℕ
end_or other (Ok (vote, end)) = end
end_or other (Err refusal) = other

-- what is read of the part of a document
own_is : (bytes : List ℕ) (document : VoteDocument) → document_in bytes ≡ Ok document
    → (document.used ≤ length bytes) × IsOwn (take document.used bytes) (vote_in (take document.used bytes) (says document))
own_is bytes document is =
    let used = document.used in
    let own = take used bytes in
    let within : used ≤ length bytes = within_text vote_tables vote_ends max_vote bytes document is in
    let size : length own ≡ used = omega (arith, length-take used bytes, within) in
    let alone : document_in own ≡ Ok document = own_part_same vote_tables vote_ends max_vote bytes document is in
    let whole : take used own ≡ own = take_all used own (omega (arith, size)) in (
      within,
      record {
        document = document;
        is = alone;
        used = sym size;
        kept = refl;
        read =
            ap (says_of own) alone
            ∙ ap (λ (l : List ℕ). Ok (vote_in l (says document), used)) whole
            ∙ ap (λ (n : ℕ). Ok (vote_in own (says document), n)) (sym size);
      },
    )

pub own_read : OwnVotesAreRead
own_read bytes vote end read = by (document_in bytes) refl read
  where
    by : (r : Result VoteDocument ReadRefusal) → document_in bytes ≡ r → says_of bytes r ≡ Ok (vote, end)
        → (end ≤ length bytes) × IsOwn (take end bytes) vote
    by (Err refusal) is e = absurd (cc e)
    by (Ok document) is e =
        let vote_is : vote_in (take document.used bytes) (says document) ≡ vote = ap (vote_or vote) e in
        let end_is : document.used ≡ end = ap (end_or end) e in
        subst (λ (n : ℕ). (n ≤ length bytes) × IsOwn (take n bytes) vote) end_is
        (subst (λ (v : ReadVote). (document.used ≤ length bytes) × IsOwn (take document.used bytes) v) vote_is
        (own_is bytes document is))

pub placed_read : PlacedVotesAreRead
placed_read start bytes vote after read = by (vote_of (drop start bytes)) refl read
  where
    by : (r : Read) → vote_of (drop start bytes) ≡ r → behind start r ≡ Ok (vote, after)
        → (end : ℕ) × (vote_of (drop start bytes) ≡ Ok (vote, end)) × (after ≡ start + end)
    by (Err refusal) is e = absurd (cc e)
    by (Ok (other, end)) is e =
        let same : other ≡ vote = ap (vote_or vote) e in
        (end, is ∙ ap (λ (v : ReadVote). Ok (v, end)) same, sym (ap (end_or after) e))
