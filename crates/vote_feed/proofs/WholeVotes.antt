-- The bytes of a vote are that vote wherever they stand, and whatever follows them.
use Rattle.std.proofs.Common.{◌≡◌, ℕ, ◌+◌, List, [], ◌++◌, length, take, Result, Ok, Err, refl, sym, ap, subst, ◌∙◌}
use Rattle.std.proofs.{Common.{arith, append-nil}, Math.Seq.{drop-append_seam, take-append_seam}, lemmas.List.take_all}
use Rattle.item_terms.specs.Items.{items_of}
use Rattle.frame_terms.specs.{Documents.{document_of, finish}, declared.fault.FrameFault.FrameFault}
use Rattle.frame_terms.specs.declared.fault.ReadRefusal.{ReadRefusal, TheVariants.Frame}
use Rattle.grammar_laws.proofs.OwnPart.{own_part_same}
use Rattle.vote_frame.specs.Tables.{vote_tables}
use Rattle.vote_terms.specs.Votes.{ReadVote, max_vote}
use Rattle.blank_lines.specs.Behind.{behind}
use Rattle.vote_doc.specs.{declared.kept.Kept.Kept, Facts.vote_in, Kept.{kept_with, none_kept}, Reading.vote_of}
use Rattle.vote_doc.specs.Reading.{with_facts}
use Rattle.vote_feed.specs.{Feeding.{IsFaulty, end_of}, Whole.{FaultyVotesStand, VotesMove, WholeVotesStand}}
use Rattle.vote_feed.{specs.Whole.WholeVotesStay, proofs.FedVotes.end_or}
use Rattle.vote_parts.{specs.Own.{VoteDocument, says}, proofs.VoteEnds.vote_ends}

abbrev document_in : List ℕ → Result VoteDocument ReadRefusal
document_in bytes = document_of vote_tables (length bytes) (items_of max_vote bytes)

abbrev keeps : Result VoteDocument ReadRefusal → Result (Kept × ℕ) ReadRefusal
keeps r = finish kept_with none_kept r

-- ---- behind other bytes

pub votes_same : VotesMove
votes_same before bytes = ap (λ (l : List ℕ). behind (length before) (vote_of l)) (drop-append_seam before bytes)

-- ---- in front of others

pub whole_stay : WholeVotesStay
whole_stay bytes more whole = by (document_in (bytes ++ more)) refl (whole more)
  where
    by : (r : Result VoteDocument ReadRefusal) → document_in (bytes ++ more) ≡ r
        → end_of (with_facts (bytes ++ more) (keeps r)) ≡ Ok (length bytes) → vote_of (bytes ++ more) ≡ vote_of bytes
    by (Err refusal) is ends = absurd (cc ends)
    by (Ok document) is ends =
        let text = bytes ++ more in
        let used : document.used ≡ length bytes = ap (end_or 0) ends in
        let own : take document.used text ≡ bytes = ap (λ (k : ℕ). take k text) used ∙ take-append_seam bytes more in
        let here : take document.used bytes ≡ bytes = take_all document.used bytes (omega (arith, used)) in
        let alone : document_in bytes ≡ Ok document =
        subst (λ (l : List ℕ). document_in l ≡ Ok document) own
        (own_part_same vote_tables vote_ends max_vote text document is) in
        ap (λ (r : Result VoteDocument ReadRefusal). with_facts text (keeps r)) is
        ∙ ap (λ (l : List ℕ). Ok (vote_in l (says document), document.used)) (own ∙ sym here)
        ∙ ap (λ (r : Result VoteDocument ReadRefusal). with_facts bytes (keeps r)) (sym alone)

pub whole_stand : WholeVotesStand
whole_stand before bytes more vote whole is =
    votes_same before (bytes ++ more) ∙ ap (behind (length before)) (whole_stay bytes more whole ∙ is)

-- ---- faults

abbrev refused_so : FrameFault → Result ℕ ReadRefusal
refused_so fault = Err (Frame fault)

abbrev refusal_or : ReadRefusal → Result ℕ ReadRefusal → Result (ReadVote × ℕ) ReadRefusal
refusal_or other (Ok end) = Err other
refusal_or other (Err refusal) = Err refusal

refused_by : (r : Result (ReadVote × ℕ) ReadRefusal) (fault : FrameFault) → end_of r ≡ Err (Frame fault)
    → r ≡ Err (Frame fault)
refused_by (Ok read) fault e = absurd (cc e)
refused_by (Err refusal) fault e = ap (refusal_or refusal) e

-- Bytes that are faulty have the same fault in front of others.
pub faulty_stay : (bytes more : List ℕ) (fault : FrameFault) → IsFaulty bytes → vote_of bytes ≡ Err (Frame fault)
    → vote_of (bytes ++ more) ≡ Err (Frame fault)
faulty_stay bytes more fault faulty is =
    let alone : end_of (vote_of bytes) ≡ Err (Frame faulty.fault) =
    subst (λ (l : List ℕ). end_of (vote_of l) ≡ Err (Frame faulty.fault)) (append-nil bytes) (faulty.refused []) in
    let same : refused_so faulty.fault ≡ refused_so fault = sym alone ∙ ap end_of is in
    refused_by (vote_of (bytes ++ more)) fault (faulty.refused more ∙ same)

pub faulty_stand : FaultyVotesStand
faulty_stand before bytes more fault faulty is =
    votes_same before (bytes ++ more) ∙ ap (behind (length before)) (faulty_stay bytes more fault faulty is)
