-- The first fault of a vote stands within its bytes.
use Rattle.std.proofs.Common.{◌≡◌, ◌≤◌, length, Result, Ok, Err, refl, ap, ◌∙◌}
use Rattle.item_terms.specs.Items.{items_of}
use Rattle.frame_terms.specs.{declared.fault.ReadRefusal.{ReadRefusal, TheVariants.Frame}, Documents.Document}
use Rattle.frame_terms.specs.Documents.{document_of, finish}
use Rattle.frame_values.specs.declared.values.Value.{Value}
use Rattle.vote_frame.specs.{Tables.vote_tables, declared.frame.{VoteSection.VoteSection, VoteValue.VoteValue}}
use Rattle.vote_doc.specs.{Kept.{kept_with, none_kept}, Reading.with_facts}
use Rattle.vote_terms.specs.Votes.{max_vote}
use Rattle.vote_parts.{specs.Within.VoteFaultsStandWithin, proofs.VotePlaces.vote_faults}

abbrev Read : Type 0
Read = Result (Document VoteSection (Value VoteValue)) ReadRefusal

abbrev refused : ReadRefusal → Read
refused refusal = Err refusal

pub fault_of_vote : VoteFaultsStandWithin
fault_of_vote bytes fault is = by (document_of vote_tables (length bytes) (items_of max_vote bytes)) refl is
  where
    by : (read : Read) → document_of vote_tables (length bytes) (items_of max_vote bytes) ≡ read
        → with_facts bytes (finish kept_with none_kept read) ≡ Err (Frame fault) → fault.place ≤ length bytes
    by (Ok document) there e = absurd (cc e)
    by (Err refusal) there e =
        let same : refusal ≡ Frame fault = cc e in
        vote_faults max_vote bytes fault (there ∙ ap refused same)
