-- What was kept of a document is what is kept of the vote that the bytes begin with.
use Rattle.std.proofs.Common.{◌≡◌, ℕ, List, length, Ok, sym, ap, ◌∙◌}
use Rattle.item_terms.specs.Items.{Contents, items_of}
use Rattle.frame_terms.specs.Documents.{document_of, finish}
use Rattle.vote_frame.specs.Tables.{vote_tables}
use Rattle.vote_doc.specs.{declared.kept.Kept.Kept, Kept.{none_kept, kept_with}, Reading.kept_of}
use Rattle.vote_terms.specs.Votes.{max_vote}

pub kept_is : (bytes : List ℕ) (before kept : Kept) (items : Contents) (end : ℕ) → items ≡ items_of max_vote bytes
    → before ≡ none_kept → finish kept_with before (document_of vote_tables (length bytes) items) ≡ Ok (kept, end)
    → kept_of bytes ≡ Ok (kept, end)
kept_is bytes before kept items end e f g =
    ap (λ (i : Contents). finish kept_with none_kept (document_of vote_tables (length bytes) i)) (sym e)
    ∙ ap (λ (s : Kept). finish kept_with s (document_of vote_tables (length bytes) items)) (sym f)
    ∙ g
