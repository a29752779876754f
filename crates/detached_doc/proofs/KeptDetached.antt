-- What was kept of a document is the detached signatures that it is.
use Rattle.std.proofs.Common.{◌≡◌, ℕ, List, length, Ok, Result, sym, ap, ◌∙◌}
use Rattle.item_terms.specs.Items.{Contents, items_of}
use Rattle.frame_terms.specs.{declared.fault.ReadRefusal.ReadRefusal, Documents.{document_of, finish}}
use Rattle.detached_frame.specs.Tables.{detached_tables}
use Rattle.detached_doc.specs.{declared.{detached.Detached.Detached, kept.Kept.Kept}, Facts.detached_in, Kept.kept_with}
use Rattle.detached_doc.specs.{Kept.none_kept, Reading.{detached_of, max_detached, with_detached}}

abbrev kept_of : Kept → Contents → List ℕ → Result (Kept × ℕ) ReadRefusal
kept_of before items bytes = finish kept_with before (document_of detached_tables (length bytes) items)

abbrev ok_of : Detached → ℕ → Result (Detached × ℕ) ReadRefusal
ok_of detached used = Ok (detached, used)

pub reads : (bytes : List ℕ) (before kept : Kept) (items : Contents) (used : ℕ) (detached : Detached)
    → items ≡ items_of max_detached bytes → before ≡ none_kept
    → finish kept_with before (document_of detached_tables (length bytes) items) ≡ Ok (kept, used)
    → detached ≡ detached_in bytes kept → detached_of bytes ≡ Ok (detached, used)
reads bytes before kept items used detached e f g h =
    let read : kept_of none_kept (items_of max_detached bytes) bytes ≡ Ok (kept, used) =
    ap (λ (i : Contents). kept_of none_kept i bytes) (sym e) ∙ ap (λ (s : Kept). kept_of s items bytes) (sym f) ∙ g in
    ap (λ (r : Result (Kept × ℕ) ReadRefusal). with_detached bytes r) read ∙ ap (λ (d : Detached). ok_of d used) (sym h)
