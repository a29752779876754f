-- The detached signatures that bytes are, or their first fault (dir-spec, "Serving and fetching detached signatures").
use Rattle.std.specs.Prelude.{◌≡◌, ℕ, ◌≤◌, List, length, Result, Ok, Err}
use Rattle.item_terms.specs.Items.{items_of}
use Rattle.frame_terms.specs.{declared.fault.ReadRefusal.ReadRefusal, Documents.{document_of, finish}, Refusals.Fails}
use Rattle.detached_frame.specs.Tables.{detached_tables}
use Rattle.detached_doc.specs.{declared.{detached.Detached.Detached, kept.Kept.Kept}, Facts.detached_in, Kept.kept_with}
use Rattle.detached_doc.specs.Kept.{none_kept}

-- how many bytes detached signatures may have
abbrev pub max_detached : ℕ
max_detached = 1048576

-- the detached signatures of which this was kept
abbrev pub with_detached : List ℕ → Result (Kept × ℕ) ReadRefusal → Result (Detached × ℕ) ReadRefusal
with_detached bytes (Ok (kept, used)) = Ok (detached_in bytes kept, used)
with_detached bytes (Err refusal) = Err refusal

-- the detached signatures that the bytes are, and the place after them; or the first fault
abbrev pub detached_of : List ℕ → Result (Detached × ℕ) ReadRefusal
detached_of bytes =
    with_detached bytes
    (finish kept_with none_kept (document_of detached_tables (length bytes) (items_of max_detached bytes)))

-- what reading answers: these, which are within the bytes; or the first fault, or want of memory
abbrev pub ReadsDetached : List ℕ → Result (Detached × ℕ) ReadRefusal → Type 0
ReadsDetached bytes (Ok (detached, used)) = (detached_of bytes ≡ Ok (detached, used)) × (used ≤ length bytes)
ReadsDetached bytes (Err refusal) = Fails refusal (detached_of bytes)
