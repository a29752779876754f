-- The microdescriptor that bytes begin with, or their first fault (dir-spec, "Computing microdescriptors").
use Rattle.std.specs.Prelude.{◌≡◌, ℕ, ◌≤◌, List, length, Result, Ok, Err}
use Rattle.item_terms.specs.Items.{items_of}
use Rattle.frame_terms.specs.{declared.fault.ReadRefusal.ReadRefusal, Documents.{document_of, finish}, Refusals.Fails}
use Rattle.micro_desc.specs.{Tables.micro_tables, declared.{head.MicroHead.MicroHead, micro.Micro.Micro}, Heads.no_head}
use Rattle.micro_desc.specs.{Heads.head_with, Micros.micro_in}

-- how many bytes a microdescriptor may have
abbrev pub max_micro : ℕ
max_micro = 65536

-- what the microdescriptor says of which this was kept
abbrev pub with_micro : List ℕ → Result (MicroHead × ℕ) ReadRefusal → Result (Micro × ℕ) ReadRefusal
with_micro bytes (Ok (head, used)) = Ok (micro_in bytes head, used)
with_micro bytes (Err refusal) = Err refusal

-- the microdescriptor that the bytes begin with, and the place after it; or the first fault
abbrev pub micro_of : List ℕ → Result (Micro × ℕ) ReadRefusal
micro_of bytes =
    with_micro bytes (finish head_with no_head (document_of micro_tables (length bytes) (items_of max_micro bytes)))

-- what reading answers: that microdescriptor, which is within the bytes; or the first fault, or want of memory
abbrev pub ReadsMicro : List ℕ → Result (Micro × ℕ) ReadRefusal → Type 0
ReadsMicro bytes (Ok (micro, used)) = (micro_of bytes ≡ Ok (micro, used)) × (used ≤ length bytes)
ReadsMicro bytes (Err refusal) = Fails refusal (micro_of bytes)
