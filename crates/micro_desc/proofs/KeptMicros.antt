-- The microdescriptor that is read.
use Rattle.std.proofs.Common.{◌≡◌, ℕ, List, length, Ok, Result, sym, ap, ◌∙◌}
use Rattle.item_terms.specs.Items.{Contents, items_of}
use Rattle.frame_terms.specs.{declared.fault.ReadRefusal.ReadRefusal, Documents.{document_of, finish}}
use Rattle.micro_desc.specs.{Tables.micro_tables, declared.{micro.Micro.Micro, head.MicroHead.MicroHead}, Heads.no_head}
use Rattle.micro_desc.specs.{Heads.head_with, Micros.micro_in, Reading.{micro_of, max_micro, with_micro}}

abbrev kept_of : MicroHead → Contents → List ℕ → Result (MicroHead × ℕ) ReadRefusal
kept_of start items bytes = finish head_with start (document_of micro_tables (length bytes) items)

abbrev ok_of : Micro → ℕ → Result (Micro × ℕ) ReadRefusal
ok_of micro used = Ok (micro, used)

pub reads : (bytes : List ℕ) (start head : MicroHead) (items : Contents) (used : ℕ) (micro : Micro)
    → items ≡ items_of max_micro bytes → start ≡ no_head
    → finish head_with start (document_of micro_tables (length bytes) items) ≡ Ok (head, used)
    → micro ≡ micro_in bytes head → micro_of bytes ≡ Ok (micro, used)
reads bytes start head items used micro e f g h =
    let kept : kept_of no_head (items_of max_micro bytes) bytes ≡ Ok (head, used) =
    ap (λ (i : Contents). kept_of no_head i bytes) (sym e) ∙ ap (λ (s : MicroHead). kept_of s items bytes) (sym f)
    ∙ g in
    ap (λ (r : Result (MicroHead × ℕ) ReadRefusal). with_micro bytes r) kept
    ∙ ap (λ (m : Micro). ok_of m used) (sym h)
