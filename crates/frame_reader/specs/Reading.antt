-- What the functions of this crate give.
use Rattle.std.specs.Prelude.{◌≡◌, ℕ, ◌≤◌, List, length, Result, IfOk}
use Rattle.item_terms.specs.Items.{Contents, items_from}
use Rattle.frame_terms.specs.declared.fault.ReadRefusal.{ReadRefusal}

-- where the contents are those of an input of so many bytes, from one of its places on, the document ends within the
-- input
abbrev pub EndsWithin : ℕ → Contents → Result ℕ ReadRefusal → Type 0
EndsWithin input contents result =
    (start limit : ℕ) (bytes : List ℕ) → contents ≡ items_from start limit bytes → input ≡ length bytes
    → IfOk result (λ used. used ≤ input)
