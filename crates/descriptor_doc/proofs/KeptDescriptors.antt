-- The descriptor that is read.
use Rattle.std.proofs.Common.{◌≡◌, ℕ, ◌+◌, ◌-◌, ◌≤◌, ◌<◌, ◌^◌, List, length, take, drop, Result, Ok, Err, refl, sym, ap}
use Rattle.std.{proofs.{Common.{subst, ◌∙◌, arith}, lemmas.List.length-drop}, specs.Prelude.slice_range}
use Rattle.dirdoc_grammar.proofs.FirstLine.{whole_rest}
use Rattle.item_terms.specs.Items.{Contents, items_of}
use Rattle.frame_terms.specs.declared.fault.{FrameFault.FrameFault, ReadRefusal.{ReadRefusal, TheVariants.Frame}}
use Rattle.frame_terms.specs.{declared.fault.ReadRefusal.TheVariants.Memory, Documents.{Document, document_of, finish}}
use Rattle.frame_values.specs.declared.values.Value.{Value}
use Rattle.descriptor_frame.specs.{Tables.descriptor_tables, declared.said.DescriptorValue.DescriptorValue}
use Rattle.descriptor_doc.specs.{declared.{descriptor.Descriptor.Descriptor, kept.Kept.Kept}, Heads.none_kept}
use Rattle.descriptor_doc.specs.{Heads.kept_with, Descriptors.descriptor_in, Reading.{KeepsDescriptor, ReadsDescriptor}}
use Rattle.descriptor_doc.specs.Reading.{descriptor_behind, front_of, max_descriptor, own_kept, with_descriptor}
use Rattle.descriptor_doc.proofs.DescriptorPlaces.{descriptor_faults}
use Rattle.blank_lines.specs.Behind.{FitsBehind}

abbrev refused : {A : Type 0} → ReadRefusal → Result A ReadRefusal
refused refusal = Err refusal

-- ---- what is kept

pub kept_is : (limit : ℕ) (bytes : List ℕ) (before : Kept) (items : Contents) (read : Result (Kept × ℕ) ReadRefusal)
    → items ≡ items_of limit bytes → before ≡ none_kept
    → finish kept_with before (document_of descriptor_tables (length bytes) items) ≡ read
    → own_kept limit bytes ≡ read
kept_is limit bytes before items read e f g =
    ap (λ (i : Contents). finish kept_with none_kept (document_of descriptor_tables (length bytes) i)) (sym e)
    ∙ ap (λ (s : Kept). finish kept_with s (document_of descriptor_tables (length bytes) items)) (sym f)
    ∙ g

-- a fault of it stands within its bytes
pub kept_within : (limit : ℕ) (bytes : List ℕ) (fault : FrameFault) → own_kept limit bytes ≡ Err (Frame fault)
    → fault.place ≤ length bytes
kept_within limit bytes fault is = by (document_of descriptor_tables (length bytes) (items_of limit bytes)) refl is
  where
    by : (read : Result (Document (Unit {0}) (Value DescriptorValue)) ReadRefusal)
        → document_of descriptor_tables (length bytes) (items_of limit bytes) ≡ read
        → finish kept_with none_kept read ≡ Err (Frame fault) → fault.place ≤ length bytes
    by (Ok document) there e = absurd (cc e)
    by (Err refusal) there e =
        let same : refusal ≡ Frame fault = cc e in
        descriptor_faults limit bytes fault (there ∙ ap refused same)

-- ---- behind other bytes

-- of a text that is the bytes
pub rest_is : (n : ℕ) (bytes text : List ℕ) → text ≡ bytes → take (length text - n) (drop n text) ≡ drop n bytes
rest_is n bytes text same = whole_rest n text ∙ ap (λ (l : List ℕ). drop n l) same

pub within_is : (n : ℕ) (bytes text : List ℕ) → text ≡ bytes → n ≤ length text → n ≤ length bytes
within_is n bytes text same within = subst (λ (l : List ℕ). n ≤ length l) same within

pub front_is : (n : ℕ) (bytes text : List ℕ) → text ≡ bytes → n ≡ front_of text → n ≡ front_of bytes
front_is n bytes text same is = is ∙ ap front_of same

-- its place among all of them is a number of 64 bits
pub fits_behind : (n limit : ℕ) (bytes rest : List ℕ) (why : ReadRefusal) → n ≤ length bytes → rest ≡ drop n bytes
    → length bytes < 2 ^ 62 → KeepsDescriptor limit rest (Err why) → FitsBehind n why
fits_behind n limit bytes rest (Frame fault) within same short fails =
    let size : length rest ≡ length bytes - n = ap (λ (l : List ℕ). length l) same ∙ length-drop n bytes in
    omega (arith, kept_within limit rest fault fails, size, within, short)
fits_behind n limit bytes rest Memory within same short fails = tt

-- there is one
pub reads_behind : (n end : ℕ) (bytes rest : List ℕ) (kept : Kept) (d : Descriptor) → n ≡ front_of bytes
    → n ≤ length bytes → rest ≡ drop n bytes → KeepsDescriptor (max_descriptor - n) rest (Ok (kept, end))
    → d ≡ descriptor_in (slice_range bytes n (n + end)) kept → ReadsDescriptor bytes (Ok (d, n + end))
reads_behind n end bytes rest kept d front within same keeps says =
    let size : length rest ≡ length bytes - n = ap (λ (l : List ℕ). length l) same ∙ length-drop n bytes in
    let count : n + end - n ≡ end = omega arith in
    let own : d ≡ descriptor_in (take end rest) kept =
    says ∙ ap (λ (k : ℕ). descriptor_in (take k (drop n bytes)) kept) count
    ∙ ap (λ (l : List ℕ). descriptor_in (take end l) kept) (sym same) in
    let Is : ℕ → Type 0 = λ k. descriptor_behind k bytes ≡ Ok (d, n + end) in
    let Gives : List ℕ → Type 0 = λ l. with_descriptor n l (own_kept (max_descriptor - n) l) ≡ Ok (d, n + end) in (
      subst Is front
          (subst Gives same (ap (with_descriptor n rest) keeps.0
          ∙ ap (λ (o : Descriptor). answer o (n + end)) (sym own))),
      omega (arith, keeps.1, size, within),
    )
  where
    answer : Descriptor → ℕ → Result (Descriptor × ℕ) ReadRefusal
    answer o used = Ok (o, used)
