-- A document ends where something is kept of it as it does where nothing is.
use Rattle.std.proofs.Common.{◌≡◌, ℕ, ◌+◌, ◌-◌, ◌≤◌, ◌<◌, ◌^◌, List, length, drop, Result, Ok, Err, ap, sym, subst, ◌∙◌}
use Rattle.std.{proofs.{Common.arith, lemmas.List.length-drop}, specs.List.fold}
use Rattle.item_terms.specs.Items.{Contents, items_of}
use Rattle.frame_terms.specs.declared.{document.{Group.Group, Taken.Taken}, fault.FrameFault.FrameFault}
use Rattle.frame_terms.specs.{declared.fault.ReadRefusal.{ReadRefusal, TheVariants.{Frame, Memory}}, Documents.Document}
use Rattle.frame_terms.specs.{Documents.{document_of, finish}, Refusals.Fails, Tables.Tables}
use Rattle.fault_places.specs.Within.{HasFaultsWithin}
use Rattle.blank_lines.specs.Behind.{FitsBehind, refusal_behind}
use Rattle.document_commands.specs.Ends.{ComesOf, Ends, EndsAs, made_of, refusal_of}

from_zero : (n : ℕ) → n ≡ 0 + n
from_zero n = omega arith

fault_from_zero : (fault : FrameFault) → fault ≡ record { place = 0 + fault.place; reason = fault.reason }
fault_from_zero fault = λ i. record { place = from_zero fault.place i; reason = fault.reason }

module _ {D : Type 0} where
  abbrev answer : D → ℕ → Result (D × ℕ) ReadRefusal
  answer document end = Ok (document, end)

  abbrev told : FrameFault → Result (D × ℕ) ReadRefusal
  told fault = Err (Frame fault)

module _ {S V F D : Type 0} where
  -- What is kept of sections behind so many bytes, and the place after them, make a value that comes of them.
  pub comes_behind : (n : ℕ) (fault_of : FrameFault → FrameFault)
      (wrap : Result (F × ℕ) ReadRefusal → Result (D × ℕ) ReadRefusal) (value : F → ℕ → D)
      → ((kept : F) (end : ℕ) → wrap (Ok (kept, end)) ≡ Ok (value kept end, n + end))
      → ((fault : FrameFault) → wrap (Err (Frame fault))
      ≡ Err (Frame (fault_of (record { place = n + fault.place; reason = fault.reason }))))
      → (with_ : F → S → List (Taken V) → F) (facts : F) (made : Result (Document S V) ReadRefusal)
      → ComesOf n fault_of made (wrap (finish with_ facts made))
  comes_behind n fault_of wrap value makes tells with_ facts (Ok document) =
      let kept = fold (λ k (group : Group S V). with_ k group.section group.taken) facts document.groups in
      (value kept document.used, makes kept document.used)
  comes_behind n fault_of wrap value makes tells with_ facts (Err (Frame fault)) = tells fault
  comes_behind n fault_of wrap value makes tells with_ facts (Err Memory) = tt

  -- The same where no bytes stand before them.
  pub comes_of : (fault_of : FrameFault → FrameFault) (wrap : Result (F × ℕ) ReadRefusal → Result (D × ℕ) ReadRefusal)
      (value : F → ℕ → D) → ((kept : F) (end : ℕ) → wrap (Ok (kept, end)) ≡ Ok (value kept end, end))
      → ((fault : FrameFault) → wrap (Err (Frame fault)) ≡ Err (Frame (fault_of fault)))
      → (with_ : F → S → List (Taken V) → F) (facts : F) (made : Result (Document S V) ReadRefusal)
      → ComesOf 0 fault_of made (wrap (finish with_ facts made))
  comes_of fault_of wrap value makes tells =
      comes_behind 0 fault_of wrap value
      (λ kept end. makes kept end ∙ ap (λ (n : ℕ). answer (value kept end) n) (from_zero end))
      (λ fault. tells fault ∙ ap (λ (f : FrameFault). told (fault_of f)) (fault_from_zero fault))

module _ {S V D : Type 0} where
  -- where it ends
  pub ends_there : (n : ℕ) (fault_of : FrameFault → FrameFault) (made : Contents → Result (Document S V) ReadRefusal)
      (read : Result (D × ℕ) ReadRefusal) (contents wanted : Contents) (end : ℕ) → contents ≡ wanted
      → ComesOf n fault_of (made wanted) read → EndsAs (made contents) (Ok end) → (d : D) × (read ≡ Ok (d, n + end))
  ends_there n fault_of made read contents wanted end is comes ends =
      let same : made wanted ≡ Ok ends.0 = ap made (sym is) ∙ ends.1 in
      let found : ComesOf n fault_of (Ok ends.0) read =
      subst (λ (m : Result (Document S V) ReadRefusal). ComesOf n fault_of m read) same comes in
      (found.0, found.1 ∙ ap (λ (k : ℕ). Ok (found.0, n + k)) ends.2)

  -- why it is refused
  pub fails_so : (n : ℕ) (fault_of : FrameFault → FrameFault) (made : Contents → Result (Document S V) ReadRefusal)
      (read : Result (D × ℕ) ReadRefusal) (contents wanted : Contents) (refusal : ReadRefusal) → contents ≡ wanted
      → ComesOf n fault_of (made wanted) read → Fails refusal (made contents)
      → Fails (refusal_of fault_of (refusal_behind n refusal)) read
  fails_so n fault_of made read contents wanted (Frame fault) is comes fails =
      subst (λ (m : Result (Document S V) ReadRefusal). ComesOf n fault_of m read) (ap made (sym is) ∙ fails) comes
  fails_so n fault_of made read contents wanted Memory is comes fails = tt

-- the place among all the bytes of what is wrong behind some of them is a number of 64 bits
pub fits_from : {S K V X : Type 0} (tables : Tables S K V X) (n limit : ℕ) (bytes : List ℕ) (refusal : ReadRefusal)
    → (0 < n → HasFaultsWithin tables) → n ≤ length bytes → length bytes < 2 ^ 61
    → Fails refusal (made_of tables n limit bytes) → 0 < n → FitsBehind n refusal
fits_from tables n limit bytes (Frame fault) within inside short fails some =
    let there = within some (limit - n) (drop n bytes) fault fails in
    omega (arith, there, inside, short, length-drop n bytes)
fits_from tables n limit bytes Memory within inside short fails some = tt

module _ {S K V X D : Type 0} (tables : Tables S K V X) (fault_of : FrameFault → FrameFault)
    (read : Result (D × ℕ) ReadRefusal) (bytes : List ℕ) (limit : ℕ) where
  -- what is made of the items of its own bytes
  abbrev made : List ℕ → Contents → Result (Document S V) ReadRefusal
  made own contents = document_of tables (length own) contents

  -- the items that were read of the bytes behind these
  items_there : (n given : ℕ) (own : List ℕ) (contents : Contents) → given ≡ limit → own ≡ drop n bytes
      → contents ≡ items_of (given - n) own → contents ≡ items_of (limit - n) (drop n bytes)
  items_there n given own contents same own_is is =
      is ∙ ap (λ (k : ℕ). items_of (k - n) own) same ∙ ap (λ (l : List ℕ). items_of (limit - n) l) own_is

  -- the document ends there
  pub ends_behind : (n given front end : ℕ) (own : List ℕ) (contents : Contents) → front ≡ n → given ≡ limit
      → own ≡ drop front bytes → contents ≡ items_of (given - front) own → front ≤ length bytes
      → ComesOf n fault_of (made_of tables n limit bytes) read
      → EndsAs (document_of tables (length own) contents) (Ok end) → end ≤ length own
      → Ends bytes read (Ok (front + end))
  ends_behind n given front end own contents front_is same own_is is inside comes ends within =
      let size : length own ≡ length bytes - front = ap (λ (l : List ℕ). length l) own_is ∙ length-drop front bytes in
      let From : ℕ → Type 0 = λ k. ComesOf k fault_of (made_of tables k limit bytes) read in
      let there : EndsAs (document_of tables (length (drop front bytes)) contents) (Ok end) =
      subst (λ (l : List ℕ). EndsAs (document_of tables (length l) contents) (Ok end)) own_is ends in
      let found =
      ends_there front fault_of (made (drop front bytes)) read contents
      (items_of (limit - front) (drop front bytes)) end
      (items_there front given own contents same own_is is) (subst From (sym front_is) comes) there in
      (found.0, found.1, omega (arith, within, size, inside))

  -- or it is refused
  pub fails_behind : (n given front : ℕ) (own : List ℕ) (contents : Contents) (refusal told_ : ReadRefusal) → front ≡ n
      → given ≡ limit → own ≡ drop front bytes → contents ≡ items_of (given - front) own
      → ComesOf n fault_of (made_of tables n limit bytes) read
      → Fails refusal (document_of tables (length own) contents)
      → told_ ≡ refusal_behind front refusal → Fails (refusal_of fault_of told_) read
  fails_behind n given front own contents refusal told_ front_is same own_is is comes fails told_is =
      let From : ℕ → Type 0 = λ k. ComesOf k fault_of (made_of tables k limit bytes) read in
      let there : Fails refusal (document_of tables (length (drop front bytes)) contents) =
      subst (λ (l : List ℕ). Fails refusal (document_of tables (length l) contents)) own_is fails in
      subst (λ (r : ReadRefusal). Fails (refusal_of fault_of r) read) (sym told_is)
      (fails_so front fault_of (made (drop front bytes)) read contents
      (items_of (limit - front) (drop front bytes)) refusal
      (items_there front given own contents same own_is is) (subst From (sym front_is) comes) there)

  -- and its place is a number of 64 bits
  pub fits_behind : (n given front : ℕ) (own : List ℕ) (contents : Contents) (refusal : ReadRefusal) → front ≡ n
      → given ≡ limit → own ≡ drop front bytes → contents ≡ items_of (given - front) own → front ≤ length bytes
      → length bytes < 2 ^ 61 → (0 < n → HasFaultsWithin tables)
      → Fails refusal (document_of tables (length own) contents) → 0 < front → FitsBehind front refusal
  fits_behind n given front own contents refusal front_is same own_is is inside short within fails =
      let has : 0 < front → HasFaultsWithin tables =
      subst (λ (k : ℕ). 0 < k → HasFaultsWithin tables) (sym front_is) within in
      let there : Fails refusal (document_of tables (length (drop front bytes)) contents) =
      subst (λ (l : List ℕ). Fails refusal (document_of tables (length l) contents)) own_is fails in
      fits_from tables front limit bytes refusal has inside short
      (subst (λ (c : Contents). Fails refusal (made (drop front bytes) c))
      (items_there front given own contents same own_is is) there)
