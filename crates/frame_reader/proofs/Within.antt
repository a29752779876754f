-- A document ends within the input that its items are read from.
use Rattle.std.proofs.Common.{◌≡◌, ℕ, ◌≤◌, List, [], ◌∷◌, length, Option, Some, None, Result, Ok, Err, ap, arith}
use Rattle.item_terms.specs.{Items.{Item, Contents, items_from}, declared.fault.DocFault.DocFault}
use Rattle.dirdoc_grammar.{specs.InPlace.EachInPlace, proofs.Places.stand_in_place}
use Rattle.frame_terms.specs.declared.document.{Group.Group, Made.{Made, TheVariants.{Passes, Pushes, Opens, Enters}}}
use Rattle.frame_terms.specs.declared.document.{Made.TheVariants.{Leaves, Ends, Stops}, Open.Open, Taken.Taken}
use Rattle.frame_terms.specs.declared.{fault.{FrameFault.FrameFault, ReadRefusal.ReadRefusal}, keyword.Keyword.Keyword}
use Rattle.frame_terms.specs.{Decisions.made_by, Documents.{Document, closed_at, at_end, missing_at_end, with_next}}
use Rattle.frame_terms.specs.Documents.{with_inner, with_one, without_inner, onto, go_on, note_of_made, after_noted}
use Rattle.frame_terms.specs.{Documents.{after_made, read_items, start, document_of, finish, Folds}, Tables.Tables}
use Rattle.frame_reader.specs.Reading.{EndsWithin}

-- the document ends before this place
abbrev pub UsedWithin : {S V : Type 0} → ℕ → Result (Document S V) ReadRefusal → Type 0
UsedWithin n (Ok document) = document.used ≤ n
UsedWithin n (Err refusal) = Unit {0}

closes_within : {S V : Type 0} (n : ℕ) (open_ : Open S V) (missing : Option Keyword)
    → UsedWithin n (closed_at n open_ missing)
closes_within n open_ None = omega arith
closes_within n open_ (Some keyword) = tt

ends_there : {S K V X : Type 0} (tables : Tables S K V X) (n : ℕ) (open_ : Open S V) (fault : Option DocFault)
    → UsedWithin n (at_end tables n open_ fault)
ends_there tables n open_ None = closes_within n open_ (missing_at_end tables open_.section open_.taken)
ends_there tables n open_ (Some fault) = tt

onto_within : {S V : Type 0} (n : ℕ) (group : Group S V) (rest : Result (Document S V) ReadRefusal) → UsedWithin n rest
    → UsedWithin n (onto group rest)
onto_within n group (Ok document) within = within
onto_within n group (Err refusal) within = tt

goes_on : {S V : Type 0} (n : ℕ) (made : Made S V) (open_ : Open S V) (item : Item)
    (more : Open S V → Result (Document S V) ReadRefusal) → item.place ≤ n → item.after ≤ n
    → ((next : Open S V) → UsedWithin n (more next)) → UsedWithin n (go_on made open_ item more)
goes_on n Passes open_ item more place after within = within open_
goes_on n (Pushes one) open_ item more place after within = within (with_one one open_)
goes_on n (Opens next one) open_ item more place after within =
    onto_within n _ (more (with_next next one open_)) (within (with_next next one open_))
goes_on n (Enters inner one) open_ item more place after within = within (with_inner inner one open_)
goes_on n (Leaves one) open_ item more place after within =
    onto_within n _ (more (without_inner open_.around open_)) (within (without_inner open_.around open_))
goes_on n (Ends one) open_ item more place after within = after
goes_on n Stops open_ item more place after within = place

noted_within : {S V X : Type 0} (n : ℕ) (noted : Result X FrameFault) (made : Made S V) (open_ : Open S V) (item : Item)
    (more : X → Open S V → Result (Document S V) ReadRefusal) → item.place ≤ n → item.after ≤ n
    → ((across : X) (next : Open S V) → UsedWithin n (more across next))
    → UsedWithin n (after_noted noted made open_ item more)
noted_within n (Err fault) made open_ item more place after within = tt
noted_within n (Ok across) made open_ item more place after within =
    goes_on n made open_ item (λ next. more across next) place after (λ next. within across next)

made_within : {S K V X : Type 0} (tables : Tables S K V X) (n : ℕ) (made : Result (Made S V) ReadRefusal) (across : X)
    (open_ : Open S V) (item : Item) (more : X → Open S V → Result (Document S V) ReadRefusal) → item.place ≤ n
    → item.after ≤ n
    → ((remembered : X) (next : Open S V) → UsedWithin n (more remembered next))
    → UsedWithin n (after_made tables made across open_ item more)
made_within tables n (Err refusal) across open_ item more place after within = tt
made_within tables n (Ok made) across open_ item more place after within =
    noted_within n (note_of_made tables made across) made open_ item more place after within

-- a document of items that end within the bytes ends within them
reads_within : {S K V X : Type 0} (bytes : List ℕ) (tables : Tables S K V X) (n : ℕ) (across : X) (open_ : Open S V)
    (fault : Option DocFault) (items : List Item) → n ≡ length bytes
    → EachInPlace bytes items → UsedWithin n (read_items tables n across open_ fault items)
unfolding read_items
reads_within bytes tables n across open_ fault [] same each = ends_there tables n open_ fault
reads_within bytes tables n across open_ fault (item ∷ items) same each =
    let ends = each.0.within in
    let begins = each.0.in_order.some_bytes in
    made_within tables n (made_by tables across open_ item) across open_ item
    (λ remembered next. read_items tables n remembered next fault items)
    (omega (arith, same, ends, begins)) (omega (arith, same, ends))
    (λ remembered next. reads_within bytes tables n remembered next fault items same each.1)

used_of : {F : Type 0} → Result (F × ℕ) ReadRefusal → ℕ
used_of (Ok kept) = kept.1
used_of (Err refusal) = 0

used_is : {S V F : Type 0} (with_ : F → S → List (Taken V) → F) (facts kept : F) (n used : ℕ)
    (read : Result (Document S V) ReadRefusal)
    → finish with_ facts read ≡ Ok (kept, used) → UsedWithin n read → used ≤ n
unfolding used_of
used_is with_ facts kept n used (Ok document) same within =
    let e : document.used ≡ used = ap used_of same in omega (arith, e, within)
used_is with_ facts kept n used (Err refusal) same within = absurd (cc)

pub ends_within : {S K V X F : Type 0} (with_ : F → S → List (Taken V) → F) (tables : Tables S K V X) (n : ℕ)
    (old : Contents) (facts kept : F) (result : Result ℕ ReadRefusal)
    → Folds with_ tables n old facts kept result → EndsWithin n old result
ends_within with_ tables n old facts kept (Err refusal) folds from limit bytes are same = tt
ends_within with_ tables n old facts kept (Ok used) folds from limit bytes are same =
    used_is with_ facts kept n used (document_of tables n old) folds
    (rw are (reads_within bytes tables n tables.start (start tables) (items_from from limit bytes).fault (items_from from limit bytes).items same (stand_in_place from limit bytes)))
