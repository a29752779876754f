-- What an item makes that is taken by its row.
use Rattle.std.proofs.Common.{◌≡◌, ◌∙◌, ℕ, List, ◌∷◌, Option, Some, None, Result, Ok, Err, refl, ap}
use Rattle.item_terms.specs.{Items.Item, declared.fault.DocFault.DocFault}
use Rattle.frame_terms.specs.declared.document.{Group.Group, Made.{Made, TheVariants.{Ends, Leaves}}, Open.Open}
use Rattle.frame_terms.specs.declared.{document.Taken.Taken, fault.ReadRefusal.{ReadRefusal, TheVariants.Frame}}
use Rattle.frame_terms.specs.{declared.{fault.ReadRefusal.TheVariants.Memory, row.Row.Row}, Decisions.made_by}
use Rattle.frame_terms.specs.{Documents.{Document, after_made, read_items, finish}, Refusals.Fails, Sections.accept}
use Rattle.frame_terms.specs.{Standing.{as_made, ends}, Tables.Tables}
use Rattle.frame_reader.specs.Steps.{last_step, made_of}

makes_alike : {S V : Type 0} (one other : Taken V → Made S V) (read : Result (Taken V) ReadRefusal)
    → ((taken : Taken V) → one taken ≡ other taken) → as_made one read ≡ as_made other read
makes_alike one other (Ok taken) same = ap Ok (same taken)
makes_alike one other (Err refusal) same = refl

-- the last item of a section is taken as what it makes of the section around it
pub last_made : {S K V X : Type 0} (tables : Tables S K V X) (across : X) (taken : List (Taken V)) (item : Item)
    (row : Row K) (around : Option (Group S V))
    → as_made (ends around) (accept tables across row taken item) ≡ made_of tables across taken item (last_step around row)
last_made tables across taken item row None = makes_alike (ends None) Ends (accept tables across row taken item) (λ one. refl)
last_made tables across taken item row (Some group) =
    makes_alike (ends (Some group)) Leaves (accept tables across row taken item) (λ one. refl)

-- a document goes on as an item does
pub goes_on : {S K V X F : Type 0} (with_ : F → S → List (Taken V) → F) (tables : Tables S K V X) (item : Item)
    (across remembered : X) (old new : Open S V) (facts kept : F) (made : Result (Made S V) ReadRefusal)
    → made_by tables across old item ≡ made
    → ((more : X → Open S V → Result (Document S V) ReadRefusal)
    → finish with_ facts (after_made tables made across old item more) ≡ finish with_ kept (more remembered new))
    → (length : ℕ) (fault : Option DocFault) (items : List Item)
    → finish with_ facts (read_items tables length across old fault (item ∷ items))
    ≡ finish with_ kept (read_items tables length remembered new fault items)
unfolding read_items
goes_on {S} {V = V} {X} with_ tables item across remembered old new facts kept made is goes length fault items =
    let more : X → Open S V → Result (Document S V) ReadRefusal =
    λ noted next. read_items tables length noted next fault items in
    ap (λ (m : Result (Made S V) ReadRefusal). finish with_ facts (after_made tables m across old item more)) is ∙ goes more

-- a document fails as an item does
pub fails : {S K V X F : Type 0} (with_ : F → S → List (Taken V) → F) (tables : Tables S K V X) (item : Item)
    (across : X) (old : Open S V) (facts : F) (made : Result (Made S V) ReadRefusal) (refusal : ReadRefusal)
    → made_by tables across old item ≡ made
    → ((more : X → Open S V → Result (Document S V) ReadRefusal)
    → Fails refusal (after_made tables made across old item more))
    → (length : ℕ) (fault : Option DocFault) (items : List Item)
    → Fails refusal (finish with_ facts (read_items tables length across old fault (item ∷ items)))
unfolding read_items
fails with_ tables item across old facts made Memory is failing length fault items = tt
fails {S} {V = V} {X} with_ tables item across old facts made (Frame reason) is failing length fault items =
    let more : X → Open S V → Result (Document S V) ReadRefusal =
    λ noted next. read_items tables length noted next fault items in
    ap (λ (m : Result (Made S V) ReadRefusal). finish with_ facts (after_made tables m across old item more)) is
    ∙ ap (finish with_ facts) (failing more)
