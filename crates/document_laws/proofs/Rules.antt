-- What is shown of a document item by item holds of what `document_of` gives.
use Rattle.std.proofs.Common.{◌≡◌, ℕ, List, [], ◌∷◌, ◌++◌, Option, Some, None, Result, Ok, Err, refl, sym, subst, inl}
use Rattle.std.{proofs.Common.inr, specs.Prelude.◌⊎◌}
use Rattle.item_terms.specs.{Items.{Contents, Item}, declared.fault.DocFault.DocFault}
use Rattle.frame_terms.specs.declared.document.{Group.Group, Made.{Made, TheVariants.{Passes, Pushes, Opens, Enters}}}
use Rattle.frame_terms.specs.declared.document.{Made.TheVariants.{Leaves, Ends, Stops}, Open.Open, Taken.Taken}
use Rattle.frame_terms.specs.declared.{fault.{FrameFault.FrameFault, ReadRefusal.ReadRefusal}, keyword.Keyword.Keyword}
use Rattle.frame_terms.specs.{Decisions.{made_first, made_later}, Documents.{Document, after_made, after_noted, at_end}}
use Rattle.frame_terms.specs.Documents.{closed_at, document_of, go_on, group, missing_at_end, onto, read_items, start}
use Rattle.frame_terms.specs.{Keywords.word_of, Tables.Tables}
use Rattle.frame_laws.proofs.Steps.{opening}
use Rattle.document_laws.{specs.Passing.IsPassedIn, proofs.{Makes.{Makes, makes_first, makes_later}, Ways.FirstMay}}
use Rattle.document_laws.proofs.Ways.{IsAdded, IsBeginning, IsEnding, IsEntering, IsOpening, IsStopping, LacksOpener}
use Rattle.document_laws.proofs.Ways.{LaterMay}

module _ {S V : Type 0} where
  -- a document of one section that ends at a place
  abbrev pub alone : Group S V → ℕ → Document S V
  alone group used = record { groups = group ∷ []; used = used }

  -- a document with a section in front
  abbrev pub behind : Group S V → Document S V → Document S V
  behind group document = record { groups = group ∷ document.groups; used = document.used }

  -- what holds of a document that is read
  abbrev pub Holds : (Document S V → Type 0) → Result (Document S V) ReadRefusal → Type 0
  Holds P (Ok document) = P document
  Holds P (Err refusal) = Unit {0}

  holds_as : (P Q : Document S V → Type 0) (read : Result (Document S V) ReadRefusal)
      → ((document : Document S V) → P document → Q document) → Holds P read → Holds Q read
  holds_as P Q (Ok document) turns is = turns document is
  holds_as P Q (Err refusal) turns is = tt

  holds_onto : (P Q : Document S V → Type 0) (first : Group S V) (read : Result (Document S V) ReadRefusal)
      → ((document : Document S V) → P document → Q (behind first document)) → Holds P read → Holds Q (onto first read)
  holds_onto P Q first (Ok document) turns is = turns document is
  holds_onto P Q first (Err refusal) turns is = tt

module _ {V : Type 0} where
  -- some item stands
  abbrev pub HasSome : List (Taken V) → Type 0
  HasSome [] = ⊥
  HasSome (one ∷ taken) = Unit {0}

-- What is to be shown of the rest of a document, by what is remembered and open, the items that are left, and the
-- document that they make: at its end, and from each item back.
pub record Rules {S K V X : Type 0} (tables : Tables S K V X) (length : ℕ) (fault : Option DocFault)
    (Rest : X → Open S V → List Item → Document S V → Type 0) : Type 0 where
  pub closes : (across : X) (section : S) (taken : List (Taken V)) (around : Option (Group S V))
      → missing_at_end tables section taken ≡ None → fault ≡ None
      → Rest across (opening section taken around) [] (alone (group section taken) length)
  pub passes : (across : X) (open_ : Open S V) (item : Item) (items : List Item) (document : Document S V)
      → (IsPassedIn tables open_.section item × HasSome open_.taken) ⊎ LacksOpener tables
      → Rest across open_ items document
      → Rest across open_ (item ∷ items) document
  pub starts : (across next : X) (item : Item) (items : List Item) (document : Document S V) (one : Taken V)
      → IsBeginning tables across item one → tables.note across one ≡ Ok next
      → Rest next (opening tables.first (one ∷ []) None) items document
      → Rest across (start tables) (item ∷ items) document
  pub adds : (across next : X) (section : S) (first : Taken V) (taken : List (Taken V)) (around : Option (Group S V))
      (item : Item) (items : List Item) (document : Document S V) (one : Taken V)
      → IsAdded tables across section (first ∷ taken) item one → tables.note across one ≡ Ok next
      → Rest next (opening section (first ∷ (taken ++ one ∷ [])) around) items document
      → Rest across (opening section (first ∷ taken) around) (item ∷ items) document
  pub opens : (across next : X) (section : S) (first : Taken V) (taken : List (Taken V)) (around : Option (Group S V))
      (other : S) (item : Item) (items : List Item) (document : Document S V) (one : Taken V)
      → IsOpening tables across section (first ∷ taken) other item one → tables.note across one ≡ Ok next
      → Rest next (opening other (one ∷ []) around) items document
      → Rest across (opening section (first ∷ taken) around) (item ∷ items)
      (behind (group section (first ∷ taken)) document)
  pub enters : (across next : X) (section : S) (first : Taken V) (taken : List (Taken V)) (around : Option (Group S V))
      (inside : S) (item : Item) (items : List Item) (document : Document S V) (one : Taken V)
      → IsEntering tables across section (first ∷ taken) inside item one → tables.note across one ≡ Ok next
      → Rest next (opening inside (one ∷ []) (Some (group section (first ∷ (taken ++ one ∷ []))))) items document
      → Rest across (opening section (first ∷ taken) around) (item ∷ items) document
  pub leaves : (across next : X) (section : S) (first : Taken V) (taken : List (Taken V)) (outer : Group S V)
      (item : Item) (items : List Item) (document : Document S V) (one : Taken V)
      → IsEnding tables across section (first ∷ taken) item one → tables.note across one ≡ Ok next
      → Rest next (opening outer.section outer.taken None) items document
      → Rest across (opening section (first ∷ taken) (Some outer)) (item ∷ items)
      (behind (group section (first ∷ (taken ++ one ∷ []))) document)
  pub ends : (across next : X) (section : S) (first : Taken V) (taken : List (Taken V)) (item : Item)
      (items : List Item) (one : Taken V)
      → IsEnding tables across section (first ∷ taken) item one → tables.note across one ≡ Ok next
      → Rest across (opening section (first ∷ taken) None) (item ∷ items)
      (alone (group section (first ∷ (taken ++ one ∷ []))) item.after)
  pub stops : (across : X) (section : S) (first : Taken V) (taken : List (Taken V)) (around : Option (Group S V))
      (item : Item) (items : List Item) → IsStopping tables section (first ∷ taken)
      → Rest across (opening section (first ∷ taken) around) (item ∷ items)
      (alone (group section (first ∷ taken)) item.place)

module _ {S V : Type 0} where
  -- in the section around stands the item that began the one inside it
  abbrev AroundHasSome : Option (Group S V) → Type 0
  AroundHasSome None = Unit {0}
  AroundHasSome (Some outer) = HasSome outer.taken

module _ {S K V X : Type 0} where
  -- nothing stands at a document's start alone
  abbrev IsStarted : Tables S K V X → S → List (Taken V) → Option (Group S V) → Type 0
  IsStarted tables section [] around = opening section [] around ≡ start tables
  IsStarted tables section (one ∷ taken) around = AroundHasSome around

  -- a section that goes on behind the one inside it
  started_outer : (tables : Tables S K V X) (section : S) (taken : List (Taken V)) → HasSome taken
      → IsStarted tables section taken None
  started_outer tables section [] some = absurd some
  started_outer tables section (one ∷ taken) some = tt

-- ---- an item

module _ {S K V X : Type 0} (tables : Tables S K V X) (length : ℕ) (fault : Option DocFault)
    (Rest : X → Open S V → List Item → Document S V → Type 0) (rules : Rules tables length fault Rest) where
  -- what is shown of what follows, whatever it is
  abbrev Follows : List Item → (X → Open S V → Result (Document S V) ReadRefusal) → Type 0
  Follows items more =
      (across : X) (section : S) (taken : List (Taken V)) (around : Option (Group S V))
      → IsStarted tables section taken around
      → Holds (λ document. Rest across (opening section taken around) items document)
      (more across (opening section taken around))

  -- an item that may stand by what is remembered
  noted : (P : Document S V → Type 0) (made : Made S V) (open_ : Open S V) (item : Item)
      (more : X → Open S V → Result (Document S V) ReadRefusal) (one : Taken V) (across : X)
      (result : Result X FrameFault) → tables.note across one ≡ result
      → ((next : X) → tables.note across one ≡ Ok next → Holds P (go_on made open_ item (λ after. more next after)))
      → Holds P (after_noted result made open_ item more)
  noted P made open_ item more one across (Err fault) note then_ = tt
  noted P made open_ item more one across (Ok next) note then_ = then_ next note

  -- the first item
  first_step : (across : X) (item : Item) (items : List Item) (more : X → Open S V → Result (Document S V) ReadRefusal)
      (made : Result (Made S V) ReadRefusal) → Makes (FirstMay tables across item) made → Follows items more
      → Holds (λ document. Rest across (start tables) (item ∷ items) document)
      (after_made tables made across (start tables) item more)
  first_step across item items more (Err refusal) may follows = tt
  first_step across item items more (Ok Passes) may follows =
      holds_as _ _ (more across (start tables))
      (λ document rest. rules.passes across (start tables) item items document (inr may) rest)
      (follows across tables.first [] None refl)
  first_step across item items more (Ok (Pushes one)) may follows =
      noted _ (Pushes one) (start tables) item more one across (tables.note across one) refl (λ next note.
      holds_as _ _ (more next (opening tables.first (one ∷ []) None))
      (λ document rest. rules.starts across next item items document one may note rest)
      (follows next tables.first (one ∷ []) None tt))
  first_step across item items more (Ok (Opens next one)) may follows = absurd may
  first_step across item items more (Ok (Enters inside one)) may follows = absurd may
  first_step across item items more (Ok (Leaves one)) may follows = absurd may
  first_step across item items more (Ok (Ends one)) may follows = absurd may
  first_step across item items more (Ok Stops) may follows = absurd may

  -- an item that is passed over, where some stand
  passed : (section : S) (first : Taken V) (taken : List (Taken V)) (item : Item)
      → IsPassedIn tables section item ⊎ LacksOpener tables
      → (IsPassedIn tables section item × HasSome (first ∷ taken)) ⊎ LacksOpener tables
  passed section first taken item (inl is) = inl (is, tt)
  passed section first taken item (inr lacks) = inr lacks

  -- a later one
  later_step : (across : X) (section : S) (first : Taken V) (taken : List (Taken V)) (around : Option (Group S V))
      (item : Item) (items : List Item) (more : X → Open S V → Result (Document S V) ReadRefusal)
      (made : Result (Made S V) ReadRefusal)
      → Makes (LaterMay tables across (opening section (first ∷ taken) around) item) made
      → AroundHasSome around → Follows items more
      → Holds (λ document. Rest across (opening section (first ∷ taken) around) (item ∷ items) document)
      (after_made tables made across (opening section (first ∷ taken) around) item more)
  later_step across section first taken around item items more (Err refusal) may some follows = tt
  later_step across section first taken around item items more (Ok Passes) may some follows =
      holds_as _ _ (more across (opening section (first ∷ taken) around))
      (λ document rest. rules.passes across (opening section (first ∷ taken) around) item items document
      (passed section first taken item may) rest)
      (follows across section (first ∷ taken) around some)
  later_step across section first taken around item items more (Ok (Pushes one)) may some follows =
      noted _ (Pushes one) (opening section (first ∷ taken) around) item more one across (tables.note across one) refl
      (λ next note.
      holds_as _ _ (more next (opening section (first ∷ (taken ++ one ∷ [])) around))
      (λ document rest. rules.adds across next section first taken around item items document one may note rest)
      (follows next section (first ∷ (taken ++ one ∷ [])) around some))
  later_step across section first taken around item items more (Ok (Opens other one)) may some follows =
      noted _ (Opens other one) (opening section (first ∷ taken) around) item more one across (tables.note across one)
      refl (λ next note.
      holds_onto _ _ (group section (first ∷ taken)) (more next (opening other (one ∷ []) around))
      (λ document rest. rules.opens across next section first taken around other item items document one may note rest)
      (follows next other (one ∷ []) around some))
  later_step across section first taken around item items more (Ok (Enters inside one)) may some follows =
      noted _ (Enters inside one) (opening section (first ∷ taken) around) item more one across
      (tables.note across one) refl (λ next note.
      holds_as _ _ (more next (opening inside (one ∷ []) (Some (group section (first ∷ (taken ++ one ∷ []))))))
      (λ document rest. rules.enters across next section first taken around inside item items document one may note rest)
      (follows next inside (one ∷ []) (Some (group section (first ∷ (taken ++ one ∷ [])))) tt))
  later_step across section first taken None item items more (Ok (Leaves one)) may some follows = absurd (cc (may.1.1))
  later_step across section first taken (Some outer) item items more (Ok (Leaves one)) may some follows =
      noted _ (Leaves one) (opening section (first ∷ taken) (Some outer)) item more one across (tables.note across one)
      refl (λ next note.
      holds_onto _ _ (group section (first ∷ (taken ++ one ∷ []))) (more next (opening outer.section outer.taken None))
      (λ document rest. rules.leaves across next section first taken outer item items document one may.0 note rest)
      (follows next outer.section outer.taken None (started_outer tables outer.section outer.taken some)))
  later_step across section first taken None item items more (Ok (Ends one)) may some follows =
      noted _ (Ends one) (opening section (first ∷ taken) None) item more one across (tables.note across one) refl
      (λ next note. rules.ends across next section first taken item items one may.0 note)
  later_step across section first taken (Some outer) item items more (Ok (Ends one)) may some follows =
      absurd (cc (may.1))
  later_step across section first taken around item items more (Ok Stops) may some follows =
      rules.stops across section first taken around item items may

  -- ---- the items

  closed : (across : X) (section : S) (taken : List (Taken V)) (around : Option (Group S V)) (missing : Option Keyword)
      → missing_at_end tables section taken ≡ missing → fault ≡ None
      → Holds (λ document. Rest across (opening section taken around) [] document)
      (closed_at length (opening section taken around) missing)
  closed across section taken around None e none = rules.closes across section taken around e none
  closed across section taken around (Some keyword) e none = tt

  ended : (across : X) (section : S) (taken : List (Taken V)) (around : Option (Group S V)) (other : Option DocFault)
      → fault ≡ other
      → Holds (λ document. Rest across (opening section taken around) [] document)
      (at_end tables length (opening section taken around) other)
  ended across section taken around None e =
      closed across section taken around (missing_at_end tables section taken) refl e
  ended across section taken around (Some other) e = tt

  -- what is shown holds of the rest of each document
  rest_holds : (across : X) (section : S) (taken : List (Taken V)) (around : Option (Group S V))
      (items : List Item) → IsStarted tables section taken around
      → Holds (λ document. Rest across (opening section taken around) items document)
      (read_items tables length across (opening section taken around) fault items)
  unfolding read_items
  rest_holds across section taken around [] started = ended across section taken around fault refl
  rest_holds across section [] around (item ∷ items) started =
      subst (λ (o : Open S V). Holds (λ document. Rest across o (item ∷ items) document)
      (after_made tables (made_first tables across item (word_of item.keyword)) across o item
      (λ next after. read_items tables length next after fault items)))
      (sym started)
      (first_step across item items (λ next after. read_items tables length next after fault items)
      (made_first tables across item (word_of item.keyword)) (makes_first tables across item)
      (λ next s t a is. rest_holds next s t a items is))
  rest_holds across section (first ∷ taken) around (item ∷ items) started =
      later_step across section first taken around item items
      (λ next after. read_items tables length next after fault items)
      (made_later tables across (opening section (first ∷ taken) around) item (word_of item.keyword))
      (makes_later tables across section (first ∷ taken) around item) started
      (λ next s t a is. rest_holds next s t a items is)

-- it holds of each document
pub holds : {S K V X : Type 0} (tables : Tables S K V X) (length : ℕ)
    (Rest : X → Open S V → List Item → Document S V → Type 0) (contents : Contents)
    → Rules tables length contents.fault Rest → (document : Document S V)
    → document_of tables length contents ≡ Ok document
    → Rest tables.start (start tables) contents.items document
holds tables length Rest contents rules document e =
    subst (λ r. Holds (λ d. Rest tables.start (start tables) contents.items d) r) e
    (rest_holds tables length contents.fault Rest rules tables.start tables.first [] None contents.items refl)
