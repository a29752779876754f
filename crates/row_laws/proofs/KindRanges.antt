-- What the items of a kind say is in range, and so what is kept of the item of a keyword, and what a document is of
-- which it
-- was kept: whatever the tables.
use Rattle.std.proofs.Common.{◌≡◌, ℕ, Bool, true, false, List, [], ◌∷◌, arith, Option, Some, None, Result, Ok, Err}
use Rattle.std.proofs.{Common.{refl, sym, ap, subst, ◌∙◌}, lemmas.{Bool.false≢true, List.Elements.{All-cons, All-head}}}
use Rattle.std.{proofs.lemmas.List.Elements.{All-nil, All-tail, All-weaker}, specs.Prelude.{All, IfSome, is_some}}
use Rattle.std.specs.{Prelude.{if◌then◌else◌, ◌||◌}, List.fold}
use Rattle.base64.specs.GeneralPurpose.{IsBytes}
use Rattle.item_terms.specs.Items.{Contents, Item, items_from}
use Rattle.frame_terms.specs.{Documents.{Document, document_of, finish}, Keywords.same, Order.inner, Rows.row}
use Rattle.frame_terms.specs.{Sections.{row_of, stands}, declared.row.{Count.TheVariants.One, Row.Row}}
use Rattle.frame_terms.specs.declared.{document.{Group.Group, Taken.Taken}, fault.FrameFault.FrameFault}
use Rattle.frame_terms.specs.{declared.{fault.ReadRefusal.ReadRefusal, keyword.Keyword.Keyword}, Tables.Tables}
use Rattle.frame_values.specs.{Arguments.next, Faults.{at_place, unless_fault}, Values.item_at}
use Rattle.document_laws.{specs.{Items.AreItemsIn, Counts.RowsStand}, proofs.{Counting.stand_as_often, Taking.are_said}}
use Rattle.document_laws.proofs.Times.{none_stands}
use Rattle.row_laws.proofs.{ItemArguments.IsSound, ItemKinds.{Kind, KindLaws}, Lookups.fold_holds, ReadSteps.ReadAs}
use Rattle.row_laws.proofs.{ReadSteps.{no_fault, was_read}, Saying.{EachStands, Says, Stands, all_sound, each_stands}}
use Rattle.row_laws.proofs.{Saying.{found, of_row}, Spoken.words_in, Ties.{Gives, Tied}}

-- ---- kinds

-- what an item of this kind says is made of what was read of it, which is such in the input's bytes
pub record KindIs {S K V X A : Type 0} (tables : Tables S K V X) (kind : K) (of : A → V) (Is : List ℕ → A → Type 0)
    : Type 0 where
  pub says : (bytes : List ℕ) → IsBytes bytes → (v : V) → Says tables bytes kind v → (a : A) × (v ≡ of a) × Is bytes a

made : {A V : Type 0} (read : Result A ℕ) (of : A → V) (v : V) → next read (λ a. Ok (of a)) ≡ Ok v
    → (a : A) × (read ≡ Ok a) × (v ≡ of a)
made (Ok a) of v is = (a, refl, cc)
made (Err place) of v is = absurd (cc is)

module _ {S K V X A : Type 0} {tables : Tables S K V X} {kind : K} {of : A → V} {Is : List ℕ → A → Type 0} where
  -- by how the tables read it, unless there is a fault before
  pub kind_unless : (wrong : X → Item → Result (Unit {0}) FrameFault) (read : X → Item → Result A ℕ)
      → ((across : X) (item : Item) → tables.value_of across kind item
      ≡ unless_fault (wrong across item) (at_place (next (read across item) (λ a. Ok (of a)))))
      → ((bytes : List ℕ) → IsBytes bytes → (across : X) (item : Item) → IsSound bytes item → wrong across item ≡ Ok tt
      → ReadAs (Is bytes) (read across item))
      → KindIs tables kind of Is
  kind_unless wrong read values reads = record {
    says = λ bytes are v says.
        let item = says.item in
        let is_read = read says.remembered item in
        let parts =
        no_fault (wrong says.remembered item) (next is_read (λ a. Ok (of a))) v
        (sym (values says.remembered item) ∙ says.says) in
        let its = made is_read of v parts.1 in (
          its.0,
          its.2,
          was_read (Is bytes) is_read its.0 (reads bytes are says.remembered item says.sound parts.0) its.1,
        );
  }

  -- the same where nothing else may be wrong, and nothing that is remembered has a part in it
  pub kind_read : (read : Item → Result A ℕ)
      → ((across : X) (item : Item) → tables.value_of across kind item ≡ at_place (next (read item) (λ a. Ok (of a))))
      → ((bytes : List ℕ) → IsBytes bytes → (item : Item) → IsSound bytes item → ReadAs (Is bytes) (read item))
      → KindIs tables kind of Is
  kind_read read values reads =
      kind_unless (λ across item. Ok tt) (λ across item. read item) values
      (λ bytes are across item sound passes. reads bytes are item sound)

-- what is read is in range, where what words mean is that are tied to it
pub tied_reads : {A F : Type 0} (said : A → F) (P : F → Type 0) (read : Result A ℕ) (meant : Option F)
    → Tied said read meant → Gives P meant → ReadAs (λ (a : A). P (said a)) read
tied_reads said P (Ok a) (Some f) is gives = subst P (sym is) gives
tied_reads said P (Ok a) None is gives = absurd is
tied_reads said P (Err place) meant is gives = tt

-- what is read of a kind that has its laws is in range
pub laws_read : {A F : Type 0} {k : Kind A F} {Fits IsRead : F → Type 0} → KindLaws k Fits IsRead → (bytes : List ℕ)
    (item : Item) → IsSound bytes item → ReadAs (λ (a : A). IsRead (k.said bytes a)) (k.read item)
laws_read {k = k} {IsRead = IsRead} laws bytes item sound =
    tied_reads (k.said bytes) IsRead (k.read item) (k.means (words_in item)) (laws.tied bytes item sound)
    (laws.fits (words_in item) sound.rest)

-- ---- what is kept of the item of a keyword

module _ {S K V X : Type 0} where
  -- no item of this keyword begins the section inside another
  abbrev pub IsNotInside : Tables S K V X → S → Keyword → Type 0
  IsNotInside tables section keyword =
      (around : S) (other : Keyword) → same other keyword ≡ true → inner tables around other ≡ Some section → ⊥

module _ {S K V X : Type 0} (tables : Tables S K V X) (bytes : List ℕ) (are : IsBytes bytes) (section : S)
    (taken : List (Taken V)) (each : EachStands tables bytes section taken) where
  -- it is such, where it is of no item, as far as that may be, and where what was read of one is
  pub field_is : {A B : Type 0} {of : A → V} {Is : List ℕ → A → Type 0} (keyword : Keyword) (own : Row K)
      → row_of (tables.rows section) keyword ≡ Some own → IsNotInside tables section keyword
      → KindIs tables own.kind of Is → (get : Option (Taken V) → B) (P : B → Type 0)
      → (item_at taken keyword ≡ None → P (get None))
      → ((one : Taken V) (a : A) → Is bytes a → P (get (Some (record one { value = of a }))))
      → P (get (item_at taken keyword))
  field_is {of = of} keyword own there apart kind get P none some =
      by (item_at taken keyword) refl (found tables bytes section taken keyword each)
    where
      by : (one : Option (Taken V)) → item_at taken keyword ≡ one
          → IfSome one (λ o. Stands tables bytes section o × (same o.keyword keyword ≡ true)) → P (get one)
      by None is stands = none is
      by (Some one) is stands =
          let its =
          kind.says bytes are one.value
          (of_row tables bytes section one keyword own (λ around begins. apart around one.keyword stands.1 begins) there
          stands.0 stands.1) in
          subst (λ (v : V). P (get (Some (record one { value = v })))) (sym its.1) (some one its.0 its.2)

-- an item of a keyword that stands is there
item_there : {V : Type 0} (keyword : Keyword) (taken : List (Taken V)) → stands keyword taken ≡ true
    → is_some (item_at taken keyword) ≡ true
item_there keyword [] is = absurd (cc (is))
item_there {V} keyword (one ∷ taken) is = by (same one.keyword keyword) is (item_there keyword taken)
  where
    by : (t : Bool) → (t || stands keyword taken) ≡ true
        → (stands keyword taken ≡ true → is_some (item_at taken keyword) ≡ true)
        → is_some (if t then Some one else item_at taken keyword) ≡ true
    by true is more = refl
    by false is more = more is

-- so is that of a row that counts one
pub once_there : {S K V X : Type 0} (tables : Tables S K V X) (section : S) (taken : List (Taken V)) (keyword : Keyword)
    (kind : K) → row_of (tables.rows section) keyword ≡ Some (row keyword One kind) → RowsStand tables section taken
    → item_at taken keyword ≡ None → ⊥
once_there tables section taken keyword kind own counts none = by (stands keyword taken) refl
  where
    by : (t : Bool) → stands keyword taken ≡ t → ⊥
    by true is = false≢true (sym (ap is_some none) ∙ item_there keyword taken is)
    by false is = omega (arith, none_stands keyword taken is, counts keyword (row keyword One kind) own)

-- ---- a document

same_answer : {D : Type 0} (a b : D × ℕ) (answer : Result (D × ℕ) ReadRefusal) → answer ≡ Ok a → answer ≡ Ok b → a ≡ b
same_answer a b answer is too = cc

-- what holds of each, and what else does
both_all : {X : Type 0} (P Q : X → Type 0) (xs : List X) → All P xs → All Q xs → All (λ x. P x × Q x) xs
both_all P Q [] each other = All-nil (λ x. P x × Q x)
both_all P Q (x ∷ xs) each other =
    All-cons (λ y. P y × Q y) x xs (All-head P x xs each, All-head Q x xs other)
    (both_all P Q xs (All-tail P x xs each) (All-tail Q x xs other))

-- What is kept of the sections of a document is such, where what is kept at first is, and what is kept of one more section
-- with what was kept before: its items are of the input, and stand as often as their rows ask for. And so is the document
-- that was read.
pub read_is : {S K V X Kept D : Type 0} (tables : Tables S K V X) (bytes : List ℕ) (start limit size : ℕ)
    (keep : Kept → S → List (Taken V) → Kept) (none : Kept) (P : Kept → Type 0) → P none
    → ((kept : Kept) (section : S) (taken : List (Taken V)) → EachStands tables bytes section taken
    → RowsStand tables section taken → P kept → P (keep kept section taken))
    → (make : Kept → D) (answer : Result (Kept × ℕ) ReadRefusal → Result (D × ℕ) ReadRefusal)
    → ((kept : Kept) (used : ℕ) → answer (Ok (kept, used)) ≡ Ok (make kept, used))
    → ((refusal : ReadRefusal) → answer (Err refusal) ≡ Err refusal) → (d : D) (used : ℕ)
    → answer (finish keep none (document_of tables size (items_from start limit bytes))) ≡ Ok (d, used)
    → (kept : Kept) × (d ≡ make kept) × P kept
read_is {S} {K} {V} {X} {Kept} {D} tables bytes start limit size keep none P first more make answer makes refuses d used
    is = by (document_of tables size (items_from start limit bytes)) refl is
  where
    contents : Contents
    contents = items_from start limit bytes

    by : (read : Result (Document S V) ReadRefusal) → document_of tables size contents ≡ read
        → answer (finish keep none read) ≡ Ok (d, used) → (kept : Kept) × (d ≡ make kept) × P kept
    by (Err refusal) got e = absurd (cc (sym (refuses refusal) ∙ e))
    by (Ok document) got e =
        let Stand : Group S V → Type 0 = λ group. EachStands tables bytes group.section group.taken in
        let Count : Group S V → Type 0 = λ group. RowsStand tables group.section group.taken in
        let kept = fold (λ k (group : Group S V). keep k group.section group.taken) none document.groups in (
          kept,
          ap (λ (x : D × ℕ). x.0) (same_answer (d, used) (make kept, document.used)
              (answer (Ok (kept, document.used))) e (makes kept document.used)),
          fold_holds P (λ group. Stand group × Count group)
              (λ k (group : Group S V). keep k group.section group.taken)
              (λ k group is each. more k group.section group.taken each.0 each.1 is) document.groups none
              (both_all Stand Count document.groups
              (All-weaker (λ (group : Group S V). AreItemsIn tables group.section contents.items group.taken) Stand
              (λ group stand. each_stands tables bytes group.section contents.items group.taken
              (all_sound start limit bytes) stand) document.groups (are_said tables size contents document got))
              (stand_as_often tables size contents document got)) first,
        )
