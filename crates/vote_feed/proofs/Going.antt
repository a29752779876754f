-- How far a document is read, item by item.
use Rattle.std.proofs.Common.{◌≡◌, ◌∙◌, ℕ, ◌≤◌, ◌⊎◌, false, List, [], ◌∷◌, ◌++◌, length, drop, append_assoc, Option}
use Rattle.std.proofs.Common.{Some, None, Result, Ok, Err, refl, sym, ap, subst, inl, inr, arith}
use Rattle.std.proofs.lemmas.List.{drop-append-le, length-drop}
use Rattle.item_terms.specs.Items as model
use Rattle.item_terms.specs.Items.{Contents, also, contents, failed_contents, nothing}
use Rattle.item_terms.specs.declared.fault.DocFault.{DocFault}
use Rattle.dirdoc_grammar.specs.{declared.{cursor.Cursor.Cursor, item.Item.Item}, Cursors.{IsAt, behind, fed_by}}
use Rattle.dirdoc_grammar.specs.{Feeding.{EndsNoEarlier, Fed, MayFollow, Settles, Takes, left_with}, Seen.seen_item}
use Rattle.dirdoc_grammar.{specs.Writing.in_front, proofs.Cursors.{at_behind, at_more}}
use Rattle.dirdoc_grammar.specs.declared.take.Take.TheVariants as take_
use Rattle.frame_terms.specs.declared.{document.{Open.Open, Taken.Taken}, fault.ReadRefusal.ReadRefusal}
use Rattle.frame_terms.specs.{Documents.{Document, document_of, finish, read_items, start}, Refusals.of_doc}
use Rattle.frame_terms.specs.Tables.{Tables}
use Rattle.frame_reader.specs.Turning.{Turns}
use Rattle.vote_feed.specs.SoFar.{SoFar, Waits, used_of}

-- ---- where a document ends, by what is kept of it

abbrev pub place_of : {F : Type 0} → Result (F × ℕ) ReadRefusal → Result ℕ ReadRefusal
place_of (Ok kept) = Ok kept.1
place_of (Err refusal) = Err refusal

pub placed : {S V F : Type 0} (with_ : F → S → List (Taken V) → F) (facts : F) (d : Result (Document S V) ReadRefusal)
    → place_of (finish with_ facts d) ≡ used_of d
placed with_ facts (Ok document) = refl
placed with_ facts (Err refusal) = refl

-- ---- bytes

-- what of the bytes is left is the same, whether a part has come or follows
left_more : (cursor : Cursor) (bytes part more : List ℕ) → cursor.place ≤ length bytes
    → left_with (fed_by cursor bytes false) (part ++ more) ≡ left_with (fed_by cursor (bytes ++ part) false) more
left_more cursor bytes part more le =
    ap (λ (l : List ℕ). contents cursor.limit cursor.place nothing l)
    (sym (append_assoc (drop cursor.place bytes) part more)
    ∙ ap (λ (l : List ℕ). l ++ more) (sym (drop-append-le cursor.place bytes part le)))

pub place_within : (bytes : List ℕ) (cursor : Cursor) → IsAt bytes cursor → cursor.place ≤ length bytes
place_within bytes cursor at_ = omega (arith, at_.taken, at_.order, at_.later, at_.within)

-- what comes first of the rest, whatever follows
abbrev pub Left : List ℕ → Cursor → Cursor → model.Item → Type 0
Left bytes old new item =
    (more : List ℕ) → MayFollow false more
    → left_with (fed_by old bytes false) more ≡ also (Some item) (left_with (fed_by new bytes false) more)

-- so many of the bytes are behind, or nothing is known of them
abbrev pub Late : ℕ → List ℕ → Cursor → Type 0
Late known bytes cursor = (known ≤ cursor.place) ⊎ EndsNoEarlier known (fed_by cursor bytes false)

pub ends_late : (known : ℕ) (bytes : List ℕ) (old new : Cursor) (item : Item) → Late known bytes old
    → Takes (fed_by old bytes false) (take_.Item item) (fed_by new bytes false) → known ≤ item.after
ends_late known bytes old new item (inl behind_) takes = let lt = takes.2 in omega (arith, behind_, lt)
ends_late known bytes old new item (inr later) takes =
    later [] (seen_item item) (left_with (fed_by new bytes false) []) (takes.0 [] tt)

pub place_after : (bytes : List ℕ) (old new : Cursor) (item : Item)
    → Takes (fed_by old bytes false) (take_.Item item) (fed_by new bytes false) → new.place ≡ item.after
place_after bytes old new item takes = ap (λ (f : Fed). f.place) takes.1

pub late_on : (known : ℕ) (bytes : List ℕ) (old new : Cursor) (item : Item) → Late known bytes old
    → Takes (fed_by old bytes false) (take_.Item item) (fed_by new bytes false) → Late known bytes new
late_on known bytes old new item late takes =
    let far = ends_late known bytes old new item late takes in
    let there = place_after bytes old new item takes in
    inl (omega (arith, far, there))

pub ends_within : (bytes : List ℕ) (old new : Cursor) (item : Item) → IsAt bytes old
    → Takes (fed_by old bytes false) (take_.Item item) (fed_by new bytes false) → item.after ≤ length bytes
ends_within bytes old new item at_ takes =
    let le = place_within bytes old at_ in
    let fits = takes.3 in
    omega (arith, le, fits, length-drop old.place bytes)

-- ---- the document

in_front_more : (front : List model.Item) (item : model.Item) (rest : Contents)
    → in_front front (also (Some item) rest) ≡ in_front (front ++ item ∷ []) rest
in_front_more front item rest =
    ap (λ (l : List model.Item). record { items = l; fault = rest.fault })
    (sym (append_assoc front (item ∷ []) rest.items))

module _ {S K V X F : Type 0} (with_ : F → S → List (Taken V) → F) (none : F) (tables : Tables S K V X)
    (limit : ℕ) where
  -- nothing is read yet
  begun : (bytes : List ℕ) → SoFar with_ none tables limit bytes (behind limit 0) tables.start (start tables) none
  begun bytes = record {
    reads = at_behind limit 0 bytes (omega arith);
    bound = refl;
    front = [];
    items = λ more. refl;
    made = λ n fault rest. refl;
  }

  pub fresh : (bytes : List ℕ) (cursor : Cursor) (across : X) (open_ : Open S V) (facts : F)
      → cursor ≡ behind limit 0 → across ≡ tables.start → open_ ≡ start tables → facts ≡ none
      → SoFar with_ none tables limit bytes cursor across open_ facts
  fresh bytes cursor across open_ facts at_ alone first empty =
      subst (λ (c : Cursor). SoFar with_ none tables limit bytes c across open_ facts) (sym at_)
      (subst (λ (x : X). SoFar with_ none tables limit bytes (behind limit 0) x open_ facts) (sym alone)
      (subst (λ (o : Open S V). SoFar with_ none tables limit bytes (behind limit 0) tables.start o facts) (sym first)
      (subst (λ (f : F). SoFar with_ none tables limit bytes (behind limit 0) tables.start (start tables) f) (sym empty)
      (begun bytes))))

  -- a part more has come
  pub on_more : (bytes part : List ℕ) (cursor : Cursor) (across : X) (open_ : Open S V) (facts : F)
      → SoFar with_ none tables limit bytes cursor across open_ facts
      → SoFar with_ none tables limit (bytes ++ part) cursor across open_ facts
  on_more bytes part cursor across open_ facts so = record {
    reads = at_more bytes part cursor so.reads;
    bound = so.bound;
    front = so.front;
    items = λ more.
        ap (λ (l : List ℕ). contents limit 0 nothing l) (append_assoc bytes part more)
        ∙ so.items (part ++ more)
        ∙ ap (in_front so.front) (left_more cursor bytes part more (place_within bytes cursor so.reads));
    made = so.made;
  }

  pub later_on : (bytes part : List ℕ) (cursor : Cursor) (across : X) (open_ : Open S V) (facts : F)
      → Waits with_ none tables limit bytes cursor across open_ facts
      → EndsNoEarlier (length bytes) (fed_by cursor (bytes ++ part) false)
  later_on bytes part cursor across open_ facts waits more item rest e =
      waits.later (part ++ more) item rest
      (left_more cursor bytes part more (place_within bytes cursor waits.so_far.reads) ∙ e)

  -- all that has come is read
  pub all_read : (bytes : List ℕ) (old new : Cursor) (across : X) (open_ : Open S V) (facts : F)
      → SoFar with_ none tables limit bytes old across open_ facts → IsAt bytes new → new.limit ≡ old.limit
      → Takes (fed_by old bytes false) take_.NotYet (fed_by new bytes false)
      → EndsNoEarlier (length bytes) (fed_by new bytes false)
      → Waits with_ none tables limit bytes new across open_ facts
  all_read bytes old new across open_ facts so at_ same takes later = record {
    so_far = record {
      reads = at_;
      bound = same ∙ so.bound;
      front = so.front;
      items = λ more. so.items more ∙ ap (λ (f : Fed). in_front so.front (left_with f more)) (sym takes.2);
      made = so.made;
    };
    unsettled =
        subst (λ (f : Fed). (answer : Result (Option model.Item) DocFault) → Settles f answer → ⊥)
        (sym takes.2) takes.1;
    later = later;
  }

  -- an item was taken
  pub item_on : (bytes : List ℕ) (old new : Cursor) (item : model.Item) (x0 x1 : X) (o0 o1 : Open S V) (f0 f1 : F)
      → SoFar with_ none tables limit bytes old x0 o0 f0 → IsAt bytes new → new.limit ≡ old.limit
      → Left bytes old new item → Turns with_ tables item x0 o0 f0 x1 o1 f1 (Ok None)
      → SoFar with_ none tables limit bytes new x1 o1 f1
  item_on bytes old new item x0 x1 o0 o1 f0 f1 so at_ same left turns = record {
    reads = at_;
    bound = same ∙ so.bound;
    front = so.front ++ item ∷ [];
    items = λ more.
        so.items more ∙ ap (in_front so.front) (left more tt)
        ∙ in_front_more so.front item (left_with (fed_by new bytes false) more);
    made = λ n fault rest.
        ap (λ (l : List model.Item). finish with_ none (document_of tables n (record { items = l; fault = fault })))
        (append_assoc so.front (item ∷ []) rest)
        ∙ so.made n fault (item ∷ rest)
        ∙ turns n fault rest;
  }

  -- where it ends that these items and others behind them make
  made_of : (bytes : List ℕ) (cursor : Cursor) (across : X) (open_ : Open S V) (facts : F)
      → (so : SoFar with_ none tables limit bytes cursor across open_ facts) → (n : ℕ) (more : List ℕ) (rest : Contents)
      → left_with (fed_by cursor bytes false) more ≡ rest
      → used_of (document_of tables n (contents limit 0 nothing (bytes ++ more)))
      ≡ used_of (read_items tables n across open_ rest.fault rest.items)
  made_of bytes cursor across open_ facts so n more rest left =
      ap (λ (c : Contents). used_of (document_of tables n c)) (so.items more ∙ ap (in_front so.front) left)
      ∙ sym (placed with_ none
      (document_of tables n (record { items = so.front ++ rest.items; fault = rest.fault })))
      ∙ ap place_of (so.made n rest.fault rest.items)
      ∙ placed with_ facts (read_items tables n across open_ rest.fault rest.items)

  pub made_on : (bytes : List ℕ) (cursor : Cursor) (across : X) (open_ : Open S V) (facts : F)
      → (so : SoFar with_ none tables limit bytes cursor across open_ facts) → (n : ℕ) (more : List ℕ)
      → used_of (document_of tables n (contents limit 0 nothing (bytes ++ more)))
      ≡ used_of (read_items tables n across open_ (left_with (fed_by cursor bytes false) more).fault
      (left_with (fed_by cursor bytes false) more).items)
  made_on bytes cursor across open_ facts so n more =
      made_of bytes cursor across open_ facts so n more (left_with (fed_by cursor bytes false) more) refl

  -- a fault comes next
  pub faulty : (bytes : List ℕ) (cursor : Cursor) (across : X) (open_ : Open S V) (facts : F) (fault : DocFault)
      → SoFar with_ none tables limit bytes cursor across open_ facts
      → ((more : List ℕ) → MayFollow false more → left_with (fed_by cursor bytes false) more ≡ failed_contents fault)
      → (n : ℕ) (more : List ℕ)
      → used_of (document_of tables n (contents limit 0 nothing (bytes ++ more))) ≡ Err (of_doc fault)
  unfolding read_items
  faulty bytes cursor across open_ facts fault so left n more =
      made_of bytes cursor across open_ facts so n more (failed_contents fault) (left more tt)

-- with an item the document ends
pub ended : {S K V X F : Type 0} (with_ : F → S → List (Taken V) → F) (tables : Tables S K V X) (item : model.Item)
    (x0 x1 : X) (o0 o1 : Open S V) (f0 f1 : F) (used : ℕ)
    → Turns with_ tables item x0 o0 f0 x1 o1 f1 (Ok (Some used)) → (n : ℕ) (fault : Option DocFault)
    (rest : List model.Item) → used_of (read_items tables n x0 o0 fault (item ∷ rest)) ≡ Ok used
ended with_ tables item x0 x1 o0 o1 f0 f1 used turns n fault rest =
    sym (placed with_ f0 (read_items tables n x0 o0 fault (item ∷ rest))) ∙ ap place_of (turns n fault rest)
