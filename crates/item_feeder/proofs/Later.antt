-- What is given of a document whose first byte stands so many places later.
use Rattle.std.proofs.Common.{◌≡◌, ℕ, ◌+◌, ◌-◌, List, [], ◌∷◌, ◌++◌, drop, Option, Some, None, Result, Ok, Err, refl}
use Rattle.std.proofs.Common.{sym, ap, subst, ◌∙◌, arith}
use Rattle.item_terms.specs.{declared.fault.DocFault.DocFault, Items.{Item, Object, nothing, also, failed_contents}}
use Rattle.dirdoc_grammar.specs.{declared.take.Take.Take, Feeding.{Fed, left_with, first_by, first_of, Settles, Takes}}
use Rattle.dirdoc_grammar.specs.Seen.{seen_item}
use Rattle.dirdoc_grammar.specs.declared.take.Take.TheVariants as take_
use Rattle.item_feeder.specs.Moving.{moved_object_if, moved_item, moved_fault, moved_fault_if, moved_items}
use Rattle.item_feeder.specs.{Moving.moved_contents, Feeders.{behind_next, Shows, Moves}}
use Rattle.item_feeder.proofs.Shifts.{contents_moved}

abbrev pub later : ℕ → Fed → Fed
later k fed = record { limit = k + fed.limit; place = k + fed.place; rest = fed.rest; finished = fed.finished }

left_later : (k : ℕ) (fed : Fed) (more : List ℕ) → left_with (later k fed) more ≡ moved_contents k (left_with fed more)
left_later k fed more = contents_moved k fed.limit fed.place nothing (fed.rest ++ more)

-- ---- an answer so many places later

abbrev moved_answer : ℕ → Result (Option Item) DocFault → Result (Option Item) DocFault
moved_answer k (Ok None) = Ok None
moved_answer k (Ok (Some item)) = Ok (Some (moved_item k item))
moved_answer k (Err fault) = Err (moved_fault k fault)

answer_by : (k : ℕ) (fault : Option DocFault) (items : List Item) → first_by (moved_fault_if k fault) (moved_items k items) ≡ moved_answer k (first_by fault items)
answer_by k fault (item ∷ items) = refl
answer_by k None [] = refl
answer_by k (Some fault) [] = refl

abbrev object_back : ℕ → Option Object → Option Object
object_back k None = None
object_back k (Some object) = Some (record { words = object.words; start = object.start - k; text = object.text })

abbrev item_back : ℕ → Item → Item
item_back k item = record {
  keyword = item.keyword;
  separator = item.separator;
  arguments = item.arguments;
  start = item.start - k;
  line_end = item.line_end - k;
  object = object_back k item.object;
  place = item.place - k;
  after = item.after - k;
}

abbrev answer_back : ℕ → Result (Option Item) DocFault → Result (Option Item) DocFault
answer_back k (Ok None) = Ok None
answer_back k (Ok (Some item)) = Ok (Some (item_back k item))
answer_back k (Err fault) = Err (record { place = fault.place - k; reason = fault.reason })

off : (k n : ℕ) → (k + n) - k ≡ n
off k n = omega arith

object_same : (k : ℕ) (object : Option Object) → object_back k (moved_object_if k object) ≡ object
object_same k None = refl
object_same k (Some object) = ap (λ (n : ℕ). Some (record { words = object.words; start = n; text = object.text })) (off k object.start)

abbrev item_with : Item → ℕ → ℕ → Option Object → ℕ → ℕ → Item
item_with item start line_end object place after = record { keyword = item.keyword; separator = item.separator; arguments = item.arguments; start = start; line_end = line_end; object = object; place = place; after = after }

item_same : (k : ℕ) (item : Item) → item_back k (moved_item k item) ≡ item
item_same k item =
    ap (λ (n : ℕ). item_with item n ((k + item.line_end) - k) (object_back k (moved_object_if k item.object)) ((k + item.place) - k) ((k + item.after) - k)) (off k item.start)
    ∙ ap (λ (n : ℕ). item_with item item.start n (object_back k (moved_object_if k item.object)) ((k + item.place) - k) ((k + item.after) - k)) (off k item.line_end)
    ∙ ap (λ (o : Option Object). item_with item item.start item.line_end o ((k + item.place) - k) ((k + item.after) - k)) (object_same k item.object)
    ∙ ap (λ (n : ℕ). item_with item item.start item.line_end item.object n ((k + item.after) - k)) (off k item.place)
    ∙ ap (λ (n : ℕ). item_with item item.start item.line_end item.object item.place n) (off k item.after)

answer_same : (k : ℕ) (answer : Result (Option Item) DocFault) → answer_back k (moved_answer k answer) ≡ answer
answer_same k (Ok None) = refl
answer_same k (Ok (Some item)) = ap (λ (i : Item). Ok (Some i)) (item_same k item)
answer_same k (Err fault) = ap (λ (n : ℕ). Err (record { place = n; reason = fault.reason })) (off k fault.place)

settles_later : (k : ℕ) (fed : Fed) (answer : Result (Option Item) DocFault) → Settles (later k fed) answer → Settles fed (answer_back k answer)
settles_later k fed answer settled more may =
    sym (answer_same k (first_of (left_with fed more)))
    ∙ ap (answer_back k) (sym (ap first_of (left_later k fed more) ∙ answer_by k (left_with fed more).fault (left_with fed more).items) ∙ settled more may)

-- ---- what is given

pub takes_later : (k : ℕ) (old new : Fed) (one other : Take) → Takes old one new → Moves k one other → Takes (later k old) other (later k new)
takes_later k old new (take_.Item one) (take_.Item other) h is = (
  λ more may.
      left_later k old more
      ∙ ap (moved_contents k) (h.0 more may)
      ∙ ap (λ (i : Item). also (Some i) (moved_contents k (left_with new more))) (sym is.0)
      ∙ ap (also (Some (seen_item other))) (sym (left_later k new more)),
  ap (later k) h.1
      ∙ ap (λ (n : ℕ). record { limit = k + old.limit; place = n; rest = drop (one.after - old.place) old.rest; finished = old.finished }) (sym is.1)
      ∙ ap (λ (n : ℕ). record { limit = k + old.limit; place = other.after; rest = drop n old.rest; finished = old.finished }) (omega (arith, is.1)),
  omega (arith, h.2, is.1),
  omega (arith, h.3, is.1),
)
takes_later k old new (take_.Item one) take_.NotYet h is = absurd is
takes_later k old new (take_.Item one) take_.End h is = absurd is
takes_later k old new (take_.Item one) (take_.Fault other) h is = absurd is
takes_later k old new (take_.Fault one) (take_.Item other) h is = absurd is
takes_later k old new (take_.Fault one) take_.NotYet h is = absurd is
takes_later k old new (take_.Fault one) take_.End h is = absurd is
takes_later k old new (take_.Fault one) (take_.Fault other) h is = (λ more may. left_later k old more ∙ ap (moved_contents k) (h.0 more may) ∙ ap failed_contents (sym is), ap (later k) h.1)
takes_later k old new take_.NotYet (take_.Item other) h is = absurd is
takes_later k old new take_.NotYet take_.NotYet h is = (h.0, λ answer settled. h.1 (answer_back k answer) (settles_later k old answer settled), ap (later k) h.2)
takes_later k old new take_.NotYet take_.End h is = absurd is
takes_later k old new take_.NotYet (take_.Fault other) h is = absurd is
takes_later k old new take_.End (take_.Item other) h is = absurd is
takes_later k old new take_.End take_.NotYet h is = absurd is
takes_later k old new take_.End take_.End h is = (h.0, left_later k old [] ∙ ap (moved_contents k) h.1, ap (later k) h.2)
takes_later k old new take_.End (take_.Fault other) h is = absurd is

-- what is left is told by what is given
new_is : (old new : Fed) (taken : Take) → Takes old taken new → new ≡ behind_next old taken
new_is old new (take_.Item item) h = h.1
new_is old new (take_.Fault fault) h = h.1
new_is old new take_.NotYet h = h.2
new_is old new take_.End h = h.2

pub shows_later : (k : ℕ) (old new : Fed) (one other : Take) → Takes old one new → Moves k one other → Shows (later k old) other
shows_later k old new one other h is =
    let t = takes_later k old new one other h is in
    subst (λ (f : Fed). Takes (later k old) other f) (new_is (later k old) (later k new) other t) t
