-- What a reader of bytes that go on gives.
use Rattle.std.proofs.Common.{◌≡◌, ℕ, ◌-◌, ◌<◌, ◌≤◌, Bool, true, false, List, [], ◌++◌, length, drop, Option, Some}
use Rattle.std.proofs.{Common.{None, Ok, Err, refl, sym, ap, subst, ◌∙◌, arith}, lemmas.List.length-drop}
use Rattle.std.proofs.lemmas.List.{drop-append-le, drop-drop, append-nil}
use Rattle.item_terms.specs.{declared.fault.DocFault.DocFault, Items.{Open, nothing, also, failed_contents}}
use Rattle.item_terms.specs.Items as model
use Rattle.dirdoc_grammar.specs.declared.{cursor.Cursor.Cursor, item.Item.Item, front.Stop.Stop}
use Rattle.dirdoc_grammar.specs.{declared.front.Found.TheVariants.Open as More, Seen.seen_item, Reading.from_place}
use Rattle.dirdoc_grammar.specs.{Reading.{IsOf, Finds, LastOf}, Cursors.{IsOver, IsAt, behind, fed_by}}
use Rattle.dirdoc_grammar.{specs.Feeding.{first_of, Takes, MayFollow}, proofs.Endings.{over_of, not_settled}}
use Rattle.dirdoc_grammar.specs.declared.take.Take.TheVariants as take_

-- ---- what it gives

left_is : (limit place : ℕ) (bytes more : List ℕ) → place ≤ length bytes → model.contents limit place nothing (drop place bytes ++ more) ≡ from_place limit place nothing (bytes ++ more)
left_is limit place bytes more le = ap (λ (l : List ℕ). model.contents limit place nothing l) (sym (drop-append-le place bytes more le))

rest_is : (place after : ℕ) (bytes : List ℕ) → place ≤ after → drop after bytes ≡ drop (after - place) (drop place bytes)
rest_is place after bytes le = sym (drop-drop (after - place) place bytes ∙ ap (λ (n : ℕ). drop n bytes) (omega arith))

pub gives_item : (bytes : List ℕ) (cursor : Cursor) (item : Item) (finished : Bool) → IsAt bytes cursor
    → ((more : List ℕ) → MayFollow finished more → from_place cursor.limit cursor.stop.item nothing (bytes ++ more) ≡ also (Some (seen_item item)) (from_place cursor.limit item.after nothing (bytes ++ more)))
    → cursor.stop.item < item.after → item.after ≤ length bytes
    → Takes (fed_by cursor bytes finished) (take_.Item item) (fed_by (behind cursor.limit item.after) bytes finished)
gives_item bytes cursor item finished is found some inside =
    let limit = cursor.limit in
    let place = cursor.place in
    let le : place ≤ length bytes = omega (arith, is.taken, some, inside) in (
      λ more may.
          left_is limit place bytes more le ∙ is.item more ∙ found more may
          ∙ ap (λ (c : model.Contents). also (Some (seen_item item)) c) (sym (left_is limit item.after bytes more inside)),
      ap (λ (r : List ℕ). record { limit = limit; place = item.after; rest = r; finished = finished }) (rest_is place item.after bytes (omega (arith, is.taken, some))),
      omega (arith, is.taken, some),
      omega (arith, inside, le, length-drop place bytes),
    )

pub gives_fault : (bytes : List ℕ) (cursor : Cursor) (fault : DocFault) (finished : Bool) → IsAt bytes cursor
    → ((more : List ℕ) → MayFollow finished more → from_place cursor.limit cursor.stop.item nothing (bytes ++ more) ≡ failed_contents fault)
    → Takes (fed_by cursor bytes finished) (take_.Fault fault) (fed_by cursor bytes finished)
gives_fault bytes cursor fault finished is found =
    let le : cursor.place ≤ length bytes = omega (arith, is.taken, is.order, is.later, is.within) in
    (λ more may. left_is cursor.limit cursor.place bytes more le ∙ is.item more ∙ found more may, refl)

pub gives_nothing : (bytes : List ℕ) (cursor : Cursor) (new : Cursor) → IsAt bytes cursor → (open_ : Open)
    → ((more : List ℕ) → from_place cursor.limit cursor.place nothing (bytes ++ more) ≡ from_place cursor.limit new.stop.line open_ (bytes ++ more)) → IsOver cursor.limit new.stop.line open_ bytes
    → new.limit ≡ cursor.limit → new.place ≡ cursor.place
    → Takes (fed_by cursor bytes false) take_.NotYet (fed_by new bytes false)
gives_nothing bytes cursor new is open_ same over limit place =
    let le : cursor.place ≤ length bytes = omega (arith, is.taken, is.order, is.later, is.within) in (
      refl,
      λ answer settled.
          not_settled cursor.limit cursor.place new.stop.line nothing open_ bytes same over answer
          (λ more. ap (λ (c : model.Contents). first_of c) (sym (left_is cursor.limit cursor.place bytes more le)) ∙ settled more tt),
      ap (λ (n : ℕ). record { limit = n; place = new.place; rest = drop new.place bytes; finished = false }) limit
          ∙ ap (λ (n : ℕ). record { limit = cursor.limit; place = n; rest = drop n bytes; finished = false }) place,
    )

-- ---- the same where no more bytes follow

plain : (F : List ℕ → model.Contents) (bytes more : List ℕ) (c : List ℕ → model.Contents) → more ≡ [] → F bytes ≡ c bytes → F (bytes ++ more) ≡ c (bytes ++ more)
plain F bytes more c none e = subst (λ (l : List ℕ). F (bytes ++ l) ≡ c (bytes ++ l)) (sym none) (subst (λ (l : List ℕ). F l ≡ c l) (sym (append-nil bytes)) e)

pub last_item : (bytes : List ℕ) (cursor : Cursor) (item : Item) → IsAt bytes cursor → LastOf cursor.limit cursor.stop.item bytes (Ok (Some item))
    → Takes (fed_by cursor bytes true) (take_.Item item) (fed_by (behind cursor.limit item.after) bytes true)
last_item bytes cursor item is last =
    gives_item bytes cursor item true is
    (λ more none. plain (from_place cursor.limit cursor.stop.item nothing) bytes more (λ l. also (Some (seen_item item)) (from_place cursor.limit item.after nothing l)) none last.0) last.1 last.2

pub last_fault : (bytes : List ℕ) (cursor : Cursor) (fault : DocFault) → IsAt bytes cursor → LastOf cursor.limit cursor.stop.item bytes (Err fault) → Takes (fed_by cursor bytes true) (take_.Fault fault) (fed_by cursor bytes true)
last_fault bytes cursor fault is last = gives_fault bytes cursor fault true is (λ more none. plain (from_place cursor.limit cursor.stop.item nothing) bytes more (λ l. failed_contents fault) none last)

pub last_none : (bytes : List ℕ) (cursor : Cursor) → IsAt bytes cursor → LastOf cursor.limit cursor.stop.item bytes (Ok None) → Takes (fed_by cursor bytes true) take_.End (fed_by cursor bytes true)
last_none bytes cursor is last =
    let le : cursor.place ≤ length bytes = omega (arith, is.taken, is.order, is.later, is.within) in
    let none : model.Contents = record { items = []; fault = None } in
    (refl, left_is cursor.limit cursor.place bytes [] le ∙ is.item [] ∙ plain (from_place cursor.limit cursor.stop.item nothing) bytes [] (λ l. none) refl last, refl)

-- the reading stops: neither an item nor a fault is known
pub gives_stop : (bytes : List ℕ) (cursor : Cursor) (stop : Stop) (last : Option Item) → IsAt bytes cursor → Finds cursor.limit cursor.stop.item bytes (More stop last)
    → Takes (fed_by cursor bytes false) take_.NotYet (fed_by (record cursor { stop = stop; scanned = length bytes }) bytes false)
gives_stop bytes cursor stop last is found =
    let s = found.3.stands in
    let limit = cursor.limit in
    gives_nothing bytes cursor (record cursor { stop = stop; scanned = length bytes }) is s.open_ (λ more. is.item more ∙ s.same more)
    (over_of limit stop.line s.open_ bytes last found.3.ends) refl refl

pub gives_quiet : (bytes : List ℕ) (cursor : Cursor) → IsAt bytes cursor → ((open_ : Open) → IsOf cursor.stop.phase open_ → IsOver cursor.limit cursor.stop.line open_ bytes)
    → Takes (fed_by cursor bytes false) take_.NotYet (fed_by (record cursor { scanned = length bytes }) bytes false)
gives_quiet bytes cursor is over =
    let s = is.stands in
    gives_nothing bytes cursor (record cursor { scanned = length bytes }) is s.open_ s.same (over s.open_ s.kind) refl refl
