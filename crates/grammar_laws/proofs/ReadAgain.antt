-- Items that were written are read again.
use Rattle.std.proofs.Common.{◌≡◌, ℕ, ◌+◌, ◌≤◌, Bool, true, false, List, [], ◌∷◌, ◌++◌, length, drop, refl, sym, ap}
use Rattle.std.{proofs.{Common.◌∙◌, lemmas.List.{append-nil, Elements.{All-head, All-tail}}}, specs.Prelude.{◌&&◌, All}}
use Rattle.std.specs.Prelude.{Option, Some, None, IfSome}
use Rattle.item_terms.specs.{Items.{Contents, contents, items_from, nothing}, Faults.max_object}
use Rattle.dirdoc_grammar.specs.{Bodies.object_text, Writing.{AreWritable, IsWritableObject, NewItem, NewObject}}
use Rattle.dirdoc_grammar.specs.Writing.{all_written, in_front, is_open, item_text, items_text}
use Rattle.grammar_laws.{proofs.ItemsAgain.items_again, specs.Written.{AreWithinLimits, HasItems, IsItem, IsObject}}

-- an object that passes no limit may be written
writable_object : (object : Option NewObject) → IfSome object IsObject → IfSome object (λ o. length (object_text o.words o.bytes) ≤ max_object) → IfSome object IsWritableObject
writable_object None is fits = tt
writable_object (Some object) is fits = record { words = is.words; bytes = is.bytes; fits = fits }

-- and so may items that pass none
are_writable : (limit place : ℕ) (items : List NewItem) → All IsItem items → AreWithinLimits limit place items → AreWritable limit place items
are_writable limit place [] each within = tt
are_writable limit place (item ∷ items) each within =
    let is = All-head IsItem item items each in (
      record { keyword = is.keyword; arguments = is.arguments; line_fits = within.0.line; object = writable_object item.object is.object within.0.object; within = within.0.within },
      are_writable limit (place + length (item_text item)) items (All-tail IsItem item items each) within.1,
    )

never : (t : Bool) → t && false ≡ false
never true = refl
never false = refl

drop-append : (front back : List ℕ) → drop (length front) (front ++ back) ≡ back
drop-append [] back = refl
drop-append (b ∷ front) back = drop-append front back

no_more : (limit place : ℕ) → contents limit place nothing [] ≡ record { items = []; fault = None }
unfolding Rattle.item_terms.specs.Items.contents_of
no_more limit place = refl

pub read_again : (limit : ℕ) (before whole : List ℕ) (has : HasItems before whole) → AreWithinLimits (length before + limit) (length before) has.items
    → items_from (length before) limit whole ≡ record { items = all_written (length before) has.items; fault = None }
read_again limit before whole has within =
    let start = length before in
    let text = items_text has.items in
    let read = all_written start has.items in
    ap (λ (l : List ℕ). contents (start + limit) start nothing (drop start l)) has.text
    ∙ ap (λ (l : List ℕ). contents (start + limit) start nothing l) (drop-append before text ∙ sym (append-nil text))
    ∙ items_again (start + limit) start has.items [] (are_writable (start + limit) start has.items has.each within) (never (is_open has.items))
    ∙ ap (λ (c : Contents). in_front read c) (no_more (start + limit) (start + length text))
    ∙ ap (λ (l : List _). record { items = l; fault = None }) (append-nil read)
