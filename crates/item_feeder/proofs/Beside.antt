-- What comes next of bytes that reach the document's limit, where one byte stands beside them.
use Rattle.std.proofs.Common.{◌≡◌, ℕ, ◌+◌, ◌-◌, ◌≤◌, Bool, true, false, eqb, List, [], ◌∷◌, ◌++◌, length, drop, Some}
use Rattle.std.proofs.{Common.{None, refl, sym, ap, ◌∙◌, arith}, lemmas.{Bool.{eq-eqb, false≢true}, List.append-nil}}
use Rattle.std.proofs.lemmas.List.{append_assoc, length-append, length-drop, drop_all, drop-append-le}
use Rattle.std.specs.Prelude.{◌&&◌}
use Rattle.item_terms.specs.{declared.fault.{DocReason.TheVariants.DocumentTooLong, DocFault.DocFault}, Faults.at}
use Rattle.item_terms.specs.Items.{Contents, contents, contents_of, nothing, also, failed_contents}
use Rattle.dirdoc_grammar.specs.{declared.{cursor.Cursor.Cursor, take.Take.Take}, Cursors.fed_by, Feeding.{Fed, Takes}}
use Rattle.dirdoc_grammar.specs.{Feeding.left_with, Seen.{seen_item, LiesInOrder}}
use Rattle.dirdoc_grammar.specs.declared.item.Item as item_
use Rattle.dirdoc_grammar.specs.declared.take.Take.TheVariants as take_
use Rattle.item_feeder.{specs.Feeders.{behind_place, fed_with, Shows}, proofs.LastWithin.{over, past, stays, goes}}
use Rattle.item_feeder.proofs.OneMore.{contents_with_one_more_byte}

-- the bytes are all that the document may have
pub record Full (cursor : Cursor) (bytes : List ℕ) : Type 0 where
  pub begins : cursor.place ≤ length bytes
  pub ends : length bytes ≡ cursor.limit

-- what is left from a place on, with the byte beside
contents_with_byte_beside : (limit place : ℕ) (rest : List ℕ) (b : ℕ) (more : List ℕ) → place + length rest ≡ limit
    → contents limit place nothing ((rest ++ b ∷ []) ++ more)
    ≡ past (eqb b 45) limit (contents limit place nothing (rest ++ []))
contents_with_byte_beside limit place rest b more e =
    ap (contents limit place nothing) (append_assoc rest (b ∷ []) more)
    ∙ contents_with_one_more_byte limit place rest b more e
    ∙ ap (λ (l : List ℕ). past (eqb b 45) limit (contents limit place nothing l)) (sym (append-nil rest))

left_is : (cursor : Cursor) (bytes : List ℕ) (b : ℕ) (finished : Bool) (more : List ℕ) → Full cursor bytes
    → left_with (fed_with cursor bytes (Some b) finished) more
    ≡ past (eqb b 45) cursor.limit (left_with (fed_by cursor bytes true) [])
left_is cursor bytes b finished more full =
    contents_with_byte_beside cursor.limit cursor.place (drop cursor.place bytes) b more
    (omega (arith, full.begins, full.ends, length-drop cursor.place bytes))

-- what is left behind an item, with the byte beside
later_is : (cursor : Cursor) (bytes : List ℕ) (b : ℕ) (finished : Bool) (more : List ℕ) (after : ℕ)
    → Full cursor bytes → cursor.place ≤ after → after ≤ cursor.place + length (drop cursor.place bytes)
    → left_with (behind_place (fed_with cursor bytes (Some b) finished) after) more
    ≡ past (eqb b 45) cursor.limit (left_with (behind_place (fed_by cursor bytes true) after) [])
later_is cursor bytes b finished more after full first last =
    let rest : List ℕ = drop cursor.place bytes in
    ap (λ (l : List ℕ). contents cursor.limit after nothing (l ++ more))
    (drop-append-le (after - cursor.place) rest (b ∷ []) (omega (arith, first, last)))
    ∙ contents_with_byte_beside cursor.limit after (drop (after - cursor.place) rest) b more
    (omega (
      arith,
      full.begins,
      full.ends,
      first,
      last,
      length-drop cursor.place bytes,
      length-drop
          (after - cursor.place) rest,
    ))

pub item_shows : (cursor : Cursor) (bytes : List ℕ) (b : ℕ) (finished : Bool) (item : item_.Item) (new : Fed)
    → Full cursor bytes → (eqb b 45 && eqb item.line_end cursor.limit) ≡ false
    → Takes (fed_by cursor bytes true) (take_.Item item) new
    → Shows (fed_with cursor bytes (Some b) finished) (take_.Item item)
item_shows cursor bytes b finished item new full e h = (
  λ more may.
      left_is cursor bytes b finished more full
      ∙ ap (past (eqb b 45) cursor.limit) (h.0 [] refl)
      ∙ stays (eqb b 45) cursor.limit (seen_item item) (left_with new []) e
      ∙ ap (λ (f : Fed). also (Some (seen_item item)) (past (eqb b 45) cursor.limit (left_with f []))) h.1
      ∙ ap (also (Some (seen_item item))) (sym (later_is cursor bytes b finished more item.after full
      (omega (arith, h.2)) h.3)),
  refl,
  h.2,
  omega (arith, h.3, length-append (drop cursor.place bytes) (b ∷ [])),
)

pub fault_shows : (cursor : Cursor) (bytes : List ℕ) (b : ℕ) (finished : Bool) (fault given : DocFault) (new : Fed)
    → Full cursor bytes → over cursor.limit (Some fault) ≡ given
    → Takes (fed_by cursor bytes true) (take_.Fault fault) new
    → Shows (fed_with cursor bytes (Some b) finished) (take_.Fault given)
fault_shows cursor bytes b finished fault given new full e h = (
  λ more may. left_is cursor bytes b finished more full ∙ ap (past (eqb b 45) cursor.limit) (h.0 [] refl)
      ∙ ap failed_contents e,
  refl,
)

end_shows : (cursor : Cursor) (bytes : List ℕ) (b : ℕ) (finished : Bool) (new : Fed) → Full cursor bytes
    → Takes (fed_by cursor bytes true) take_.End new
    → Shows (fed_with cursor bytes (Some b) finished) (take_.Fault (at cursor.limit DocumentTooLong))
end_shows cursor bytes b finished new full h =
    (λ more may. left_is cursor bytes b finished more full ∙ ap (past (eqb b 45) cursor.limit) h.1, refl)

-- neither an item nor a fault
pub other_shows : (cursor : Cursor) (bytes : List ℕ) (b : ℕ) (finished : Bool) (taken : Take) (new : Fed)
    → Full cursor bytes → ((item : item_.Item) → taken ≡ take_.Item item → ⊥)
    → ((fault : DocFault) → taken ≡ take_.Fault fault → ⊥)
    → Takes (fed_by cursor bytes true) taken new
    → Shows (fed_with cursor bytes (Some b) finished) (take_.Fault (at cursor.limit DocumentTooLong))
other_shows cursor bytes b finished (take_.Item item) new full not_item not_fault h = absurd (not_item item refl)
other_shows cursor bytes b finished (take_.Fault fault) new full not_item not_fault h = absurd (not_fault fault refl)
other_shows cursor bytes b finished take_.NotYet new full not_item not_fault h = absurd (false≢true (sym h.0))
other_shows cursor bytes b finished take_.End new full not_item not_fault h =
    end_shows cursor bytes b finished new full h

nothing_left : (limit place : ℕ) → contents limit place nothing [] ≡ record { items = []; fault = None }
unfolding contents_of
nothing_left limit place = refl

-- an item whose keyword line ends the bytes, where '-' follows
pub open_shows : (cursor : Cursor) (bytes : List ℕ) (b : ℕ) (finished : Bool) (item : item_.Item) (new : Fed)
    → Full cursor bytes → b ≡ 45 → item.line_end ≡ cursor.limit → LiesInOrder (seen_item item)
    → Takes (fed_by cursor bytes true) (take_.Item item) new
    → Shows (fed_with cursor bytes (Some b) finished) (take_.Fault (at cursor.limit DocumentTooLong))
open_shows cursor bytes b finished item new full dash e order h =
    let rest : List ℕ = drop (item.after - cursor.place) (drop cursor.place bytes) in
    let none : rest ++ [] ≡ [] =
    append-nil rest ∙ drop_all (item.after - cursor.place) (drop cursor.place bytes)
    (omega (arith, e, order.line_ends, full.begins, full.ends, length-drop cursor.place bytes)) in
    let last : left_with new [] ≡ record { items = []; fault = None } =
    ap (λ (f : Fed). left_with f []) h.1 ∙ ap (contents cursor.limit item.after nothing) none
    ∙ nothing_left cursor.limit item.after in (
      λ more may.
          left_is cursor bytes b finished more full
          ∙ ap (past (eqb b 45) cursor.limit) (h.0 [] refl)
          ∙ ap (λ (t : Bool). past t cursor.limit (also (Some (seen_item item)) (left_with new []))) (eq-eqb b 45 dash)
          ∙ goes cursor.limit (seen_item item) (left_with new []) e
          ∙ ap (λ (c : Contents). failed_contents (over cursor.limit c.fault)) last,
      refl,
    )
