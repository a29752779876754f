-- What a line of an object makes.
use Rattle.std.proofs.Common.{◌≡◌, ℕ, suc, ◌+◌, ◌-◌, ◌<◌, ◌≤◌, ◌⊎◌, Bool, true, false, eqb, List, [], ◌∷◌, ◌++◌, length}
use Rattle.std.proofs.Common.{take, drop, Option, Some, None, Result, Ok, Err, refl, sym, ap, subst, ◌∙◌, append_assoc}
use Rattle.std.proofs.{Common.{take-add, inl, inr, arith}, lemmas.List.{drop-drop, length-append, length-drop}}
use Rattle.std.proofs.lemmas.Bool.{eqb-true, false≢true}
use Rattle.item_terms.specs.{declared.fault.{DocFault.DocFault, DocReason.TheVariants.Unterminated}, Lines.Line}
use Rattle.item_terms.specs.{Words.begins_dash, Faults.{object_line_fault, at}, Steps.{with_line, Object, step}}
use Rattle.item_terms.specs.{Steps.{nothing, object_lines, object_step, step_unless}, Items.{also, failed_contents}}
use Rattle.item_terms.specs.Items as model
use Rattle.dirdoc_grammar.specs.declared.{item.Item.Item, front.{Stop.Stop, Phase.TheVariants.Keyword}}
use Rattle.dirdoc_grammar.specs.declared.front.{Phase.TheVariants.Object as Inside, Found.{Found, TheVariants.Whole}}
use Rattle.dirdoc_grammar.specs.{declared.front.Found.TheVariants.{Fault, Open}, Reading.{first_line, from_place}}
use Rattle.dirdoc_grammar.specs.Reading.{last_step, lines_from, Waits, IsCut, IsFault, Fails, FindsLines, FindsObject}
use Rattle.dirdoc_grammar.{specs.Seen.seen_item, proofs.Fronts.{grows_at, ended_at, object_fault_stays, cut_object}}
use Rattle.dirdoc_grammar.proofs.FirstLine.{goes_on, fails, ends_inside, line_grows, line_after, with_byte}

-- what is known of a line of an object whose text was found
pub record FoundObject (limit begin place : ℕ) (bytes text : List ℕ) : Type 0 where
  pub line : first_line (drop place bytes) ≡ record { text = text; ended = true }
  pub sound : object_line_fault limit begin place (first_line (drop place bytes)) ≡ None

found : (limit begin place : ℕ) (bytes text : List ℕ) → (first_line (drop place bytes) ≡ record { text = text; ended = true }) × (object_line_fault limit begin place (first_line (drop place bytes)) ≡ None) → FoundObject limit begin place bytes text
found limit begin place bytes text h = record { line = h.0; sound = h.1 }

pub object_fails : (limit begin place : ℕ) (bytes : List ℕ) (item : model.Item) (object : Object) (fault : DocFault) → place < length bytes
    → object_line_fault limit begin place (first_line (drop place bytes)) ≡ Some fault → from_place limit place (object_lines item begin object) bytes ≡ failed_contents fault
object_fails limit begin place bytes item object fault inside e =
    fails limit place (object_lines item begin object) bytes fault inside (ap (λ (f : Option DocFault). step_unless f (object_step item begin object place (first_line (drop place bytes)))) e)

object_made : (limit begin place : ℕ) (bytes text : List ℕ) (item : model.Item) (object : Object) → FoundObject limit begin place bytes text
    → step limit place (object_lines item begin object) (first_line (drop place bytes)) ≡ object_step item begin object place (record { text = text; ended = true })
object_made limit begin place bytes text item object h =
    ap (λ (f : Option DocFault). step_unless f (object_step item begin object place (first_line (drop place bytes)))) h.sound
    ∙ ap (λ (l : Line). object_step item begin object place l) h.line

abbrev pub FoundHere : ℕ → ℕ → ℕ → List ℕ → List ℕ → Type 0
FoundHere limit begin place bytes text = (first_line (drop place bytes) ≡ record { text = text; ended = true }) × (object_line_fault limit begin place (first_line (drop place bytes)) ≡ None)

pub object_goes_on : (limit begin place : ℕ) (bytes text : List ℕ) (item : model.Item) (object : Object) → place < length bytes → FoundHere limit begin place bytes text
    → begins_dash text ≡ false
    → from_place limit place (object_lines item begin object) bytes ≡ from_place limit (place + length text + 1) (object_lines item begin (with_line object text)) bytes
object_goes_on limit begin place bytes text item object inside h dash =
    let f = found limit begin place bytes text h in
    let line : Line = record { text = text; ended = true } in
    let made : object_step item begin object place line ≡ record { whole = None; next = Ok (object_lines item begin (with_line object text)) } = rw dash refl in
    goes_on limit place (object_lines item begin object) bytes text None (object_lines item begin (with_line object text)) inside f.line (object_made limit begin place bytes text item object f ∙ made)

-- what the last line of an object leaves
abbrev pub Ends : ℕ → ℕ → List ℕ → model.Contents → ℕ → Result Item DocFault → Type 0
Ends limit place bytes before after (Ok whole) = (before ≡ also (Some (seen_item whole)) (from_place limit after nothing bytes)) × (after ≤ length bytes)
Ends limit place bytes before after (Err fault) = before ≡ failed_contents fault

pub object_ends : (limit begin place : ℕ) (bytes text : List ℕ) (item : model.Item) (object : Object) (r : Result Item DocFault) → place < length bytes → FoundHere limit begin place bytes text
    → object_step item begin object place (record { text = text; ended = true }) ≡ last_step r
    → Ends limit place bytes (from_place limit place (object_lines item begin object) bytes) (place + length text + 1) r
object_ends limit begin place bytes text item object (Ok whole) inside h e =
    let f = found limit begin place bytes text h in
    (goes_on limit place (object_lines item begin object) bytes text (Some (seen_item whole)) nothing inside f.line (object_made limit begin place bytes text item object f ∙ e), ends_inside place bytes text inside f.line)
object_ends limit begin place bytes text item object (Err fault) inside h e =
    let f = found limit begin place bytes text h in
    fails limit place (object_lines item begin object) bytes fault inside (object_made limit begin place bytes text item object f ∙ e)

-- the bytes of the first line, with its NL
nl_case : (is_nl : Bool) (b : ℕ) (bytes : List ℕ) → eqb b 10 ≡ is_nl → ((text : List ℕ) → first_line bytes ≡ record { text = text; ended = true } → take (length text + 1) bytes ≡ text ++ 10 ∷ [])
    → (text : List ℕ) → line_after is_nl b bytes ≡ record { text = text; ended = true } → take (length text + 1) (b ∷ bytes) ≡ text ++ 10 ∷ []
nl_case true b bytes is before text e =
    let empty : [] ≡ text = ap (λ (l : Line). l.text) e in
    subst (λ (t : List ℕ). take (length t + 1) (b ∷ bytes) ≡ t ++ 10 ∷ []) empty (ap (λ (x : ℕ). x ∷ []) (eqb-true b 10 is))
nl_case false b bytes is before text e =
    let rest = first_line bytes in
    let grown : with_byte b rest ≡ record { text = text; ended = true } = sym (line_grows b bytes) ∙ e in
    let one : rest ≡ record { text = rest.text; ended = true } = ap (λ (d : Bool). record { text = rest.text; ended = d }) (ap (λ (l : Line). l.ended) grown) in
    let n : suc (length rest.text) + 1 ≡ suc (length rest.text + 1) = omega arith in
    let here : take (length (b ∷ rest.text) + 1) (b ∷ bytes) ≡ (b ∷ rest.text) ++ 10 ∷ [] = ap (λ (k : ℕ). take k (b ∷ bytes)) n ∙ ap (λ (t : List ℕ). b ∷ t) (before rest.text one) in
    subst (λ (t : List ℕ). take (length t + 1) (b ∷ bytes) ≡ t ++ 10 ∷ []) (ap (λ (l : Line). l.text) grown) here

pub first_line_bytes : (bytes text : List ℕ) → first_line bytes ≡ record { text = text; ended = true } → take (length text + 1) bytes ≡ text ++ 10 ∷ []
first_line_bytes [] text e = absurd (false≢true (ap (λ (l : Line). l.ended) e))
first_line_bytes (b ∷ bytes) text e = nl_case (eqb b 10) b bytes refl (first_line_bytes bytes) text e

pub bytes_with_one_more_line : (first place : ℕ) (bytes text : List ℕ) → first ≤ place → first_line (drop place bytes) ≡ record { text = text; ended = true }
    → (take (place - first) (drop first bytes) ++ text) ++ 10 ∷ [] ≡ take (place + length text + 1 - first) (drop first bytes)
bytes_with_one_more_line first place bytes text le e =
    let front = take (place - first) (drop first bytes) in
    let n : place + length text + 1 - first ≡ (place - first) + (length text + 1) = omega arith in
    let back : drop (place - first) (drop first bytes) ≡ drop place bytes = drop-drop (place - first) first bytes ∙ ap (λ (k : ℕ). drop k bytes) (omega arith) in
    let line : take (length text + 1) (drop (place - first) (drop first bytes)) ≡ text ++ 10 ∷ [] = ap (λ (r : List ℕ). take (length text + 1) r) back ∙ first_line_bytes (drop place bytes) text e in
    append_assoc front text (10 ∷ []) ∙ ap (λ (t : List ℕ). front ++ t) (sym line) ∙ sym (take-add (place - first) (length text + 1) (drop first bytes)) ∙ ap (λ (k : ℕ). take k (drop first bytes)) (sym n)

-- ---- the same where more bytes follow

pub found_more : (limit begin place : ℕ) (bytes more text : List ℕ) → place < length bytes → FoundHere limit begin place bytes text → FoundHere limit begin place (bytes ++ more) text
found_more limit begin place bytes more text inside h =
    let there = ended_at place bytes more text (omega arith) h.0 in
    (there, ap (object_line_fault limit begin place) (there ∙ sym h.0) ∙ h.1)

fault_more : (limit begin place : ℕ) (bytes more : List ℕ) (fault : DocFault) → place < length bytes → object_line_fault limit begin place (first_line (drop place bytes)) ≡ Some fault → (fault.reason ≡ Unterminated → ⊥)
    → object_line_fault limit begin place (first_line (drop place (bytes ++ more))) ≡ Some fault
fault_more limit begin place bytes more fault inside e sure =
    object_fault_stays limit begin place (first_line (drop place bytes)) (first_line (drop place (bytes ++ more))) fault (grows_at place bytes more (omega arith)) e sure

cut_here : (limit begin place : ℕ) (bytes : List ℕ) (fault : DocFault) → place < length bytes → object_line_fault limit begin place (first_line (drop place bytes)) ≡ Some fault → fault.reason ≡ Unterminated
    → object_line_fault limit begin place (first_line (drop place bytes)) ≡ Some (at (length bytes) Unterminated)
cut_here limit begin place bytes fault inside e is =
    let h = cut_object limit begin place (drop place bytes) fault e is in
    let n : place + length (drop place bytes) ≡ length bytes = omega (arith, length-drop place bytes, inside) in
    e ∙ ap (λ (f : DocFault). Some f) h.1 ∙ ap (λ (k : ℕ). Some (at k Unterminated)) n

-- the lines of an object, from its first one up to a place, whatever follows the bytes
pub record LinesTo (limit : ℕ) (item : model.Item) (words : List ℕ) (first place : ℕ) (bytes : List ℕ) : Type 0 where
  pub order : first ≤ place
  pub begins : item.after < first
  pub within : place ≤ length bytes
  pub same : (more : List ℕ) → from_place limit first (lines_from item words first) (bytes ++ more)
      ≡ from_place limit place (object_lines item item.after (record { words = words; start = first; text = take (place - first) (drop first bytes) })) (bytes ++ more)

-- the object whose lines stand from first up to place
abbrev pub lines_up_to : ℕ → ℕ → List ℕ → List ℕ → Object
lines_up_to first place words bytes = record { words = words; start = first; text = take (place - first) (drop first bytes) }

-- a turn of the loop over the lines of an object
pub one_turn : (limit first place : ℕ) (bytes text words : List ℕ) (item : model.Item) → LinesTo limit item words first place bytes → place < length bytes → FoundHere limit item.after place bytes text → begins_dash text ≡ false
    → LinesTo limit item words first (place + (length text + 1)) bytes
one_turn limit first place bytes text words item so inside h dash =
    let begin = item.after in
    let next = place + length text + 1 in
    let grown : with_line (lines_up_to first place words bytes) text ≡ lines_up_to first next words bytes = ap (λ (t : List ℕ). record { words = words; start = first; text = t }) (bytes_with_one_more_line first place bytes text so.order h.0) in
    let to : next ≡ place + (length text + 1) = omega arith in
    record {
      order = omega (arith, so.order);
      begins = so.begins;
      within = omega (arith, ends_inside place bytes text inside h.0);
      same = λ more.
          so.same more
          ∙ object_goes_on limit begin place (bytes ++ more) text item (lines_up_to first place words bytes) (omega (arith, inside, length-append bytes more)) (found_more limit begin place bytes more text inside h) dash
          ∙ ap (λ (o : Object). from_place limit next (object_lines item begin o) (bytes ++ more)) grown
          ∙ ap (λ (k : ℕ). from_place limit k (object_lines item begin (lines_up_to first k words bytes)) (bytes ++ more)) to;
    }

-- where the reading stops among the lines of an object
pub stops_inside : (limit first place : ℕ) (bytes words : List ℕ) (item : model.Item) (stop : Stop) (last : Option Item) → LinesTo limit item words first place bytes
    → last ≡ None → stop.line ≡ place → stop.phase ≡ Inside item.after
    → (place ≡ length bytes) ⊎ IsCut limit place (object_lines item item.after (lines_up_to first place words bytes)) bytes
    → Waits limit first (lines_from item words first) bytes stop last
stops_inside limit first place bytes words item stop last so none line phase ends =
    let open_ = object_lines item item.after (lines_up_to first place words bytes) in
    rw (none, line, phase)
    (record {
      stands = record { open_ = open_; kind = refl; behind = tt; same = so.same; order = so.order; within = so.within };
      ends = elim ends [
        | inl there ↦ inl (there, tt)
        | inr cut ↦ inr cut
      ];
    })

-- a line of an object that has a fault
pub line_stops : (limit first place : ℕ) (bytes words : List ℕ) (item : Item) (fault : DocFault) (r : Found) → LinesTo limit (seen_item item) words first place bytes → place < length bytes
    → object_line_fault limit item.after place (first_line (drop place bytes)) ≡ Some fault → IsFault r fault place (Inside item.after) → FindsLines limit bytes item words first r
line_stops limit first place bytes words item fault (Whole whole) so inside e is = absurd is
line_stops limit first place bytes words item fault (Fault other) so inside e is = λ more.
    so.same more
    ∙ object_fails limit item.after place (bytes ++ more) (seen_item item) (lines_up_to first place words bytes) fault (omega (arith, inside, length-append bytes more)) (fault_more limit item.after place bytes more fault inside e is.1)
    ∙ ap failed_contents (sym is.0)
line_stops limit first place bytes words item fault (Open stop last) so inside e is =
    stops_inside limit first place bytes words (seen_item item) stop last so is.0 is.2 is.3
    (inr (record { inside = inside; fault = cut_here limit item.after place bytes fault inside e is.1; object = tt }))

-- the END line of an object, or one that should be
pub ends_object : (limit first place : ℕ) (bytes text words : List ℕ) (item whole : Item) → LinesTo limit (seen_item item) words first place bytes → place < length bytes → FoundHere limit item.after place bytes text
    → object_step (seen_item item) item.after (lines_up_to first place words bytes) place (record { text = text; ended = true }) ≡ last_step (Ok whole)
    → whole.after ≡ place + length text + 1 → FindsLines limit bytes item words first (Whole whole)
ends_object limit first place bytes text words item whole so inside h e after = (
  λ more.
      so.same more
      ∙ (object_ends limit item.after place (bytes ++ more) text (seen_item item) (lines_up_to first place words bytes) (Ok whole) (omega (arith, inside, length-append bytes more)) (found_more limit item.after place bytes more text inside h) e).0
      ∙ ap (λ (k : ℕ). also (Some (seen_item whole)) (from_place limit k nothing (bytes ++ more))) (sym after),
  omega (arith, so.order, so.begins, after),
  omega (arith, after, ends_inside place bytes text inside h.0),
)

pub breaks_object : (limit first place : ℕ) (bytes text words : List ℕ) (item : Item) (fault : DocFault) → LinesTo limit (seen_item item) words first place bytes → place < length bytes → FoundHere limit item.after place bytes text
    → object_step (seen_item item) item.after (lines_up_to first place words bytes) place (record { text = text; ended = true }) ≡ last_step (Err fault)
    → FindsLines limit bytes item words first (Fault fault)
breaks_object limit first place bytes text words item fault so inside h e = λ more.
    so.same more
    ∙ object_ends limit item.after place (bytes ++ more) text (seen_item item) (lines_up_to first place words bytes) (Err fault) (omega (arith, inside, length-append bytes more)) (found_more limit item.after place bytes more text inside h) e

-- ---- what follows a keyword line

pub object_found : (limit : ℕ) (bytes words : List ℕ) (item : Item) (first : ℕ) (r : Found)
    → ((more : List ℕ) → from_place limit item.after (model.keyword_line (seen_item item)) (bytes ++ more) ≡ from_place limit first (lines_from (seen_item item) words first) (bytes ++ more))
    → item.after < first → FindsLines limit bytes item words first r → FindsObject limit bytes item r
object_found limit bytes words item first (Whole whole) begins order found = (λ more. begins more ∙ found.0 more, found.1, found.2)
object_found limit bytes words item first (Fault fault) begins order found = λ more. begins more ∙ found more
object_found limit bytes words item first (Open stop last) begins order found =
    let s = found.stands in
    record {
      stands = record { open_ = s.open_; kind = s.kind; behind = s.behind; same = λ more. begins more ∙ s.same more; order = omega (arith, order, s.order); within = s.within };
      ends = found.ends;
    }

pub begin_found : (limit : ℕ) (bytes : List ℕ) (item : Item) (fault : DocFault) (r : Found) → Fails limit item.after (model.keyword_line (seen_item item)) bytes fault → item.after ≤ length bytes → IsFault r fault item.after Keyword → FindsObject limit bytes item r
begin_found limit bytes item fault (Whole whole) failing inside is = absurd is
begin_found limit bytes item fault (Fault other) failing inside is = λ more. failing.settled is.1 more ∙ ap failed_contents (sym is.0)
begin_found limit bytes item fault (Open stop last) failing inside is =
    rw (is.0, is.2, is.3)
    (record {
      stands = record { open_ = model.keyword_line (seen_item item); kind = tt; behind = omega arith; same = λ more. refl; order = omega arith; within = inside };
      ends = inr (failing.cut is.1);
    })

-- the bytes end with a keyword line
pub item_waits : (limit : ℕ) (bytes : List ℕ) (item : Item) (stop : Stop) → item.after ≡ length bytes → stop.line ≡ item.after → stop.phase ≡ Keyword → Waits limit item.after (model.keyword_line (seen_item item)) bytes stop (Some item)
item_waits limit bytes item stop there line phase =
    rw (line, phase)
    (record {
      stands = record { open_ = model.keyword_line (seen_item item); kind = tt; behind = omega arith; same = λ more. refl; order = omega arith; within = omega (arith, there) };
      ends = (there, refl, refl);
    })
