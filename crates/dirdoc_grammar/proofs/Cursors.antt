-- What a reader knows of bytes that go on.
use Rattle.std.proofs.Common.{◌≡◌, ℕ, ◌+◌, ◌<◌, ◌≤◌, false, List, ◌++◌, length, drop, Option, refl, sym, ap, subst, ◌∙◌}
use Rattle.std.proofs.{Common.{append_assoc, inl, inr, arith}, lemmas.Bool.{cases_lt, lt-ltb, false≢true}}
use Rattle.std.proofs.lemmas.List.{length-append, length-drop, drop-append-le}
use Rattle.item_terms.specs.{Words.begins_dash, Items.{Open, nothing, keyword_line, object_lines}, Steps.with_line}
use Rattle.item_terms.specs.Items as model
use Rattle.dirdoc_grammar.specs.declared.{cursor.Cursor.Cursor, item.Item.Item, front.{Stop.Stop, Phase.Phase}}
use Rattle.dirdoc_grammar.specs.declared.front.{Phase.TheVariants.Object, Found.TheVariants.Open as More}
use Rattle.dirdoc_grammar.specs.{Reading.{first_line_len, from_place, IsOf, Stands, Finds}, Cursors.{NoNl, IsOver}}
use Rattle.dirdoc_grammar.{specs.Cursors.{IsAt, Past, behind}, proofs.{FirstLine.ends_inside, ObjectSteps.FoundHere}}
use Rattle.dirdoc_grammar.proofs.{ObjectSteps.{object_goes_on, found_more}, Endings.{over_of, cut_open}, Quiet.grows}

-- ---- a line of an object more

by_open : (limit place begin line : ℕ) (so_far open_ : Open) (bytes text : List ℕ) → line < length bytes → FoundHere limit begin line bytes text → begins_dash text ≡ false → IsOf (Object begin) open_
    → ((more : List ℕ) → from_place limit place so_far (bytes ++ more) ≡ from_place limit line open_ (bytes ++ more)) → place ≤ line
    → Stands limit place so_far bytes (line + (length text + 1)) (Object begin)
by_open limit place begin line so_far nothing bytes text inside h dash kind same order = absurd kind
by_open limit place begin line so_far (keyword_line item) bytes text inside h dash kind same order = absurd kind
by_open limit place begin line so_far (object_lines item b object) bytes text inside h dash kind same order =
    let here : FoundHere limit b line bytes text = subst (λ (n : ℕ). FoundHere limit n line bytes text) (sym kind) h in
    let next : line + length text + 1 ≡ line + (length text + 1) = omega arith in
    record {
      open_ = object_lines item b (with_line object text);
      kind = kind;
      behind = tt;
      same = λ more.
          same more
          ∙ object_goes_on limit b line (bytes ++ more) text item object (omega (arith, inside, length-append bytes more)) (found_more limit b line bytes more text inside here) dash
          ∙ ap (λ (n : ℕ). from_place limit n (object_lines item b (with_line object text)) (bytes ++ more)) next;
      order = omega (arith, order);
      within = omega (arith, ends_inside line bytes text inside h.0);
    }

pub line_on : (limit place begin line : ℕ) (so_far : Open) (bytes text : List ℕ) → line < length bytes → FoundHere limit begin line bytes text → begins_dash text ≡ false → Stands limit place so_far bytes line (Object begin)
    → Stands limit place so_far bytes (line + (length text + 1)) (Object begin)
line_on limit place begin line so_far bytes text inside h dash stands = by_open limit place begin line so_far stands.open_ bytes text inside h dash stands.kind stands.same stands.order

-- ---- what a reader knows

pub at_behind : (limit place : ℕ) (bytes : List ℕ) → place ≤ length bytes → IsAt bytes (behind limit place)
at_behind limit place bytes le = record {
  item = λ more. refl;
  stands = record { open_ = nothing; kind = tt; behind = tt; same = λ more. refl; order = omega arith; within = le };
  taken = omega arith;
  order = omega arith;
  later = omega arith;
  within = le;
  no_nl = omega arith;
}

grown : (F G : List ℕ → model.Contents) (bytes more : List ℕ) → ((next : List ℕ) → F (bytes ++ next) ≡ G (bytes ++ next)) → (next : List ℕ) → F ((bytes ++ more) ++ next) ≡ G ((bytes ++ more) ++ next)
grown F G bytes more e next = ap F (append_assoc bytes more next) ∙ e (more ++ next) ∙ sym (ap G (append_assoc bytes more next))

-- what it knows stands where the bytes go on
pub at_more : (bytes more : List ℕ) (cursor : Cursor) → IsAt bytes cursor → IsAt (bytes ++ more) cursor
at_more bytes more cursor is =
    let s = is.stands in
    let within = is.within in
    let longer = length-append bytes more in
    let line = cursor.stop.line in
    record {
      item = grown (from_place cursor.limit cursor.place nothing) (from_place cursor.limit cursor.stop.item nothing) bytes more is.item;
      stands = record {
        open_ = s.open_;
        kind = s.kind;
        behind = s.behind;
        same = grown (from_place cursor.limit cursor.place nothing) (from_place cursor.limit line s.open_) bytes more s.same;
        order = s.order;
        within = omega (arith, s.within, longer);
      };
      taken = is.taken;
      order = is.order;
      later = is.later;
      within = omega (arith, within, longer);
      no_nl = omega (arith, is.no_nl, grows (drop line bytes) more, ap first_line_len (drop-append-le line bytes more (omega (arith, is.later, within))));
    }

-- past some lines of an object
pub at_line : (bytes : List ℕ) (cursor : Cursor) (begin line : ℕ) → IsAt bytes cursor → cursor.stop.phase ≡ Object begin → Past cursor.limit begin bytes cursor.stop.line line → cursor.stop.line ≤ line → line ≤ length bytes
    → IsAt bytes (record cursor { stop = record { item = cursor.stop.item; line = line; phase = cursor.stop.phase }; scanned = line })
at_line bytes cursor begin line is phase past order within = record {
  item = is.item;
  stands = subst (λ (p : Phase). Stands cursor.limit cursor.place nothing bytes line p) (sym phase)
      (past cursor.place nothing (subst (λ (p : Phase). Stands cursor.limit cursor.place nothing bytes cursor.stop.line p) phase is.stands));
  taken = is.taken;
  order = omega (arith, is.order, order);
  later = omega arith;
  within = within;
  no_nl = omega arith;
}

over_no_nl : (limit line : ℕ) (open_ : Open) (bytes : List ℕ) → IsOver limit line open_ bytes → NoNl bytes line (length bytes)
over_no_nl limit line open_ bytes (inl e) = omega (arith, e)
over_no_nl limit line open_ bytes (inr cut) = elim (cases_lt (first_line_len (drop line bytes)) (length (drop line bytes))) [
  | inl lt ↦ absurd (false≢true (sym (cut_open limit line open_ bytes cut) ∙ lt-ltb _ _ lt))
  | inr ge ↦ omega (arith, ge, length-drop line bytes)
]

-- where the reading of an item stops
pub at_stop : (bytes : List ℕ) (cursor : Cursor) (stop : Stop) (last : Option Item) → IsAt bytes cursor → Finds cursor.limit cursor.stop.item bytes (More stop last)
    → IsAt bytes (record cursor { stop = stop; scanned = length bytes })
at_stop bytes cursor stop last is found =
    let s = found.3.stands in
    let limit = cursor.limit in
    record {
      item = λ more. is.item more ∙ found.0 more;
      stands = record { open_ = s.open_; kind = s.kind; behind = s.behind; same = λ more. is.item more ∙ s.same more; order = omega (arith, is.taken, s.order); within = s.within };
      taken = omega (arith, is.taken, found.1);
      order = found.2;
      later = s.within;
      within = omega arith;
      no_nl = over_no_nl limit stop.line s.open_ bytes (over_of limit stop.line s.open_ bytes last found.3.ends);
    }
