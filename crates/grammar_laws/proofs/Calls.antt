-- What the calls of a writer have written, call by call.
use Rattle.std.proofs.Common.{◌≡◌, ℕ, true, false, List, [], ◌∷◌, ◌++◌, refl, sym, ap, ◌∙◌, append_assoc}
use Rattle.std.proofs.lemmas.{Bool.false≢true, List.{append-nil, Elements.{All-append, All-cons, All-nil}}}
use Rattle.std.specs.Prelude.{All, Some, None}
use Rattle.base64.specs.GeneralPurpose.{IsBytes}
use Rattle.item_terms.specs.Words.{are_words}
use Rattle.dirdoc_grammar.specs.declared.writer.Stage.{Stage, TheVariants.{Between, Begun, Rested, Ended}}
use Rattle.dirdoc_grammar.specs.{Bodies.object_text, Writers.{Draft, in_line, is_argument}, Writing.IsKeyword}
use Rattle.dirdoc_grammar.specs.Writing.{IsLineRest, NewItem, item_text, items_text, tail}
use Rattle.grammar_laws.specs.Calls.{Call, begin, argument, rest, end, object, MayCall, MayCallAll, after, after_all}
use Rattle.grammar_laws.{specs.{Calls.new_draft, Written.{HasItems, IsItem}}, proofs.LineRests.joined}
use Rattle.grammar_laws.proofs.LineRests.{rest_of_argument, rest_of_joined, rest_of_nothing, tail-argument, tail-joined}

-- ---- texts

sections : (front back : List NewItem) → items_text (front ++ back) ≡ items_text front ++ items_text back
sections [] back = refl
sections (item ∷ front) back =
    ap (λ (l : List ℕ). item_text item ++ l) (sections front back) ∙ sym (append_assoc (item_text item) (items_text front) (items_text back))

-- what is appended stands behind the last of three parts
appended_to_last_of_three : (before items line more text : List ℕ) → text ≡ before ++ (items ++ line) → text ++ more ≡ before ++ (items ++ (line ++ more))
appended_to_last_of_three before items line more text is =
    ap (λ (l : List ℕ). l ++ more) is
    ∙ append_assoc before (items ++ line) more
    ∙ ap (λ (l : List ℕ). before ++ l) (append_assoc items line more)

-- ---- what stands there at each stage

-- items, and the line of one more that is not ended
record HasLine (before whole : List ℕ) : Type 0 where
  items : List NewItem
  each : All IsItem items
  keyword : List ℕ
  arguments : List ℕ
  is_keyword : IsKeyword keyword
  is_rest : IsLineRest arguments
  text : whole ≡ before ++ (items_text items ++ (keyword ++ tail arguments))

-- items, and the line of one more, which may have an object
record HasOpenItem (before whole : List ℕ) : Type 0 where
  items : List NewItem
  each : All IsItem items
  keyword : List ℕ
  arguments : List ℕ
  is_keyword : IsKeyword keyword
  is_rest : IsLineRest arguments
  text : whole ≡ before ++ (items_text items ++ ((keyword ++ tail arguments) ++ 10 ∷ []))

abbrev Stands : List ℕ → List ℕ → Stage → Type 0
Stands before whole Between = HasItems before whole
Stands before whole Begun = HasLine before whole
Stands before whole Rested = HasLine before whole
Stands before whole Ended = HasOpenItem before whole

in_begun : (before whole : List ℕ) (stage : Stage) → stage ≡ Begun → Stands before whole stage → HasLine before whole
in_begun before whole Between e has = absurd cc
in_begun before whole Begun e has = has
in_begun before whole Rested e has = absurd cc
in_begun before whole Ended e has = absurd cc

in_ended : (before whole : List ℕ) (stage : Stage) → stage ≡ Ended → Stands before whole stage → HasOpenItem before whole
in_ended before whole Between e has = absurd cc
in_ended before whole Begun e has = absurd cc
in_ended before whole Rested e has = absurd cc
in_ended before whole Ended e has = has

in_a_line : (before whole : List ℕ) (stage : Stage) → in_line stage ≡ true → Stands before whole stage → HasLine before whole
in_a_line before whole Between e has = absurd (false≢true e)
in_a_line before whole Begun e has = has
in_a_line before whole Rested e has = has
in_a_line before whole Ended e has = absurd (false≢true e)

-- one more item, with this object if there is one
has_items_with_one_more : (before whole : List ℕ) (items : List NewItem) (item : NewItem) → All IsItem items → IsItem item → whole ≡ before ++ (items_text items ++ item_text item) → HasItems before whole
has_items_with_one_more before whole items item each is text = record {
  items = items ++ item ∷ [];
  each = All-append IsItem items (item ∷ []) each (All-cons IsItem item [] is (All-nil IsItem));
  text = text ∙ ap (λ (l : List ℕ). before ++ l) (ap (λ (l : List ℕ). items_text items ++ l) (sym (append-nil (item_text item))) ∙ sym (sections items (item ∷ [])));
}

without_object : (before whole : List ℕ) → HasOpenItem before whole → HasItems before whole
without_object before whole has =
    has_items_with_one_more before whole has.items (record { keyword = has.keyword; arguments = has.arguments; spaced = false; object = None }) has.each
    (record { keyword = has.is_keyword; arguments = has.is_rest; object = tt }) has.text

outside : (before whole : List ℕ) (stage : Stage) → in_line stage ≡ false → Stands before whole stage → HasItems before whole
outside before whole Between e has = has
outside before whole Begun e has = absurd (false≢true (sym e))
outside before whole Rested e has = absurd (false≢true (sym e))
outside before whole Ended e has = without_object before whole has

-- ---- calls

begun : (before whole keyword : List ℕ) → IsKeyword keyword → HasItems before whole → HasLine before (whole ++ keyword)
begun before whole keyword is has =
    let written = items_text has.items in
    record {
      items = has.items;
      each = has.each;
      keyword = keyword;
      arguments = [];
      is_keyword = is;
      is_rest = rest_of_nothing;
      text = ap (λ (l : List ℕ). l ++ keyword) has.text ∙ append_assoc before written keyword ∙ ap (λ (l : List ℕ). before ++ (written ++ l)) (sym (append-nil keyword));
    }

line_goes_on : (before whole more : List ℕ) → IsLineRest more → HasLine before whole → HasLine before (whole ++ tail more)
line_goes_on before whole more is has =
    let line = has.keyword ++ tail has.arguments in
    let same : line ++ tail more ≡ has.keyword ++ tail (joined has.arguments more) = append_assoc has.keyword (tail has.arguments) (tail more) ∙ ap (λ (l : List ℕ). has.keyword ++ l) (sym (tail-joined has.arguments more)) in
    record {
      items = has.items;
      each = has.each;
      keyword = has.keyword;
      arguments = joined has.arguments more;
      is_keyword = has.is_keyword;
      is_rest = rest_of_joined has.arguments more has.is_rest is;
      text = appended_to_last_of_three before (items_text has.items) line (tail more) whole has.text ∙ ap (λ (l : List ℕ). before ++ (items_text has.items ++ l)) same;
    }

with_argument : (before whole bytes : List ℕ) → is_argument bytes ≡ true → HasLine before whole → HasLine before (whole ++ 32 ∷ bytes)
with_argument before whole bytes is has = rw (tail-argument bytes is) (line_goes_on before whole bytes (rest_of_argument bytes is) has)

ended : (before whole : List ℕ) → HasLine before whole → HasOpenItem before (whole ++ 10 ∷ [])
ended before whole has = record {
  items = has.items;
  each = has.each;
  keyword = has.keyword;
  arguments = has.arguments;
  is_keyword = has.is_keyword;
  is_rest = has.is_rest;
  text = appended_to_last_of_three before (items_text has.items) (has.keyword ++ tail has.arguments) (10 ∷ []) whole has.text;
}

with_object : (before whole words bytes : List ℕ) → are_words true words ≡ true → IsBytes bytes → HasOpenItem before whole → HasItems before (whole ++ object_text words bytes)
with_object before whole words bytes are_words_ are_bytes has =
    let line = has.keyword ++ tail has.arguments in
    let text = object_text words bytes in
    has_items_with_one_more before (whole ++ text) has.items (record { keyword = has.keyword; arguments = has.arguments; spaced = false; object = Some (record { words = words; bytes = bytes }) }) has.each
    (record { keyword = has.is_keyword; arguments = has.is_rest; object = record { words = are_words_; bytes = are_bytes } })
    (appended_to_last_of_three before (items_text has.items) (line ++ 10 ∷ []) text whole has.text ∙ ap (λ (l : List ℕ). before ++ (items_text has.items ++ l)) (append_assoc line (10 ∷ []) text))

-- what stands there after a call
one_call : (before whole : List ℕ) (stage : Stage) (call : Call) → MayCall (record { text = whole; stage = stage }) call → Stands before whole stage
    → Stands before (after (record { text = whole; stage = stage }) call).text (after (record { text = whole; stage = stage }) call).stage
one_call before whole stage (begin keyword) may has = begun before whole keyword may.1 (outside before whole stage may.0 has)
one_call before whole stage (argument bytes) may has = with_argument before whole bytes may.1 (in_begun before whole stage may.0 has)
one_call before whole stage (rest bytes) may has = line_goes_on before whole bytes may.1 (in_begun before whole stage may.0 has)
one_call before whole stage end may has = ended before whole (in_a_line before whole stage may has)
one_call before whole stage (object words bytes) may has = with_object before whole words bytes may.1 may.2 (in_ended before whole stage may.0 has)

-- and after all of them
all_calls : (before : List ℕ) (draft : Draft) (calls : List Call) → MayCallAll draft calls → Stands before draft.text draft.stage
    → Stands before (after_all draft calls).text (after_all draft calls).stage
all_calls before draft [] may has = has
all_calls before draft (call ∷ calls) may has = all_calls before (after draft call) calls may.1 (one_call before draft.text draft.stage call may.0 has)

pub write_items : (before : List ℕ) (calls : List Call) → MayCallAll (new_draft before) calls → in_line (after_all (new_draft before) calls).stage ≡ false
    → HasItems before (after_all (new_draft before) calls).text
write_items before calls may done =
    let draft = after_all (new_draft before) calls in
    outside before draft.text draft.stage done
    (all_calls before (new_draft before) calls may (record { items = []; each = All-nil IsItem; text = sym (append-nil before) }))
