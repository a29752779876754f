-- A keyword line that was written is read again, and a line whose step is known is read with what follows it.
use Rattle.std.proofs.Common.{◌≡◌, ℕ, suc, ◌+◌, ◌-◌, ◌<◌, ◌≤◌, Bool, true, false, cond, leb, ltb, List, [], ◌∷◌, ◌++◌}
use Rattle.std.proofs.Common.{length, take, drop, Option, Some, None, Result, Ok, Err, refl, sym, ap, ◌∙◌, append_assoc}
use Rattle.std.proofs.{Common.arith, lemmas.Bool.{le-leb, lt-ltb, le-ltb, false≢true, Decides.nat_tests}}
use Rattle.std.{proofs.lemmas.List.{take_at, drop_at, length-append, append-nil}, specs.Prelude.{slice_get, min, not}}
use Rattle.std.specs.{Prelude.{◌==◌, ◌&&◌}, List.{prefix_len, list_all}}
use Rattle.item_terms.specs.declared.fault.{DocFault.DocFault, DocReason.TheVariants.{Keyword, LineTooLong}}
use Rattle.item_terms.specs.{declared.fault.DocReason.TheVariants.DocumentTooLong, Lines.{Line, size}}
use Rattle.item_terms.specs.Words.{argument_start, is_blank, is_word_byte, is_letter_or_digit, keyword, keyword_len}
use Rattle.item_terms.specs.Words.{after_keyword, separator, arguments, trim, trim_end, first_is, ends_or_blank}
use Rattle.item_terms.specs.Words.{is_keyword_line, is_blank_line, nul_in, begins_dash, begin_words}
use Rattle.item_terms.specs.{Faults.{line_fault, too_long, nul_fault, or_else, at, max_line}, Steps.keyword_item}
use Rattle.item_terms.specs.Steps.{Item, Open, Step, step, nothing, keyword_line, open_item, item_unless, open_unless}
use Rattle.item_terms.specs.{Steps.{read_line, line_item, first_object_line}, Items.{Contents, contents, contents_of}}
use Rattle.item_terms.specs.Items.{also, proceed}
use Rattle.dirdoc_grammar.specs.{Writing.{behind, IsKeyword}, Reading.{first_line, first_line_len}}
use Rattle.dirdoc_grammar.proofs.{FirstLine.at_first, LineSteps.first_dash}

-- the item of a line that has this keyword and these arguments, without an object
abbrev pub written_item : ℕ → List ℕ → Bool → List ℕ → Item
written_item place word spaced args = record {
  keyword = word;
  separator = slice_get (behind spaced args) 0;
  arguments = args;
  start = argument_start place (word ++ behind spaced args);
  line_end = place + (length (word ++ behind spaced args) + 1);
  object = None;
  place = place;
  after = place + (length (word ++ behind spaced args) + 1);
}

-- the line may stand at this place of a document: it has no NL and no NUL, and passes no limit
pub record MayStand (limit place : ℕ) (line : List ℕ) : Type 0 where
  pub no_nl : list_all (λ b. not (b == 10)) line ≡ true
  pub no_nul : list_all (λ b. not (b == 0)) line ≡ true
  pub fits : length line + 1 ≤ min (limit - place) max_line

both_tests_hold : (a b : Bool) → a && b ≡ true → (a ≡ true) × (b ≡ true)
both_tests_hold true b e = (refl, e)
both_tests_hold false b e = absurd cc

-- the longest front that passes, where the next byte does not
prefix_stops : (p : ℕ → Bool) (front : List ℕ) (c : ℕ) (rest : List ℕ) → list_all p front ≡ true → p c ≡ false → prefix_len p (front ++ c ∷ rest) ≡ length front
prefix_stops p [] c rest all stop = ap (λ (b : Bool). cond b (1 + prefix_len p rest) 0) stop
prefix_stops p (b ∷ front) c rest all stop =
    let h = both_tests_hold (p b) (list_all p front) all in
    ap (λ (t : Bool). cond t (1 + prefix_len p (front ++ c ∷ rest)) 0) h.0 ∙ ap (λ (n : ℕ). 1 + n) (prefix_stops p front c rest h.1 stop) ∙ omega arith

prefix_whole : (p : ℕ → Bool) (front : List ℕ) → list_all p front ≡ true → prefix_len p front ≡ length front
prefix_whole p [] all = refl
prefix_whole p (b ∷ front) all =
    let h = both_tests_hold (p b) (list_all p front) all in
    ap (λ (t : Bool). cond t (1 + prefix_len p front) 0) h.0 ∙ ap (λ (n : ℕ). 1 + n) (prefix_whole p front h.1) ∙ omega arith

-- the first line of a text that begins with a line
first_line_again : (line rest : List ℕ) → list_all (λ b. not (b == 10)) line ≡ true → first_line (line ++ 10 ∷ rest) ≡ record { text = line; ended = true }
first_line_again line rest no_nl =
    let n : first_line_len (line ++ 10 ∷ rest) ≡ length line = prefix_stops (λ b. not (b == 10)) line 10 rest no_nl refl in
    let text : take (first_line_len (line ++ 10 ∷ rest)) (line ++ 10 ∷ rest) ≡ line = ap (λ (k : ℕ). take k (line ++ 10 ∷ rest)) n ∙ take_at line (10 ∷ rest) (length line) refl in
    let ended : ltb (first_line_len (line ++ 10 ∷ rest)) (length (line ++ 10 ∷ rest)) ≡ true = lt-ltb _ _ (omega (arith, n, length-append line (10 ∷ rest))) in
    ap (λ (t : List ℕ). record { text = t; ended = ltb (first_line_len (line ++ 10 ∷ rest)) (length (line ++ 10 ∷ rest)) }) text ∙ ap (λ (e : Bool). record { text = line; ended = e }) ended

-- ---- the line that is written for a keyword and arguments

keyword_again : (word : List ℕ) (spaced : Bool) (args : List ℕ) → IsKeyword word → keyword_len (word ++ behind spaced args) ≡ length word
keyword_again word true args h = prefix_stops is_word_byte word 32 args h.each refl
keyword_again word false [] h = ap keyword_len (append-nil word) ∙ prefix_whole is_word_byte word h.each
keyword_again word false (b ∷ args) h = prefix_stops is_word_byte word 32 (b ∷ args) h.each refl

rest_again : (word : List ℕ) (spaced : Bool) (args : List ℕ) → IsKeyword word → after_keyword (word ++ behind spaced args) ≡ behind spaced args
rest_again word spaced args h =
    ap (λ (k : ℕ). drop k (word ++ behind spaced args)) (keyword_again word spaced args h) ∙ drop_at word (behind spaced args) (length word) refl

trim_space : (args : List ℕ) → trim args ≡ args → trim (32 ∷ args) ≡ args
trim_space args e =
    let n : 1 + prefix_len is_blank args ≡ suc (prefix_len is_blank args) = omega arith in
    ap (λ (k : ℕ). trim_end (drop k (32 ∷ args))) n ∙ e

trim_behind : (spaced : Bool) (args : List ℕ) → trim args ≡ args → trim (behind spaced args) ≡ args
trim_behind true args e = trim_space args e
trim_behind false [] e = refl
trim_behind false (b ∷ args) e = trim_space (b ∷ args) e

ends_behind : (spaced : Bool) (args : List ℕ) → ends_or_blank (behind spaced args) ≡ true
ends_behind true args = refl
ends_behind false [] = refl
ends_behind false (b ∷ args) = refl

letter_not_blank : (b : ℕ) → is_letter_or_digit b ≡ true → is_blank b ≡ false
letter_not_blank b e = grind (arith, nat_tests)

not_blank : (word more : List ℕ) → first_is is_letter_or_digit word ≡ true → is_blank_line (word ++ more) ≡ false
not_blank [] more e = absurd (false≢true e)
not_blank (b ∷ word) more e = ap (λ (t : Bool). t && list_all is_blank (word ++ more)) (letter_not_blank b e)

first_letter : (word more : List ℕ) → first_is is_letter_or_digit word ≡ true → first_is is_letter_or_digit (word ++ more) ≡ true
first_letter [] more e = absurd (false≢true e)
first_letter (b ∷ word) more e = e

keyword_line_again : (word : List ℕ) (spaced : Bool) (args : List ℕ) → IsKeyword word → is_keyword_line (word ++ behind spaced args) ≡ true
keyword_line_again word spaced args h =
    ap (λ (t : Bool). t && ends_or_blank (after_keyword (word ++ behind spaced args))) (first_letter word (behind spaced args) h.first) ∙ ap ends_or_blank (rest_again word spaced args h) ∙ ends_behind spaced args

abbrev pub by_tests : ℕ → List ℕ → Bool → Bool → Result (Option Item) DocFault
by_tests place line blank is_kw = cond blank (Ok None) (cond is_kw (Ok (Some (keyword_item place (record { text = line; ended = true })))) (Err (at place Keyword)))

-- the item of this line, where its parts are known
abbrev item_with : ℕ → List ℕ → List ℕ → Option ℕ → List ℕ → Item
item_with place line word after_word args = record {
  keyword = word;
  separator = after_word;
  arguments = args;
  start = argument_start place line;
  line_end = place + (length line + 1);
  object = None;
  place = place;
  after = place + (length line + 1);
}

pub item_of_line : (place : ℕ) (word : List ℕ) (spaced : Bool) (args : List ℕ) → IsKeyword word → trim args ≡ args
    → line_item place (record { text = word ++ behind spaced args; ended = true }) ≡ Ok (Some (written_item place word spaced args))
item_of_line place word spaced args h trimmed =
    let line = word ++ behind spaced args in
    let word_is : keyword line ≡ word = ap (λ (k : ℕ). take k line) (keyword_again word spaced args h) ∙ take_at word (behind spaced args) (length word) refl in
    let args_is : arguments line ≡ args = ap trim (rest_again word spaced args h) ∙ trim_behind spaced args trimmed in
    ap (λ (b : Bool). by_tests place line b (is_keyword_line line)) (not_blank word (behind spaced args) h.first)
    ∙ ap (λ (b : Bool). by_tests place line false b) (keyword_line_again word spaced args h)
    ∙ ap (λ (w : List ℕ). Ok (Some (item_with place line w (separator line) (arguments line)))) word_is
    ∙ ap (λ (s : Option ℕ). Ok (Some (item_with place line word s (arguments line)))) (ap (λ (r : List ℕ). slice_get r 0) (rest_again word spaced args h))
    ∙ ap (λ (a : List ℕ). Ok (Some (item_with place line word (slice_get (behind spaced args) 0) a))) args_is

pub sound_line : (limit place : ℕ) (line : List ℕ) → MayStand limit place line → line_fault limit place (record { text = line; ended = true }) ≡ None
sound_line limit place line h =
    let short : too_long limit place (length line + 1) ≡ None = ap (λ (b : Bool). cond b None (Some (cond (leb (limit - place) max_line) (at limit DocumentTooLong) (at (place + max_line) LineTooLong)))) (le-leb _ _ h.fits) in
    let n : prefix_len (λ b. not (b == 0)) line ≡ length line = prefix_whole (λ b. not (b == 0)) line h.no_nul in
    let none : nul_in line ≡ None = ap (λ (k : ℕ). cond (ltb k (length line)) (Some k) None) n ∙ ap (λ (b : Bool). cond b (Some (length line)) None) (le-ltb (length line) (length line) (omega arith)) in
    ap (λ (f : Option DocFault). or_else f (or_else None (nul_fault place (nul_in line)))) short ∙ ap (λ (o : Option ℕ). nul_fault place o) none

-- where no object follows, the item of a keyword line is whole
pub whole_item : (limit place : ℕ) (item : Item) (rest : List ℕ) → begins_dash rest ≡ false → contents limit place (keyword_line item) rest ≡ also (Some item) (contents limit place nothing rest)
unfolding contents_of
whole_item limit place item [] dash = refl
whole_item limit place item (b ∷ bytes) dash =
    let rest : List ℕ = b ∷ bytes in
    let line = first_line rest in
    let made : Step = record { whole = Some item; next = open_item (read_line limit place line) } in
    at_first limit place (keyword_line item) rest (omega arith)
    ∙ ap (λ (s : Step). also s.whole (proceed s.next (λ next. contents limit (place + size line) next (drop (size line) rest)))) (ap (λ (t : Bool). cond t (record { whole = None; next = open_unless (line_fault limit place line) (first_object_line place item line (begin_words line.text)) }) made) (sym (first_dash rest) ∙ dash))
    ∙ ap (λ (c : Contents). also (Some item) c) (sym (at_first limit place nothing rest (omega arith)))

-- a line with its NL whose step is known, and what follows it
pub read_over : (limit place : ℕ) (so_far : Open) (line rest : List ℕ) (whole : Option Item) (next : Open) → list_all (λ b. not (b == 10)) line ≡ true
    → step limit place so_far (record { text = line; ended = true }) ≡ record { whole = whole; next = Ok next }
    → contents limit place so_far (line ++ 10 ∷ rest) ≡ also whole (contents limit (place + (length line + 1)) next rest)
read_over limit place so_far line rest whole next no_nl made =
    let bytes = line ++ 10 ∷ rest in
    let l : Line = record { text = line; ended = true } in
    let long : 0 < length bytes = omega (arith, length-append line (10 ∷ rest)) in
    let left : drop (length line + 1) bytes ≡ rest = ap (λ (b : List ℕ). drop (length line + 1) b) (sym (append_assoc line (10 ∷ []) rest)) ∙ drop_at (line ++ 10 ∷ []) rest (length line + 1) (length-append line (10 ∷ [])) in
    at_first limit place so_far bytes long
    ∙ ap (λ (k : Line). also (step limit place so_far k).whole (proceed (step limit place so_far k).next (λ open_. contents limit (place + size k) open_ (drop (size k) bytes)))) (first_line_again line rest no_nl)
    ∙ ap (λ (s : Step). also s.whole (proceed s.next (λ open_. contents limit (place + (length line + 1)) open_ (drop (length line + 1) bytes)))) made
    ∙ ap (λ (r : List ℕ). also whole (contents limit (place + (length line + 1)) next r)) left

-- a keyword line that was written opens its item
pub line_again : (limit place : ℕ) (word : List ℕ) (spaced : Bool) (args rest : List ℕ) → IsKeyword word → trim args ≡ args → MayStand limit place (word ++ behind spaced args)
    → contents limit place nothing ((word ++ behind spaced args) ++ 10 ∷ rest) ≡ contents limit (place + (length (word ++ behind spaced args) + 1)) (keyword_line (written_item place word spaced args)) rest
line_again limit place word spaced args rest h trimmed stands =
    let line = word ++ behind spaced args in
    let l : Line = record { text = line; ended = true } in
    read_over limit place nothing line rest None (keyword_line (written_item place word spaced args)) stands.no_nl
    (ap (λ (f : Option DocFault). record { whole = None; next = open_item (item_unless f (line_item place l)) }) (sound_line limit place line stands)
    ∙ ap (λ (r : Result (Option Item) DocFault). record { whole = None; next = open_item r }) (item_of_line place word spaced args h trimmed))
