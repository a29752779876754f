-- Items that may be written but for limits, and what fills a line.
use Rattle.std.proofs.Common.{◌≡◌, ℕ, ◌<◌, ◌/◌, ◌%◌, List, [], ◌∷◌, ◌++◌, length, Option, Some, None, refl, subst}
use Rattle.std.proofs.{Common.{arith, length-append}, lemmas.List.Elements.{All-append, All-cons, All-head, All-nil}}
use Rattle.std.{proofs.lemmas.List.Elements.{All-tail, All-weaker}, specs.Prelude.{All, IfSome, decimal}}
use Rattle.std.specs.List.{flat_map, join_with_byte}
use Rattle.item_terms.specs.Bytes.{space}
use Rattle.dir_bytes.specs.FieldTexts.{clock_text, date_text, moment_text}
use Rattle.dirdoc_grammar.specs.Writing.{IsKeyword, IsLineRest, NewItem}
use Rattle.grammar_laws.{specs.Written.IsItem, proofs.LineRests.{joined, rest_of_argument, rest_of_joined}}
use Rattle.frame_terms.specs.{Keywords.text_of, declared.keyword.Keyword.Keyword}
use Rattle.frame_values.specs.Items.{bare, item_if}
use Rattle.frame_laws.proofs.WordTexts.{AreWords, IsWord, both_dark, bytes_of, is_word, length-word, number_dark}
use Rattle.frame_laws.proofs.WordTexts.{two_words, word_of_clock, word_of_date}
use Rattle.list_values.specs.Equations.{equals}
use Rattle.consensus_terms.specs.Lines.{named_text}

-- ---- items

-- each item may be written, but for limits
pub record AreItems (items : List NewItem) : Type 0 where
  pub each : All IsItem items

pub no_items : AreItems []
no_items = record { each = All-nil IsItem }

pub after : {item : NewItem} {items : List NewItem} → IsItem item → AreItems items → AreItems (item ∷ items)
after {item} {items} is are = record { each = All-cons IsItem item items is are.each }

infixl 10 ◌&◌
pub ◌&◌ : {front back : List NewItem} → AreItems front → AreItems back → AreItems (front ++ back)
◌&◌ {front} {back} first second = record { each = All-append IsItem front back first.each second.each }

-- an item without an object
pub bare_is : (keyword : Keyword) (rest : List ℕ) → IsKeyword (text_of keyword) → IsLineRest rest → IsItem (bare keyword rest)
bare_is keyword rest is fills = record { keyword = is; arguments = fills; object = tt }

pub bare_are : (keyword : Keyword) (rest : List ℕ) → IsKeyword (text_of keyword) → IsLineRest rest
    → AreItems (bare keyword rest ∷ [])
bare_are keyword rest is fills = after (bare_is keyword rest is fills) no_items

-- the same where there is one
pub if_are : (keyword : Keyword) (rest : Option (List ℕ)) → IsKeyword (text_of keyword) → IfSome rest IsLineRest
    → AreItems (item_if keyword rest)
if_are keyword None is fills = no_items
if_are keyword (Some rest) is fills = bare_are keyword rest is fills

-- the items that are made of each
pub each_are : {X : Type 0} (f : X → List NewItem) (list : List X) → All (λ (x : X). AreItems (f x)) list
    → AreItems (flat_map f list)
each_are f [] all = no_items
each_are {X} f (x ∷ rest) all =
    All-head (λ (y : X). AreItems (f y)) x rest all & each_are f rest (All-tail (λ (y : X). AreItems (f y)) x rest all)

-- ---- what fills a line

-- the text is not empty, and may be the rest of a line
pub record IsFilled (text : List ℕ) : Type 0 where
  pub some : 0 < length text
  pub rest : IsLineRest text

pub word_filled : (word : List ℕ) → IsWord word → IsFilled word
word_filled word is = record { some = length-word word is; rest = rest_of_argument word is }

pub words_filled : (words : List (List ℕ)) → AreWords words → All IsFilled words
words_filled words are = All-weaker IsWord IsFilled word_filled words are

joined_is : (text more : List ℕ) → 0 < length text → 0 < length more → joined text more ≡ text ++ space ∷ more
joined_is [] more some other = absurd (omega (arith, some))
joined_is (b ∷ text) [] some other = absurd (omega (arith, other))
joined_is (b ∷ text) (c ∷ more) some other = refl

-- such texts with single spaces between them
pub join_filled : (text : List ℕ) (rest : List (List ℕ)) → All IsFilled (text ∷ rest)
    → IsFilled (join_with_byte space (text ∷ rest))
join_filled text [] each = All-head IsFilled text [] each
join_filled text (next ∷ rest) each =
    let first = All-head IsFilled text (next ∷ rest) each in
    let later = join_filled next rest (All-tail IsFilled text (next ∷ rest) each) in
    let more : List ℕ = join_with_byte space (next ∷ rest) in
    let some = first.some in
    record {
      some = omega (arith, some, length-append text (space ∷ more));
      rest = subst IsLineRest (joined_is text more first.some later.some) (rest_of_joined text more first.rest later.rest);
    }

-- a moment
pub moment_filled : (moment : ℕ) → IsFilled (moment_text moment)
moment_filled moment =
    let date : List ℕ = date_text (moment / 86400) in
    let clock : List ℕ = clock_text (moment % 86400) in
    join_filled date (clock ∷ [])
    (words_filled (date ∷ clock ∷ []) (two_words date clock (word_of_date (moment / 86400)) (word_of_clock (moment % 86400))))

-- a name with a number is a word
pub named_word : (name : List ℕ) (number : ℕ) → IsWord name → IsWord (named_text name number)
unfolding named_text
named_word name number is =
    let text : List ℕ = name ++ equals ∷ decimal number in
    let some = length-word name is in
    is_word text (omega (arith, some, length-append name (equals ∷ decimal number)))
    (both_dark name (equals ∷ decimal number) (bytes_of name is) (number_dark number))
