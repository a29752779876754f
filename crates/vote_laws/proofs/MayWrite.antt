-- Items that may be written, but for the limits.
use Rattle.std.proofs.Common.{◌≡◌, ℕ, ◌+◌, ◌/◌, ◌%◌, ◌≤◌, true, List, [], ◌∷◌, length, Option, Some, None, refl}
use Rattle.std.{proofs.lemmas.List.Elements.{All-cons, All-head, All-nil, All-tail}, specs.Prelude.{All, IfSome}}
use Rattle.std.specs.List.{list_all}
use Rattle.base64.specs.GeneralPurpose.{IsBytes}
use Rattle.dir_bytes.specs.FieldTexts.{clock_text, date_text, moment_text}
use Rattle.item_terms.specs.{Words.{are_words, first_is, is_letter_or_digit, is_word_byte}, Faults.max_object}
use Rattle.dirdoc_grammar.specs.{Bodies.object_text, Writing.{AreWritable, IsLineRest, IsWritableObject, NewItem}}
use Rattle.dirdoc_grammar.specs.Writing.{NewObject, item_text}
use Rattle.grammar_laws.specs.Written.{AreWithinLimits, IsItem, IsObject}
use Rattle.frame_terms.specs.{Keywords.text_of, declared.keyword.Keyword.{Keyword, TheVariants.NetworkStatusVersion}}
use Rattle.frame_values.specs.{Items.{bare, item_if, moment_item, with_object}, Parts.moment_of}
use Rattle.frame_laws.proofs.WordTexts.{two_words, word_of_clock, word_of_date}
use Rattle.value_laws.proofs.LineWords.{rest_of_words}

-- ---- keywords

first_byte : (keyword : Keyword) → first_is is_letter_or_digit (text_of keyword) ≡ true
first_byte NetworkStatusVersion = refl
first_byte _ = refl

each_byte : (keyword : Keyword) → list_all is_word_byte (text_of keyword) ≡ true
each_byte NetworkStatusVersion = refl
each_byte _ = refl

-- ---- items

-- each of these may be written
abbrev pub MayWrite : List NewItem → Type 0
MayWrite items = All IsItem items

-- an item without an object
pub bare_may : (keyword : Keyword) (rest : List ℕ) → IsLineRest rest → IsItem (bare keyword rest)
bare_may keyword rest is = record {
  keyword = record { first = first_byte keyword; each = each_byte keyword };
  arguments = is;
  object = tt;
}

-- one with an object
pub object_may : (keyword : Keyword) (rest words bytes : List ℕ) → IsLineRest rest → are_words true words ≡ true
    → IsBytes bytes → IsItem (with_object keyword rest words bytes)
object_may keyword rest words bytes is words_are bytes_are = record {
  keyword = record { first = first_byte keyword; each = each_byte keyword };
  arguments = is;
  object = record { words = words_are; bytes = bytes_are };
}

pub none_may : MayWrite []
none_may = All-nil IsItem

pub first_may : (item : NewItem) (items : List NewItem) → IsItem item → MayWrite items → MayWrite (item ∷ items)
first_may item items one others = All-cons IsItem item items one others

pub two_may : (a b : NewItem) → IsItem a → IsItem b → MayWrite (a ∷ b ∷ [])
two_may a b first second = first_may a (b ∷ []) first (first_may b [] second none_may)

-- an item where there is a rest of its line
pub if_may : (keyword : Keyword) (rest : Option (List ℕ)) → IfSome rest IsLineRest → MayWrite (item_if keyword rest)
if_may keyword None is = none_may
if_may keyword (Some rest) is = first_may (bare keyword rest) [] (bare_may keyword rest is) none_may

-- a moment is the rest of a line
pub moment_rest : (moment : ℕ) → IsLineRest (moment_text moment)
moment_rest moment =
    let date = date_text (moment / 86400) in
    let clock = clock_text (moment % 86400) in
    rest_of_words (date ∷ clock ∷ [])
    (two_words date clock (word_of_date (moment / 86400)) (word_of_clock (moment % 86400)))

pub timed_may : (keyword : Keyword) (moment : ℕ) → IsItem (moment_item keyword moment)
timed_may keyword moment = bare_may keyword (moment_text (moment_of moment)) (moment_rest (moment_of moment))

-- ---- with the limits

-- an object is no longer than it may be
abbrev Fits : NewObject → Type 0
Fits object = length (object_text object.words object.bytes) ≤ max_object

object_writable : (object : Option NewObject) → IfSome object IsObject → IfSome object Fits
    → IfSome object IsWritableObject
object_writable None is fits = tt
object_writable (Some object) is fits = record { words = is.words; bytes = is.bytes; fits = fits }

-- items that may be written but for the limits, and pass none, may be written
pub items_writable : (limit place : ℕ) (items : List NewItem) → MayWrite items → AreWithinLimits limit place items
    → AreWritable limit place items
items_writable limit place [] may within = tt
items_writable limit place (item ∷ items) may within =
    let is = All-head IsItem item items may in (
      record {
        keyword = is.keyword;
        arguments = is.arguments;
        line_fits = within.0.line;
        object = object_writable item.object is.object within.0.object;
        within = within.0.within;
      },
      items_writable limit (place + length (item_text item)) items (All-tail IsItem item items may) within.1,
    )
