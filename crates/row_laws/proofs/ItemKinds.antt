-- Kinds of items, each with its facts as one record: lines of columns, with an object or without, moments, rests of
-- lines,
-- objects alone, and words that are wanted.
use Rattle.std.proofs.Common.{◌≡◌, ℕ, ◌/◌, ◌*◌, ◌≤◌, true, List, [], ◌∷◌, Option, Some, None, Result, Ok, Err, refl}
use Rattle.std.{proofs.Common.{sym, ap, subst, ◌∙◌, arith, ◌+◌, ◌%◌}, specs.Prelude.{IfSome, unwrap_or}}
use Rattle.std.specs.{List.join_with_byte, Option.{option_and_then, option_map}}
use Rattle.dir_bytes.specs.{Fields.{date, time_of_day}, FieldTexts.{clock_text, date_text, moment_text}}
use Rattle.dir_bytes.{specs.Causes.last_moment, proofs.ReadAgain.{date-date_text, time_of_day-clock_text}}
use Rattle.item_terms.specs.{Items.Item, Words.words_of}
use Rattle.dirdoc_grammar.specs.{Bodies.body_text, Writing.{IsLineRest, IsWritableObject}}
use Rattle.grammar_laws.proofs.WrittenBytes.{decoded-body_text}
use Rattle.frame_values.specs.{Arguments.{arguments_of, next}, Faults.at_place, Lines.{rest_of, time_of}}
use Rattle.frame_values.specs.{Parts.{bytes_in, moment_of, part}, Signatures.object_of, declared.found.Span.Span}
use Rattle.frame_laws.proofs.{Words.{two_words, word_of_clock, word_of_date, words_of-join}, StandingParts.rest_part}
use Rattle.row_laws.proofs.Ties.{plain, any_gives, Gives, Tied, and_gives, and_next, and_said, behind_it, each_is}
use Rattle.row_laws.proofs.{Ties.{head_word, in_item, object_means, object_tied, tail_words}, ItemArguments.IsSound}
use Rattle.row_laws.proofs.{Spoken.{Rest, Words, new_words, words_in}, Columns.{Line, LineLaws}}

-- ---- an item

-- a kind of item: what is read of it, what that says in the input, what its words mean, and how it is written
pub record Kind (A F : Type 0) : Type 0 where
  pub read : Item → Result A ℕ
  pub said : List ℕ → A → F
  pub means : Words → Option F
  pub write : F → Rest

-- the facts of a kind of item, as one record
pub record KindLaws {A F : Type 0} (k : Kind A F) (Fits IsRead : F → Type 0) : Type 0 where
  pub tied : (bytes : List ℕ) (item : Item) → IsSound bytes item → Tied (k.said bytes) (k.read item)
      (k.means (words_in item))
  pub again : (f : F) → Fits f → IfSome (k.write f).object IsWritableObject → k.means (new_words (k.write f)) ≡ Some f
  pub fits : (words : Words) → IsLineRest words.arguments → Gives IsRead (k.means words)

module _ {A F : Type 0} where
  -- a line without an object
  abbrev pub of_line : Line A F → Kind A F
  of_line l = record {
    read = λ (item : Item). l.read item.place (arguments_of item);
    said = l.said;
    means = λ (words : Words). l.means (words_of words.arguments);
    write = λ f. record { rest = join_with_byte 32 (l.words f); object = None };
  }

  pub of_line_laws : (l : Line A F) (Fits : F → Type 0) → LineLaws l Fits → KindLaws (of_line l) Fits Fits
  of_line_laws l Fits laws = record {
    tied = λ bytes item sound. laws.tied bytes item.place (arguments_of item) (words_of item.arguments)
        (in_item sound);
    again = λ f is object. ap l.means (words_of-join (l.words f) (laws.are_words f is)) ∙ laws.again f is;
    fits = λ words rest. laws.fits (words_of words.arguments) (each_is words.arguments rest);
  }

  -- a line with an object of any words, which is written with these
  abbrev pub with_any : List ℕ → Line A F → Kind (A × Span) (F × List ℕ)
  with_any named l = record {
    read = λ (item : Item). next (l.read item.place (arguments_of item))
        (λ a. next (object_of true item) (λ s. Ok (a, s)));
    said = λ bytes x. (l.said bytes x.0, bytes_in bytes x.1);
    means = λ (words : Words). option_and_then (λ f. option_and_then (λ g. Some (f, g))
        (object_means true words.object))
        (l.means (words_of words.arguments));
    write = λ x. record {
      rest = join_with_byte 32 (l.words x.0);
      object = Some
          (record { words = named; bytes = x.1 });
    };
  }

  with_mean : (l : Line A F) (named : List ℕ) (words : Words) (f : F) (g : List ℕ)
      → l.means (words_of words.arguments) ≡ Some f
      → object_means true words.object ≡ Some g → (with_any named l).means words ≡ Some (f, g)
  with_mean l named words f g first second = rw (first, second) refl

  pub with_any_laws : (named : List ℕ) (l : Line A F) (Fits : F → Type 0) → LineLaws l Fits
      → KindLaws (with_any named l) (λ x. Fits x.0) (λ x. Fits x.0)
  with_any_laws named l Fits laws = record {
    tied = λ bytes item sound.
        and_next (l.said bytes) ((with_any named l).said bytes) _ _ _ _
        (laws.tied bytes item.place (arguments_of item) (words_of item.arguments) (in_item sound))
        (λ a. and_next (bytes_in bytes) ((with_any named l).said bytes) _ _ _ _
        (object_tied true bytes item sound.in_place) (λ s. refl));
    again = λ x is object.
        with_mean l named (new_words ((with_any named l).write x)) x.0 x.1
        (ap l.means (words_of-join (l.words x.0) (laws.are_words x.0 is)) ∙ laws.again x.0 is)
        (ap (λ (o : Option (List ℕ)). Some (unwrap_or o [])) (decoded-body_text x.1 object.bytes));
    fits = λ words rest.
        and_gives Fits (λ (x : F × List ℕ). Fits x.0) _ _
        (laws.fits (words_of words.arguments) (each_is words.arguments rest))
        (λ f one. and_gives (λ (g : List ℕ). Unit {0}) (λ (x : F × List ℕ). Fits x.0) _ _
        (any_gives (object_means true words.object)) (λ g two. one));
  }

-- ---- a moment

-- what the words of a moment mean
abbrev pub time_means : List (List ℕ) → Option ℕ
time_means words =
    option_and_then (λ days. option_and_then (λ seconds. Some (86400 * days + seconds))
    (time_of_day (head_word (tail_words words)))) (date (head_word words))

pub time_tied : {bytes : List ℕ} {item : Item} → IsSound bytes item
    → Tied (λ (n : ℕ). n) (time_of item) (time_means (words_of item.arguments))
time_tied {bytes} {item} sound =
    let first = in_item sound in
    and_next (λ (n : ℕ). n) (λ (n : ℕ). n) _ _ _ _ (plain date item.place first)
    (λ days. and_next (λ (n : ℕ). n) (λ (n : ℕ). n) _ _ _ _ (plain time_of_day item.place (behind_it first))
    (λ seconds. refl))

time_is : (words : List (List ℕ)) (day clock : List ℕ) (days seconds : ℕ) → words ≡ day ∷ clock ∷ []
    → date day ≡ Some days → time_of_day clock ≡ Some seconds → time_means words ≡ Some (86400 * days + seconds)
time_is words day clock days seconds are first second = rw (are, first, second) refl

pub time_again : (m : ℕ) → time_means (words_of (moment_text (moment_of m))) ≡ Some (moment_of m)
time_again m =
    let n = moment_of m in
    let within : n ≤ last_moment = omega arith in
    let day = date_text (n / 86400) in
    let clock = clock_text (n % 86400) in
    let sum : 86400 * (n / 86400) + n % 86400 ≡ n = omega arith in
    time_is (words_of (moment_text n)) day clock (n / 86400) (n % 86400)
    (words_of-join (day ∷ clock ∷ []) (two_words day clock (word_of_date (n / 86400)) (word_of_clock (n % 86400))))
    (date-date_text (n / 86400) (omega (arith, within))) (time_of_day-clock_text (n % 86400) (omega arith))
    ∙ ap (λ (x : ℕ). Some x) sum

-- a moment
abbrev pub a_time : Kind ℕ ℕ
a_time = record {
  read = time_of;
  said = λ bytes n. n;
  means = λ (words : Words). time_means (words_of words.arguments);
  write = λ m. record { rest = moment_text (moment_of m); object = None };
}

pub time_laws : KindLaws a_time (λ m. m ≤ last_moment) (λ m. Unit {0})
time_laws = record {
  tied = λ bytes item sound. time_tied sound;
  again = λ m is object. time_again m ∙ ap (λ (n : ℕ). Some n) (omega (arith, is));
  fits = λ words rest. any_gives (time_means (words_of words.arguments));
}

-- ---- the rest of a line as it stands

-- the rest of a line
abbrev pub a_rest : Kind Span (List ℕ)
a_rest = record {
  read = λ (item : Item). Ok (rest_of item);
  said = λ bytes. part bytes;
  means = λ (words : Words). Some words.arguments;
  write = λ t. record { rest = t; object = None };
}

pub rest_laws : KindLaws a_rest (λ t. Unit {0}) (λ t. Unit {0})
rest_laws = record {
  tied = λ bytes item sound. rest_part sound.in_place;
  again = λ t is object. refl;
  fits = λ words rest. tt;
}

-- ---- a kind of a document's items

-- it is read so, and says this of what was read
pub record IsKind {A F V G : Type 0} (k : Kind A F) (read : Item → Result V ℕ) (said : List ℕ → V → G) (of : A → V)
    (as_ : F → G) : Type 0 where
  pub same : (item : Item) → read item ≡ next (k.read item) (λ a. Ok (of a))
  pub says : (bytes : List ℕ) (a : A) → said bytes (of a) ≡ as_ (k.said bytes a)

pub kind_tied : {A F V G : Type 0} {k : Kind A F} {read : Item → Result V ℕ} {said : List ℕ → V → G} {of : A → V}
    {as_ : F → G} {Fits IsRead : F → Type 0} → IsKind k read said of as_ → KindLaws k Fits IsRead
    → (bytes : List ℕ) (item : Item) → IsSound bytes item
    → Tied (said bytes) (at_place (read item)) (option_map as_ (k.means (words_in item)))
kind_tied {A} {F} {V} {G} {k} {read} {said} {of} {as_} is laws bytes item sound =
    subst (λ (r : Result V ℕ). Tied (said bytes) (at_place r) (option_map as_ (k.means (words_in item))))
    (sym (is.same item))
    (and_said (k.said bytes) (said bytes) of as_ (k.read item) (k.means (words_in item)) (is.says bytes)
    (laws.tied bytes item sound))

-- definitions that are written out argument by argument are lines of columns
pub three : {A B C R V : Type 0} (a : Result A ℕ) (b : Result B ℕ) (c : Result C ℕ) (make : A → B → C → R) (of : R → V)
    → next (next a (λ x. next b (λ y. next c (λ z. Ok (make x y z))))) (λ r. Ok (of r))
    ≡ next {X = A × (B × C)} (next a (λ x. next {X = B × C} (next b (λ y. next c (λ z. Ok (y, z))))
    (λ yz. Ok (x, yz))))
    (λ t. Ok (of (make t.0 t.1.0 t.1.1)))
three (Err e) b c make of = refl
three (Ok x) (Err e) c make of = refl
three (Ok x) (Ok y) (Err e) make of = refl
three (Ok x) (Ok y) (Ok z) make of = refl

pub four_with : {A B C D S R V : Type 0} (a : Result A ℕ) (b : Result B ℕ) (c : Result C ℕ) (d : Result D ℕ)
    (s : Result S ℕ)
    (make : A → B → C → D → S → R) (of : R → V)
    → next (next a (λ x. next b (λ y. next c (λ z. next d (λ u. next s (λ v. Ok (make x y z u v))))))) (λ r. Ok (of r))
    ≡ next {X = (A × (B × (C × D))) × S} (next {X = A × (B × (C × D))} (next a (λ x. next {X = B × (C × D)}
    (next b (λ y. next {X = C × D} (next c (λ z. next d (λ u. Ok (z, u)))) (λ zu. Ok (y, zu))))
    (λ yzu. Ok (x, yzu)))) (λ t. next s (λ v. Ok (t, v)))) (λ t. Ok (of (make t.0.0 t.0.1.0 t.0.1.1.0 t.0.1.1.1 t.1)))
four_with (Err e) b c d s make of = refl
four_with (Ok x) (Err e) c d s make of = refl
four_with (Ok x) (Ok y) (Err e) d s make of = refl
four_with (Ok x) (Ok y) (Ok z) (Err e) s make of = refl
four_with (Ok x) (Ok y) (Ok z) (Ok u) (Err e) make of = refl
four_with (Ok x) (Ok y) (Ok z) (Ok u) (Ok v) make of = refl
