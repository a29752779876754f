-- A text in which nothing is wrong xs a line of a list is read xs that list, wherever it stands.
use Rattle.std.proofs.Common.{◌≡◌, ◌∙◌, ℕ, Bool, true, false, List, [], ◌∷◌, ◌++◌, map, Option, Some, None, Ok, refl}
use Rattle.std.{proofs.Common.{sym, ap}, specs.{Prelude.{◌&&◌, ◌||◌, not, if◌then◌else◌}, List.find, Option.option_map}}
use Rattle.std.specs.Str.{bytes_eq}
use Rattle.item_terms.specs.{Items.{Item, items_from}, Words.words_of}
use Rattle.dirdoc_grammar.{specs.InPlace.{EachInPlace, InPlace}, proofs.Places.stand_in_place}
use Rattle.dir_values.specs.{Arguments.{Argument, arguments_at, texts_of}, FlagSets.{as_set, flag_set, is_among}}
use Rattle.dir_values.{specs.FlagSets.{is_name, unless_wrong, wrong_flag}, proofs.ArgumentWords.arguments_words}
use Rattle.frame_laws.proofs.StandingParts.{rest_part}
use Rattle.frame_values.specs.{Lines.{flags_of, rest_of, rest_unless}, Parts.part, declared.found.Span.Span}
use Rattle.list_values.specs.{Params.{its_name, name_in, wrong_param}, Protocols.{is_protocol, wrong_protocol}}
use Rattle.list_values.specs.VersionLists.{are_versions, wrong_version_list}
use Rattle.list_values.specs.Params as params
use Rattle.list_values.specs.Protocols as protocols
use Rattle.list_values.specs.VersionLists as versions
use Rattle.value_groups.specs.Listed.{members_of}
use Rattle.consensus_laws.specs.Listing.{EachIsReadWhole, IsReadWhole, ListsAreReadWhole}

-- ---- what is wrong is so by the texts alone

-- arguments with the same texts
abbrev AreAlike : List Argument → List Argument → Type 0
AreAlike xs ys = texts_of xs ≡ texts_of ys

first_alike : (a b : Argument) (xs ys : List Argument) → AreAlike (a ∷ xs) (b ∷ ys) → a.text ≡ b.text
first_alike a b xs ys same = cc same

others_alike : (a b : Argument) (xs ys : List Argument) → AreAlike (a ∷ xs) (b ∷ ys) → AreAlike xs ys
others_alike a b xs ys same = cc same

among_alike : (flag : List ℕ) (xs ys : List Argument) → AreAlike xs ys → is_among flag xs ≡ is_among flag ys
among_alike flag [] [] same = refl
among_alike flag [] (b ∷ ys) same = absurd (cc same)
among_alike flag (a ∷ xs) [] same = absurd (cc same)
among_alike flag (a ∷ xs) (b ∷ ys) same =
    ap (λ (t : List ℕ). bytes_eq t flag || is_among flag xs) (first_alike a b xs ys same)
    ∙ ap (λ (t : Bool). bytes_eq b.text flag || t) (among_alike flag xs ys (others_alike a b xs ys same))

more_alike : (xs ys : List Argument) (a b : Argument) → AreAlike xs ys → a.text ≡ b.text
    → AreAlike (xs ++ a ∷ []) (ys ++ b ∷ [])
more_alike [] [] a b same text = ap (λ (t : List ℕ). t ∷ []) text
more_alike [] (d ∷ ys) a b same text = absurd (cc same)
more_alike (c ∷ xs) [] a b same text = absurd (cc same)
more_alike (c ∷ xs) (d ∷ ys) a b same text =
    let rest = more_alike xs ys a b (others_alike c d xs ys same) text in
    ap (λ (t : List ℕ). t ∷ texts_of (xs ++ a ∷ [])) (first_alike c d xs ys same)
    ∙ ap (λ (l : List (List ℕ)). d.text ∷ l) rest

flags_alike : (before others xs ys : List Argument) → AreAlike before others → AreAlike xs ys
    → wrong_flag before xs ≡ None → wrong_flag others ys ≡ None
unfolding wrong_flag
flags_alike before others [] [] front same right = refl
flags_alike before others [] (b ∷ ys) front same right = absurd (cc same)
flags_alike before others (a ∷ xs) [] front same right = absurd (cc same)
flags_alike before others (a ∷ xs) (b ∷ ys) front same right =
    let text = first_alike a b xs ys same in
    let tests : (is_name a.text && not (is_among a.text before)) ≡ (is_name b.text && not (is_among b.text others)) =
    ap (λ (t : List ℕ). is_name t && not (is_among t before)) text
    ∙ ap (λ (t : Bool). is_name b.text && not t) (among_alike b.text before others front) in
    by (is_name a.text && not (is_among a.text before)) (is_name b.text && not (is_among b.text others)) tests right
    (flags_alike (before ++ a ∷ []) (others ++ b ∷ []) xs ys (more_alike before others a b front text)
    (others_alike a b xs ys same))
  where
    by : (s t : Bool) → s ≡ t
        → (if s then wrong_flag (before ++ a ∷ []) xs else Some a.place) ≡ None
        → (wrong_flag (before ++ a ∷ []) xs ≡ None → wrong_flag (others ++ b ∷ []) ys ≡ None)
        → (if t then wrong_flag (others ++ b ∷ []) ys else Some b.place) ≡ None
    by true true e is more = more is
    by true false e is more = absurd (cc e)
    by false t e is more = absurd (cc is)

names_alike : (xs ys : List Argument) → AreAlike xs ys → AreAlike (map its_name xs) (map its_name ys)
names_alike [] [] same = refl
names_alike [] (b ∷ ys) same = absurd (cc same)
names_alike (a ∷ xs) [] same = absurd (cc same)
names_alike (a ∷ xs) (b ∷ ys) same =
    ap (λ (t : List ℕ). name_in t ∷ texts_of (map its_name xs)) (first_alike a b xs ys same)
    ∙ ap (λ (l : List (List ℕ)). name_in b.text ∷ l) (names_alike xs ys (others_alike a b xs ys same))

params_alike : (xs ys : List Argument) → AreAlike xs ys → wrong_param xs ≡ None → wrong_param ys ≡ None
params_alike xs ys same right = flags_alike [] [] (map its_name xs) (map its_name ys) refl (names_alike xs ys same) right

versions_alike : (xs ys : List Argument) → AreAlike xs ys → wrong_version_list xs ≡ None → wrong_version_list ys ≡ None
versions_alike [] [] same right = refl
versions_alike [] (b ∷ ys) same right = absurd (cc same)
versions_alike (a ∷ xs) [] same right = absurd (cc same)
versions_alike (a ∷ xs) (b ∷ ys) same right =
    by (are_versions a.text) (are_versions b.text) (ap are_versions (first_alike a b xs ys same)) right
  where
    by : (s t : Bool) → s ≡ t → (if s then None else Some a.place) ≡ None → (if t then None else Some b.place) ≡ None
    by true true e is = refl
    by true false e is = absurd (cc e)
    by false t e is = absurd (cc is)

abbrev place_of : Argument → ℕ
place_of argument = argument.place

abbrev is_no_protocol : Argument → Bool
is_no_protocol argument = not (is_protocol argument.text)

protocols_alike : (xs ys : List Argument) → AreAlike xs ys → wrong_protocol xs ≡ None → wrong_protocol ys ≡ None
protocols_alike [] [] same right = refl
protocols_alike [] (b ∷ ys) same right = absurd (cc same)
protocols_alike (a ∷ xs) [] same right = absurd (cc same)
protocols_alike (a ∷ xs) (b ∷ ys) same right =
    by (is_no_protocol a) (is_no_protocol b)
    (ap (λ (t : List ℕ). not (is_protocol t)) (first_alike a b xs ys same)) right
    (protocols_alike xs ys (others_alike a b xs ys same))
  where
    by : (s t : Bool) → s ≡ t → option_map place_of (if s then Some a else find is_no_protocol xs) ≡ None
        → (wrong_protocol xs ≡ None → wrong_protocol ys ≡ None)
        → option_map place_of (if t then Some b else find is_no_protocol ys) ≡ None
    by true t e is more = absurd (cc is)
    by false true e is more = absurd (cc e)
    by false false e is more = more is

-- ---- of a line

-- the arguments of a text are alike wherever it begins
place_alike : (place : ℕ) (text : List ℕ) → AreAlike (arguments_at place text) (arguments_at 0 text)
place_alike place text = arguments_words place text ∙ sym (arguments_words 0 text)

-- what is read of a line in which nothing is wrong
line_read : (wrong : Option ℕ) (item : Item) (text : Span) → rest_unless wrong item ≡ Ok text
    → (wrong ≡ None) × (rest_of item ≡ text)
line_read None item text is = (refl, cc is)
line_read (Some place) item text is = absurd (cc is)

whole_members : {A : Type 0} (wrong : Option ℕ) (members : List A) → wrong ≡ None
    → unless_wrong wrong members ≡ Ok (members_of (unless_wrong wrong members))
whole_members None members none = refl
whole_members (Some place) members none = absurd (cc none)

-- a list of a text of which nothing is wrong where it stands is read xs one
list_whole : {A : Type 0} (bytes : List ℕ) (item : Item) (text : Span) (wrong : List Argument → Option ℕ)
    (list : List ℕ → List A) → InPlace bytes item
    → ((xs ys : List Argument) → AreAlike xs ys → wrong xs ≡ None → wrong ys ≡ None)
    → rest_unless (wrong (arguments_at item.start item.arguments)) item ≡ Ok text
    → unless_wrong (wrong (arguments_at 0 (part bytes text))) (list (part bytes text))
    ≡ Ok (members_of (unless_wrong (wrong (arguments_at 0 (part bytes text))) (list (part bytes text))))
list_whole bytes item text wrong list there alike is =
    let read = line_read (wrong (arguments_at item.start item.arguments)) item text is in
    let stands : part bytes text ≡ item.arguments = ap (λ (s : Span). part bytes s) (sym read.1) ∙ rest_part there in
    whole_members (wrong (arguments_at 0 (part bytes text))) (list (part bytes text))
    (ap (λ (t : List ℕ). wrong (arguments_at 0 t)) stands
    ∙ alike (arguments_at item.start item.arguments) (arguments_at 0 item.arguments)
    (place_alike item.start item.arguments) read.0)

whole_value : {A : Type 0} (wrong : Option ℕ) (value : A) → wrong ≡ None → unless_wrong wrong value ≡ Ok value
whole_value None value none = refl
whole_value (Some place) value none = absurd (cc none)

-- so is a text of flags
flags_whole : (bytes : List ℕ) (item : Item) (text : Span) → InPlace bytes item → flags_of item ≡ Ok text
    → flag_set (part bytes text) ≡ Ok (as_set (words_of (part bytes text)))
flags_whole bytes item text there is =
    let given = arguments_at item.start item.arguments in
    let read = line_read (wrong_flag [] given) item text is in
    let stands : part bytes text ≡ item.arguments = ap (λ (s : Span). part bytes s) (sym read.1) ∙ rest_part there in
    whole_value (wrong_flag [] (arguments_at 0 (part bytes text))) (as_set (words_of (part bytes text)))
    (ap (λ (t : List ℕ). wrong_flag [] (arguments_at 0 t)) stands
    ∙ flags_alike [] [] given (arguments_at 0 item.arguments) refl (place_alike item.start item.arguments) read.0)

item_whole : (bytes : List ℕ) (item : Item) → InPlace bytes item → IsReadWhole bytes item
item_whole bytes item there = record {
  params = λ text is.
      list_whole bytes item text wrong_param (λ (t : List ℕ). params.as_params (words_of t)) there params_alike is;
  versions = λ text is.
      list_whole bytes item text wrong_version_list (λ (t : List ℕ). versions.versions_in (arguments_at 0 t)) there
      versions_alike is;
  protocols = λ text is.
      list_whole bytes item text wrong_protocol (λ (t : List ℕ). protocols.as_protocols (words_of t)) there
      protocols_alike is;
  flags = λ text is. flags_whole bytes item text there is;
}

each_whole : (bytes : List ℕ) (items : List Item) → EachInPlace bytes items → EachIsReadWhole bytes items
each_whole bytes [] there = tt
each_whole bytes (item ∷ items) there = (item_whole bytes item there.0, each_whole bytes items there.1)

pub lists_whole : ListsAreReadWhole
lists_whole start limit bytes = each_whole bytes (items_from start limit bytes).items (stand_in_place start limit bytes)
