-- The values of `Content-Length` among the first fields, and among one field more.
use Rattle.std.proofs.Common.{◌≡◌, ℕ, zero, suc, ◌+◌, ◌<◌, Bool, true, false, List, [], ◌∷◌, ◌++◌, length, map, take}
use Rattle.std.proofs.Common.{drop, get_or, refl, ap, sym, subst, ◌∙◌, filter, cond, Option, Some, None, All, arith}
use Rattle.std.proofs.{Common.{rules, append-nil}, lemmas.List.{take_more, take-append-drop, Elements.filter-append}}
use Rattle.std.{proofs.lemmas.List.map-append, specs.Option.{option_to_list, is_some}}
use Rattle.httparse.specs.{declared.spans.{HeaderSpan.HeaderSpan, Span.Span}, Spans.{header_bytes, span_bytes}}
use Rattle.dir_http.specs.declared.length.Announcement.TheVariants as says
use Rattle.dir_http.specs.Heads.{is_length_name, length_values, announcement}

abbrev Pair : Type 0
Pair = List ℕ × List ℕ

values_append : (xs ys : List Pair) → length_values (xs ++ ys) ≡ length_values xs ++ length_values ys
unfolding length_values
values_append xs ys =
    ap (map (λ (p : Pair). p.1)) (filter-append (λ (p : Pair). is_length_name p.0) xs ys)
    ∙ map-append (λ (p : Pair). p.1) (filter (λ (p : Pair). is_length_name p.0) xs)
    (filter (λ (p : Pair). is_length_name p.0) ys)

values_of_one : (p : Pair) (test : Bool) → is_length_name p.0 ≡ test → length_values (p ∷ []) ≡ cond test (p.1 ∷ []) []
unfolding length_values
values_of_one p true is = rw is refl
values_of_one p false is = rw is refl

-- with one field more
pub values_more : (bytes : List ℕ) (fields : List HeaderSpan) (i : ℕ) (d : HeaderSpan) (test : Bool) → i < length fields
    → is_length_name (header_bytes bytes (get_or fields i d)).0 ≡ test
    → length_values (map (header_bytes bytes) (take (i + 1) fields))
    ≡ length_values (map (header_bytes bytes) (take i fields))
    ++ cond test ((header_bytes bytes (get_or fields i d)).1 ∷ []) []
values_more bytes fields i d test less is =
    ap (λ (l : List HeaderSpan). length_values (map (header_bytes bytes) l)) (take_more fields i d less)
    ∙ ap length_values (map-append (header_bytes bytes) (take i fields) (get_or fields i d ∷ []))
    ∙ values_append (map (header_bytes bytes) (take i fields)) (header_bytes bytes (get_or fields i d) ∷ [])
    ∙ ap (λ (l : List (List ℕ)). length_values (map (header_bytes bytes) (take i fields)) ++ l)
    (values_of_one (header_bytes bytes (get_or fields i d)) test is)

-- two values are too many, whatever fields follow
pub two_are_unclear : (xs ys : List (List ℕ)) (v w : List ℕ) → xs ≡ v ∷ w ∷ [] → announcement (xs ++ ys) ≡ says.Unclear
two_are_unclear xs ys v w is = subst (λ (l : List (List ℕ)). announcement (l ++ ys) ≡ says.Unclear) (sym is) refl

pub stays_unclear : (bytes : List ℕ) (fields : List HeaderSpan) (i : ℕ) (v w : List ℕ)
    → length_values (map (header_bytes bytes) (take i fields)) ≡ v ∷ w ∷ []
    → says.Unclear ≡ announcement (length_values (map (header_bytes bytes) fields))
stays_unclear bytes fields i v w is =
    let front = map (header_bytes bytes) (take i fields) in
    let back = map (header_bytes bytes) (drop i fields) in
    let whole : map (header_bytes bytes) fields ≡ front ++ back =
    ap (map (header_bytes bytes)) (sym (take-append-drop i fields))
    ∙ map-append (header_bytes bytes) (take i fields) (drop i fields) in
    sym (ap (λ (l : List Pair). announcement (length_values l)) whole
    ∙ ap announcement (values_append front back)
    ∙ two_are_unclear (length_values front) (length_values back) v w is)

pub all_of_one : {X : Type 0} (P : X → Type 0) (x : X) → P x → All P (x ∷ [])
all_of_one P x holds zero d less = holds
all_of_one P x holds (suc k) d less = absurd (omega (arith, less))

one_before : (bytes : List ℕ) (value : Option Span) → true ≡ is_some value → (values : List (List ℕ))
    → map (span_bytes bytes) (option_to_list value) ≡ values → (v : List ℕ) × (values ≡ v ∷ [])
one_before bytes None is values e = absurd (search rules)
one_before bytes (Some s) is values e = (span_bytes bytes s, sym e)

-- a second value makes the length unclear
pub second_is_unclear : (bytes : List ℕ) (fields : List HeaderSpan) (i : ℕ) (d : HeaderSpan) (value : Option Span)
    (name : List ℕ)
    → i < length fields → name ≡ span_bytes bytes (get_or fields i d).name → true ≡ is_length_name name
    → true ≡ is_some value
    → map (span_bytes bytes) (option_to_list value) ≡ length_values (map (header_bytes bytes) (take i fields))
    → says.Unclear ≡ announcement (length_values (map (header_bytes bytes) fields))
second_is_unclear bytes fields i d value name less named is some values =
    let before = one_before bytes value some (length_values (map (header_bytes bytes) (take i fields))) values in
    stays_unclear bytes fields (i + 1) before.0 (span_bytes bytes (get_or fields i d).value)
    (values_more bytes fields i d true less (ap is_length_name (sym named) ∙ sym is)
    ∙ ap (λ (l : List (List ℕ)). l ++ span_bytes bytes (get_or fields i d).value ∷ []) before.1)

none_before : (bytes : List ℕ) (value : Option Span) → false ≡ is_some value → (values : List (List ℕ))
    → map (span_bytes bytes) (option_to_list value) ≡ values → values ≡ []
none_before bytes None is values e = sym e
none_before bytes (Some s) is values e = absurd (search rules)

-- the first value is the one
pub first_is_kept : (bytes : List ℕ) (fields : List HeaderSpan) (i : ℕ) (d : HeaderSpan) (old new : Option Span)
    (name : List ℕ)
    → i < length fields → name ≡ span_bytes bytes (get_or fields i d).name → true ≡ is_length_name name
    → false ≡ is_some old
    → new ≡ Some (get_or fields i d).value
    → map (span_bytes bytes) (option_to_list old) ≡ length_values (map (header_bytes bytes) (take i fields))
    → map (span_bytes bytes) (option_to_list new) ≡ length_values (map (header_bytes bytes) (take (i + 1) fields))
first_is_kept bytes fields i d old new name less named is none now values =
    ap (λ (v : Option Span). map (span_bytes bytes) (option_to_list v)) now
    ∙ sym (values_more bytes fields i d true less (ap is_length_name (sym named) ∙ sym is)
    ∙ ap (λ (l : List (List ℕ)). l ++ span_bytes bytes (get_or fields i d).value ∷ [])
    (none_before bytes old none (length_values (map (header_bytes bytes) (take i fields))) values))

-- a field of another name adds no value
pub other_adds_none : (bytes : List ℕ) (fields : List HeaderSpan) (i : ℕ) (d : HeaderSpan) (old new : Option Span)
    (name : List ℕ)
    → i < length fields → name ≡ span_bytes bytes (get_or fields i d).name → false ≡ is_length_name name
    → new ≡ old
    → map (span_bytes bytes) (option_to_list old) ≡ length_values (map (header_bytes bytes) (take i fields))
    → map (span_bytes bytes) (option_to_list new) ≡ length_values (map (header_bytes bytes) (take (i + 1) fields))
other_adds_none bytes fields i d old new name less named is now values =
    ap (λ (v : Option Span). map (span_bytes bytes) (option_to_list v)) now ∙ values
    ∙ sym (values_more bytes fields i d false less (ap is_length_name (sym named) ∙ sym is)
    ∙ append-nil (length_values (map (header_bytes bytes) (take i fields))))
