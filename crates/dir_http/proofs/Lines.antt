-- What the watch makes of the lines of a head.
use Rattle.std.proofs.Common.{◌≡◌, ◌≢◌, ℕ, zero, suc, ◌+◌, ◌<◌, ◌≤◌, ◌||◌, Bool, true, false, List, [], ◌∷◌, ◌++◌}
use Rattle.std.proofs.Common.{length, refl, ap, sym, subst, ◌∙◌, All, IsTrue, arith, rules, append_assoc}
use Rattle.std.specs.List.{flat_map}
use Rattle.httparse.specs.{Ascii.{space, colon, digit_zero}, Grammar.{AllPass, is_token_byte, is_uri_byte}}
use Rattle.httparse.specs.Grammar.{is_value_byte, LineEnd, crlf, lf, print_end, print_blank, print_version, Field}
use Rattle.httparse.specs.Grammar.{IsField, print_field, RequestHead, IsRequestHead, print_request}
use Rattle.dir_http.specs.{declared.watch.LineWatch.LineWatch, Watches.{state_after, ends_at, run, sees_end}}
use Rattle.dir_http.specs.declared.watch.LineWatch.TheVariants as watch

-- no byte ends a line
abbrev Plain : List ℕ → Type 0
Plain [] = Unit {0}
Plain (byte ∷ bytes) = ((byte ≢ 10) × (byte ≢ 13)) × Plain bytes

plain_of : (test : ℕ → Bool) → ((b : ℕ) → IsTrue (test b) → (b ≢ 10) × (b ≢ 13)) → (bytes : List ℕ)
    → AllPass test bytes → Plain bytes
plain_of test tells [] all = tt
plain_of test tells (b ∷ bytes) all =
    (tells b (all zero 0 (omega arith)), plain_of test tells bytes (λ k d less. all (suc k) d (omega (arith, less))))

later_bit : (a b : Bool) → b ≡ true → (a || b) ≡ true
later_bit true b e = refl
later_bit false b e = e

-- what is seen later is seen
later : (state : LineWatch) (xs ys : List ℕ) → sees_end (run state xs) ys ≡ true → sees_end state (xs ++ ys) ≡ true
later state [] ys e = e
later state (x ∷ xs) ys e = later_bit (ends_at state x) (sees_end (state_after state x) (xs ++ ys))
    (later (state_after state x) xs ys e)

run_on : (state : LineWatch) (xs ys : List ℕ) → run state (xs ++ ys) ≡ run (run state xs) ys
run_on state [] ys = refl
run_on state (x ∷ xs) ys = run_on (state_after state x) xs ys

plain_step : (state : LineWatch) (b : ℕ) → b ≢ 10 → b ≢ 13 → state_after state b ≡ watch.Inside
plain_step state b a c = grind arith

inside : (xs : List ℕ) → Plain xs → run watch.Inside xs ≡ watch.Inside
inside [] plain = refl
inside (x ∷ xs) plain = ap (λ (s : LineWatch). run s xs) (plain_step watch.Inside x plain.0.0 plain.0.1)
    ∙ inside xs plain.1

enters : (state : LineWatch) (xs : List ℕ) → 0 < length xs → Plain xs → run state xs ≡ watch.Inside
enters state [] some plain = absurd (omega (arith, some))
enters state (x ∷ xs) some plain = ap (λ (s : LineWatch). run s xs) (plain_step state x plain.0.0 plain.0.1)
    ∙ inside xs plain.1

line_ends : (e : LineEnd) → run watch.Inside (print_end e) ≡ watch.Between
line_ends crlf = refl
line_ends lf = refl

last_ends : (e : LineEnd) → sees_end watch.Between (print_end e) ≡ true
last_ends crlf = refl
last_ends lf = refl

blank_stays : (ends : List LineEnd) → run watch.Before (print_blank ends) ≡ watch.Before
blank_stays [] = refl
blank_stays (crlf ∷ ends) = blank_stays ends
blank_stays (lf ∷ ends) = blank_stays ends

no_token_10 : IsTrue (is_token_byte 10) → ⊥
unfolding is_token_byte
no_token_10 is = search rules

no_token_13 : IsTrue (is_token_byte 13) → ⊥
unfolding is_token_byte
no_token_13 is = search rules

token_tells : (b : ℕ) → IsTrue (is_token_byte b) → (b ≢ 10) × (b ≢ 13)
token_tells b is = (
  λ e. no_token_10 (subst (λ (n : ℕ). IsTrue (is_token_byte n)) e is),
  λ e. no_token_13
      (subst (λ (n : ℕ). IsTrue (is_token_byte n)) e is),
)

no_uri_10 : IsTrue (is_uri_byte 10) → ⊥
no_uri_10 is = search rules

no_uri_13 : IsTrue (is_uri_byte 13) → ⊥
no_uri_13 is = search rules

uri_tells : (b : ℕ) → IsTrue (is_uri_byte b) → (b ≢ 10) × (b ≢ 13)
uri_tells b is = (
  λ e. no_uri_10 (subst (λ (n : ℕ). IsTrue (is_uri_byte n)) e is),
  λ e. no_uri_13
      (subst (λ (n : ℕ). IsTrue (is_uri_byte n)) e is),
)

no_value_10 : IsTrue (is_value_byte 10) → ⊥
no_value_10 is = search rules

no_value_13 : IsTrue (is_value_byte 13) → ⊥
no_value_13 is = search rules

value_tells : (b : ℕ) → IsTrue (is_value_byte b) → (b ≢ 10) × (b ≢ 13)
value_tells b is = (
  λ e. no_value_10 (subst (λ (n : ℕ). IsTrue (is_value_byte n)) e is),
  λ e. no_value_13
      (subst (λ (n : ℕ). IsTrue (is_value_byte n)) e is),
)

field_text : (f : Field) → print_field f ≡ f.name ++ (colon ∷ (f.raw ++ print_end f.end))
field_text f = search (rules, append_assoc)

-- a field line
field_line : (f : Field) → IsField f → run watch.Between (print_field f) ≡ watch.Between
field_line f is =
    let name = plain_of is_token_byte token_tells f.name is.name.1 in
    let raw = plain_of is_value_byte value_tells f.raw is.raw in
    ap (λ (l : List ℕ). run watch.Between l) (field_text f)
    ∙ run_on watch.Between f.name (colon ∷ (f.raw ++ print_end f.end))
    ∙ ap (λ (s : LineWatch). run s (colon ∷ (f.raw ++ print_end f.end))) (enters watch.Between f.name is.name.0 name)
    ∙ run_on watch.Inside f.raw (print_end f.end)
    ∙ ap (λ (s : LineWatch). run s (print_end f.end)) (inside f.raw raw)
    ∙ line_ends f.end

field_lines : (fields : List Field) → All IsField fields
    → run watch.Between (flat_map print_field fields) ≡ watch.Between
field_lines [] all = refl
field_lines (f ∷ fields) all =
    run_on watch.Between (print_field f) (flat_map print_field fields)
    ∙ ap (λ (s : LineWatch). run s (flat_map print_field fields)) (field_line f (all zero f (omega arith)))
    ∙ field_lines fields (λ k d less. all (suc k) d (omega (arith, less)))

version_inside : (minor : ℕ) → minor ≤ 1 → run watch.Inside (print_version minor) ≡ watch.Inside
version_inside minor small = plain_step watch.Inside (digit_zero + minor) (λ e. absurd (omega (arith, e)))
    (λ e. absurd (omega (arith, e)))

-- through a text after which the watch is in this state
through : (state next : LineWatch) (xs ys : List ℕ) → run state xs ≡ next → sees_end next ys ≡ true
    → sees_end state (xs ++ ys) ≡ true
through state next xs ys is e = later state xs ys (subst (λ (s : LineWatch). sees_end s ys ≡ true) (sym is) e)

head_text : (h : RequestHead) → print_request h ≡ print_blank h.blank
    ++ (h.method ++ (space ∷ (h.target ++ (space ∷ (print_version h.minor
    ++ (print_end h.line_end ++ (flat_map print_field h.fields ++ print_end h.last)))))))
unfolding print_request
head_text h = search (rules, append_assoc)

pub whole_head : (head : RequestHead) → IsRequestHead head → sees_end watch.Before (print_request head) ≡ true
whole_head h is =
    let section = flat_map print_field h.fields ++ print_end h.last in
    let version = print_version h.minor ++ (print_end h.line_end ++ section) in
    ap (λ (l : List ℕ). sees_end watch.Before l) (head_text h) ∙
    through watch.Before watch.Before (print_blank h.blank) (h.method ++ (space ∷ (h.target ++ (space ∷ version))))
    (blank_stays h.blank)
    (through watch.Before watch.Inside h.method (space ∷ (h.target ++ (space ∷ version)))
    (enters watch.Before h.method is.method.0 (plain_of is_token_byte token_tells h.method is.method.1))
    (through watch.Inside watch.Inside h.target (space ∷ version)
    (inside h.target (plain_of is_uri_byte uri_tells h.target is.target.1))
    (through watch.Inside watch.Inside (print_version h.minor) (print_end h.line_end ++ section)
    (version_inside h.minor is.minor)
    (through watch.Inside watch.Between (print_end h.line_end) section (line_ends h.line_end)
    (through watch.Between watch.Between (flat_map print_field h.fields) (print_end h.last)
    (field_lines h.fields is.fields) (last_ends h.last))))))
