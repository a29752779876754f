-- The edges of a set of numbers: those of it that have none of it right before them, or none right behind them. They
-- are the numbers that stand in its ranges.
use Rattle.std.proofs.Common.{◌≡◌, ℕ, zero, suc, ◌+◌, ◌<◌, ◌≤◌, Bool, true, false, List, [], ◌∷◌, length, refl, sym, ap}
use Rattle.std.proofs.{Common.{ap₂, subst, ◌∙◌, arith, ⊎_elim}, lemmas.Bool.{cases_lt, false≢true}}
use Rattle.std.specs.{Prelude.{◌&&◌, ◌||◌, not, if◌then◌else◌}, Fmt.decimal, List.range_with_len}

-- how many bytes a number takes, with one behind it
abbrev pub size_of : ℕ → ℕ
size_of n = length (decimal n) + 1

-- whether the first of some numbers passes
abbrev pub first_passes : (ℕ → Bool) → List ℕ → Bool
first_passes p [] = false
first_passes p (n ∷ rest) = p n

-- whether a number that passes has none before it or none behind it
abbrev pub is_edge : Bool → Bool → Bool → Bool
is_edge before here next = here && (not before || not next)

-- a size where there is an edge
abbrev pub size_if : Bool → ℕ → ℕ
size_if edge size = if edge then size else 0

-- how many bytes the edges take among numbers one behind the other, where one before them passes or not
abbrev pub edges : Bool → (ℕ → Bool) → List ℕ → ℕ
edges before p [] = 0
edges before p (n ∷ rest) =
    size_if (is_edge before (p n) (first_passes p rest)) (size_of n) + edges (p n) p rest

pub at_most : (edge : Bool) (size : ℕ) → size_if edge size ≤ size
at_most true size = omega arith
at_most false size = omega arith

-- ---- the same test

first_same : (p q : ℕ → Bool) → ((n : ℕ) → p n ≡ q n) → (numbers : List ℕ)
    → first_passes p numbers ≡ first_passes q numbers
first_same p q is [] = refl
first_same p q is (n ∷ rest) = is n

pub same_edges : (p q : ℕ → Bool) → ((n : ℕ) → p n ≡ q n) → (before : Bool) (numbers : List ℕ)
    → edges before p numbers ≡ edges before q numbers
same_edges p q is before [] = refl
same_edges p q is before (n ∷ rest) =
    ap₂ (λ (here next : Bool). size_if (is_edge before here next) (size_of n) + edges here p rest) (is n)
    (first_same p q is rest)
    ∙ ap (λ (more : ℕ). size_if (is_edge before (q n) (first_passes q rest)) (size_of n) + more)
    (same_edges p q is (q n) rest)

-- ---- two sets together

-- an edge of both together is one of one of them
either_edge : (size : ℕ) (b c q r nq nr : Bool)
    → size_if (is_edge (b || c) (q || r) (nq || nr)) size
    ≤ size_if (is_edge b q nq) size + size_if (is_edge c r nr) size
either_edge size b c false false nq nr = omega arith
either_edge size true c true r true nr = omega arith
either_edge size false c true r nq nr = omega (arith, at_most (is_edge (false || c) true (nq || nr)) size)
either_edge size true c true r false nr = omega (arith, at_most (is_edge true true (false || nr)) size)
either_edge size true true false true true true = omega arith
either_edge size true true false true false true = omega arith
either_edge size false true false true true true = omega arith
either_edge size false true false true false true = omega arith
either_edge size b false false true nq nr = omega (arith, at_most (is_edge (b || false) true (nq || nr)) size)
either_edge size b true false true nq false = omega (arith, at_most (is_edge (b || true) true (nq || false)) size)

first_either : (p q r : ℕ → Bool) → ((n : ℕ) → p n ≡ (q n || r n)) → (numbers : List ℕ)
    → first_passes p numbers ≡ (first_passes q numbers || first_passes r numbers)
first_either p q r is [] = refl
first_either p q r is (n ∷ rest) = is n

added : (x y z a b c : ℕ) → x ≤ y + z → a ≤ b + c → x + a ≤ (y + b) + (z + c)
added x y z a b c first second = omega (arith, first, second)

-- the edges of both together take no more bytes than those of each
pub either_edges : (p q r : ℕ → Bool) → ((n : ℕ) → p n ≡ (q n || r n)) → (before b c : Bool) → before ≡ (b || c)
    → (numbers : List ℕ) → edges before p numbers ≤ edges b q numbers + edges c r numbers
either_edges p q r is before b c same [] = omega arith
either_edges p q r is before b c same (n ∷ rest) =
    let size = size_of n in
    let nq = first_passes q rest in
    let nr = first_passes r rest in
    let edge : is_edge before (p n) (first_passes p rest) ≡ is_edge (b || c) (q n || r n) (nq || nr) =
    ap (λ (t : Bool). is_edge t (p n) (first_passes p rest)) same
    ∙ ap₂ (λ (here next : Bool). is_edge (b || c) here next) (is n) (first_either p q r is rest) in
    let here =
    subst (λ (t : Bool). size_if t size ≤ size_if (is_edge b (q n) nq) size + size_if (is_edge c (r n) nr) size)
    (sym edge) (either_edge size b c (q n) (r n) nq nr) in
    added (size_if (is_edge before (p n) (first_passes p rest)) size) (size_if (is_edge b (q n) nq) size)
    (size_if (is_edge c (r n) nr) size) (edges (p n) p rest) (edges (q n) q rest) (edges (r n) r rest) here
    (either_edges p q r is (p n) (q n) (r n) (is n) rest)

-- ---- one run of numbers

-- where none passes there is no edge
pub no_edges : (p : ℕ → Bool) (first count : ℕ) → ((n : ℕ) → first ≤ n → p n ≡ false) → (before : Bool)
    → edges before p (range_with_len first count) ≤ 0
no_edges p first zero none before = omega arith
no_edges p first (suc count) none before =
    by (p first) (first_passes p rest) (none first (omega arith))
    (no_edges p (first + 1) count (λ n le. none n (omega (arith, le))) (p first))
  where
    rest : List ℕ
    rest = range_with_len (first + 1) count

    by : (t next : Bool) → t ≡ false → edges t p rest ≤ 0
        → size_if (is_edge before t next) (size_of first) + edges t p rest ≤ 0
    by true next is more = absurd (false≢true (sym is))
    by false next is more = omega (arith, more)

-- all numbers through a last one pass, and none behind it
pub record EndsAt (p : ℕ → Bool) (first last : ℕ) : Type 0 where
  pub pass : (n : ℕ) → first ≤ n → n ≤ last → p n ≡ true
  pub none : (n : ℕ) → last < n → p n ≡ false

-- so they do from a later one on
later_ends : {p : ℕ → Bool} {first last : ℕ} (later : ℕ) → EndsAt p first last → first ≤ later → EndsAt p later last
later_ends later is from =
    record { pass = λ n le to. is.pass n (omega (arith, le, from)) to; none = is.none }

next_passes : (p : ℕ → Bool) (first last count : ℕ) → EndsAt p first last → first ≤ last → last < first + count
    → first_passes p (range_with_len first count) ≡ true
next_passes p first last zero is from within = absurd (omega (arith, from, within))
next_passes p first last (suc count) is from within = is.pass first (omega arith) from

-- behind a number that passes, the last one is the only edge
last_edge : (p : ℕ → Bool) (last count first : ℕ) → EndsAt p first last → first ≤ last → last < first + count
    → edges true p (range_with_len first count) ≤ size_of last
last_edge p last zero first is from within = absurd (omega (arith, from, within))
last_edge p last (suc count) first is from within =
    ⊎_elim (λ lt.
    by (p first) (first_passes p rest) (is.pass first (omega arith) from)
    (next_passes p (first + 1) last count (later_ends (first + 1) is (omega arith)) (omega (arith, lt))
    (omega (arith, within)))
    (last_edge p last count (first + 1) (later_ends (first + 1) is (omega arith)) (omega (arith, lt))
    (omega (arith, within)))) here (cases_lt first last)
  where
    rest : List ℕ
    rest = range_with_len (first + 1) count

    by : (t next : Bool) → t ≡ true → next ≡ true → edges true p rest ≤ size_of last
        → size_if (is_edge true t next) (size_of first) + edges t p rest ≤ size_of last
    by true true is_t is_next more = omega (arith, more)
    by true false is_t is_next more = absurd (false≢true is_next)
    by false next is_t is_next more = absurd (false≢true is_t)

    here : last ≤ first → edges true p (range_with_len first (suc count)) ≤ size_of last
    here le =
        let one : first ≡ last = omega (arith, from, le) in
        let size = ap size_of one in
        omega (
          arith,
          size,
          at_most (is_edge true (p first) (first_passes p rest)) (size_of first),
          no_edges p (first + 1) count (λ n up. is.none n (omega (arith, up, one))) (p first),
        )

-- how many bytes the edges of one run take: its first number, and its last one where that is another
pub run_edges : (p : ℕ → Bool) (low high most : ℕ) → ((n : ℕ) → n < low → p n ≡ false) → EndsAt p low high
    → (low < high → size_of low + size_of high ≤ most) → (low ≡ high → size_of low ≤ most) → (count first : ℕ)
    → first ≤ low → low ≤ high → high < first + count → edges false p (range_with_len first count) ≤ most
run_edges p low high most before is two one zero first from up within = absurd (omega (arith, from, up, within))
run_edges p low high most before is two one (suc count) first from up within =
    ⊎_elim (λ lt.
    outside (p first) (first_passes p rest) (before first lt)
    (run_edges p low high most before is two one count (first + 1) (omega (arith, lt)) up (omega (arith, within))))
    here (cases_lt first low)
  where
    rest : List ℕ
    rest = range_with_len (first + 1) count

    outside : (t next : Bool) → t ≡ false → edges false p rest ≤ most
        → size_if (is_edge false t next) (size_of first) + edges t p rest ≤ most
    outside true next is_t more = absurd (false≢true (sym is_t))
    outside false next is_t more = omega (arith, more)

    begin : (t next : Bool) → t ≡ true → (last : ℕ) → edges true p rest ≤ last → size_of first + last ≤ most
        → size_if (is_edge false t next) (size_of first) + edges t p rest ≤ most
    begin true next is_t last more few = omega (arith, more, few, at_most (is_edge false true next) (size_of first))
    begin false next is_t last more few = absurd (false≢true is_t)

    here : low ≤ first → edges false p (range_with_len first (suc count)) ≤ most
    here le =
        let at : first ≡ low = omega (arith, from, le) in
        let size = ap size_of at in
        let passes = is.pass first le (omega (arith, at, up)) in
        ⊎_elim (λ lt.
        begin (p first) (first_passes p rest) passes (size_of high)
        (last_edge p high count (first + 1) (later_ends (first + 1) is (omega (arith, at))) (omega (arith, lt, at))
        (omega (arith, within)))
        (let few = two lt in omega (arith, few, size)))
        (λ down.
        let last : low ≡ high = omega (arith, up, down) in
        begin (p first) (first_passes p rest) passes 0
        (no_edges p (first + 1) count (λ n up_. is.none n (omega (arith, up_, at, last))) true)
        (let few = one last in omega (arith, few, size))) (cases_lt low high)
