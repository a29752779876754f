-- What holds of workers by their places, and of what they had.
use Rattle.std.proofs.Common.{◌≡◌, ℕ, ◌<◌, ◌≤◌, List, [], ◌∷◌, map, length, refl, sym, ap, ◌∙◌, subst, arith}
use Rattle.std.{proofs.lemmas.List.{get_or-map, length-map, Elements.{All-map, All-same}}, specs.Prelude.{All, Bool}}
use Rattle.std.specs.Prelude.{slice_index_or}
use Rattle.serve_board.specs.Boards.{Locks, Parts, IsAt}
use Rattle.flag_rules.specs.{Rules.KeepsTo, declared.{hook.Hook.Hook, relay.RelayFacts.RelayFacts}}
use Rattle.flag_rules.specs.declared.ruling.Ruling.{Ruling}
use Rattle.station_input.specs.declared.facts.StationFacts.{StationFacts}
use Rattle.serve_work.specs.Attendants.{ComesTo, MayAttend, Orders}

-- some element of a list that has one
some_of : {X : Type 0} (xs : List X) (i : ℕ) → i < length xs → X
some_of [] i below = absurd (omega (arith, below))
some_of (x ∷ xs) i below = x

-- a worker that has done nothing comes to what it is
pub comes_same : {V W : Type 0} (faults : V → ℕ) (HasDone : Orders W → Parts → Parts → Type 0) (by : Orders W)
    (pass : Parts) (verifier : V) → HasDone by pass pass
    → ComesTo faults HasDone by pass verifier by pass verifier
comes_same faults HasDone by pass verifier done =
    record { same = refl; worked = done; verifier_faults = omega arith }

-- and one that works on comes to more
pub comes_more : {V W : Type 0} (faults : V → ℕ) (HasDone : Orders W → Parts → Parts → Type 0)
    (by by' by'' : Orders W) (pass pass' pass'' : Parts) (verifier verifier' verifier'' : V)
    → ((by : Orders W) → HasDone by pass pass' → HasDone by pass' pass'' → HasDone by pass pass'')
    → ComesTo faults HasDone by pass verifier by' pass' verifier' → by'' ≡ by' → HasDone by' pass' pass''
    → faults verifier' ≤ faults verifier''
    → ComesTo faults HasDone by pass verifier by'' pass'' verifier''
comes_more faults HasDone by by' by'' pass pass' pass'' verifier verifier' verifier'' more before same done failed =
    record {
      same = same ∙ before.same;
      worked = more by before.worked (subst (λ o. HasDone o pass' pass'') before.same done);
      verifier_faults = omega (arith, before.verifier_faults, failed);
    }

module _ {X Y : Type 0} (part : X → Y) (R : Y → Y → Type 0) (ws ws' : List X) (ys ys' : List Y)
    (was : map part ws ≡ ys) (is : ys' ≡ map part ws') (long : length ws' ≡ length ws) where
  -- what holds of a part of each worker by its place holds of these parts by theirs
  pub by_place : ((i : ℕ) (d : X) → i < length ws → R (part (slice_index_or ws i d)) (part (slice_index_or ws' i d)))
      → (i : ℕ) (d : Y) → i < length ys → R (slice_index_or ys i d) (slice_index_or ys' i d)
  by_place each i d below =
      let there : i < length ws = omega (arith, below, ap length was, length-map ws part) in
      let here : i < length ws' = omega (arith, there, long) in
      let x : X = some_of ws i there in
      subst (λ l. R (slice_index_or l i d) (slice_index_or ys' i d)) was
      (subst (λ l. R (slice_index_or (map part ws) i d) (slice_index_or l i d)) (sym is)
      (subst (λ y. R y (slice_index_or (map part ws') i d)) (sym (get_or-map part ws i x d there))
      (subst (λ y. R (part (slice_index_or ws i x)) y) (sym (get_or-map part ws' i x d here)) (each i x there))))

-- as many parts are given back as there were
pub as_many : {X Y : Type 0} (part : X → Y) (ws ws' : List X) (ys ys' : List Y) → map part ws ≡ ys
    → ys' ≡ map part ws' → length ws' ≡ length ws → length ys' ≡ length ys
as_many part ws ws' ys ys' was is long =
    ap length is ∙ length-map ws' part ∙ long ∙ sym (length-map ws part) ∙ ap length was

module _ {X : Type 0} (pass_of : X → Parts) (board : Locks) (ws : List X) where
  -- workers whose passes are of the board
  pub workers_at : (passes : List Parts) → map pass_of ws ≡ passes → All (IsAt board) passes
      → (i : ℕ) (d : X) → i < length ws → IsAt board (pass_of (slice_index_or ws i d))
  workers_at passes is all i d below =
      let there : All (IsAt board) (map pass_of ws) = All-same (IsAt board) (map pass_of ws) passes is all in
      subst (λ p. IsAt board p) (get_or-map pass_of ws i d (pass_of d) below)
      (there i (pass_of d) (omega (arith, below, length-map ws pass_of)))

  module _ (board_of : X → Locks) (ws' : List X) (long : length ws' ≡ length ws) where
    -- the passes of workers that are at their boards, which are this one still
    pub passes_at : (passes : List Parts) → passes ≡ map pass_of ws'
        → ((i : ℕ) (d : X) → i < length ws → board_of (slice_index_or ws i d) ≡ board)
        → ((i : ℕ) (d : X) → i < length ws → board_of (slice_index_or ws' i d) ≡ board_of (slice_index_or ws i d))
        → ((i : ℕ) (d : X) → i < length ws'
        → IsAt (board_of (slice_index_or ws' i d)) (pass_of (slice_index_or ws' i d))) → All (IsAt board) passes
    passes_at passes is were same at =
        All-same (IsAt board) passes (map pass_of ws') is
        (All-map (IsAt board) pass_of ws'
        (λ i d below.
        let there : i < length ws = omega (arith, below, long) in
        subst (λ b. IsAt b (pass_of (slice_index_or ws' i d))) (same i d there ∙ were i d there) (at i d below)))

-- a worker with a pass of the board and a hook that keeps to its rules may work
pub may_attend : {W F : Type 0} (allows : W → RelayFacts → Ruling → Bool) (pre : F → RelayFacts → Type 0)
    (post : F → RelayFacts → Ruling → Type 0) (board board' : Locks) (pass : Parts) (hook hook' : Hook W F)
    → board' ≡ board → hook' ≡ hook → IsAt board pass → KeepsTo allows pre post hook.rules hook.ask
    → MayAttend allows pre post board' pass hook'.rules hook'.ask
may_attend allows pre post board board' pass hook hook' same_board same_hook at keeps = record {
  at = subst (λ b. IsAt b pass) (sym same_board) at;
  hook = subst (λ h. KeepsTo allows pre post h.rules h.ask) (sym same_hook) keeps;
}

-- orders
abbrev orders_of : {W : Type 0} → Locks → W → StationFacts → Orders W
orders_of board rules station = record { board = board; rules = rules; station = station }

-- what a worker did by its orders is done by those that it was given
pub done_by : {W F : Type 0} (HasDone : Orders W → Parts → Parts → Type 0) (board board' : Locks) (hook hook' : Hook W F)
    (station station' : StationFacts) (pass pass' : Parts) → board ≡ board' → hook ≡ hook' → station ≡ station'
    → HasDone (record { board = board; rules = hook.rules; station = station }) pass pass'
    → HasDone (record { board = board'; rules = hook'.rules; station = station' }) pass pass'
done_by HasDone board board' hook hook' station station' pass pass' same_board same_hook same_station done =
    subst (λ b. HasDone (orders_of b hook'.rules station') pass pass') same_board
    (subst (λ h. HasDone (orders_of board h.rules station') pass pass') same_hook
    (subst (λ s. HasDone (orders_of board hook.rules s) pass pass') same_station done))
