-- What the ends of workers say of their gates.
use Rattle.std.proofs.Common.{◌≡◌, ℕ, ◌+◌, ◌<◌, ◌≤◌, List, [], ◌∷◌, length, zero, suc, refl, sym, subst, arith, true}
use Rattle.std.{proofs.Common.false, specs.Prelude.{◌≢◌, All, Bool, slice_index_or}}
use Rattle.dir_bytes.specs.Causes.{Rose}
use Rattle.gate_workers.specs.{declared.worker.{End.End, Worker.Worker}, Workers.{Ends, Listens, AnyFault, GateRose}}
use Rattle.gate_workers.specs.declared.worker.End.TheVariants as ends

-- a count that rose after it did not fall rose
rose_on : (a b c : ℕ) → a ≤ b → Rose b c → Rose a c
rose_on a b c kept rose = omega (arith, kept, rose)

any_default : {X : Type 0} (xs : List X) (i : ℕ) (d e : X) → i < length xs
    → slice_index_or xs i d ≡ slice_index_or xs i e
any_default [] i d e below = absurd (omega (arith, below))
any_default (x ∷ xs) zero d e below = refl
any_default (x ∷ xs) (suc i) d e below = any_default xs i d e (omega (arith, below))

module _ {G K : Type 0} (faults : G → ℕ) (closed : G → Bool) (ws ws' : List (Worker G K))
    (long : length ws' ≡ length ws) where
  -- a gate that failed to listen
  pub heard : AnyFault true ws'
      → ((i : ℕ) (d : Worker G K) → i < length ws → Listens (faults (slice_index_or ws i d).gate)
      (faults (slice_index_or ws' i d).gate) (slice_index_or ws' i d).end) → GateRose faults closed ws ws'
  heard any listened =
      let i : ℕ = any.0 in
      let w : Worker G K = any.1 in
      let below : i < length ws = omega (arith, any.2, long) in
      record {
        place = i;
        worker = slice_index_or ws i w;
        worker_then = w;
        within = below;
        was = any_default ws i w (slice_index_or ws i w) below;
        is = any.3;
        rose = subst (λ e. Listens (faults (slice_index_or ws i w).gate) (faults w.gate) e) any.4
            (subst (λ x. Listens (faults (slice_index_or ws i w).gate) (faults x.gate) x.end) (sym any.3)
            (listened i w below));
      }

  module _ (ws'' : List (Worker G K)) (longer : length ws'' ≡ length ws')
      (ended : (i : ℕ) (d : Worker G K) → i < length ws' → Ends (faults (slice_index_or ws' i d).gate)
      (faults (slice_index_or ws'' i d).gate) (closed (slice_index_or ws'' i d).gate)
      (slice_index_or ws'' i d).end) where
    -- a gate that failed while its worker worked
    pub worked : AnyFault true ws''
        → ((i : ℕ) (d : Worker G K) → i < length ws → faults (slice_index_or ws i d).gate ≤ faults
        (slice_index_or ws' i d).gate) → GateRose faults closed ws ws''
    worked any kept =
        let i : ℕ = any.0 in
        let w : Worker G K = any.1 in
        let there : i < length ws' = omega (arith, any.2, longer) in
        let below : i < length ws = omega (arith, there, long) in
        record {
          place = i;
          worker = slice_index_or ws i w;
          worker_then = w;
          within = below;
          was = any_default ws i w (slice_index_or ws i w) below;
          is = any.3;
          rose = rose_on (faults (slice_index_or ws i w).gate) (faults (slice_index_or ws' i w).gate) (faults w.gate)
              (kept i w below)
              (subst (λ e. Ends (faults (slice_index_or ws' i w).gate) (faults w.gate) (closed w.gate) e) any.4
              (subst (λ x. Ends (faults (slice_index_or ws' i w).gate) (faults x.gate) (closed x.gate) x.end)
              (sym any.3) (ended i w there)));
        }
