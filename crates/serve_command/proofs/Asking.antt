-- What becomes of the first of some objects that is asked.
use Rattle.std.proofs.Common.{◌≡◌, ◌<◌, ℕ, List, [], ◌∷◌, length, Result, Ok, Err, refl, sym, ap, subst, ◌∙◌, arith}
use Rattle.std.specs.Prelude.{IfErr, slice_index_or, slice_set}
use Rattle.dir_bytes.specs.Causes.{Counts, Rose}
use Rattle.daemon_words.specs.declared.stop.Stop.{Stop}
use Rattle.daemon_words.specs.declared.stop.Stop.TheVariants as stop
use Rattle.serve_command.specs.{declared.refusal.ServeRefusal.ServeRefusal, Serving.{AsksFirst, AsksClock}}
use Rattle.serve_command.specs.declared.refusal.ServeRefusal.TheVariants as refusal
use Rattle.serve_work.specs.declared.serving.Served.{Served}

-- It is the first of them.
record IsFirst {X : Type 0} (items : List X) (x : X) : Type 0 where
  pub others : List X
  pub were : items ≡ x ∷ others
  pub set : (later : X) → slice_set items 0 later ≡ later ∷ others

first_of : {X : Type 0} (items : List X) (x : X) → 0 < length items → x ≡ slice_index_or items 0 x → IsFirst items x
first_of [] x some is = absurd (omega (arith, some))
first_of (y ∷ items) x some is =
    record { others = items; were = ap (λ z. z ∷ items) (sym is); set = λ later. refl }

module _ {C : Type 0} (asks last : C → ℕ) (clocks : List C) (clock later : C) where
  -- the clock was asked
  pub asked_clock : (clocks' : List C) (now : ℕ) (Is : ℕ → Result Served (Stop ServeRefusal) → Type 0) (result : Result Served (Stop ServeRefusal))
      → 0 < length clocks → clock ≡ slice_index_or clocks 0 clock → Counts (asks clock) (asks later)
      → now ≡ last later → Is now result → IfErr result (λ why. clocks' ≡ slice_set clocks 0 later)
      → AsksClock asks last clocks clocks' Is result
  asked_clock clocks' now Is (Ok served) some first counts same is stays =
      let it = first_of clocks clock some first in
      record {
        first = clock;
        others = it.others;
        were = it.were;
        clock = later;
        counts = counts;
        is = subst (λ n. Is n (Ok served)) same is;
        no_more = tt;
      }
  asked_clock clocks' now Is (Err why) some first counts same is stays =
      let it = first_of clocks clock some first in
      record {
        first = clock;
        others = it.others;
        were = it.were;
        clock = later;
        counts = counts;
        is = subst (λ n. Is n (Err why)) same is;
        no_more = stays ∙ it.set later;
      }

-- the verifier alone was asked
pub asked_first : {V : Type 0} (faults : V → ℕ) (verifiers : List V) (first later : V) (why : Stop ServeRefusal)
    → 0 < length verifiers → first ≡ slice_index_or verifiers 0 first
    → (why ≡ stop.Refused refusal.Verifier → Rose (faults first) (faults later))
    → (faults first < faults later → why ≡ stop.Refused refusal.Verifier)
    → AsksFirst faults verifiers (slice_set verifiers 0 later) why
asked_first faults verifiers first later why some is cause told =
    let it = first_of verifiers first some is in
    record {
      first = first;
      later = later;
      others = it.others;
      were = it.were;
      are = it.set later;
      cause = cause;
      told = told;
    }
