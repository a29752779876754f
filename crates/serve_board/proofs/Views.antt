-- What is said of what a board and a pass have inside is said of what they are seen as.
use Rattle.std.proofs.Common.{◌≡◌, refl, sym, subst}
use Rattle.key_port.specs.Answers.{Rules}
use Rattle.descriptor_doc.specs.declared.descriptor.Descriptor.{Descriptor}
use Rattle.vote_pool.specs.{declared.answers.Keep.Keep, Pools.{Pooled, answer_to}}
use Rattle.period_lock.specs.Turns.{IsOf, Knowledge}
use Rattle.period_terms.specs.declared.{answer.Answer.Answer, entry.Entry.Entry, event.Event.Event, state.State.State}
use Rattle.period_terms.specs.Histories.{after, entry_if}
use Rattle.period_laws.specs.Checked.{IsCheckedHistory}
use Rattle.serve_board.specs.{Boards.{Locks, Parts, IsAt, Makes, Sees, Stores, Looks, answer_at}, Stocks.stock_after}
use Rattle.serve_board.specs.{Stocks.{AreKept, kept_if}, Turns.{TakesEvent, TakesReading}}

module _ (inside board : Locks) (parts before : Parts) (b : inside ≡ board) (p : parts ≡ before) where
  pub seen_as : (F : Locks → Parts → Type 0) → F inside parts → F board before
  seen_as F f = subst (λ (l : Locks). F l before) b (subst (λ (q : Parts). F inside q) p f)

  module _ (at : IsAt board before) where
    -- a pass of the board has passes of its locks inside
    pub state_of : IsOf inside.state parts.state
    state_of =
        subst (λ (l : Locks). IsOf l.state parts.state) (sym b)
        (subst (λ (q : Parts). IsOf board.state q.state) (sym p) at.state)

    pub pool_of : IsOf inside.pool parts.pool
    pool_of =
        subst (λ (l : Locks). IsOf l.pool parts.pool) (sym b)
        (subst (λ (q : Parts). IsOf board.pool q.pool) (sym p) at.pool)

    -- where one part goes on and is of the board, the pass is
    pub at_state : (then : Knowledge State Entry) → IsOf inside.state then
        → IsAt board (record { state = then; pool = parts.pool })
    at_state then of = record {
      state = subst (λ (l : Locks). IsOf l.state then) b of;
      pool = subst (λ (q : Parts). IsOf board.pool q.pool) (sym p) at.pool;
    }

    pub at_pool : (then : Knowledge Pooled Descriptor) → IsOf inside.pool then
        → IsAt board (record { state = parts.state; pool = then })
    at_pool then of = record {
      state = subst (λ (q : Parts). IsOf board.state q.state) (sym p) at.state;
      pool = subst (λ (l : Locks). IsOf l.pool then) b of;
    }

  module _ (rules : Rules) where
    -- an event or a reading of a part is one of the pass
    pub makes : (then : Knowledge State Entry) (event : Event) (answer : Answer)
        → TakesEvent after (IsCheckedHistory rules) answer_at entry_if event inside.state parts.state then answer
        → Makes rules board before (record { state = then; pool = parts.pool }) event answer
    makes then event answer takes =
        seen_as
        (λ (l : Locks) (q : Parts). Makes rules l q (record { state = then; pool = parts.pool }) event answer)
        (record { takes = takes; pool = refl })

    pub sees : {A : Type 0} (then : Knowledge State Entry) (right : State → A → Type 0) (answer : A)
        → TakesReading after (IsCheckedHistory rules) right inside.state parts.state then answer
        → Sees rules board before (record { state = then; pool = parts.pool }) right answer
    sees then right answer takes =
        seen_as
        (λ (l : Locks) (q : Parts). Sees rules l q (record { state = then; pool = parts.pool }) right answer)
        (record { takes = takes; pool = refl })

    pub stores : (then : Knowledge Pooled Descriptor) (descriptor : Descriptor) (answer : Keep)
        → TakesEvent stock_after (AreKept rules) answer_to kept_if descriptor inside.pool parts.pool then answer
        → Stores rules board before (record { state = parts.state; pool = then }) descriptor answer
    stores then descriptor answer takes =
        seen_as
        (λ (l : Locks) (q : Parts). Stores rules l q (record { state = parts.state; pool = then }) descriptor
        answer)
        (record { takes = takes; state = refl })

    pub looks : {A : Type 0} (then : Knowledge Pooled Descriptor) (right : Pooled → A → Type 0) (answer : A)
        → TakesReading stock_after (AreKept rules) right inside.pool parts.pool then answer
        → Looks rules board before (record { state = parts.state; pool = then }) right answer
    looks then right answer takes =
        seen_as
        (λ (l : Locks) (q : Parts). Looks rules l q (record { state = parts.state; pool = then }) right answer)
        (record { takes = takes; state = refl })
