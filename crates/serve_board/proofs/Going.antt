-- A pass goes on by each event and each reading.
use Rattle.std.proofs.Common.{◌≡◌, List, [], ◌++◌, Option, refl, sym, ap, ◌∙◌, subst, append_assoc, append-nil}
use mathlib.Core.List.{IsPrefix}
use Rattle.key_port.specs.Answers.{Rules}
use Rattle.descriptor_doc.specs.declared.descriptor.Descriptor.{Descriptor}
use Rattle.vote_pool.specs.{declared.answers.Keep.Keep, Pools.Pooled}
use Rattle.period_lock.specs.Turns.{Knowledge, Lock, entry_by}
use Rattle.period_terms.specs.declared.{answer.Answer.Answer, event.Event.Event, state.State.State}
use Rattle.serve_board.specs.{Boards.{Locks, Parts, Makes, Sees, Stores, Looks}, Turns.{TakesEvent, TakesReading}}
use Rattle.serve_board.specs.Going.{GoesOn, Goes}

module _ {X : Type 0} where
  -- what begins with a beginning
  pub prefix_on : (xs ys zs : List X) → IsPrefix xs ys → IsPrefix ys zs → IsPrefix xs zs
  prefix_on xs ys zs a b = (
    a.0 ++ b.0,
    sym (append_assoc xs a.0 b.0) ∙ ap (λ l. l ++ b.0) a.1 ∙ b.1,
  )

  -- a list begins with itself
  pub prefix_same : (xs : List X) → IsPrefix xs xs
  prefix_same xs = ([], append-nil xs)

module _ {S X : Type 0} where
  same_there : (a : Knowledge S X) → GoesOn a a
  same_there a = record { seen = prefix_same a.seen; mine = prefix_same a.mine; number = refl }

  on_there : (a b c : Knowledge S X) → GoesOn a b → GoesOn b c → GoesOn a c
  on_there a b c g h = record {
    seen = prefix_on a.seen b.seen c.seen g.seen h.seen;
    mine = prefix_on a.mine b.mine c.mine g.mine h.mine;
    number = h.number ∙ g.number;
  }

  is_there : (a b : Knowledge S X) → b ≡ a → GoesOn a b
  is_there a b is = subst (GoesOn a) (sym is) (same_there a)

  module _ (after : S → List X → S) (IsStory : S → List X → Type 0) {A : Type 0} where
    reading_there : (right : S → A → Type 0) (lock : Lock S) (a b : Knowledge S X) (answer : A)
        → TakesReading after IsStory right lock a b answer → GoesOn a b
    reading_there right lock a b answer takes = record {
      seen = takes.longer;
      mine = ([], append-nil a.mine ∙ sym takes.mine);
      number = takes.number;
    }

    event_there : {E : Type 0} (answer_of : S → E → A) (entry_of : E → A → Option X) (event : E) (lock : Lock S)
        (a b : Knowledge S X) (answer : A) → TakesEvent after IsStory answer_of entry_of event lock a b answer → GoesOn a b
    event_there answer_of entry_of event lock a b answer takes = record {
      seen =
          prefix_on a.seen takes.story b.seen takes.longer
          (entry_by a.number (entry_of event answer), sym takes.seen);
      mine = (entry_by a.number (entry_of event answer), sym takes.mine);
      number = takes.number;
    }

-- a pass that is as it was
pub goes_same : (a : Parts) → Goes a a
goes_same a = record { state = same_there a.state; pool = same_there a.pool }

-- a pass that has gone on, and goes on
pub goes_on : (a b c : Parts) → Goes a b → Goes b c → Goes a c
goes_on a b c g h = record {
  state = on_there a.state b.state c.state g.state h.state;
  pool = on_there a.pool b.pool c.pool g.pool h.pool;
}

module _ (rules : Rules) (board : Locks) (a b : Parts) where
  -- by an event at the state
  pub goes_makes : (event : Event) (answer : Answer) → Makes rules board a b event answer → Goes a b
  goes_makes event answer makes = record {
    state = event_there _ _ _ _ event board.state a.state b.state answer makes.takes;
    pool = is_there a.pool b.pool makes.pool;
  }

  -- by a reading of the state
  pub goes_sees : {A : Type 0} (right : State → A → Type 0) (answer : A) → Sees rules board a b right answer
      → Goes a b
  goes_sees right answer sees = record {
    state = reading_there _ _ right board.state a.state b.state answer sees.takes;
    pool = is_there a.pool b.pool sees.pool;
  }

  -- by a descriptor that is kept, or not
  pub goes_stores : (descriptor : Descriptor) (answer : Keep) → Stores rules board a b descriptor answer → Goes a b
  goes_stores descriptor answer stores = record {
    state = is_there a.state b.state stores.state;
    pool = event_there _ _ _ _ descriptor board.pool a.pool b.pool answer stores.takes;
  }

  -- by a reading of the pool
  pub goes_looks : {A : Type 0} (right : Pooled → A → Type 0) (answer : A) → Looks rules board a b right answer
      → Goes a b
  goes_looks right answer looks = record {
    state = is_there a.state b.state looks.state;
    pool = reading_there _ _ right board.pool a.pool b.pool answer looks.takes;
  }
