-- What a value under a lock stands for, and what one event of a pass says, over any values that entries change.
use Rattle.std.specs.Prelude.{◌≡◌, ◌++◌, ℕ, List, Option, option_to_list}
use mathlib.Core.List.{IsPrefix}
use Rattle.period_lock.specs.Turns.{Lock, Knowledge, IsOf, OwnsItsPart, entries, entry_by}

module _ {S X : Type 0} (after : S → List X → S) (IsStory : S → List X → Type 0) where
  -- The value is what the start became by the entries, each of which may have come where it stands.
  pub record Stands (value start : S) (story : List X) : Type 0 where
    pub value_is : value ≡ after start story
    pub is_story : IsStory start story

  module _ {A : Type 0} where
    -- One reading of a pass of the lock: it has then seen a list that begins with all that it had seen, and the answer
    -- is right for the value after that list. Nothing is added.
    pub record TakesReading (right : S → A → Type 0) (lock : Lock S) (before then : Knowledge S X) (answer : A) :
        Type 0 where
      pub longer : IsPrefix before.seen then.seen
      pub right_there : right (after lock.start (entries then.seen)) answer
      pub mine : then.mine ≡ before.mine
      pub is_story : IsStory lock.start (entries then.seen)
      pub owns : OwnsItsPart then
      pub number : then.number ≡ before.number
      pub of : IsOf lock then

    -- what a reading finds
    pub record FindsThere (right : S → A → Type 0) (start : S) (story : List X) (answer : A) : Type 0 where
      pub right_there : right (after start story) answer
      pub is_story : IsStory start story

    module _ {E : Type 0} (answer_of : S → E → A) (entry_of : E → A → Option X) where
      -- One event of a pass of the lock: there is a list that begins with all that the pass had seen; the answer is that
      -- to the event of the value after that list; the pass has then seen that list and the event's entry, if there is
      -- one, which is one more of its own.
      pub record TakesEvent (event : E) (lock : Lock S) (before then : Knowledge S X) (answer : A) : Type 0 where
        pub story : List (ℕ × X)
        pub longer : IsPrefix before.seen story
        pub answer_is : answer ≡ answer_of (after lock.start (entries story)) event
        pub seen : then.seen ≡ story ++ entry_by before.number (entry_of event answer)
        pub mine : then.mine ≡ before.mine ++ entry_by before.number (entry_of event answer)
        pub is_story : IsStory lock.start (entries then.seen)
        pub owns : OwnsItsPart then
        pub number : then.number ≡ before.number
        pub of : IsOf lock then

      -- what an event finds, and that its entry may come there
      pub record AnswersThere (event : E) (start : S) (story : List X) (answer : A) : Type 0 where
        pub answer_is : answer ≡ answer_of (after start story) event
        pub is_story : IsStory start (story ++ option_to_list (entry_of event answer))
