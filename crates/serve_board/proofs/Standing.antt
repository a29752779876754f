-- What a value under a lock stands for after an event, and what the pass then knows.
use Rattle.std.proofs.Common.{◌≡◌, ℕ, List, ◌++◌, None, Option, sym, ap, ◌∙◌, subst, append-nil, option_to_list}
use mathlib.Core.List.{IsPrefix}
use Rattle.period_lock.specs.Turns.{Lock, Knowledge, OwnsItsPart, TakesTurn, entries, entry_by}
use Rattle.period_lock.proofs.Entries.{entries-entry_by}
use Rattle.serve_board.specs.Turns.{TakesEvent, TakesReading, AnswersThere, FindsThere}

module _ {S X : Type 0} (after : S → List X → S) (IsStory : S → List X → Type 0) where
  module _ {A R E : Type 0} (lock : Lock S) (before then : Knowledge S X) (answers : S → List X → R → E → Type 0)
      (entry : R → E → Option X) (reply : R) (event : E) (turn : TakesTurn answers entry lock before then reply event)
    where
      -- a turn whose event adds nothing is a reading of the pass
      pub reading_told : (right : S → A → Type 0) (answer : A)
          → FindsThere after IsStory right lock.start (entries turn.story) answer → entry reply event ≡ None
          → OwnsItsPart then → TakesReading after IsStory right lock before then answer
      reading_told right answer found none owns =
          let seen : then.seen ≡ turn.story =
          turn.seen ∙ ap (λ (x : Option X). turn.story ++ entry_by before.number x) none ∙ append-nil turn.story in
          record {
            longer = subst (λ (l : List (ℕ × X)). IsPrefix before.seen l) (sym seen) turn.longer;
            right_there = subst (λ (l : List (ℕ × X)). right (after lock.start (entries l)) answer) (sym seen)
                found.right_there;
            mine = turn.mine ∙ ap (λ (x : Option X). before.mine ++ entry_by before.number x) none
                ∙ append-nil before.mine;
            is_story = subst (λ (l : List (ℕ × X)). IsStory lock.start (entries l)) (sym seen) found.is_story;
            owns = owns;
            number = turn.number;
            of = turn.of;
          }

      module _ {F : Type 0} (answer_of : S → F → A) (entry_of : F → A → Option X) where
        -- a turn whose event answers is an event of the pass
        pub event_told : (of : F) (answer : A)
            → AnswersThere after IsStory answer_of entry_of of lock.start (entries turn.story) answer
            → entry reply event ≡ entry_of of answer → OwnsItsPart then
            → TakesEvent after IsStory answer_of entry_of of lock before then answer
        event_told of answer there same owns =
            let seen : then.seen ≡ turn.story ++ entry_by before.number (entry_of of answer) =
            turn.seen ∙ ap (λ (x : Option X). turn.story ++ entry_by before.number x) same in
            let whole : entries then.seen ≡ entries turn.story ++ option_to_list (entry_of of answer) =
            ap (λ (l : List (ℕ × X)). entries l) seen
            ∙ entries-entry_by turn.story before.number (entry_of of answer) in
            record {
              story = turn.story;
              longer = turn.longer;
              answer_is = there.answer_is;
              seen = seen;
              mine = turn.mine ∙ ap (λ (x : Option X). before.mine ++ entry_by before.number x) same;
              is_story = subst (λ (l : List X). IsStory lock.start l) (sym whole) there.is_story;
              owns = owns;
              number = turn.number;
              of = turn.of;
            }
