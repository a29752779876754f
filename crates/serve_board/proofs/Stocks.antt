-- A pool under its lock after one more descriptor.
use Rattle.std.proofs.Common.{◌≡◌, ◌+◌, Bool, true, false, cond, List, [], ◌∷◌, ◌++◌, length, Some, None, refl, sym, ap}
use Rattle.std.proofs.Common.{◌∙◌, subst, option_to_list, arith}
use Rattle.key_port.specs.Answers.{Rules}
use Rattle.descriptor_doc.specs.{Checks.IsChecked, declared.descriptor.Descriptor.Descriptor}
use Rattle.vote_pool.specs.{declared.answers.Keep.Keep, Pools.{Pooled, answer_to, is_change, pool_after}}
use Rattle.serve_board.specs.{Stocks.{stock_after, AreKept, kept_if}, Turns.{Stands, AnswersThere}}

module _ (rules : Rules) where
  -- what a value stands for
  abbrev pub StandsFor : Pooled → Pooled → List Descriptor → Type 0
  StandsFor value start story = Stands stock_after (AreKept rules) value start story

  -- a list that goes on by one descriptor, where that changed the pool
  record GoesOn (start : Pooled) (story : List Descriptor) (descriptor : Descriptor) (more : List Descriptor) : Type 0
    where
      is : AreKept rules start (story ++ more)
      leads : stock_after start (story ++ more) ≡ pool_after (stock_after start story) descriptor

  on_by : (b : Bool) (pool : Pooled) (descriptor : Descriptor) → IsChecked rules descriptor
      → is_change (answer_to pool descriptor) ≡ b
      → GoesOn pool [] descriptor (option_to_list (cond b (Some descriptor) None))
  on_by true pool descriptor checked q = record { is = (record { checked = checked; changes = q }, tt); leads = refl }
  on_by false pool descriptor checked q = record { is = tt; leads = rw q refl }

  on : (story : List Descriptor) (start : Pooled) (descriptor : Descriptor) → IsChecked rules descriptor
      → AreKept rules start story
      → GoesOn start story descriptor
      (option_to_list (kept_if descriptor (answer_to (stock_after start story) descriptor)))
  on [] start descriptor checked k = on_by _ start descriptor checked refl
  on (x ∷ story) start descriptor checked k =
      let rest = on story (pool_after start x) descriptor checked k.1 in
      record { is = (k.0, rest.is); leads = rest.leads }

  goes_on : (start : Pooled) (story : List Descriptor) (descriptor : Descriptor) (answer : Keep)
      → IsChecked rules descriptor → AreKept rules start story
      → answer ≡ answer_to (stock_after start story) descriptor
      → GoesOn start story descriptor (option_to_list (kept_if descriptor answer))
  goes_on start story descriptor answer checked k is =
      subst (λ (a : Keep). GoesOn start story descriptor (option_to_list (kept_if descriptor a))) (sym is)
      (on story start descriptor checked k)

  -- the answer at a value is that after the list
  pub keeps_there : (value start : Pooled) (story : List Descriptor) (descriptor : Descriptor) (answer : Keep)
      → StandsFor value start story → IsChecked rules descriptor → answer ≡ answer_to value descriptor
      → AnswersThere stock_after (AreKept rules) answer_to kept_if descriptor start story answer
  keeps_there value start story descriptor answer stands checked is =
      let there : answer ≡ answer_to (stock_after start story) descriptor =
      is ∙ ap (λ (v : Pooled). answer_to v descriptor) stands.value_is in
      record { answer_is = there; is_story = (goes_on start story descriptor answer checked stands.is_story there).is }

  -- the value after the descriptor stands for the list with its entry
  pub stands_more : (value new start : Pooled) (story : List Descriptor) (descriptor : Descriptor) (answer : Keep)
      → StandsFor value start story → IsChecked rules descriptor → answer ≡ answer_to value descriptor
      → new ≡ pool_after value descriptor
      → StandsFor new start (story ++ option_to_list (kept_if descriptor answer))
  stands_more value new start story descriptor answer stands checked is next =
      let there : answer ≡ answer_to (stock_after start story) descriptor =
      is ∙ ap (λ (v : Pooled). answer_to v descriptor) stands.value_is in
      let more = goes_on start story descriptor answer checked stands.is_story there in
      record {
        value_is = next ∙ ap (λ (v : Pooled). pool_after v descriptor) stands.value_is ∙ sym more.leads;
        is_story = more.is;
      }

  counted : (story : List Descriptor) (start : Pooled) → AreKept rules start story
      → (stock_after start story).changes ≡ start.changes + length story
  counted [] start k = omega arith
  counted (x ∷ story) start k =
      let here : (pool_after start x).changes ≡ start.changes + 1 = rw k.0.changes refl in
      omega (arith, here, counted story (pool_after start x) k.1)

  -- the changes of the value count the list
  pub changes_there : (value start : Pooled) (story : List Descriptor) → StandsFor value start story
      → value.changes ≡ start.changes + length story
  changes_there value start story stands =
      ap (λ (v : Pooled). v.changes) stands.value_is ∙ counted story start stands.is_story
