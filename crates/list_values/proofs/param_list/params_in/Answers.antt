use Rattle.std.{proofs.Common.{◌≡◌, ℕ, List, ap, ap₂, sym, ◌∙◌, subst, ℤ, rules}, specs.{Prelude.IfOk, List.fold}}
use Rattle.item_terms.specs.Words.{words_of}
use Rattle.dir_values.{specs.Arguments.{Argument, texts_of}, proofs.ArgumentWords.arguments_words}
use Rattle.list_values.specs.{declared.named.Named.Named, Maps.with_value, Params.{with_param, as_params}}
use Rattle.list_values.proofs.param_list.params_in.Goals as goal

pub arguments-init : goal.arguments-init
arguments-init c =
    ap (λ (l : List Argument). fold with_param c.new-map.result (texts_of l)) c.at-arguments.ensures
    ∙ ap (λ (l : List (List ℕ)). fold with_param c.new-map.result l) (arguments_words 0 c.args.text.now)
    ∙ ap (λ (m : List (Named ℤ)). fold with_param m (words_of c.args.text.now)) c.new-map.ensures

pub arguments-preserved : goal.arguments-preserved
arguments-preserved c =
    let word = c.in-Some.argument.text.now in
    let put : c.put.new.self ≡ with_value c.arguments.map c.left_side.result.now c.number_or_zero.result = search rules in
    let with_it : c.put.new.self ≡ with_param c.arguments.map word =
    put ∙ ap₂ (λ (n : List ℕ) (z : ℤ). with_value c.arguments.map n z) c.left_side.ensures c.number_or_zero.ensures in
    ap (λ (m : List (Named ℤ)). fold with_param m (texts_of c.next.new.self)) with_it
    ∙ sym (ap (λ (l : List Argument). fold with_param c.arguments.map (texts_of l)) c.in-Some.ensures.taken)
    ∙ c.arguments.invariant

pub returns-clause-value : goal.returns-clause-value
returns-clause-value c =
    let all : c.arguments.map ≡ as_params (words_of c.args.text.now) =
    sym (ap (λ (l : List Argument). fold with_param c.arguments.map (texts_of l)) c.in_default.ensures.taken.0)
    ∙ c.arguments.invariant in
    subst (λ (m : List (Named ℤ)). IfOk c.copies.result (λ read. read.items ≡ m)) all c.copies.ensures.value
