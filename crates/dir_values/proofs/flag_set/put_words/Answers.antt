use Rattle.std.proofs.Common.{rules, ◌≡◌, ℕ, true, List, [], ◌∷◌, ◌++◌, sym, ap, ◌∙◌, subst, arith}
use Rattle.std.{proofs.lemmas.Grind.common_steps, specs.List.fold}
use Rattle.dir_values.specs.{Arguments.{Argument, texts_of}, FlagSets.{Ascend, with_flag}, Lending.comes_last}
use Rattle.dir_values.proofs.{ArgumentWords.arguments_words, Flags.Ascend-with_flag, SetsAlone.with_behind}
use Rattle.dir_values.proofs.flag_set.put_words.Goals as goal

pub arguments-init : goal.arguments-init
arguments-init c = record {
  value = ap (λ (l : List Argument). fold with_flag c.args.flags.now.items (texts_of l)) c.at-arguments.ensures
      ∙ ap (λ (l : List (List ℕ)). fold with_flag c.args.flags.now.items l) (arguments_words 0 c.args.text.now);
  front = grind (arith, common_steps);
  ascending = c.requires;
}

pub arguments-preserved : goal.arguments-preserved
arguments-preserved c =
    let flags = c.arguments.flags.items in
    let flag = c.in-Some.argument.text.now in
    let last : comes_last flags flag ≡ true = search rules in
    let pushed : c.push.new.self.items ≡ flags ++ flag ∷ [] = search rules in
    let with_it : with_flag flags flag ≡ c.push.new.self.items = with_behind flags flag c.arguments.invariant.ascending last ∙ sym pushed in
    record {
      value = ap (λ (l : List (List ℕ)). fold with_flag l (texts_of c.next.new.self)) (sym with_it)
          ∙ sym (ap (λ (l : List Argument). fold with_flag flags (texts_of l)) c.in-Some.ensures.taken)
          ∙ c.arguments.invariant.value;
      front = grind (arith, common_steps, pushed);
      ascending = subst Ascend with_it (Ascend-with_flag flags flag c.arguments.invariant.ascending);
    }
