use Rattle.std.proofs.Common.{◌≡◌, ap, ◌∙◌, ◌++◌, [], List, ℕ, map, rules}
use Rattle.dir_values.{specs.{Arguments.{Argument, texts_of}, Numbers.number_in}, proofs.ArgumentWords.arguments_words}
use Rattle.dir_values.proofs.number_list.numbers_in.Goals as goal

pub arguments-init : goal.arguments-init
arguments-init c =
    let nothing : c.new-read.result ≡ [] = search rules in
    ap (λ (l : List ℕ). l ++ map number_in (texts_of c.at-arguments.result)) nothing
    ∙ ap (λ (l : List Argument). map number_in (texts_of l)) c.at-arguments.ensures
    ∙ ap (λ (l : List (List ℕ)). map number_in l) (arguments_words 0 c.args.text.now)
