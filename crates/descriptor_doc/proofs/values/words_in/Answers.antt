use Rattle.std.proofs.Common.{◌∙◌, ap, ◌++◌, List, ℕ}
use Rattle.dir_values.{specs.Arguments.{Argument, texts_of}, proofs.ArgumentWords.arguments_words}
use Rattle.descriptor_doc.proofs.values.words_in.Goals as goal

pub words-init : goal.words-init
words-init c =
    ap (λ (words : List (List ℕ)). words ++ texts_of c.at-arguments.result) c.new-words.ensures.items
    ∙ ap (λ (arguments : List Argument). texts_of arguments) c.at-arguments.ensures
    ∙ arguments_words 0 c.args.text.now
