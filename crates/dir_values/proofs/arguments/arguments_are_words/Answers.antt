use Rattle.dir_values.proofs.ArgumentWords.{arguments_words}
use Rattle.dir_values.proofs.arguments.arguments_are_words.Goals as goal

pub returns : goal.returns
returns c = arguments_words
