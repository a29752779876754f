use Rattle.text_page.proofs.Pages.{also, same_text}
use Rattle.consensus_terms.specs.Weights.{directory_words, exit_words, guard_words, middle_words}
use Rattle.consensus_text.proofs.Joined.{line_of_lists}
use Rattle.consensus_text.proofs.weights.put_weights_line.Goals as goal

pub returns : goal.returns
returns c =
    let w = c.args.weights.now in
    same_text _ _ _ _ (line_of_lists _ (directory_words w) (exit_words w) (guard_words w) (middle_words w))
    (also _ _ _ _ _
    (also _ _ _ _ _
    (also _ _ _ _ _
    (also _ _ _ _ _ (also _ _ _ _ _ c.put.ensures c.put_directory_weights.ensures) c.put_exit_weights.ensures)
    c.put_guard_weights.ensures)
    c.put_middle_weights.ensures)
    c.put-2.ensures)
