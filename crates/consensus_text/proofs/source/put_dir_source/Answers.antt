use Rattle.std.proofs.Common.{ap}
use Rattle.consensus_terms.specs.Lines.{behind_space}
use Rattle.text_page.proofs.Pages.{also, same_text}
use Rattle.consensus_text.proofs.Joined.{line_of_six}
use Rattle.consensus_text.proofs.source.put_dir_source.Goals as goal

pub returns : goal.returns
returns c =
    let nickname = same_text _ _ _ _ (ap behind_space c.as_bytes.ensures) c.put_word.ensures in
    let address = same_text _ _ _ _ (ap behind_space c.as_bytes-2.ensures) c.put_word-2.ensures in
    same_text _ _ _ _ (line_of_six _ _ _ _ _ _ _) (also _ _ _ _ _ (also _ _ _ _ _ (also _ _ _ _ _ (also _ _ _ _ _ (also _ _ _ _ _ (also _ _ _ _ _ (also _ _ _ _ _ c.put.ensures nickname) c.put_hex_word.ensures) address) c.put_address_word.ensures) c.put_number_word.ensures) c.put_number_word-2.ensures) c.put-2.ensures)
