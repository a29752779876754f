use Rattle.std.proofs.Common.{ℕ, length, sym, ap, ◌∙◌}
use Rattle.count_terms.specs.Counts.{over}
use Rattle.compute_terms.specs.Consensuses.{consensus}
use Rattle.compute_command.specs.Answers.{texts_of}
use Rattle.compute_command.proofs.consensus.text_of.Goals as goal

pub returns : goal.returns
returns c =
    let wanted = c.args.wanted.now in
    let votes = c.args.accepted.now.votes in
    let calculates = c.in_ok-consensus.ensures.calculates in
    let roster = c.len-roster.ensures.value in (
      ap (λ (n : ℕ). over (length votes) n) (sym roster) ∙ calculates.0,
      c.in_ok-text.ensures
          ∙ ap (texts_of wanted.flavours) (calculates.1 ∙ ap (λ (n : ℕ). consensus wanted.newest n votes) roster),
    )
