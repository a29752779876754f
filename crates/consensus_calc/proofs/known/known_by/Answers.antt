use Rattle.std.proofs.Common.{◌≡◌, ◌∙◌, ap, List, ℕ, map, arith}
use Rattle.dir_values.specs.FlagSets.{has_flag}
use Rattle.vote_terms.specs.Votes.{ReadVote}
use Rattle.compute_terms.specs.RelayFlags.{knows}
use Rattle.consensus_calc.proofs.Picks.{map_more}
use Rattle.consensus_calc.proofs.known.known_by.Goals as goal

pub votes-preserved : goal.votes-preserved
votes-preserved c =
    let known = c.args.known.now in
    let says : c.in_ok-row.row ≡ map (λ (flag : List ℕ). knows flag c.vote.result.now) known =
    c.in_ok-row.ensures
    ∙ ap (λ (set : List (List ℕ)). map (λ (flag : List ℕ). has_flag set flag) known) (c.known_flags.ensures ∙ ap (λ (v : ReadVote). v.says.known_flags) c.vote-in-votes.ensures) in
    map_more (λ (vote : ReadVote). map (λ (flag : List ℕ). knows flag vote) known) c.args.votes.now.votes c.votes.i c.vote.result.now c.votes.table.items c.push.new.self.items c.in_ok-row.row (omega arith)
    c.vote.ensures c.votes.invariant says c.in_ok-push.ensures.items
