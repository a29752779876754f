use Rattle.std.{proofs.{Common.{ℕ, List, [], ◌∷◌, sym, ap, ◌∙◌}, lemmas.List.Sums.fold-append}, specs.Prelude.codes}
use Rattle.dir_values.specs.FlagSets.{with_flag}
use Rattle.compute_terms.specs.Flags.{listed_flags}
use Rattle.consensus_calc.proofs.flags.known_from_34.Goals as goal

pub returns : goal.returns
returns c =
    c.in_ok-insert.ensures.ok
    ∙ ap (λ (set : List (List ℕ)). with_flag set (codes "NoEdConsensus")) c.in_ok-set.ensures
    ∙ sym (fold-append with_flag [] (listed_flags c.args.votes.now.votes) (codes "NoEdConsensus" ∷ []))
