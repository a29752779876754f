use Rattle.std.proofs.{Common.{rules, ◌≡◌, ◌∙◌, ◌-◌, ◌/◌, ℕ, ap, length}, lemmas.List.Sorted.length_permutation}
use Rattle.count_terms.specs.Counts.{member_at}
use Rattle.flag_rules.proofs.ascending.Ascending.low_median.Goals as goal

pub returns : goal.returns
returns c = λ list same.
    let place : c.saturating_sub.result / 2 ≡ (length c.args.self.now - 1) / 2 = search rules in
    c.member_at.ensures list same ∙ ap (λ (n : ℕ). member_at n list) place
    ∙ ap (λ (n : ℕ). member_at ((n - 1) / 2) list) (length_permutation list c.args.self.now same)
