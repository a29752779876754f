use Rattle.std.proofs.{Common.{rules, ◌≡◌, ◌∙◌, ◌*◌, ◌/◌, ℕ, ap, length}, lemmas.List.Sorted.length_permutation}
use Rattle.count_terms.specs.Counts.{member_at}
use Rattle.flag_rules.proofs.ascending.Ascending.eighth.Goals as goal

pub returns : goal.returns
returns c = λ list same.
    let place : c.args.eighths * length c.as_slice.result.now / 8 ≡ c.args.eighths * length c.args.self.now / 8 =
    search rules in
    c.member_at.ensures list same ∙ ap (λ (n : ℕ). member_at n list) place
    ∙ ap (λ (n : ℕ). member_at (c.args.eighths * n / 8) list) (length_permutation list c.args.self.now same)
