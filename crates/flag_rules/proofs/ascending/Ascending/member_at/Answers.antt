use Rattle.std.proofs.Common.{rules, ℕ, List, subst, ◌≡◌, ◌<◌, ◌≤◌, sym, ◌∙◌, length, get_or}
use Rattle.std.specs.List.Sorted.{IsNonDecreasing}
use Rattle.flag_rules.proofs.Ordered.{member_there, no_member}
use Rattle.flag_rules.proofs.ascending.Ascending.member_at.Goals as goal

pub returns-in-Some : goal.returns-in-Some
returns-in-Some c = λ list same.
    let lt : c.args.place < length c.args.self.now = search rules in
    let is : c.in-Some.value.now ≡ get_or c.args.self.now c.args.place 0 = search rules in
    let up = subst (λ (l : List ℕ). IsNonDecreasing l) c.self.view_is c.self.invariant in
    is ∙ sym (member_there c.args.place list c.args.self.now same up lt)

pub returns-in-None : goal.returns-in-None
returns-in-None c = λ list same.
    let past : length c.args.self.now ≤ c.args.place = search rules in
    sym (no_member c.args.place list c.args.self.now same past)
