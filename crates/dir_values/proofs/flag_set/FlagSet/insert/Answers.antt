use Rattle.std.proofs.Common.{◌≡◌, sym, ◌∙◌, subst, rules}
use Rattle.dir_values.{specs.FlagSets.{Ascend, with_flag}, proofs.Flags.{with_flag-there, with_flag-absent}}
use Rattle.dir_values.proofs.Flags.{Ascend-with_flag}
use Rattle.dir_values.proofs.flag_set.FlagSet.insert.Goals as goal

pub returns-then-is_at-clause-ok : goal.returns-then-is_at-clause-ok
returns-then-is_at-clause-ok c = sym (with_flag-there c.args.self.now c.args.flag.now (search rules))

pub returns-clause-ok : goal.returns-clause-ok
returns-clause-ok c = sym (with_flag-absent c.args.self.now c.args.flag.now (search rules) ∙ search rules)

pub invariant_of-self-2 : goal.invariant_of-self-2
invariant_of-self-2 c =
    let is : with_flag c.args.self.now c.args.flag.now ≡ c.insert.new.self.items = with_flag-absent c.args.self.now c.args.flag.now (search rules) ∙ search rules in
    subst Ascend is (Ascend-with_flag c.args.self.now c.args.flag.now (search rules))
