use Rattle.std.{proofs.Common.{◌≡◌, ◌++◌, length}, specs.Option.option_map}
use Rattle.daemon_words.specs.Values.{members}
use Rattle.daemon_words.proofs.values.read_members.Given as goal

abbrev pub invariant-members : goal.invariant-members
invariant-members l = option_map (λ more. l.members.items ++ more) (members l.rest) ≡ members l.fn.text

abbrev pub decreases-members : goal.decreases-members
decreases-members l = length l.rest
