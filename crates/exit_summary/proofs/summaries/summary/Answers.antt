use Rattle.std.proofs.Common.{rules, ◌≡◌, ℕ, Bool, ◌≤◌, ◌∙◌, sym, ap₂, subst, length, arith}
use Rattle.std.{proofs.lemmas.Bool.Decides.nat_tests, specs.Prelude.{not, IfOk}}
use Rattle.dir_values.specs.Ports.{Ports}
use Rattle.exit_summary.specs.{Policies.accepts_port, Summaries.{of_ranges, shorter, summary_of}}
use Rattle.exit_summary.proofs.{RangeLaws.are_ranges_of, SummaryLaws.both_sides}
use Rattle.exit_summary.proofs.summaries.summary.Goals as goal

pub new-requires : goal.new-requires
new-requires c =
    let some : 1 ≤ length c.in_ok-sides.sides.accepted.items = grind (arith, nat_tests) in
    are_ranges_of (accepts_port c.args.items.now) c.in_ok-sides.sides.accepted.items (search rules) some

pub new-requires-2 : goal.new-requires-2
new-requires-2 c =
    let fails : ℕ → Bool = λ port. not (accepts_port c.args.items.now port) in
    let some : 1 ≤ length c.in_ok-sides.sides.rejected.items = grind (arith, nat_tests) in
    are_ranges_of fails c.in_ok-sides.sides.rejected.items (search rules) some

pub returns : goal.returns
returns c =
    let accepting = c.in_ok-sides.sides.accepted.items in
    let rejecting = c.in_ok-sides.sides.rejected.items in
    let some : 1 ≤ length accepting = grind (arith, nat_tests) in
    let other : 1 ≤ length rejecting = grind (arith, nat_tests) in
    let sides : of_ranges accepting rejecting ≡ summary_of c.args.items.now = search rules in
    let both = sym (both_sides accepting rejecting some other) in
    let is : shorter c.new.result c.new-2.result ≡ summary_of c.args.items.now =
    ap₂ (λ (a b : Ports). shorter a b) c.new.ensures c.new-2.ensures ∙ both ∙ sides in
    subst (λ (p : Ports). IfOk c.shorter.result (λ summary. summary ≡ p)) is c.shorter.ensures
