use Rattle.std.proofs.Common.{rules, ◌≡◌, ℕ, true, false, List, sym, subst}
use Rattle.dir_values.specs.{Arguments.{Argument, arguments_at}, FlagSets.{is_name, has_flag}, Taking.argument_of}
use Rattle.dir_values.proofs.ListedFlags.{Listed, Walks, listed_first, listed_next, wrong_name, wrong_twice, none_wrong}
use Rattle.dir_values.proofs.flag_list.wrong_in_any_order.Goals as goal

pub arguments-init : goal.arguments-init
arguments-init c =
    let all = arguments_at c.args.start c.args.text.now in
    subst (λ (l : List Argument). Listed all l c.new-before.result) (sym c.at-arguments.ensures)
    (subst (λ (l : List (List ℕ)). Listed all all l) (sym c.new-before.ensures) (listed_first all))

pub returns-then-not-is_name : goal.returns-then-not-is_name
returns-then-not-is_name c =
    let all = arguments_at c.args.start c.args.text.now in
    let one = argument_of c.in-Some.argument in
    wrong_name all c.next.new.self one (subst (λ (l : List Argument). Walks all l) c.in-Some.ensures.taken c.arguments.invariant.walked) (search rules)

pub returns-then-not-branch : goal.returns-then-not-branch
returns-then-not-branch c =
    let all = arguments_at c.args.start c.args.text.now in
    let one = argument_of c.in-Some.argument in
    let named : is_name one.text ≡ true = search rules in
    let there : has_flag c.arguments.before one.text ≡ true = search rules in
    wrong_twice all c.next.new.self one c.arguments.before
    (subst (λ (l : List Argument). Listed all l c.arguments.before) c.in-Some.ensures.taken c.arguments.invariant) named there

pub arguments-preserved : goal.arguments-preserved
arguments-preserved c =
    let all = arguments_at c.args.start c.args.text.now in
    let one = argument_of c.in-Some.argument in
    let named : is_name one.text ≡ true = search rules in
    let new : has_flag c.arguments.before one.text ≡ false = search rules in
    subst (λ (l : List (List ℕ)). Listed all c.next.new.self l) (sym c.in_ok-insert.ensures.ok)
    (listed_next all c.next.new.self one c.arguments.before
    (subst (λ (l : List Argument). Listed all l c.arguments.before) c.in-Some.ensures.taken c.arguments.invariant) named new)

pub returns : goal.returns
returns c =
    let all = arguments_at c.args.start c.args.text.now in
    none_wrong all (subst (λ (l : List Argument). Walks all l) c.in_default.ensures.taken.0 c.arguments.invariant.walked)
