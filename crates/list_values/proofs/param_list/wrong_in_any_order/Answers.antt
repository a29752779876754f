use Rattle.std.proofs.Common.{rules, ◌≡◌, ℕ, true, false, List, sym, ap, ◌∙◌, subst, map}
use Rattle.dir_values.specs.{Arguments.{Argument, arguments_at}, FlagSets.{is_name, has_flag, with_flag}}
use Rattle.dir_values.{specs.Taking.argument_of, proofs.ListedFlags.{Listed, Walks, listed_first, listed_next}}
use Rattle.dir_values.proofs.ListedFlags.{wrong_name, wrong_twice, none_wrong}
use Rattle.list_values.specs.Params.{its_name}
use Rattle.list_values.proofs.param_list.wrong_in_any_order.Goals as goal

pub arguments-init : goal.arguments-init
arguments-init c =
    let all = map its_name (arguments_at c.args.start c.args.text.now) in
    subst (λ (l : List Argument). Listed all (map its_name l) c.new-before.result) (sym c.at-arguments.ensures)
    (subst (λ (l : List (List ℕ)). Listed all all l) (sym c.new-before.ensures) (listed_first all))

pub returns-then-not-is_name : goal.returns-then-not-is_name
returns-then-not-is_name c =
    let all = map its_name (arguments_at c.args.start c.args.text.now) in
    let one = its_name (argument_of c.in-Some.argument) in
    let wrong : is_name one.text ≡ false = ap is_name (sym c.name_in-name.ensures) ∙ search rules in
    wrong_name all (map its_name c.next.new.self) one
    (subst (λ (l : List Argument). Walks all (map its_name l)) c.in-Some.ensures.taken c.arguments.invariant.walked) wrong

pub returns-then-not-branch : goal.returns-then-not-branch
returns-then-not-branch c =
    let all = map its_name (arguments_at c.args.start c.args.text.now) in
    let one = its_name (argument_of c.in-Some.argument) in
    let named : is_name one.text ≡ true = ap is_name (sym c.name_in-name.ensures) ∙ search rules in
    let there : has_flag c.arguments.before one.text ≡ true =
    ap (has_flag c.arguments.before) (sym c.name_in-name.ensures) ∙ search rules in
    wrong_twice all (map its_name c.next.new.self) one c.arguments.before
    (subst (λ (l : List Argument). Listed all (map its_name l) c.arguments.before) c.in-Some.ensures.taken c.arguments.invariant)
    named there

pub arguments-preserved : goal.arguments-preserved
arguments-preserved c =
    let all = map its_name (arguments_at c.args.start c.args.text.now) in
    let one = its_name (argument_of c.in-Some.argument) in
    let named : is_name one.text ≡ true = ap is_name (sym c.name_in-name.ensures) ∙ search rules in
    let new : has_flag c.arguments.before one.text ≡ false =
    ap (has_flag c.arguments.before) (sym c.name_in-name.ensures) ∙ search rules in
    let with_it = c.in_ok-insert.ensures.ok ∙ ap (with_flag c.arguments.before) c.name_in-name.ensures in
    subst (λ (l : List (List ℕ)). Listed all (map its_name c.next.new.self) l) (sym with_it)
    (listed_next all (map its_name c.next.new.self) one c.arguments.before
    (subst (λ (l : List Argument). Listed all (map its_name l) c.arguments.before) c.in-Some.ensures.taken c.arguments.invariant)
    named new)

pub returns : goal.returns
returns c =
    let all = map its_name (arguments_at c.args.start c.args.text.now) in
    none_wrong all (subst (λ (l : List Argument). Walks all (map its_name l)) c.in_default.ensures.taken.0 c.arguments.invariant.walked)
