use Rattle.std.proofs.Common.{rules, ◌≡◌, true, sym, subst, List, []}
use Rattle.dir_values.specs.{Arguments.{Argument, arguments_at}, Digests.bytes_below, FlagSets.is_name}
use Rattle.dir_values.{specs.Taking.argument_of, proofs.ListedFlags.{Ascends, Walks, ascends_first, ascends_next}}
use Rattle.dir_values.proofs.ListedFlags.{wrong_name, none_wrong}
use Rattle.dir_values.proofs.flag_list.wrong_while_ascending.Goals as goal

pub arguments-init : goal.arguments-init
arguments-init c =
    let all = arguments_at c.args.start c.args.text.now in
    subst (λ (l : List Argument). Ascends all l []) (sym c.at-arguments.ensures) (ascends_first all)

pub returns-then-not-is_name : goal.returns-then-not-is_name
returns-then-not-is_name c =
    let all = arguments_at c.args.start c.args.text.now in
    let one = argument_of c.in-Some.argument in
    wrong_name all c.next.new.self one (subst (λ (l : List Argument). Walks all l) c.in-Some.ensures.taken c.arguments.invariant.walked) (search rules)

pub arguments-preserved : goal.arguments-preserved
arguments-preserved c =
    let all = arguments_at c.args.start c.args.text.now in
    let one = argument_of c.in-Some.argument in
    let named : is_name one.text ≡ true = search rules in
    let behind : bytes_below c.arguments.last.now one.text ≡ true = search rules in
    ascends_next all c.next.new.self one c.arguments.last.now
    (subst (λ (l : List Argument). Ascends all l c.arguments.last.now) c.in-Some.ensures.taken c.arguments.invariant) named behind

pub returns : goal.returns
returns c =
    let all = arguments_at c.args.start c.args.text.now in
    none_wrong all (subst (λ (l : List Argument). Walks all l) c.in_default.ensures.taken.0 c.arguments.invariant.walked)
