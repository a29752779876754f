use Rattle.std.proofs.Common.{rules, ◌≡◌, true, false, sym, ap, ◌∙◌, subst, List, ℕ, [], map}
use Rattle.dir_values.specs.{Arguments.{Argument, arguments_at}, Digests.bytes_below, FlagSets.is_name}
use Rattle.dir_values.{specs.Taking.argument_of, proofs.ListedFlags.{Ascends, Walks, ascends_first, ascends_next}}
use Rattle.dir_values.proofs.ListedFlags.{wrong_name, none_wrong}
use Rattle.list_values.specs.Params.{its_name}
use Rattle.list_values.proofs.param_list.wrong_while_ascending.Goals as goal

pub arguments-init : goal.arguments-init
arguments-init c =
    let all = map its_name (arguments_at c.args.start c.args.text.now) in
    subst (λ (l : List Argument). Ascends all (map its_name l) []) (sym c.at-arguments.ensures) (ascends_first all)

pub returns-then-not-is_name : goal.returns-then-not-is_name
returns-then-not-is_name c =
    let all = map its_name (arguments_at c.args.start c.args.text.now) in
    let one = its_name (argument_of c.in-Some.argument) in
    let wrong : is_name one.text ≡ false = ap is_name (sym c.name_in-name.ensures) ∙ search rules in
    wrong_name all (map its_name c.next.new.self) one
    (subst (λ (l : List Argument). Walks all (map its_name l)) c.in-Some.ensures.taken c.arguments.invariant.walked) wrong

pub arguments-preserved : goal.arguments-preserved
arguments-preserved c =
    let all = map its_name (arguments_at c.args.start c.args.text.now) in
    let one = its_name (argument_of c.in-Some.argument) in
    let named : is_name one.text ≡ true = ap is_name (sym c.name_in-name.ensures) ∙ search rules in
    let behind : bytes_below c.arguments.last.now one.text ≡ true =
    ap (bytes_below c.arguments.last.now) (sym c.name_in-name.ensures) ∙ search rules in
    subst (λ (n : List ℕ). Ascends all (map its_name c.next.new.self) n) (sym c.name_in-name.ensures)
    (ascends_next all (map its_name c.next.new.self) one c.arguments.last.now
    (subst (λ (l : List Argument). Ascends all (map its_name l) c.arguments.last.now) c.in-Some.ensures.taken c.arguments.invariant)
    named behind)

pub returns : goal.returns
returns c =
    let all = map its_name (arguments_at c.args.start c.args.text.now) in
    none_wrong all (subst (λ (l : List Argument). Walks all (map its_name l)) c.in_default.ensures.taken.0 c.arguments.invariant.walked)
