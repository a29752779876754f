use Rattle.std.proofs.Common.{◌++◌, List}
use Rattle.dirdoc_grammar.specs.Writing.{NewItem}
use Rattle.descriptor_text.specs.Texts.{address_items, exit_items, service_items, signature_items}
use Rattle.descriptor_text.proofs.Appends.{group_and}
use Rattle.descriptor_text.proofs.writing.push_back.Goals as goal

pub returns-clause-ok : goal.returns-clause-ok
returns-clause-ok c =
    let d = c.args.descriptor.now in
    let out = c.args.out.now.items in
    let e : List NewItem = exit_items d in
    let a : List NewItem = address_items d in
    let v : List NewItem = service_items d in
    let s : List NewItem = signature_items d in
    let after_e = c.push_exits.new.out.items in
    let after_a = c.push_reached.new.out.items in
    let after_v = c.push_service.new.out.items in
    let after_s = c.push_signatures.new.out.items in
    group_and out after_v after_s (e ++ a ++ v) s
    (group_and out after_a after_v (e ++ a) v
    (group_and out after_e after_a e a c.in_ok-push_exits.ensures.ok c.in_ok-push_reached.ensures.ok)
    c.in_ok-push_service.ensures.ok)
    c.in_ok-push_signatures.ensures.ok
