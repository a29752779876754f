use Rattle.std.proofs.Common.{◌++◌, List}
use Rattle.dirdoc_grammar.specs.Writing.{NewItem}
use Rattle.descriptor_text.{specs.Texts.{key_items, name_items, origin_items, state_items}, proofs.Appends.group_and}
use Rattle.descriptor_text.proofs.writing.push_front.Goals as goal

pub returns-clause-ok : goal.returns-clause-ok
returns-clause-ok c =
    let d = c.args.descriptor.now in
    let out = c.args.out.now.items in
    let n : List NewItem = name_items d in
    let o : List NewItem = origin_items d in
    let s : List NewItem = state_items d in
    let k : List NewItem = key_items d in
    let after_n = c.push_names.new.out.items in
    let after_o = c.push_origin.new.out.items in
    let after_s = c.push_state.new.out.items in
    let after_k = c.push_keys.new.out.items in
    group_and out after_s after_k (n ++ o ++ s) k
    (group_and out after_o after_s (n ++ o) s
    (group_and out after_n after_o n o c.in_ok-push_names.ensures.ok c.in_ok-push_origin.ensures.ok)
    c.in_ok-push_state.ensures.ok)
    c.in_ok-push_keys.ensures.ok
