use Rattle.std.proofs.Common.{rules, ◌≡◌, ◌++◌, List, take}
use Rattle.dir_bytes.proofs.Appending.{front_stays}
use Rattle.dirdoc_grammar.specs.Writing.{NewItem, items_text}
use Rattle.vote_text.specs.{Lists.{param_items, protocol_items, version_items}, Texts.{flag_items, kind_items}}
use Rattle.vote_text.{specs.Texts.time_items, proofs.Appends.and_then}
use Rattle.vote_text.proofs.writing.push_preamble.Goals as goal

pub returns-in_err-push_params-clause-err : goal.returns-in_err-push_params-clause-err
returns-in_err-push_params-clause-err c =
    let facts = c.args.facts.now in
    let out = c.args.out.now.items in
    let k : List NewItem = kind_items facts in
    let t : List NewItem = time_items facts in
    let v : List NewItem = version_items facts.lists in
    let f : List NewItem = flag_items facts in
    let p : List NewItem = protocol_items facts.lists in
    let after_k = c.push_kind.new.out.items in
    let after_t = c.push_times.new.out.items in
    let after_v = c.push_versions.new.out.items in
    let after_f = c.push_flags.new.out.items in
    let after_p = c.push_protocols.new.out.items in
    let after_m = c.push_params.new.out.items in
    let kept : take c.args.out.now.len after_m ≡ out =
    front_stays c.args.out.now.len c.push_protocols.new.out.len out (items_text (k ++ t ++ v ++ f ++ p)) after_p after_m
    c.args.out.now.ok.0 c.push_protocols.new.out.ok.0
    (and_then out after_f after_p (k ++ t ++ v ++ f) p
    (and_then out after_v after_f (k ++ t ++ v) f
    (and_then out after_t after_v (k ++ t) v
    (and_then out after_k after_t k t
    c.in_ok-push_kind.ensures.ok
    c.in_ok-push_times.ensures.ok)
    c.in_ok-push_versions.ensures.ok)
    c.in_ok-push_flags.ensures.ok)
    c.in_ok-push_protocols.ensures.ok)
    c.in_err-push_params.ensures.err in
    search rules

pub returns-clause-ok : goal.returns-clause-ok
returns-clause-ok c =
    let facts = c.args.facts.now in
    let out = c.args.out.now.items in
    let k : List NewItem = kind_items facts in
    let t : List NewItem = time_items facts in
    let v : List NewItem = version_items facts.lists in
    let f : List NewItem = flag_items facts in
    let p : List NewItem = protocol_items facts.lists in
    let m : List NewItem = param_items facts.lists.params in
    let after_k = c.push_kind.new.out.items in
    let after_t = c.push_times.new.out.items in
    let after_v = c.push_versions.new.out.items in
    let after_f = c.push_flags.new.out.items in
    let after_p = c.push_protocols.new.out.items in
    let after_m = c.push_params.new.out.items in
    and_then out after_p after_m (k ++ t ++ v ++ f ++ p) m
    (and_then out after_f after_p (k ++ t ++ v ++ f) p
    (and_then out after_v after_f (k ++ t ++ v) f
    (and_then out after_t after_v (k ++ t) v
    (and_then out after_k after_t k t
    c.in_ok-push_kind.ensures.ok
    c.in_ok-push_times.ensures.ok)
    c.in_ok-push_versions.ensures.ok)
    c.in_ok-push_flags.ensures.ok)
    c.in_ok-push_protocols.ensures.ok)
    c.in_ok-push_params.ensures.ok
