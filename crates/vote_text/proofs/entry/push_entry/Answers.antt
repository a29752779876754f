use Rattle.std.{proofs.Common.{rules, ◌≡◌, ◌∙◌, ◌++◌, List, ℕ, ap, take}, specs.Prelude.option_map}
use Rattle.dir_bytes.proofs.Appending.{front_stays}
use Rattle.dirdoc_grammar.specs.Writing.{NewItem, items_text}
use Rattle.frame_terms.specs.declared.keyword.Keyword.TheVariants as the
use Rattle.frame_values.specs.Items.{item_if}
use Rattle.relay_entries.specs.Texts.{bandwidths_text, ed_text}
use Rattle.vote_terms.specs.declared.entry.MicroFacts.{MicroFacts}
use Rattle.vote_text.{specs.Entries.{flag_items, items_each, micro_items, relay_items}, proofs.Appends.and_then}
use Rattle.vote_text.proofs.entry.push_entry.Goals as goal

-- what the first seven calls append, one after the other
seven : (out after_r after_a after_s after_v after_q after_w after_p : List ℕ) (r a s v q w p : List NewItem)
    → after_r ≡ out ++ items_text r → after_a ≡ after_r ++ items_text a → after_s ≡ after_a ++ items_text s
    → after_v ≡ after_s ++ items_text v → after_q ≡ after_v ++ items_text q → after_w ≡ after_q ++ items_text w
    → after_p ≡ after_w ++ items_text p
    → after_p ≡ out ++ items_text (r ++ a ++ s ++ v ++ q ++ w ++ p)
seven out after_r after_a after_s after_v after_q after_w after_p r a s v q w p is_r is_a is_s is_v is_q is_w is_p =
    and_then out after_w after_p (r ++ a ++ s ++ v ++ q ++ w) p
    (and_then out after_q after_w (r ++ a ++ s ++ v ++ q) w
    (and_then out after_v after_q (r ++ a ++ s ++ v) q
    (and_then out after_s after_v (r ++ a ++ s) v
    (and_then out after_a after_s (r ++ a) s
    (and_then out after_r after_a r a is_r is_a) is_s) is_v) is_q) is_w) is_p

pub returns-in_err-push_micros-clause-err : goal.returns-in_err-push_micros-clause-err
returns-in_err-push_micros-clause-err c =
    let entry = c.args.entry.now in
    let out = c.args.out.now.items in
    let r : List NewItem = relay_items entry in
    let a : List NewItem = items_each the.A entry.addresses in
    let s : List NewItem = flag_items entry in
    let v : List NewItem = item_if the.V entry.version in
    let q : List NewItem = item_if the.Pr entry.protocols in
    let w : List NewItem = item_if the.W (option_map bandwidths_text entry.bandwidths) in
    let p : List NewItem = item_if the.P entry.policy in
    let after_r = c.push_relay.new.out.items in
    let after_a = c.push_each.new.out.items in
    let after_s = c.push_flags.new.out.items in
    let after_v = c.push_if.new.out.items in
    let after_q = c.push_if-2.new.out.items in
    let after_w = c.push_bandwidths_if.new.out.items in
    let after_p = c.push_if-3.new.out.items in
    let after_m = c.push_micros.new.out.items in
    let addresses = ap (λ (l : List (List ℕ)). after_r ++ items_text (items_each the.A l)) c.as_slice.ensures in
    let first : after_p ≡ out ++ items_text (r ++ a ++ s ++ v ++ q ++ w ++ p) =
    seven out after_r after_a after_s after_v after_q after_w after_p r a s v q w p
    c.in_ok-push_relay.ensures.ok (c.in_ok-push_each.ensures.ok ∙ addresses) c.in_ok-push_flags.ensures.ok
    c.in_ok-push_if.ensures.ok c.in_ok-push_if-2.ensures.ok c.in_ok-push_bandwidths_if.ensures.ok c.in_ok-push_if-3.ensures.ok in
    let kept : take c.args.out.now.len after_m ≡ out =
    front_stays c.args.out.now.len c.push_if-3.new.out.len out (items_text (r ++ a ++ s ++ v ++ q ++ w ++ p)) after_p after_m
    c.args.out.now.ok.0 c.push_if-3.new.out.ok.0 first c.in_err-push_micros.ensures.err in
    search rules

pub returns-in_err-push_ed-clause-err : goal.returns-in_err-push_ed-clause-err
returns-in_err-push_ed-clause-err c =
    let entry = c.args.entry.now in
    let out = c.args.out.now.items in
    let r : List NewItem = relay_items entry in
    let a : List NewItem = items_each the.A entry.addresses in
    let s : List NewItem = flag_items entry in
    let v : List NewItem = item_if the.V entry.version in
    let q : List NewItem = item_if the.Pr entry.protocols in
    let w : List NewItem = item_if the.W (option_map bandwidths_text entry.bandwidths) in
    let p : List NewItem = item_if the.P entry.policy in
    let m : List NewItem = micro_items entry.micros in
    let after_r = c.push_relay.new.out.items in
    let after_a = c.push_each.new.out.items in
    let after_s = c.push_flags.new.out.items in
    let after_v = c.push_if.new.out.items in
    let after_q = c.push_if-2.new.out.items in
    let after_w = c.push_bandwidths_if.new.out.items in
    let after_p = c.push_if-3.new.out.items in
    let after_m = c.push_micros.new.out.items in
    let after_i = c.push_ed.new.out.items in
    let addresses = ap (λ (l : List (List ℕ)). after_r ++ items_text (items_each the.A l)) c.as_slice.ensures in
    let micros = ap (λ (l : List MicroFacts). after_p ++ items_text (micro_items l)) c.as_slice-2.ensures in
    let first : after_p ≡ out ++ items_text (r ++ a ++ s ++ v ++ q ++ w ++ p) =
    seven out after_r after_a after_s after_v after_q after_w after_p r a s v q w p
    c.in_ok-push_relay.ensures.ok (c.in_ok-push_each.ensures.ok ∙ addresses) c.in_ok-push_flags.ensures.ok
    c.in_ok-push_if.ensures.ok c.in_ok-push_if-2.ensures.ok c.in_ok-push_bandwidths_if.ensures.ok c.in_ok-push_if-3.ensures.ok in
    let kept : take c.args.out.now.len after_i ≡ out =
    front_stays c.args.out.now.len c.push_micros.new.out.len out (items_text (r ++ a ++ s ++ v ++ q ++ w ++ p ++ m)) after_m after_i
    c.args.out.now.ok.0 c.push_micros.new.out.ok.0
    (and_then out after_p after_m (r ++ a ++ s ++ v ++ q ++ w ++ p) m first (c.in_ok-push_micros.ensures.ok ∙ micros))
    c.in_err-push_ed.ensures.err in
    search rules

pub returns-clause-ok : goal.returns-clause-ok
returns-clause-ok c =
    let entry = c.args.entry.now in
    let out = c.args.out.now.items in
    let r : List NewItem = relay_items entry in
    let a : List NewItem = items_each the.A entry.addresses in
    let s : List NewItem = flag_items entry in
    let v : List NewItem = item_if the.V entry.version in
    let q : List NewItem = item_if the.Pr entry.protocols in
    let w : List NewItem = item_if the.W (option_map bandwidths_text entry.bandwidths) in
    let p : List NewItem = item_if the.P entry.policy in
    let m : List NewItem = micro_items entry.micros in
    let i : List NewItem = item_if the.Id (ed_text entry.ed) in
    let after_r = c.push_relay.new.out.items in
    let after_a = c.push_each.new.out.items in
    let after_s = c.push_flags.new.out.items in
    let after_v = c.push_if.new.out.items in
    let after_q = c.push_if-2.new.out.items in
    let after_w = c.push_bandwidths_if.new.out.items in
    let after_p = c.push_if-3.new.out.items in
    let after_m = c.push_micros.new.out.items in
    let after_i = c.push_ed.new.out.items in
    let addresses = ap (λ (l : List (List ℕ)). after_r ++ items_text (items_each the.A l)) c.as_slice.ensures in
    let micros = ap (λ (l : List MicroFacts). after_p ++ items_text (micro_items l)) c.as_slice-2.ensures in
    let first : after_p ≡ out ++ items_text (r ++ a ++ s ++ v ++ q ++ w ++ p) =
    seven out after_r after_a after_s after_v after_q after_w after_p r a s v q w p
    c.in_ok-push_relay.ensures.ok (c.in_ok-push_each.ensures.ok ∙ addresses) c.in_ok-push_flags.ensures.ok
    c.in_ok-push_if.ensures.ok c.in_ok-push_if-2.ensures.ok c.in_ok-push_bandwidths_if.ensures.ok c.in_ok-push_if-3.ensures.ok in
    and_then out after_m after_i (r ++ a ++ s ++ v ++ q ++ w ++ p ++ m) i
    (and_then out after_p after_m (r ++ a ++ s ++ v ++ q ++ w ++ p) m first (c.in_ok-push_micros.ensures.ok ∙ micros))
    c.in_ok-push_ed.ensures.ok
