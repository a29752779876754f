use Rattle.std.{proofs.Common.{◌∙◌, ◌++◌, List, ℕ, ap, map, sym}, specs.Prelude.option_map}
use Rattle.dir_values.specs.{Ports.summary_text, declared.policy.PolicyItem.PolicyItem}
use Rattle.dirdoc_grammar.specs.Writing.{NewItem, items_text}
use Rattle.frame_terms.specs.declared.keyword.Keyword.TheVariants as the
use Rattle.frame_values.{specs.Items.item_if, proofs.ItemsTexts.{link, sections}}
use Rattle.descriptor_text.specs.Texts.{policy_item}
use Rattle.descriptor_text.proofs.writing.push_exits.Goals as goal

pub returns-clause-ok : goal.returns-clause-ok
returns-clause-ok c =
    let d = c.args.descriptor.now in
    let out = c.args.out.now.items in
    let policy : List NewItem = map policy_item d.policy in
    let summary : List NewItem = item_if the.Ipv6Policy (option_map summary_text d.ipv6_policy) in
    let at1 = c.push_policy.new.out.items in
    let at2 = c.push_summary_if.new.out.items in
    let lent = ap (λ (l : List PolicyItem). out ++ items_text (map policy_item l)) c.items.ensures.value in
    link out (items_text policy) at1 at2 (items_text summary) (c.in_ok-push_policy.ensures.ok ∙ lent)
    c.in_ok-push_summary_if.ensures.ok
    ∙ ap (λ (l : List ℕ). out ++ l) (sym (sections policy summary))
