use Rattle.std.{proofs.Common.{◌≡◌, ◌∙◌, ap}, specs.List.filter_map}
use Rattle.dir_values.specs.declared.digest.Digest1.{Digest1}
use Rattle.count_terms.specs.Choosing.{chosen, text_order}
use Rattle.compute_terms.specs.Lines.{policy_with, chosen_micro}
use Rattle.relay_select.proofs.choice.choice_with.Goals as goal

pub returns-clause-value : goal.returns-clause-value
returns-clause-value c =
    let entries = c.args.entries.now in
    let digest = c.digest-digest.ensures in
    let nickname = c.in_ok-nickname.ensures ∙ c.nickname.ensures in
    let m = c.in_ok-m.ensures ∙ ap (λ (d : Digest1). chosen_micro c.args.method d entries) digest in
    let p = c.in_ok-p.ensures ∙ ap (λ (d : Digest1). chosen text_order (filter_map (policy_with d) entries)) digest in
    λ i. record {
      nickname = nickname i;
      digest = digest i;
      published = c.published.ensures.value i;
      ip = c.ip.ensures i;
      or_port = c.or_port.ensures i;
      dir_port = c.dir_port.ensures i;
      a = c.in_ok-a.ensures i;
      v = c.in_ok-v.ensures i;
      pr = c.in_ok-pr.ensures i;
      p = p i;
      m = m i;
    }
