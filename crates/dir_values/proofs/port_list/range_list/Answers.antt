use Rattle.std.{proofs.Common.{rules, ◌≡◌, ℕ, ◌+◌, ◌++◌, ◌∷◌, [], List, Some, sym, ap, ◌∙◌}, specs.List.slice_split}
use Rattle.dir_values.{specs.{declared.port_range.PortRange.PortRange, Ports.is_comma}, proofs.PortParts.ranges_after}
use Rattle.dir_values.proofs.{PortParts.{one_more_range_spelled, last_one, no_more}, PortTexts.list_after}
use Rattle.dir_values.proofs.PortTexts.{spelled_apart}
use Rattle.dir_values.proofs.port_list.range_list.Goals as goal

pub parts-init : goal.parts-init
parts-init c =
    let text = c.args.text.now in
    let nothing : c.new-ranges.result.items ≡ [] = search rules in
    ap (λ (l : List PortRange). ranges_after 1 l (slice_split is_comma text)) nothing ∙ sym (list_after text)

pub returns-in_default-clause-value : goal.returns-in_default-clause-value
returns-in_default-clause-value c =
    sym (no_more c.parts.next c.parts.ranges.items c.parts.left.now (search rules)) ∙ c.parts.invariant

pub returns-then-not-has-clause-value : goal.returns-then-not-has-clause-value
returns-then-not-has-clause-value c =
    let before = c.parts.ranges.items in
    let range = c.in-Some.range in
    let written : c.push.new.self.items ≡ before ++ range ∷ [] = search rules in
    let last = last_one c.parts.next before c.parts.left.now range (search rules) (search rules) in
    ap (λ (l : List PortRange). Some l) written ∙ sym last ∙ c.parts.invariant

pub returns-then-not-has-clause-apart : goal.returns-then-not-has-clause-apart
returns-then-not-has-clause-apart c =
    let before = c.parts.ranges.items in
    let range = c.in-Some.range in
    let written : c.push.new.self.items ≡ before ++ range ∷ [] = search rules in
    let last = last_one c.parts.next before c.parts.left.now range (search rules) (search rules) in
    spelled_apart c.args.text.now c.push.new.self.items
    (sym c.parts.invariant ∙ last ∙ ap (λ (l : List PortRange). Some l) (sym written))

pub parts-preserved : goal.parts-preserved
parts-preserved c =
    let before = c.parts.ranges.items in
    let range = c.in-Some.range in
    let rest = slice_split is_comma c.after-left.result.now in
    let written : c.push.new.self.items ≡ before ++ range ∷ [] = search rules in
    ap (λ (l : List PortRange). ranges_after (range.high + 2) l rest) written
    ∙ ap (λ (l : List ℕ). ranges_after (range.high + 2) (before ++ range ∷ []) (slice_split is_comma l))
    c.after-left.ensures.value
    ∙ sym (one_more_range_spelled c.parts.next before c.parts.left.now range (search rules) (search rules)) ∙ c.parts.invariant
