use Rattle.std.{proofs.Common.{rules, ◌≡◌, ◌≤◌, ◌<◌, ℕ, List, false, sym, ap, ◌∙◌}, specs.Prelude.{nat_lt, unwrap_or}}
use Rattle.list_values.specs.{Maps.value_at, Masks.is_set, NumberSets.has_number}
use Rattle.list_values.proofs.{ListedProtocols.numbers_listed, NumberLists.{has_those, has_no_more}}
use Rattle.list_values.proofs.proto_ranges.has_version.Goals as goal

pub returns-then-number-lt64 : goal.returns-then-number-lt64
returns-then-number-lt64 c =
    let number = c.args.number in
    let small : number < 64 = search rules in
    c.is_set.ensures ∙ sym (has_those (is_set c.mask_at.result) number small)
    ∙ ap (λ (l : List ℕ). has_number l number) c.mask_at.ensures

pub returns-else-number-lt64 : goal.returns-else-number-lt64
returns-else-number-lt64 c =
    let number = c.args.number in
    let mask = unwrap_or (value_at c.args.items.now c.args.name.now) 0 in
    let large : 64 ≤ number = search rules in
    let no : nat_lt number 64 ≡ false = search rules in
    no ∙ sym (has_no_more (is_set mask) number large)
    ∙ ap (λ (l : List ℕ). has_number l number) (numbers_listed c.args.items.now c.args.name.now)
