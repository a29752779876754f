use Rattle.std.proofs.Common.{rules, ◌≡◌, ◌∙◌, ◌++◌, ◌∷◌, ◌*◌, ◌+◌, ℕ, List, ap, append_assoc, append-nil, arith, sym}
use Rattle.std.{proofs.lemmas.Grind.common_steps, specs.Prelude.slice_range}
use Rattle.dir_bytes.specs.FieldTexts.{hex_text}
use Rattle.descriptor_text.proofs.LeftOver.{first_group, groups_behind, no_more, one_more_group_behind}
use Rattle.descriptor_text.proofs.lines.push_groups.Goals as goal

pub groups-init : goal.groups-init
groups-init c =
    let rest = c.args.rest.now.items in
    let bytes = c.args.identity.now.0 in
    let first = slice_range bytes 0 2 in
    let written : c.push_hex_upper.new.out.items ≡ rest ++ hex_text first = search rules in
    record {
      text = ap (λ (l : List ℕ). l ++ groups_behind bytes 1) written ∙ append_assoc rest (hex_text first) (groups_behind bytes 1)
          ∙ ap (λ (l : List ℕ). rest ++ l) (sym (first_group c.args.identity.now));
      front = grind (arith, common_steps, written);
    }

pub groups-preserved : goal.groups-preserved
groups-preserved c =
    let rest = c.groups.rest.items in
    let bytes = c.args.identity.now.0 in
    let i = c.groups.i in
    let group = hex_text (slice_range bytes (2 * i) (2 * i + 2)) in
    let behind = groups_behind bytes (i + 1) in
    let written : c.push_hex_upper-in-groups.new.out.items ≡ rest ++ (32 ∷ group) = search (rules, append_assoc) in
    record {
      text = ap (λ (l : List ℕ). l ++ behind) written
          ∙ append_assoc rest (32 ∷ group) behind
          ∙ ap (λ (l : List ℕ). rest ++ l) (sym (one_more_group_behind bytes i c.groups-test.true))
          ∙ c.groups.invariant.text;
      front = grind (arith, common_steps, written, c.groups.invariant.front);
    }

pub returns-clause-ok : goal.returns-clause-ok
returns-clause-ok c =
    let bytes = c.args.identity.now.0 in
    sym (ap (λ (l : List ℕ). c.groups.rest.items ++ l) (no_more bytes c.groups.i c.groups-test.false) ∙ append-nil c.groups.rest.items)
    ∙ c.groups.invariant.text
