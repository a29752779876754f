use Rattle.std.proofs.{Common.{rules, ◌≡◌, ◌∙◌, ◌++◌, ℕ, List, ap, append_assoc, sym, arith}, lemmas.Grind.common_steps}
use Rattle.dir_values.{specs.Lending.after_text, proofs.SetTexts.set_text-cons}
use Rattle.descriptor_frame.specs.Families.{family_text}
use Rattle.descriptor_frame.proofs.text.push_names.Goals as goal

pub names-init : goal.names-init
names-init c =
    let out = c.args.rest.now.items in
    let first = c.in-Some.first.now in
    let others = c.in-Some.others.now in
    let whole : family_text c.args.names.now ≡ first ++ after_text others =
    ap family_text c.in-Some.ensures.cases.0 ∙ set_text-cons first others in
    let written : c.extend_from_slice.new.self.items ≡ out ++ first = search rules in
    record {
      text = ap (λ (l : List ℕ). l ++ after_text others) written ∙ append_assoc out first (after_text others)
          ∙ ap (λ (l : List ℕ). out ++ l) (sym whole);
      front = grind (arith, common_steps, written);
    }
