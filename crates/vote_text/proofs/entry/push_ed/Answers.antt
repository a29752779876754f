use Rattle.std.proofs.Common.{rules, ◌≡◌, ◌∙◌, ◌++◌, ℕ, List, Option, Some, ap, append-nil, sym}
use Rattle.std.{proofs.lemmas.Result.on_ok_weaker, specs.Prelude.codes}
use Rattle.dir_bytes.specs.FieldTexts.{base64_text}
use Rattle.dirdoc_grammar.specs.Writing.{item_text, items_text}
use Rattle.frame_terms.specs.declared.keyword.Keyword.TheVariants.{Id}
use Rattle.frame_values.specs.Items.{bare, item_if}
use Rattle.relay_entries.specs.Texts.{ed_text}
use Rattle.vote_text.proofs.entry.push_ed.Goals as goal

pub returns-in_ok-push_base64-in-Key-clause-ok : goal.returns-in_ok-push_base64-in-Key-clause-ok
returns-in_ok-push_base64-in-Key-clause-ok c =
    let out = c.args.out.now.items in
    let key = c.in-Key.key in
    let text = codes "ed25519 " ++ base64_text key in
    let written : c.deref.result.now ≡ text = search rules in
    let said : ed_text c.args.opinion.now ≡ Some text = ap ed_text c.in-Key.is in
    let items : items_text (item_if Id (ed_text c.args.opinion.now)) ≡ item_text (bare Id text) =
    ap (λ (rest : Option (List ℕ)). items_text (item_if Id rest)) said ∙ append-nil (item_text (bare Id text)) in
    on_ok_weaker c.push_bare-in-Key.result
    (λ wrote. wrote ∙ ap (λ (rest : List ℕ). out ++ item_text (bare Id rest)) written ∙ ap (λ (l : List ℕ). out ++ l) (sym items))
    c.push_bare-in-Key.ensures.ok
