use Rattle.std.proofs.{Common.{◌∙◌, ◌++◌, List, ℕ, ap, append_assoc, arith, drop, ◌+◌}, lemmas.Grind.common_steps}
use Rattle.dirdoc_grammar.specs.Writing.{items_text}
use Rattle.vote_text.{specs.Entries.{entries_items, entry_items}, proofs.EntryTexts.entries_text-drop}
use Rattle.vote_text.proofs.entry.push_entries.Goals as goal

pub entries-preserved : goal.entries-preserved
entries-preserved c =
    let entries = c.args.entries.now in
    let entry = c.entry-item.result in
    let i = c.entries.entry-index in
    let before = c.entries.out.items in
    let one = items_text (entry_items entry) in
    let behind = items_text (entries_items (drop (i + 1) entries)) in
    let written = c.in_ok-push_entry.ensures.ok in
    record {
      text = ap (λ (l : List ℕ). l ++ behind) written
          ∙ append_assoc before one behind
          ∙ ap (λ (l : List ℕ). before ++ l) (entries_text-drop entries i entry c.entries-test.true c.entry-item.is)
          ∙ c.entries.invariant.text;
      front = grind (arith, common_steps, written);
    }
