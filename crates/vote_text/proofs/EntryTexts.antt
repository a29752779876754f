-- The text of entries, one after the other.
use Rattle.std.proofs.Common.{◌≡◌, ◌∙◌, ℕ, suc, ◌+◌, ◌<◌, List, ◌∷◌, ◌++◌, drop, get_or, length, sym, ap, arith}
use Rattle.std.proofs.Math.Seq.{drop-cons}
use Rattle.dirdoc_grammar.specs.Writing.{items_text}
use Rattle.frame_values.proofs.ItemsTexts.{sections}
use Rattle.vote_terms.specs.declared.entry.EntryFacts.{EntryFacts}
use Rattle.vote_text.specs.Entries.{entries_items, entry_items}

-- the text of entries from a place on is that of the entry there and of those behind it
pub entries_text-drop : (entries : List EntryFacts) (i : ℕ) (entry : EntryFacts) → i < length entries
    → entry ≡ get_or entries i entry
    → items_text (entry_items entry) ++ items_text (entries_items (drop (i + 1) entries))
    ≡ items_text (entries_items (drop i entries))
entries_text-drop entries i entry within is =
    let next : i + 1 ≡ suc i = omega arith in
    let behind = drop (suc i) entries in
    ap (λ (n : ℕ). items_text (entry_items entry) ++ items_text (entries_items (drop n entries))) next
    ∙ sym (sections (entry_items entry) (entries_items behind))
    ∙ ap (λ (e : EntryFacts). items_text (entries_items (e ∷ behind))) is
    ∙ ap (λ (l : List EntryFacts). items_text (entries_items l)) (sym (drop-cons entries i entry within))
