-- The text of a vote in three parts, and of entries one after the other.
use Rattle.std.proofs.Common.{◌≡◌, ◌∙◌, ℕ, ◌+◌, ◌-◌, List, [], ◌++◌, length, length-append, take, drop, sym, ap}
use Rattle.std.proofs.{Common.{append_assoc, arith}, lemmas.{Grind.common_steps, List.Concat.flat_map-append}}
use Rattle.std.specs.Prelude.{codes}
use Rattle.dirdoc_grammar.specs.Writing.{NewItem, item_text, items_text}
use Rattle.frame_terms.specs.declared.keyword.Keyword.TheVariants as the
use Rattle.frame_values.{specs.Items.bare, proofs.ItemsTexts.sections}
use Rattle.vote_terms.specs.declared.{entry.EntryFacts.EntryFacts, facts.VoteFacts.VoteFacts}
use Rattle.vote_text.specs.{Entries.{entries_items, entry_items}, Made.made_signed}
use Rattle.vote_maker.specs.Private.{back_text, entries_text, front_text}

-- ---- entries

pub texts : (a b : List EntryFacts) → entries_text (a ++ b) ≡ entries_text a ++ entries_text b
texts a b =
    ap (λ (l : List NewItem). items_text l) (flat_map-append entry_items a b) ∙ sections (entries_items a) (entries_items b)

-- ---- the parts

-- the text that is signed: what stands before the entries, these, and what stands behind them
pub in_parts : (facts : VoteFacts) (bytes : List ℕ)
    → made_signed facts bytes ≡ front_text facts bytes ++ (entries_text facts.entries ++ back_text)
in_parts facts bytes =
    let front = front_text facts bytes in
    let entries = entries_text facts.entries in
    append_assoc (front ++ entries) (item_text (bare the.DirectoryFooter [])) (codes "directory-signature ")
    ∙ append_assoc front entries back_text

cut_front : (front back : List ℕ) (n : ℕ) → n + length back ≡ length (front ++ back) → take n (front ++ back) ≡ front
cut_front front back n is = grind (arith, common_steps)

-- the text without what stands behind the entries, where there are none
pub front_left : (facts : VoteFacts) (bytes text : List ℕ) (n : ℕ) → facts.entries ≡ []
    → text ≡ made_signed facts bytes → n + length back_text ≡ length text → take n text ≡ front_text facts bytes
front_left facts bytes text n none written long =
    let whole : text ≡ front_text facts bytes ++ back_text =
    written ∙ in_parts facts bytes
    ∙ ap (λ (l : List EntryFacts). front_text facts bytes ++ (entries_text l ++ back_text)) none in
    ap (λ (l : List ℕ). take n l) whole
    ∙ cut_front (front_text facts bytes) back_text n (long ∙ ap (λ (l : List ℕ). length l) whole)

-- how long it is
pub parts_long : (facts : VoteFacts) (bytes text : List ℕ) → text ≡ made_signed facts bytes
    → length text ≡ length (front_text facts bytes) + (length (entries_text facts.entries) + length back_text)
parts_long facts bytes text written =
    let front = front_text facts bytes in
    let middle = entries_text facts.entries in
    ap (λ (l : List ℕ). length l) (written ∙ in_parts facts bytes)
    ∙ length-append front (middle ++ back_text)
    ∙ ap (λ (n : ℕ). length front + n) (length-append middle back_text)

-- the text whose front, entries and end are these
pub whole_part : (facts : VoteFacts) (bytes front text whole : List ℕ) → front ≡ front_text facts bytes
    → text ≡ front ++ entries_text facts.entries → whole ≡ text ++ back_text → whole ≡ made_signed facts bytes
whole_part facts bytes front text whole at_front at_entries at_end =
    let entries = entries_text facts.entries in
    at_end
    ∙ ap (λ (l : List ℕ). l ++ back_text) (at_entries ∙ ap (λ (l : List ℕ). l ++ entries) at_front)
    ∙ append_assoc (front_text facts bytes) entries back_text
    ∙ sym (in_parts facts bytes)
