-- The text of a vote that was made: the items before its certificate, the given bytes, and the items behind.
use Rattle.std.proofs.Common.{◌≡◌, ℕ, ◌+◌, ◌≤◌, List, [], ◌∷◌, ◌++◌, length, refl, sym, ap, ◌∙◌, append_assoc}
use Rattle.std.{proofs.{Common.{append-nil, arith}, lemmas.List.{length-append, map-append}}, specs.Prelude.codes}
use Rattle.std.specs.Prelude.{map}
use Rattle.dirdoc_grammar.specs.Writing.{AreWritable, NewItem, item_text, items_text}
use Rattle.frame_terms.specs.declared.keyword.Keyword.TheVariants as the
use Rattle.frame_values.{specs.Items.bare, proofs.ItemsTexts.sections}
use Rattle.frame_laws.proofs.{Entries.item_of, Sections.entries_in, WrittenRows.text_of_entries}
use Rattle.vote_terms.specs.declared.facts.VoteFacts.{VoteFacts}
use Rattle.vote_text.specs.{Entries.entries_items, Made.{made_signed, made_text, signature_rest}, Texts.authority_items}
use Rattle.vote_text.specs.Texts.{footer_items, preamble_items}
use Rattle.vote_laws.proofs.{EntrySame.entries_same, VoteItems.{VoteEntry, signature_entry}, VoteRows.authority}
use Rattle.vote_laws.proofs.{VoteRows.{footer, preamble}, VoteSame.{authority_same, footer_entries, in_list}}
use Rattle.vote_laws.proofs.{VoteSame.preamble_same, VoteSigned.signature_text}

-- ---- items that may be written may be so elsewhere

pub writable_at : (limit place there : ℕ) (items : List NewItem) → AreWritable limit place items
    → there + length (items_text items) ≤ limit → AreWritable limit there items
writable_at limit place there [] are fits = tt
writable_at limit place there (item ∷ items) are fits =
    let one = are.0 in
    let size = length-append (item_text item) (items_text items) in (
      record {
        keyword = one.keyword;
        arguments = one.arguments;
        line_fits = one.line_fits;
        object = one.object;
        within = omega (arith, fits, size);
      },
      writable_at limit (place + length (item_text item)) (there + length (item_text item)) items are.1
          (omega (arith, fits, size)),
    )

-- ---- the items

abbrev pub before_entries : VoteFacts → List VoteEntry
before_entries facts = entries_in (preamble facts) ++ entries_in (authority facts)

abbrev pub behind_entries : VoteFacts → List VoteEntry
behind_entries facts = in_list facts ++ footer_entries facts

pub before_same : (facts : VoteFacts)
    → preamble_items facts ++ authority_items facts ≡ map item_of (before_entries facts)
before_same facts =
    ap (λ (l : List NewItem). l ++ authority_items facts) (preamble_same facts)
    ∙ ap (λ (l : List NewItem). map item_of (entries_in (preamble facts)) ++ l) (authority_same facts)
    ∙ sym (map-append item_of (entries_in (preamble facts)) (entries_in (authority facts)))

pub behind_same : (facts : VoteFacts)
    → entries_items facts.entries ++ footer_items facts.signature ≡ map item_of (behind_entries facts)
behind_same facts =
    ap (λ (l : List NewItem). l ++ footer_items facts.signature) (entries_same facts.entries)
    ∙ sym (map-append item_of (in_list facts) (footer_entries facts))

-- ---- the text

-- what stands before the certificate, and behind it
abbrev pub before_text : VoteFacts → List ℕ
before_text facts = text_of_entries (before_entries facts)

abbrev pub behind_text : VoteFacts → List ℕ
behind_text facts = text_of_entries (behind_entries facts)

-- the text behind it up to the signature's item
abbrev pub unsigned_behind : VoteFacts → List ℕ
unsigned_behind facts = text_of_entries (in_list facts ++ entries_in footer)

unsigned_is : (facts : VoteFacts)
    → unsigned_behind facts ≡ items_text (entries_items facts.entries) ++ item_text (bare the.DirectoryFooter [])
unsigned_is facts =
    ap items_text (map-append item_of (in_list facts) (entries_in footer))
    ∙ sections (map item_of (in_list facts)) (map item_of (entries_in footer))
    ∙ ap (λ (l : List NewItem). items_text l ++ (item_text (bare the.DirectoryFooter []) ++ []))
    (sym (entries_same facts.entries))
    ∙ ap (λ (l : List ℕ). items_text (entries_items facts.entries) ++ l)
    (append-nil (item_text (bare the.DirectoryFooter [])))

before_is : (facts : VoteFacts)
    → before_text facts ≡ items_text (preamble_items facts) ++ items_text (authority_items facts)
before_is facts =
    sym (ap items_text (before_same facts)) ∙ sections (preamble_items facts) (authority_items facts)

-- the signed part
pub signed_parts : (facts : VoteFacts) (bytes : List ℕ)
    → made_signed facts bytes ≡ before_text facts ++ (bytes ++ (unsigned_behind facts ++ codes "directory-signature "))
signed_parts facts bytes =
    let p = items_text (preamble_items facts) in
    let a = items_text (authority_items facts) in
    let e = items_text (entries_items facts.entries) in
    let f = item_text (bare the.DirectoryFooter []) in
    let word = codes "directory-signature " in
    joined p a bytes e f word
    ∙ ap (λ (l : List ℕ). l ++ (bytes ++ ((e ++ f) ++ word))) (sym (before_is facts))
    ∙ ap (λ (l : List ℕ). before_text facts ++ (bytes ++ (l ++ word))) (sym (unsigned_is facts))
  where
    joined : (p a b e f w : List ℕ) → p ++ a ++ b ++ e ++ f ++ w ≡ (p ++ a) ++ (b ++ ((e ++ f) ++ w))
    joined p a b e f w = simp append_assoc refl

behind_is : (facts : VoteFacts)
    → behind_text facts ≡ unsigned_behind facts ++ (codes "directory-signature " ++ signature_rest facts.signature)
behind_is facts =
    let last = signature_entry facts.signature in
    let before = map item_of (in_list facts ++ entries_in footer) in
    ap items_text
    (ap (map item_of) (sym (append_assoc (in_list facts) (entries_in footer) (last ∷ [])))
    ∙ map-append item_of (in_list facts ++ entries_in footer) (last ∷ []))
    ∙ sections before (item_of last ∷ [])
    ∙ ap (λ (l : List ℕ). unsigned_behind facts ++ l)
    (append-nil (item_text (item_of last)) ∙ signature_text facts.signature)

-- the whole
pub text_parts : (facts : VoteFacts) (bytes : List ℕ)
    → made_text facts bytes ≡ before_text facts ++ (bytes ++ behind_text facts)
text_parts facts bytes =
    let u = unsigned_behind facts in
    let word = codes "directory-signature " in
    let r = signature_rest facts.signature in
    ap (λ (l : List ℕ). l ++ r) (signed_parts facts bytes)
    ∙ joined (before_text facts) bytes u word r
    ∙ ap (λ (l : List ℕ). before_text facts ++ (bytes ++ l)) (sym (behind_is facts))
  where
    joined : (b c u w r : List ℕ) → (b ++ (c ++ (u ++ w))) ++ r ≡ b ++ (c ++ (u ++ (w ++ r)))
    joined b c u w r = simp append_assoc refl
