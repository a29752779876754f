-- The items of entries by their rows are those of their text.
use Rattle.std.proofs.Common.{◌≡◌, ℕ, List, [], ◌∷◌, ◌++◌, Option, Some, None, refl, sym, ap, ◌∙◌, append_assoc}
use Rattle.std.{proofs.{Common.append-nil, lemmas.List.map-append}, specs.Prelude.{map, option_map}}
use Rattle.dir_values.specs.FlagSets.{set_text}
use Rattle.dirdoc_grammar.specs.Writing.{NewItem}
use Rattle.frame_terms.specs.declared.keyword.Keyword.{Keyword}
use Rattle.frame_terms.specs.declared.keyword.Keyword.TheVariants as the
use Rattle.frame_values.specs.Items.{item_if}
use Rattle.frame_laws.proofs.{Entries.item_of, Following.entries_all, RowValues.{items_if, text_entry, text_entry_if}}
use Rattle.frame_laws.proofs.Sections.{entries_in}
use Rattle.relay_entries.specs.{Texts.{bandwidths_text, ed_text}, declared.said.Bandwidths.Bandwidths}
use Rattle.relay_entries.specs.declared.said.EdOpinion.{EdOpinion}
use Rattle.vote_terms.specs.declared.entry.{EntryFacts.EntryFacts, MicroFacts.MicroFacts}
use Rattle.vote_text.specs.Entries.{entries_items, entry_items, flag_items, items_each, micro_items, relay_items}
use Rattle.vote_frame.specs.declared.frame.VoteValue.{VoteValue}
use Rattle.vote_laws.proofs.{EntryItems.micro_entry, EntryRows.{bandwidths_if, ed_if, entry_section}}
use Rattle.vote_laws.proofs.VoteItems.{VoteEntry}

-- ---- each row

addresses_same : (keyword : Keyword) (texts : List (List ℕ))
    → items_each keyword texts ≡ map item_of (map (text_entry {W = VoteValue} keyword) texts)
addresses_same keyword [] = refl
addresses_same keyword (text ∷ texts) =
    ap (λ (l : List NewItem). item_of (text_entry {W = VoteValue} keyword text) ∷ l) (addresses_same keyword texts)

rest_same : (keyword : Keyword) (text : Option (List ℕ))
    → item_if keyword text ≡ map item_of (text_entry_if {W = VoteValue} keyword text)
rest_same keyword text = sym (items_if VoteValue keyword text)

bandwidths_same : (said : Option Bandwidths)
    → item_if the.W (option_map bandwidths_text said) ≡ map item_of (bandwidths_if said)
bandwidths_same None = refl
bandwidths_same (Some w) = refl

micros_same : (lines : List MicroFacts) → micro_items lines ≡ map item_of (map micro_entry lines)
micros_same [] = refl
micros_same (line ∷ lines) = ap (λ (l : List NewItem). item_of (micro_entry line) ∷ l) (micros_same lines)

ed_same : (opinion : EdOpinion) (text : Option (List ℕ)) → item_if the.Id text ≡ map item_of (ed_if opinion text)
ed_same opinion None = refl
ed_same opinion (Some text) = refl

-- ---- an entry

in_a_row : (r a s v q w p m i : List NewItem)
    → r ++ a ++ s ++ v ++ q ++ w ++ p ++ m ++ i ≡ r ++ (a ++ (s ++ (v ++ (q ++ (w ++ (p ++ (m ++ i)))))))
in_a_row r a s v q w p m i = simp append_assoc refl

by_rows : (a s v q w p m i : List VoteEntry)
    → map item_of (a ++ (s ++ (v ++ (q ++ (w ++ (p ++ (m ++ (i ++ []))))))))
    ≡ map item_of a ++ (map item_of s ++ (map item_of v ++ (map item_of q ++ (map item_of w ++ (map item_of p
    ++ (map item_of m ++ map item_of i))))))
by_rows a s v q w p m i = simp (map-append, append-nil) refl

pub entry_same : (e : EntryFacts) → entry_items e ≡ map item_of (entries_in (entry_section e))
entry_same e =
    let first = relay_items e in
    let flags = flag_items e in
    let a = addresses_same the.A e.addresses in
    let v = rest_same the.V e.version in
    let q = rest_same the.Pr e.protocols in
    let w = bandwidths_same e.bandwidths in
    let p = rest_same the.P e.policy in
    let m = micros_same e.micros in
    let id = ed_same e.ed (ed_text e.ed) in
    in_a_row first (items_each the.A e.addresses) flags (item_if the.V e.version) (item_if the.Pr e.protocols)
    (item_if the.W (option_map bandwidths_text e.bandwidths)) (item_if the.P e.policy) (micro_items e.micros)
    (item_if the.Id (ed_text e.ed))
    ∙ (λ i. first ++ (a i ++ (flags ++ (v i ++ (q i ++ (w i ++ (p i ++ (m i ++ id i))))))))
    ∙ ap (λ (l : List NewItem). first ++ l)
    (sym (by_rows (map (text_entry the.A) e.addresses) (text_entry the.S (set_text e.flags) ∷ [])
    (text_entry_if the.V e.version) (text_entry_if the.Pr e.protocols) (bandwidths_if e.bandwidths)
    (text_entry_if the.P e.policy) (map micro_entry e.micros) (ed_if e.ed (ed_text e.ed))))

-- ---- any number of them

pub entries_same : (list : List EntryFacts)
    → entries_items list ≡ map item_of (entries_all (map entry_section list))
entries_same [] = refl
entries_same (e ∷ list) =
    let one = entries_in (entry_section e) in
    let others = entries_all (map entry_section list) in
    ap (λ (l : List NewItem). l ++ entries_items list) (entry_same e)
    ∙ ap (λ (l : List NewItem). map item_of one ++ l) (entries_same list)
    ∙ sym (map-append item_of one others)
