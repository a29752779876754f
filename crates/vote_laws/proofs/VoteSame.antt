-- The items of a vote by its sections' rows are those of its text.
use Rattle.std.proofs.Common.{◌≡◌, List, [], ◌∷◌, ◌++◌, refl, sym, ap, append_assoc, append-nil, ◌∙◌}
use Rattle.std.{proofs.lemmas.List.map-append, specs.Prelude.map}
use Rattle.dirdoc_grammar.specs.Writing.{NewItem}
use Rattle.frame_terms.specs.declared.keyword.Keyword.TheVariants as the
use Rattle.frame_values.specs.Items.{bare}
use Rattle.frame_laws.proofs.{Ends.entries_to, Entries.item_of, Following.entries_all, RowCounts.items_of-append}
use Rattle.frame_laws.proofs.{RowValues.items_if, SaidRows.items_of, Sections.entries_in}
use Rattle.authority_certs.specs.Texts.{cert_items}
use Rattle.certificate_laws.proofs.CertRows.{cert_entries, certificate_same}
use Rattle.vote_terms.specs.declared.{facts.VoteFacts.VoteFacts, lists.VoteLists.VoteLists}
use Rattle.vote_text.specs.{Entries.entries_items, Lists.{param_items, protocol_items, version_items}}
use Rattle.vote_text.specs.Texts.{authority_items, flag_items, footer_items, kind_items, preamble_items, time_items}
use Rattle.vote_text.specs.Texts.{vote_items}
use Rattle.vote_frame.specs.declared.frame.VoteValue.{VoteValue}
use Rattle.vote_laws.{specs.Again.unsigned_items, proofs.{EntryRows.entry_section, EntrySame.entries_same}}
use Rattle.vote_laws.proofs.{VoteItems.{VoteEntry, VoteRow, signature_entry}, VoteLists.{param_rows, protocol_rows}}
use Rattle.vote_laws.proofs.{VoteLists.version_rows, VoteRandoms.random_items_are, VoteRows.{authority, flag_rows}}
use Rattle.vote_laws.proofs.VoteRows.{footer, kind_rows, preamble, time_rows}

-- the items of its certificate, of its entries and of its footer
abbrev pub in_cert : VoteFacts → List VoteEntry
in_cert facts = cert_entries facts.certificate

abbrev pub in_list : VoteFacts → List VoteEntry
in_list facts = entries_all (map entry_section facts.entries)

abbrev pub footer_entries : VoteFacts → List VoteEntry
footer_entries facts = entries_to footer (signature_entry facts.signature)

-- its items
abbrev pub vote_entries : VoteFacts → List VoteEntry
vote_entries facts =
    entries_in (preamble facts)
    ++ (entries_in (authority facts) ++ (in_cert facts ++ (in_list facts ++ footer_entries facts)))

-- they are those of its text
kind_same : (facts : VoteFacts) → kind_items facts ≡ item_of (preamble facts).opener ∷ items_of (kind_rows facts)
kind_same facts = simp (items_if, append-nil) refl

flag_same : (facts : VoteFacts) → flag_items facts ≡ items_of (flag_rows facts)
flag_same facts = simp (items_if, append-nil) refl

pub authority_same : (facts : VoteFacts) → authority_items facts ≡ map item_of (entries_in (authority facts))
authority_same facts = simp (items_if, random_items_are, map-append, append-nil, append_assoc) refl

versions_same : (lists : VoteLists) → version_items lists ≡ items_of (version_rows lists)
versions_same lists = simp (items_if, map-append, append-nil) refl

protocols_same : (lists : VoteLists) → protocol_items lists ≡ items_of (protocol_rows lists)
protocols_same lists = simp (items_if, map-append, append-nil, append_assoc) refl

params_same : (lists : VoteLists) → param_items lists.params ≡ items_of (param_rows lists)
params_same lists = simp (items_if, append-nil) refl

-- the items of six lists of rows
by_rows : (k t v f p m : List VoteRow)
    → items_of (k ++ (t ++ (v ++ (f ++ (p ++ m)))))
    ≡ items_of k ++ (items_of t ++ (items_of v ++ (items_of f ++ (items_of p ++ items_of m))))
by_rows k t v f p m = simp items_of-append refl

pub preamble_same : (facts : VoteFacts) → preamble_items facts ≡ map item_of (entries_in (preamble facts))
preamble_same facts =
    let lists = facts.lists in
    let first = item_of (preamble facts).opener in
    let time = time_items facts in
    let k = kind_same facts in
    let v = versions_same lists in
    let f = flag_same facts in
    let p = protocols_same lists in
    let m = params_same lists in
    in_a_row (kind_items facts) time (version_items lists) (flag_items facts) (protocol_items lists)
    (param_items lists.params)
    ∙ (λ i. k i ++ (time ++ (v i ++ (f i ++ (p i ++ m i)))))
    ∙ ap (λ (l : List NewItem). first ∷ l)
    (sym (by_rows (kind_rows facts) (time_rows facts) (version_rows lists) (flag_rows facts) (protocol_rows lists)
    (param_rows lists)))
  where
    in_a_row : (k t v f p m : List NewItem) → k ++ t ++ v ++ f ++ p ++ m ≡ k ++ (t ++ (v ++ (f ++ (p ++ m))))
    in_a_row k t v f p m = simp append_assoc refl

-- the items of all sections, of which these are the last
all_same : (facts : VoteFacts) (last : List NewItem) (others : List VoteEntry) → last ≡ map item_of others
    → preamble_items facts ++ authority_items facts ++ cert_items facts.certificate
    ++ entries_items facts.entries ++ last
    ≡ map item_of
    (entries_in (preamble facts) ++ (entries_in (authority facts) ++ (in_cert facts ++ (in_list facts ++ others))))
all_same facts last others same_last =
    let a = authority_items facts in
    let c = cert_items facts.certificate in
    let e = entries_items facts.entries in
    let in_p = map item_of (entries_in (preamble facts)) in
    let in_a = map item_of (entries_in (authority facts)) in
    let in_c = map item_of (in_cert facts) in
    joined (preamble_items facts) a c e last
    ∙ ap (λ (l : List NewItem). l ++ (a ++ (c ++ (e ++ last)))) (preamble_same facts)
    ∙ ap (λ (l : List NewItem). in_p ++ (l ++ (c ++ (e ++ last)))) (authority_same facts)
    ∙ ap (λ (l : List NewItem). in_p ++ (in_a ++ (l ++ (e ++ last)))) (certificate_same VoteValue facts.certificate)
    ∙ ap (λ (l : List NewItem). in_p ++ (in_a ++ (in_c ++ (l ++ last)))) (entries_same facts.entries)
    ∙ ap (λ (l : List NewItem). in_p ++ (in_a ++ (in_c ++ (map item_of (in_list facts) ++ l)))) same_last
    ∙ sym (by_sections (entries_in (preamble facts)) (entries_in (authority facts)) (in_cert facts) (in_list facts)
    others)
  where
    joined : (p a c e l : List NewItem) → p ++ a ++ c ++ e ++ l ≡ p ++ (a ++ (c ++ (e ++ l)))
    joined p a c e l = simp append_assoc refl

    by_sections : (p a c e f : List VoteEntry)
        → map item_of (p ++ (a ++ (c ++ (e ++ f))))
        ≡ map item_of p ++ (map item_of a ++ (map item_of c ++ (map item_of e ++ map item_of f)))
    by_sections p a c e f = simp map-append refl

pub vote_same : (facts : VoteFacts) → vote_items facts ≡ map item_of (vote_entries facts)
vote_same facts = all_same facts (footer_items facts.signature) (footer_entries facts) refl

-- the items before the signature
pub unsigned_same : (facts : VoteFacts)
    → unsigned_items facts
    ≡ map item_of
    (entries_in (preamble facts)
    ++ (entries_in (authority facts) ++ (in_cert facts ++ (in_list facts ++ entries_in footer))))
unsigned_same facts = all_same facts (bare the.DirectoryFooter [] ∷ []) (entries_in footer) refl
