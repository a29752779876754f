-- The items of a consensus by its sections' rows are those of its text.
use Rattle.std.proofs.Common.{◌≡◌, ℕ, Bool, false, List, [], ◌∷◌, ◌++◌, Option, Some, None, refl, sym, ap, append_assoc}
use Rattle.std.{proofs.{Common.{append-nil, ◌∙◌}, lemmas.List.map-append}, specs.Prelude.{map, option_map}}
use Rattle.std.specs.List.{flat_map}
use Rattle.dir_values.specs.{FlagSets.set_text, declared.digest.Digest2.Digest2}
use Rattle.dirdoc_grammar.specs.Writing.{NewItem}
use Rattle.frame_terms.specs.declared.keyword.Keyword.{Keyword}
use Rattle.frame_terms.specs.declared.keyword.Keyword.TheVariants as the
use Rattle.frame_values.specs.Items.{bare, item_if}
use Rattle.frame_laws.proofs.{Entries.item_of, Following.entries_all, RowCounts.items_of-append, RowValues.items_if}
use Rattle.frame_laws.proofs.{RowValues.{text_entry, text_entry_if}, SaidRows.items_of, Sections.entries_in}
use Rattle.consensus_terms.specs.{Methods.is_34_or_later, Signed.{in_order, signature_item}}
use Rattle.consensus_terms.specs.declared.consensus.{ConsensusFacts.ConsensusFacts, ConsensusLists.ConsensusLists}
use Rattle.consensus_terms.specs.declared.consensus.{SignedConsensus.SignedConsensus, SourceLine.SourceLine}
use Rattle.consensus_terms.specs.declared.flavour.Flavour.{Flavour, TheVariants.{Ns, Microdesc}}
use Rattle.consensus_terms.specs.declared.router.{Bandwidth.Bandwidth, Routerline.Routerline}
use Rattle.consensus_terms.specs.declared.signature.SignatureLine.{SignatureLine}
use Rattle.consensus_frame.specs.declared.value.ConsensusValue.{ConsensusValue}
use Rattle.consensus_laws.specs.Items.{consensus_items, footer_items, kind_items, listed, m_text, p_text}
use Rattle.consensus_laws.specs.Items.{preamble_items, random_items, protocol_items, router_items, source_items}
use Rattle.consensus_laws.specs.Items.{time_items, unsigned_items, version_items, w_text, words_item, router_words}
use Rattle.consensus_laws.{specs.Items.list_items, proofs.ConsensusItems.{ConsensusEntry, ConsensusRow}}
use Rattle.consensus_laws.proofs.ConsensusLists.{list_items_are, param_rows, protocol_rows, version_rows}
use Rattle.consensus_laws.proofs.ConsensusRows.{flag_rows, footer, kind_rows, preamble, signature_entry, source_section}
use Rattle.consensus_laws.proofs.{ConsensusRows.{random_rows, time_rows}, ConsensusRandoms.random_items_are}
use Rattle.consensus_laws.proofs.RouterRows.{m_entries, router_section, w_entries}
use Rattle.list_values.specs.Params.{params_text}

-- ---- the preamble

versions_same : (always : Bool) (lists : ConsensusLists)
    → version_items always lists ≡ items_of (version_rows always lists)
versions_same always lists = simp (list_items_are, map-append, append-nil) refl

protocols_same : (always : Bool) (lists : ConsensusLists)
    → protocol_items always lists ≡ items_of (protocol_rows always lists)
protocols_same always lists = simp (list_items_are, map-append, append-nil, append_assoc) refl

params_same : (lists : ConsensusLists)
    → list_items false the.Params params_text lists.params ≡ items_of (param_rows lists)
params_same lists = simp (list_items_are, append-nil) refl

randoms_same : (c : ConsensusFacts) → random_items c ≡ items_of (random_rows c)
randoms_same c = simp (random_items_are, map-append, append-nil) refl

by_rows : (k t v f p m r : List ConsensusRow)
    → items_of (k ++ (t ++ (v ++ (f ++ (p ++ (m ++ r))))))
    ≡ items_of k ++ (items_of t ++ (items_of v ++ (items_of f ++ (items_of p ++ (items_of m ++ items_of r)))))
by_rows k t v f p m r = simp items_of-append refl

preamble_same : (flavour : Flavour) (c : ConsensusFacts)
    → preamble_items flavour c ≡ map item_of (entries_in (preamble flavour c))
preamble_same flavour c =
    let first = item_of (preamble flavour c).opener in
    let kinds = kind_items flavour c.method in
    let time = time_items c in
    let flags = bare the.KnownFlags (set_text c.known_flags) ∷ [] in
    let always = is_34_or_later c.method in
    let v = versions_same always c.lists in
    let p = protocols_same always c.lists in
    let m = params_same c.lists in
    let r = randoms_same c in
    in_a_row kinds time (version_items always c.lists) flags (protocol_items always c.lists)
    (list_items false the.Params params_text c.lists.params) (random_items c)
    ∙ (λ i. kinds ++ (time ++ (v i ++ (flags ++ (p i ++ (m i ++ r i))))))
    ∙ ap (λ (l : List NewItem). first ∷ l)
    (sym (by_rows (kind_rows c) (time_rows c) (version_rows always c.lists) (flag_rows c) (protocol_rows always c.lists)
    (param_rows c.lists) (random_rows c)))
  where
    in_a_row : (k t v f p m r : List NewItem)
        → k ++ t ++ v ++ f ++ p ++ m ++ r ≡ k ++ (t ++ (v ++ (f ++ (p ++ (m ++ r)))))
    in_a_row k t v f p m r = simp append_assoc refl

-- ---- the authorities

source_same : (source : SourceLine) → source_items source ≡ map item_of (entries_in (source_section source))
source_same source = by source.contact
  where
    by : (contact : Option (List ℕ))
        → source_items (record source { contact = contact })
        ≡ map item_of (entries_in (source_section (record source { contact = contact })))
    by None = refl
    by (Some text) = refl

sources_same : (list : List SourceLine)
    → flat_map source_items list ≡ map item_of (entries_all (map source_section list))
sources_same [] = refl
sources_same (s ∷ list) =
    let one = entries_in (source_section s) in
    ap (λ (l : List NewItem). l ++ flat_map source_items list) (source_same s)
    ∙ ap (λ (l : List NewItem). map item_of one ++ l) (sources_same list)
    ∙ sym (map-append item_of one (entries_all (map source_section list)))

-- ---- the relays

rest_same : (keyword : Keyword) (text : Option (List ℕ))
    → item_if keyword text ≡ map item_of (text_entry_if {W = ConsensusValue} keyword text)
rest_same keyword text = sym (items_if ConsensusValue keyword text)

m_same : (flavour : Flavour) (digest : Option Digest2)
    → item_if the.M (m_text flavour digest) ≡ map item_of (m_entries flavour digest)
m_same Ns digest = refl
m_same Microdesc None = refl
m_same Microdesc (Some digest) = refl

w_same : (w : Option Bandwidth) → item_if the.W (option_map w_text w) ≡ map item_of (w_entries w)
w_same None = refl
w_same (Some w) = refl

in_one_row : (r a m s v q w p : List NewItem)
    → r ++ a ++ m ++ s ++ v ++ q ++ w ++ p ≡ r ++ (a ++ (m ++ (s ++ (v ++ (q ++ (w ++ p))))))
in_one_row r a m s v q w p = simp append_assoc refl

by_entries : (a m s v q w p : List ConsensusEntry)
    → map item_of (a ++ (m ++ (s ++ (v ++ (q ++ (w ++ (p ++ ([] ++ []))))))))
    ≡ map item_of a ++ (map item_of m ++ (map item_of s ++ (map item_of v ++ (map item_of q ++ (map item_of w
    ++ map item_of p)))))
by_entries a m s v q w p = simp (map-append, append-nil) refl

router_same : (flavour : Flavour) (r : Routerline)
    → router_items flavour r ≡ map item_of (entries_in (router_section flavour r))
router_same flavour r =
    let first = words_item the.R (router_words flavour r) ∷ [] in
    let flags = bare the.S (set_text r.flags) ∷ [] in
    let a = rest_same the.A r.a in
    let m = m_same flavour r.m in
    let v = rest_same the.V r.v in
    let q = rest_same the.Pr r.pr in
    let w = w_same r.w in
    let p = rest_same the.P (p_text flavour r.p) in
    in_one_row first (item_if the.A r.a) (item_if the.M (m_text flavour r.m)) flags (item_if the.V r.v)
    (item_if the.Pr r.pr) (item_if the.W (option_map w_text r.w)) (item_if the.P (p_text flavour r.p))
    ∙ (λ i. first ++ (a i ++ (m i ++ (flags ++ (v i ++ (q i ++ (w i ++ p i)))))))
    ∙ ap (λ (l : List NewItem). first ++ l)
    (sym (by_entries (text_entry_if the.A r.a) (m_entries flavour r.m) (text_entry the.S (set_text r.flags) ∷ [])
    (text_entry_if the.V r.v) (text_entry_if the.Pr r.pr) (w_entries r.w) (text_entry_if the.P (p_text flavour r.p))))

routers_same : (flavour : Flavour) (list : List Routerline)
    → flat_map (router_items flavour) list ≡ map item_of (entries_all (map (router_section flavour) list))
routers_same flavour [] = refl
routers_same flavour (r ∷ list) =
    let one = entries_in (router_section flavour r) in
    ap (λ (l : List NewItem). l ++ flat_map (router_items flavour) list) (router_same flavour r)
    ∙ ap (λ (l : List NewItem). map item_of one ++ l) (routers_same flavour list)
    ∙ sym (map-append item_of one (entries_all (map (router_section flavour) list)))

-- ---- the footer

signatures_same : (lines : List SignatureLine) → map signature_item lines ≡ map item_of (map signature_entry lines)
signatures_same [] = refl
signatures_same (line ∷ lines) = ap (λ (l : List NewItem). signature_item line ∷ l) (signatures_same lines)

-- ---- the whole

-- its items in four parts
abbrev pub in_sources : SignedConsensus → List ConsensusEntry
in_sources c = entries_all (map source_section c.facts.sources)

abbrev pub in_routers : SignedConsensus → List ConsensusEntry
in_routers c = entries_all (map (router_section c.flavour) (listed c.flavour c.facts.routers))

-- those of the footer before the signatures
abbrev pub before_signatures : SignedConsensus → List ConsensusEntry
before_signatures c =
    (footer c.weights []).opener ∷ text_entry_if the.BandwidthWeights c.weights

abbrev pub signatures_in : SignedConsensus → List ConsensusEntry
signatures_in c = map signature_entry (in_order c.signatures)

abbrev pub unsigned_entries : SignedConsensus → List ConsensusEntry
unsigned_entries c =
    entries_in (preamble c.flavour c.facts) ++ (in_sources c ++ (in_routers c ++ before_signatures c))

pub unsigned_same : (c : SignedConsensus) → unsigned_items c ≡ map item_of (unsigned_entries c)
unsigned_same c =
    let s = flat_map source_items c.facts.sources in
    let r = flat_map (router_items c.flavour) (listed c.flavour c.facts.routers) in
    let f = footer_items c.weights in
    let in_p = map item_of (entries_in (preamble c.flavour c.facts)) in
    let in_s = map item_of (in_sources c) in
    let in_r = map item_of (in_routers c) in
    joined (preamble_items c.flavour c.facts) s r f
    ∙ ap (λ (l : List NewItem). l ++ (s ++ (r ++ f))) (preamble_same c.flavour c.facts)
    ∙ ap (λ (l : List NewItem). in_p ++ (l ++ (r ++ f))) (sources_same c.facts.sources)
    ∙ ap (λ (l : List NewItem). in_p ++ (in_s ++ (l ++ f)))
    (routers_same c.flavour (listed c.flavour c.facts.routers))
    ∙ ap (λ (l : List NewItem). in_p ++ (in_s ++ (in_r ++ (bare the.DirectoryFooter [] ∷ l))))
    (rest_same the.BandwidthWeights c.weights)
    ∙ sym (by_sections (entries_in (preamble c.flavour c.facts)) (in_sources c) (in_routers c) (before_signatures c))
  where
    joined : (p s r f : List NewItem) → p ++ s ++ r ++ f ≡ p ++ (s ++ (r ++ f))
    joined p s r f = simp append_assoc refl

    by_sections : (p s r f : List ConsensusEntry)
        → map item_of (p ++ (s ++ (r ++ f))) ≡ map item_of p ++ (map item_of s ++ (map item_of r ++ map item_of f))
    by_sections p s r f = simp map-append refl

pub consensus_same : (c : SignedConsensus) → consensus_items c ≡ map item_of (unsigned_entries c ++ signatures_in c)
consensus_same c =
    ap (λ (l : List NewItem). l ++ map signature_item (in_order c.signatures)) (unsigned_same c)
    ∙ ap (λ (l : List NewItem). map item_of (unsigned_entries c) ++ l) (signatures_same (in_order c.signatures))
    ∙ sym (map-append item_of (unsigned_entries c) (signatures_in c))
