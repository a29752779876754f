-- The text of a consensus is that of its items.
use Rattle.std.proofs.Common.{◌≡◌, ℕ, ◌/◌, ◌%◌, ◌<◌, ◌≤◌, Bool, true, false, List, [], ◌∷◌, ◌++◌, length, Option, Some}
use Rattle.std.proofs.Common.{None, refl, sym, ap, ◌∙◌, append_assoc, length-append, arith}
use Rattle.std.{proofs.lemmas.List.Elements.{All-head, All-tail}, specs.Prelude.{All, codes, decimal, map, option_map}}
use Rattle.std.specs.{Prelude.if◌then◌else◌, List.flat_map}
use Rattle.dir_bytes.specs.{Causes.last_moment, FieldTexts.{base64_text, clock_text, date_text, hex_text, moment_text}}
use Rattle.dir_values.specs.{FlagSets.set_text, declared.digest.Digest2.Digest2}
use Rattle.dirdoc_grammar.specs.Writing.{NewItem, item_text, items_text}
use Rattle.frame_terms.specs.{Keywords.text_of, declared.keyword.Keyword.Keyword}
use Rattle.frame_terms.specs.declared.keyword.Keyword.TheVariants as the
use Rattle.frame_values.{specs.Items.{bare, item_if, moment_item}, proofs.ItemsTexts.sections}
use Rattle.frame_laws.proofs.Words.{length-word, word_of_identity, word_of_nickname, word_of_number, words_of_flags}
use Rattle.list_values.specs.{Params.params_text, VersionLists.versions_text, Protocols.protocols_text}
use Rattle.group_laws.{proofs.WrittenMicros.word_of_thirty_two, specs.LineAgain.AreFlagsInRange}
use Rattle.value_groups.specs.Values.{random_text}
use Rattle.consensus_terms.specs.{Lines.{line, named_text}, Methods.is_34_or_later, Routers.{is_listed, listed_lines}}
use Rattle.consensus_terms.specs.{Routers.unmeasured_words, Signed.{in_order, signature_item, signature_text}}
use Rattle.consensus_terms.specs.{Signed.{signature_texts, signed}, Texts.{body, facts_text, source_words}}
use Rattle.consensus_terms.specs.{Texts.version_words, declared.consensus.ConsensusFacts.ConsensusFacts}
use Rattle.consensus_terms.specs.declared.consensus.{ConsensusLists.ConsensusLists, SignedConsensus.SignedConsensus}
use Rattle.consensus_terms.specs.declared.{consensus.SourceLine.SourceLine, flavour.Flavour.{Flavour, TheVariants.Ns}}
use Rattle.consensus_terms.specs.declared.{flavour.Flavour.TheVariants.Microdesc, router.Bandwidth.Bandwidth}
use Rattle.consensus_terms.specs.declared.{router.Routerline.Routerline, signature.SignatureLine.SignatureLine}
use Rattle.consensus_terms.specs.Routers as lines
use Rattle.consensus_terms.specs.Texts as texts
use Rattle.consensus_laws.specs.Again.{AreFactsInRange, AreListsInRange, IsAuthorityInRange, IsMicroInRange}
use Rattle.consensus_laws.specs.{Again.IsRouterInRange, Items.{consensus_items, footer_items, kind_items, list_items}}
use Rattle.consensus_laws.specs.Items.{listed, m_text, p_text, preamble_items, protocol_items, router_items}
use Rattle.consensus_laws.specs.Items.{router_words, source_items, random_items, time_items, unsigned_items}
use Rattle.consensus_laws.{specs.Items.{version_items, w_text, words_item}, proofs.LineTexts.{filled_words, lines_are}}
use Rattle.consensus_laws.proofs.LineTexts.{params_are, protocols_are, rest_is, versions_are}
use Rattle.consensus_laws.proofs.{ConsensusRandoms.random_is, RelayLines.whole_moment}

-- ---- texts that follow one another

two_texts : (a b : List NewItem) → items_text (a ++ b) ≡ items_text a ++ items_text b
two_texts a b = sections a b

three_texts : (a b c : List NewItem) → items_text (a ++ b ++ c) ≡ items_text a ++ items_text b ++ items_text c
three_texts a b c = sections (a ++ b) c ∙ ap (λ (l : List ℕ). l ++ items_text c) (sections a b)

four_texts : (a b c d : List NewItem)
    → items_text (a ++ b ++ c ++ d) ≡ items_text a ++ items_text b ++ items_text c ++ items_text d
four_texts a b c d = sections (a ++ b ++ c) d ∙ ap (λ (l : List ℕ). l ++ items_text d) (three_texts a b c)

-- ---- the preamble

-- numbers and moments are not empty
number_some : (n : ℕ) → 0 < length (decimal n)
number_some n = length-word (decimal n) (word_of_number n)

moment_some : (m : ℕ) → 0 < length (moment_text m)
moment_some m = omega (arith, length-append (date_text (m / 86400)) (32 ∷ clock_text (m % 86400)))

moment_is : (keyword : Keyword) (m : ℕ) → m ≤ last_moment
    → line (text_of keyword) (moment_text m ∷ []) ≡ items_text (moment_item keyword m ∷ [])
moment_is keyword m within =
    lines_are keyword (moment_text m ∷ []) (moment_some m)
    ∙ ap (λ (n : ℕ). items_text (bare keyword (moment_text n) ∷ [])) (sym (whole_moment m within))

version_is : (flavour : Flavour)
    → line (codes "network-status-version") (version_words flavour)
    ≡ items_text (words_item the.NetworkStatusVersion (version_words flavour) ∷ [])
version_is Ns = lines_are the.NetworkStatusVersion (version_words Ns) (omega arith)
version_is Microdesc = lines_are the.NetworkStatusVersion (version_words Microdesc) (omega arith)

kinds_are : (flavour : Flavour) (method : ℕ) → texts.kind_lines flavour method ≡ items_text (kind_items flavour method)
kinds_are flavour method =
    (λ i. version_is flavour i ++ lines_are the.VoteStatus (codes "consensus" ∷ []) (omega arith) i
    ++ lines_are the.ConsensusMethod (decimal method ∷ []) (number_some method) i)
    ∙ sym (three_texts (words_item the.NetworkStatusVersion (version_words flavour) ∷ [])
    (bare the.VoteStatus (codes "consensus") ∷ []) (bare the.ConsensusMethod (decimal method) ∷ []))

times_are : (flavour : Flavour) (c : ConsensusFacts) → AreFactsInRange flavour c
    → texts.time_lines c ≡ items_text (time_items c)
times_are flavour c are =
    (λ i. moment_is the.ValidAfter c.valid_after are.valid_after i
    ++ moment_is the.FreshUntil c.fresh_until are.fresh_until i
    ++ moment_is the.ValidUntil c.valid_until are.valid_until i
    ++ lines_are the.VotingDelay (decimal c.vote_seconds ∷ decimal c.dist_seconds ∷ []) (number_some c.vote_seconds) i)
    ∙ sym (four_texts (moment_item the.ValidAfter c.valid_after ∷ []) (moment_item the.FreshUntil c.fresh_until ∷ [])
    (moment_item the.ValidUntil c.valid_until ∷ [])
    (words_item the.VotingDelay (decimal c.vote_seconds ∷ decimal c.dist_seconds ∷ []) ∷ []))

version_lists_are : (always : Bool) (lists : ConsensusLists) → AreListsInRange lists
    → texts.version_lines always lists ≡ items_text (version_items always lists)
version_lists_are always lists are =
    (λ i. versions_are always the.ClientVersions lists.client_versions are.client_versions.each i
    ++ versions_are always the.ServerVersions lists.server_versions are.server_versions.each i)
    ∙ sym (two_texts (list_items always the.ClientVersions versions_text lists.client_versions)
    (list_items always the.ServerVersions versions_text lists.server_versions))

protocol_lists_are : (always : Bool) (lists : ConsensusLists)
    → texts.protocol_lines always lists ≡ items_text (protocol_items always lists)
protocol_lists_are always lists =
    let rc = lists.recommended_client_protocols in
    let rr = lists.recommended_relay_protocols in
    let qc = lists.required_client_protocols in
    let qr = lists.required_relay_protocols in
    (λ i. protocols_are always the.RecommendedClientProtocols rc i
    ++ protocols_are always the.RecommendedRelayProtocols rr i
    ++ protocols_are always the.RequiredClientProtocols qc i ++ protocols_are always the.RequiredRelayProtocols qr i)
    ∙ sym (four_texts (list_items always the.RecommendedClientProtocols protocols_text rc)
    (list_items always the.RecommendedRelayProtocols protocols_text rr)
    (list_items always the.RequiredClientProtocols protocols_text qc)
    (list_items always the.RequiredRelayProtocols protocols_text qr))

-- the shared random values
randoms_are : (c : ConsensusFacts) → texts.random_lines c ≡ items_text (random_items c)
randoms_are c =
    (λ i. random_is the.SharedRandPreviousValue c.random_previous i
    ++ random_is the.SharedRandCurrentValue c.random_current i)
    ∙ sym (two_texts (item_if the.SharedRandPreviousValue (option_map random_text c.random_previous))
    (item_if the.SharedRandCurrentValue (option_map random_text c.random_current)))

-- the line of flags
flags_are : (keyword : Keyword) (flags : List (List ℕ)) → AreFlagsInRange flags
    → line (text_of keyword) flags ≡ items_text (bare keyword (set_text flags) ∷ [])
flags_are keyword flags are = lines_are keyword flags (filled_words flags (words_of_flags flags are.each))

preamble_is : (flavour : Flavour) (c : ConsensusFacts) → AreFactsInRange flavour c
    → texts.preamble flavour c ≡ items_text (preamble_items flavour c)
preamble_is flavour c are =
    let k = kind_items flavour c.method in
    let t = time_items c in
    let always = is_34_or_later c.method in
    let v = version_items always c.lists in
    let f = bare the.KnownFlags (set_text c.known_flags) ∷ [] in
    let p = protocol_items always c.lists in
    let m = list_items false the.Params params_text c.lists.params in
    (λ i. kinds_are flavour c.method i ++ times_are flavour c are i ++ version_lists_are always c.lists are.lists i
    ++ flags_are the.KnownFlags c.known_flags are.known_flags i ++ protocol_lists_are always c.lists i
    ++ params_are the.Params c.lists.params i ++ randoms_are c i)
    ∙ sym (sections (k ++ t ++ v ++ f ++ p ++ m) (random_items c)
    ∙ ap (λ (l : List ℕ). l ++ items_text (random_items c)) (sections (k ++ t ++ v ++ f ++ p) m
    ∙ ap (λ (l : List ℕ). l ++ items_text m) (sections (k ++ t ++ v ++ f) p
    ∙ ap (λ (l : List ℕ). l ++ items_text p) (four_texts k t v f))))

-- ---- the authorities

source_is : (source : SourceLine) → IsAuthorityInRange source
    → texts.source_lines source ≡ items_text (source_items source)
source_is source are =
    let digest = hex_text source.vote_digest.0 in
    let name_some = length-word source.nickname (word_of_nickname source.nickname are.line.nickname_is) in
    let digest_some =
    length-word digest (word_of_identity source.vote_digest.0 are.vote_digest.count are.vote_digest.each) in
    (λ i. lines_are the.DirSource (source_words source) name_some i ++ rest_is the.Contact source.contact i
    ++ lines_are the.VoteDigest (digest ∷ []) digest_some i)
    ∙ sym (three_texts (words_item the.DirSource (source_words source) ∷ []) (item_if the.Contact source.contact)
    (bare the.VoteDigest digest ∷ []))

sources_are : (list : List SourceLine) → All IsAuthorityInRange list
    → flat_map texts.source_lines list ≡ items_text (flat_map source_items list)
sources_are [] are = refl
sources_are (s ∷ list) are =
    (λ i. source_is s (All-head IsAuthorityInRange s list are) i
    ++ sources_are list (All-tail IsAuthorityInRange s list are) i)
    ∙ sym (sections (source_items s) (flat_map source_items list))

-- ---- the relays

m_is : (flavour : Flavour) (digest : Option Digest2) → IsMicroInRange flavour digest
    → lines.m_line flavour digest ≡ items_text (item_if the.M (m_text flavour digest))
m_is Ns digest are = refl
m_is Microdesc None are = refl
m_is Microdesc (Some digest) are =
    lines_are the.M (base64_text digest.0 ∷ []) (length-word (base64_text digest.0) (word_of_thirty_two digest.0 are))

bandwidth_some : (n : ℕ) → 0 < length (named_text (codes "Bandwidth") n)
unfolding named_text
bandwidth_some n = omega arith

w_is : (w : Option Bandwidth) → lines.w_line w ≡ items_text (item_if the.W (option_map w_text w))
w_is None = refl
w_is (Some w) =
    lines_are the.W (named_text (codes "Bandwidth") w.value ∷ unmeasured_words w.unmeasured) (bandwidth_some w.value)

p_is : (flavour : Flavour) (summary : Option (List ℕ))
    → lines.p_line flavour summary ≡ items_text (item_if the.P (p_text flavour summary))
p_is Ns summary = rest_is the.P summary
p_is Microdesc summary = refl

router_is : (flavour : Flavour) (r : Routerline) → IsRouterInRange flavour r
    → lines.router_lines flavour r ≡ items_text (router_items flavour r)
router_is flavour r are =
    let name_some = length-word r.nickname (word_of_nickname r.nickname are.nickname) in
    let first = words_item the.R (router_words flavour r) ∷ [] in
    let a = item_if the.A r.a in
    let m = item_if the.M (m_text flavour r.m) in
    let s = bare the.S (set_text r.flags) ∷ [] in
    let v = item_if the.V r.v in
    let q = item_if the.Pr r.pr in
    let w = item_if the.W (option_map w_text r.w) in
    let p = item_if the.P (p_text flavour r.p) in
    (λ i. (lines_are the.R (router_words flavour r) name_some i ++ rest_is the.A r.a i ++ m_is flavour r.m are.m i
    ++ flags_are the.S r.flags are.flags i)
    ++ (rest_is the.V r.v i ++ rest_is the.Pr r.pr i ++ w_is r.w i ++ p_is flavour r.p i))
    ∙ (λ i. sym (four_texts first a m s) i ++ sym (four_texts v q w p) i)
    ∙ sym (sections (first ++ a ++ m ++ s) (v ++ q ++ w ++ p))
    ∙ ap items_text (regrouped (first ++ a ++ m ++ s) v q w p)
  where
    regrouped : (f v q w p : List NewItem) → f ++ (v ++ q ++ w ++ p) ≡ f ++ v ++ q ++ w ++ p
    regrouped f v q w p = simp append_assoc refl

routers_are : (flavour : Flavour) (list : List Routerline) → All (IsRouterInRange flavour) (listed flavour list)
    → flat_map (listed_lines flavour) list ≡ items_text (flat_map (router_items flavour) (listed flavour list))
routers_are flavour [] are = refl
routers_are flavour (r ∷ list) are = by (is_listed flavour r) are (λ others. routers_are flavour list others)
  where
    by : (b : Bool) → All (IsRouterInRange flavour) (if b then r ∷ listed flavour list else listed flavour list)
        → (All (IsRouterInRange flavour) (listed flavour list)
        → flat_map (listed_lines flavour) list ≡ items_text (flat_map (router_items flavour) (listed flavour list)))
        → (if b then lines.router_lines flavour r else []) ++ flat_map (listed_lines flavour) list
        ≡ items_text (flat_map (router_items flavour) (if b then r ∷ listed flavour list else listed flavour list))
    by true each others =
        (λ i. router_is flavour r (All-head (IsRouterInRange flavour) r (listed flavour list) each) i
        ++ others (All-tail (IsRouterInRange flavour) r (listed flavour list) each) i)
        ∙ sym (sections (router_items flavour r) (flat_map (router_items flavour) (listed flavour list)))
    by false each others = others each

-- ---- the whole

footer_is : (weights : Option (List ℕ)) → texts.footer_as_read weights ≡ items_text (footer_items weights)
footer_is weights =
    (λ i. lines_are the.DirectoryFooter [] tt i ++ rest_is the.BandwidthWeights weights i)
    ∙ sym (two_texts (bare the.DirectoryFooter [] ∷ []) (item_if the.BandwidthWeights weights))

-- The text without signatures is that of the items before them.
pub facts_are : (c : SignedConsensus) → AreFactsInRange c.flavour c.facts → facts_text c ≡ items_text (unsigned_items c)
unfolding facts_text body
facts_are c are =
    let p = preamble_items c.flavour c.facts in
    let s = flat_map source_items c.facts.sources in
    let r = flat_map (router_items c.flavour) (listed c.flavour c.facts.routers) in
    (λ i. preamble_is c.flavour c.facts are i ++ sources_are c.facts.sources are.sources i
    ++ routers_are c.flavour c.facts.routers are.routers i ++ footer_is c.weights i)
    ∙ sym (four_texts p s r (footer_items c.weights))

signatures_are : (lines : List SignatureLine) → signature_texts lines ≡ items_text (map signature_item lines)
unfolding signature_text
signatures_are [] = refl
signatures_are (line ∷ lines) = ap (λ (l : List ℕ). item_text (signature_item line) ++ l) (signatures_are lines)

-- The text of a consensus is that of its items.
pub consensus_is : (c : SignedConsensus) → AreFactsInRange c.flavour c.facts
    → signed (facts_text c) c.signatures ≡ items_text (consensus_items c)
consensus_is c are =
    (λ i. facts_are c are i ++ signatures_are (in_order c.signatures) i)
    ∙ sym (sections (unsigned_items c) (map signature_item (in_order c.signatures)))
