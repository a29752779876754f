-- The items of a consensus that says what can be read, and whose texts fill lines, may be written but for limits.
use Rattle.std.proofs.Common.{◌≡◌, ℕ, Bool, true, false, List, [], ◌∷◌, ◌++◌, Option, Some, None, refl, sym, subst}
use Rattle.std.proofs.{Common.append_assoc, lemmas.{List.Elements.{All-append, All-cons, All-nil}, Option.IfSome_then}}
use Rattle.std.specs.{Prelude.{All, IfSome, codes, decimal, option_map, if◌then◌else◌}, List.join_with_byte}
use Rattle.std.specs.Str.{bytes_eq}
use Rattle.item_terms.specs.Bytes.{space}
use Rattle.base64.specs.GeneralPurpose.{IsBytes}
use Rattle.dir_bytes.specs.FieldTexts.{address_text, base64_text, hex_text, moment_text}
use Rattle.dir_values.specs.{FlagSets.set_text, declared.digest.Digest2.Digest2}
use Rattle.dirdoc_grammar.specs.Writing.{IsKeyword, IsLineRest}
use Rattle.grammar_laws.{specs.Written.IsItem, proofs.LineRests.{rest_of_argument, rest_of_nothing}}
use Rattle.frame_terms.specs.{Keywords.text_of, declared.keyword.Keyword.Keyword}
use Rattle.frame_terms.specs.declared.keyword.Keyword.TheVariants as the
use Rattle.frame_values.specs.Parts.{moment_of}
use Rattle.frame_laws.proofs.WordTexts.{AreWords, IsWord, two_words, word_of_address, word_of_identity}
use Rattle.frame_laws.proofs.WordTexts.{word_of_nickname, word_of_number, words_of_flags}
use Rattle.list_values.specs.{Params.params_text, Protocols.protocols_text, VersionLists.versions_text}
use Rattle.value_laws.proofs.{LineWords.rest_of_words, ParamsAgain.params_fill, ProtocolsAgain.protocols_fill}
use Rattle.value_laws.proofs.VersionsAgain.{versions_fill}
use Rattle.group_laws.specs.{LineAgain.{AreFlagsInRange, IsRandomInRange}, Ranges.IsAddressInRange}
use Rattle.group_laws.proofs.{WrittenMicros.word_of_thirty_two, WrittenRelays.word_of_twenty}
use Rattle.value_groups.specs.{Values.random_text, declared.value.SharedRandom.SharedRandom}
use Rattle.vote_laws.proofs.VoteRandoms.{random_fills}
use Rattle.consensus_terms.specs.{Lines.named_text, Methods.is_34_or_later, Routers.{digest_words, name_words}}
use Rattle.consensus_terms.specs.{Routers.{place_words, unmeasured_words}, Signed.signature_item, Texts.source_words}
use Rattle.consensus_terms.specs.{Texts.version_words, declared.consensus.ConsensusFacts.ConsensusFacts}
use Rattle.consensus_terms.specs.declared.consensus.{ConsensusLists.ConsensusLists, SourceLine.SourceLine}
use Rattle.consensus_terms.specs.declared.flavour.Flavour.{Flavour, TheVariants.{Ns, Microdesc}}
use Rattle.consensus_terms.specs.declared.router.{Bandwidth.Bandwidth, Routerline.Routerline}
use Rattle.consensus_terms.specs.declared.signature.SignatureLine.{SignatureLine}
use Rattle.consensus_laws.specs.Again.{AreFactsInRange, AreListsInRange, IsAuthorityInRange, IsMicroInRange}
use Rattle.consensus_laws.specs.{Again.{IsRouterInRange, IsSignatureInRange}, Items.{kind_items, list_items, m_text}}
use Rattle.consensus_laws.specs.Items.{p_text, preamble_items, protocol_items, router_items, router_words, source_items}
use Rattle.consensus_laws.specs.Items.{time_items, version_items, w_text}
use Rattle.computed_laws.proofs.Forms.{AreItems, IsFilled, after, bare_are, bare_is, if_are, join_filled, moment_filled}
use Rattle.computed_laws.proofs.Forms.{named_word, no_items, word_filled, words_filled, ◌&◌}

-- ---- the preamble

versions_are : (flavour : Flavour) → IsLineRest (join_with_byte space (version_words flavour))
versions_are Ns = rest_of_argument (codes "3") refl
versions_are Microdesc =
    rest_of_words (codes "3" ∷ codes "microdesc" ∷ []) (two_words (codes "3") (codes "microdesc") refl refl)

kinds_are : (flavour : Flavour) (method : ℕ) → AreItems (kind_items flavour method)
kinds_are flavour method =
    after (bare_is the.NetworkStatusVersion (join_with_byte space (version_words flavour))
    (record { first = refl; each = refl }) (versions_are flavour))
    (after (bare_is the.VoteStatus (codes "consensus") (record { first = refl; each = refl })
    (rest_of_argument (codes "consensus") refl))
    (bare_are the.ConsensusMethod (decimal method) (record { first = refl; each = refl })
    (rest_of_argument (decimal method) (word_of_number method))))

moment_rest : (moment : ℕ) → IsLineRest (moment_text (moment_of moment))
moment_rest moment = (moment_filled (moment_of moment)).rest

times_are : (c : ConsensusFacts) → AreItems (time_items c)
times_are c =
    after (bare_is the.ValidAfter (moment_text (moment_of c.valid_after)) (record { first = refl; each = refl })
    (moment_rest c.valid_after))
    (after (bare_is the.FreshUntil (moment_text (moment_of c.fresh_until)) (record { first = refl; each = refl })
    (moment_rest c.fresh_until))
    (after (bare_is the.ValidUntil (moment_text (moment_of c.valid_until)) (record { first = refl; each = refl })
    (moment_rest c.valid_until))
    (bare_are the.VotingDelay (join_with_byte space (decimal c.vote_seconds ∷ decimal c.dist_seconds ∷ []))
    (record { first = refl; each = refl })
    (rest_of_words (decimal c.vote_seconds ∷ decimal c.dist_seconds ∷ [])
    (two_words (decimal c.vote_seconds) (decimal c.dist_seconds) (word_of_number c.vote_seconds)
    (word_of_number c.dist_seconds))))))

-- a list
list_are : {X : Type 0} (always : Bool) (keyword : Keyword) (text : List X → List ℕ) (list : List X)
    → IsKeyword (text_of keyword) → IsLineRest (text list) → AreItems (list_items always keyword text list)
list_are true keyword text (x ∷ rest) is fills = bare_are keyword (text (x ∷ rest)) is fills
list_are false keyword text (x ∷ rest) is fills = bare_are keyword (text (x ∷ rest)) is fills
list_are true keyword text [] is fills =
    after (record { keyword = is; arguments = rest_of_nothing; object = tt }) no_items
list_are false keyword text [] is fills = no_items

versions_listed : (always : Bool) (lists : ConsensusLists) → AreListsInRange lists
    → AreItems (version_items always lists)
versions_listed always lists are =
    list_are always the.ClientVersions versions_text lists.client_versions (record { first = refl; each = refl })
    (versions_fill lists.client_versions are.client_versions)
    & list_are always the.ServerVersions versions_text lists.server_versions (record { first = refl; each = refl })
    (versions_fill lists.server_versions are.server_versions)

protocols_listed : (always : Bool) (lists : ConsensusLists) → AreListsInRange lists
    → AreItems (protocol_items always lists)
protocols_listed always lists are =
    list_are always the.RecommendedClientProtocols protocols_text lists.recommended_client_protocols
    (record { first = refl; each = refl })
    (protocols_fill lists.recommended_client_protocols are.recommended_client_protocols)
    & list_are always the.RecommendedRelayProtocols protocols_text lists.recommended_relay_protocols
    (record { first = refl; each = refl })
    (protocols_fill lists.recommended_relay_protocols are.recommended_relay_protocols)
    & list_are always the.RequiredClientProtocols protocols_text lists.required_client_protocols
    (record { first = refl; each = refl })
    (protocols_fill lists.required_client_protocols are.required_client_protocols)
    & list_are always the.RequiredRelayProtocols protocols_text lists.required_relay_protocols
    (record { first = refl; each = refl })
    (protocols_fill lists.required_relay_protocols are.required_relay_protocols)

flags_fill : (flags : List (List ℕ)) → AreFlagsInRange flags → IsLineRest (set_text flags)
flags_fill flags are = rest_of_words flags (words_of_flags flags are.each)

randoms_fill : (random : Option SharedRandom) → IfSome random IsRandomInRange
    → IfSome (option_map random_text random) IsLineRest
randoms_fill None are = tt
randoms_fill (Some random) are = random_fills random are

pub preamble_are : (flavour : Flavour) (c : ConsensusFacts) → AreFactsInRange flavour c
    → AreItems (preamble_items flavour c)
preamble_are flavour c are =
    kinds_are flavour c.method & times_are c & versions_listed (is_34_or_later c.method) c.lists are.lists
    & bare_are the.KnownFlags (set_text c.known_flags) (record { first = refl; each = refl })
    (flags_fill c.known_flags are.known_flags)
    & protocols_listed (is_34_or_later c.method) c.lists are.lists
    & list_are false the.Params params_text c.lists.params (record { first = refl; each = refl })
    (params_fill c.lists.params are.lists.params)
    & (if_are the.SharedRandPreviousValue (option_map random_text c.random_previous) (record { first = refl; each = refl })
    (randoms_fill c.random_previous are.random_previous)
    & if_are the.SharedRandCurrentValue (option_map random_text c.random_current) (record { first = refl; each = refl })
    (randoms_fill c.random_current are.random_current))

-- ---- an authority

source_words_are : (s : SourceLine) → IsAuthorityInRange s → AreWords (source_words s)
source_words_are s are =
    let b : List ℕ = hex_text s.identity.0 in
    let d : List ℕ = address_text s.ip in
    let e : List ℕ = decimal s.dir_port in
    let f : List ℕ = decimal s.or_port in
    let is = are.line in
    All-cons IsWord s.nickname (b ∷ s.address ∷ d ∷ e ∷ f ∷ []) (word_of_nickname s.nickname is.nickname_is)
    (All-cons IsWord b (s.address ∷ d ∷ e ∷ f ∷ [])
    (word_of_identity s.identity.0 is.identity_is.count is.identity_is.each)
    (All-cons IsWord s.address (d ∷ e ∷ f ∷ []) is.address_is
    (All-cons IsWord d (e ∷ f ∷ []) (word_of_address s.ip)
    (two_words e f (word_of_number s.dir_port) (word_of_number s.or_port)))))

pub source_are : (s : SourceLine) → IsAuthorityInRange s → IfSome s.contact IsLineRest → AreItems (source_items s)
source_are s are contact =
    bare_are the.DirSource (join_with_byte space (source_words s)) (record { first = refl; each = refl })
    (rest_of_words (source_words s) (source_words_are s are))
    & if_are the.Contact s.contact (record { first = refl; each = refl }) contact
    & bare_are the.VoteDigest (hex_text s.vote_digest.0) (record { first = refl; each = refl })
    (rest_of_argument (hex_text s.vote_digest.0)
    (word_of_identity s.vote_digest.0 are.vote_digest.count are.vote_digest.each))

-- ---- a relay

-- the texts of a relay that are taken as they stand may be the rests of lines
pub record HasTexts (r : Routerline) : Type 0 where
  pub version : IfSome r.v IsLineRest
  pub protocols : IfSome r.pr IsLineRest
  pub policy : IfSome r.p IsLineRest

digest_filled : (flavour : Flavour) (r : Routerline) → IsRouterInRange flavour r → All IsFilled (digest_words flavour r)
digest_filled Ns r are =
    words_filled (base64_text r.digest.0 ∷ [])
    (All-cons IsWord (base64_text r.digest.0) [] (word_of_twenty r.digest.0 are.digest) (All-nil IsWord))
digest_filled Microdesc r are = All-nil IsFilled

place_filled : (r : Routerline) → All IsFilled (place_words r)
place_filled r =
    let d : List ℕ = address_text r.ip in
    let e : List ℕ = decimal r.or_port in
    let f : List ℕ = decimal r.dir_port in
    All-cons IsFilled (moment_text r.published) (d ∷ e ∷ f ∷ []) (moment_filled r.published)
    (All-cons IsFilled d (e ∷ f ∷ []) (word_filled d (word_of_address r.ip))
    (words_filled (e ∷ f ∷ []) (two_words e f (word_of_number r.or_port) (word_of_number r.dir_port))))

name_filled : (flavour : Flavour) (r : Routerline) → IsRouterInRange flavour r → All IsFilled (name_words r)
name_filled flavour r are =
    words_filled (name_words r)
    (two_words r.nickname (base64_text r.identity.0) (word_of_nickname r.nickname are.nickname)
    (word_of_twenty r.identity.0 are.identity))

first_line : (flavour : Flavour) (r : Routerline) → IsRouterInRange flavour r
    → IsLineRest (join_with_byte space (router_words flavour r))
first_line flavour r are =
    let each : All IsFilled (router_words flavour r) =
    All-append IsFilled (name_words r ++ digest_words flavour r) (place_words r)
    (All-append IsFilled (name_words r) (digest_words flavour r) (name_filled flavour r are) (digest_filled flavour r are))
    (place_filled r) in
    (join_filled r.nickname (base64_text r.identity.0 ∷ [] ++ digest_words flavour r ++ place_words r) each).rest

m_fills : (flavour : Flavour) (m : Option Digest2) → IsMicroInRange flavour m → IfSome (m_text flavour m) IsLineRest
m_fills Ns m is = tt
m_fills Microdesc None is = tt
m_fills Microdesc (Some d) is = rest_of_argument (base64_text d.0) (word_of_thirty_two d.0 is)

w_rest : (value : ℕ) (unmeasured : Bool)
    → IsLineRest (join_with_byte space (named_text (codes "Bandwidth") value ∷ unmeasured_words unmeasured))
w_rest value true =
    rest_of_words (named_text (codes "Bandwidth") value ∷ codes "Unmeasured=1" ∷ [])
    (two_words (named_text (codes "Bandwidth") value) (codes "Unmeasured=1") (named_word (codes "Bandwidth") value refl) refl)
w_rest value false =
    rest_of_argument (named_text (codes "Bandwidth") value) (named_word (codes "Bandwidth") value refl)

w_fills : (w : Option Bandwidth) → IfSome (option_map w_text w) IsLineRest
w_fills None = tt
w_fills (Some w) = w_rest w.value w.unmeasured

p_fills : (flavour : Flavour) (p : Option (List ℕ)) → IfSome p IsLineRest → IfSome (p_text flavour p) IsLineRest
p_fills Ns p is = is
p_fills Microdesc p is = tt

pub router_are : (flavour : Flavour) (r : Routerline) → IsRouterInRange flavour r → HasTexts r
    → AreItems (router_items flavour r)
router_are flavour r are texts =
    bare_are the.R (join_with_byte space (router_words flavour r)) (record { first = refl; each = refl })
    (first_line flavour r are)
    & if_are the.A r.a (record { first = refl; each = refl })
    (IfSome_then r.a {P = IsAddressInRange} {Q = IsLineRest} are.a (λ text is. rest_of_argument text is.word))
    & if_are the.M (m_text flavour r.m) (record { first = refl; each = refl }) (m_fills flavour r.m are.m)
    & bare_are the.S (set_text r.flags) (record { first = refl; each = refl }) (flags_fill r.flags are.flags)
    & if_are the.V r.v (record { first = refl; each = refl }) texts.version
    & if_are the.Pr r.pr (record { first = refl; each = refl }) texts.protocols
    & if_are the.W (option_map w_text r.w) (record { first = refl; each = refl }) (w_fills r.w)
    & if_are the.P (p_text flavour r.p) (record { first = refl; each = refl }) (p_fills flavour r.p texts.policy)

-- ---- a signature

signer_fills : (s : SignatureLine) → IsSignatureInRange s → (b : Bool)
    → IsLineRest ((if b then [] else s.algorithm ++ space ∷ []) ++ hex_text s.identity.0 ++ space ∷ hex_text s.key_digest.0)
signer_fills s are b = by b
  where
    first : List ℕ
    first = hex_text s.identity.0

    second : List ℕ
    second = hex_text s.key_digest.0

    words : AreWords (first ∷ second ∷ [])
    words =
        two_words first second (word_of_identity s.identity.0 are.identity.count are.identity.each)
        (word_of_identity s.key_digest.0 are.key_digest.count are.key_digest.each)

    moved : (a b c : List ℕ) → ((a ++ space ∷ []) ++ b) ++ c ≡ a ++ space ∷ (b ++ c)
    moved a b c = simp append_assoc refl

    by : (b : Bool) → IsLineRest ((if b then [] else s.algorithm ++ space ∷ []) ++ first ++ space ∷ second)
    by true = rest_of_words (first ∷ second ∷ []) words
    by false =
        subst IsLineRest (sym (moved s.algorithm first (space ∷ second)))
        (rest_of_words (s.algorithm ∷ first ∷ second ∷ [])
        (All-cons IsWord s.algorithm (first ∷ second ∷ []) are.algorithm words))

pub signature_is : (s : SignatureLine) → IsSignatureInRange s → IsBytes s.signature → IsItem (signature_item s)
signature_is s are bytes = record {
  keyword = record { first = refl; each = refl };
  arguments = signer_fills s are (bytes_eq s.algorithm (codes "sha1"));
  object = record { words = refl; bytes = bytes };
}
