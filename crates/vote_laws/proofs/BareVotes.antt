-- The items of a vote before its certificate may be written, but for the limits, and have no objects.
use Rattle.std.proofs.{Common.{List, [], ◌∷◌, ◌++◌, refl, sym, ap, subst}, lemmas.List.Elements.{All-append, All-cons}}
use Rattle.std.{proofs.lemmas.List.Elements.All-nil, specs.Prelude.{All, IfSome, codes, decimal}}
use Rattle.dir_bytes.specs.FieldTexts.{address_text, hex_text}
use Rattle.dirdoc_grammar.specs.Writing.{IsLineRest, NewItem}
use Rattle.grammar_laws.proofs.LineRests.{rest_of_argument}
use Rattle.frame_terms.specs.declared.keyword.Keyword.TheVariants as the
use Rattle.frame_values.specs.Items.{bare}
use Rattle.frame_laws.proofs.{Both.both_hold, SaidRows.items_of, WordTexts.{IsWord, two_words, word_of_address}}
use Rattle.frame_laws.proofs.WordTexts.{word_of_identity, word_of_nickname, word_of_number}
use Rattle.value_laws.proofs.LineWords.{rest_of_words}
use Rattle.vote_terms.specs.declared.facts.VoteFacts.{VoteFacts}
use Rattle.vote_text.specs.Texts.{authority_items, preamble_items, source_text}
use Rattle.vote_laws.{specs.Again.HasValuesInRange, proofs.BareRows.{AreRests, IsBare, both_bare, one_bare, rows_bare}}
use Rattle.vote_laws.proofs.VoteRows.{authority, authority_bare, no_randoms, preamble, preamble_bare, preamble_rows}
use Rattle.vote_laws.proofs.{VoteRows.preamble_texts, VoteSame.{authority_same, preamble_same}}
use Rattle.vote_laws.proofs.WrittenSources.{six_in_a_row}

-- ---- its authority

source_rest : (facts : VoteFacts) → HasValuesInRange facts → IsLineRest (source_text facts)
source_rest facts are =
    let a = facts.nickname in
    let b = hex_text facts.identity.0 in
    let c = facts.address in
    let d = address_text facts.ip in
    let e = decimal facts.dir_port in
    let f = decimal facts.or_port in
    let words =
    All-cons IsWord a (b ∷ c ∷ d ∷ e ∷ f ∷ []) (word_of_nickname a are.nickname)
    (All-cons IsWord b (c ∷ d ∷ e ∷ f ∷ [])
    (word_of_identity facts.identity.0 are.identity.count are.identity.each)
    (All-cons IsWord c (d ∷ e ∷ f ∷ []) are.address
    (All-cons IsWord d (e ∷ f ∷ []) (word_of_address facts.ip)
    (two_words e f (word_of_number facts.dir_port) (word_of_number facts.or_port))))) in
    subst IsLineRest (sym (six_in_a_row a (32 ∷ b) (32 ∷ c) (32 ∷ d) (32 ∷ e) (32 ∷ f)))
    (rest_of_words (a ∷ b ∷ c ∷ d ∷ e ∷ f ∷ []) words)

-- ---- its items

in_preamble : (facts : VoteFacts) → HasValuesInRange facts → AreRests (preamble_texts facts)
    → All IsBare (preamble_items facts)
in_preamble facts are texts =
    let version = codes "3" in
    let middle = (preamble facts).middle in
    subst (λ (items : List NewItem). All IsBare items) (sym (preamble_same facts))
    (All-cons IsBare (bare the.NetworkStatusVersion version) (items_of middle)
    (one_bare the.NetworkStatusVersion version (rest_of_argument version refl))
    (rows_bare middle
    (both_bare (preamble_rows facts) no_randoms (preamble_bare facts are texts)
    (both_hold (All-nil IsBare) (both_hold (All-nil IsBare) tt)))))

in_authority : (facts : VoteFacts) → HasValuesInRange facts → IfSome facts.contact IsLineRest
    → All IsBare (authority_items facts)
in_authority facts are contact =
    let middle = (authority facts).middle in
    let source = source_text facts in
    subst (λ (items : List NewItem). All IsBare items) (sym (authority_same facts))
    (All-cons IsBare (bare the.DirSource source) (items_of middle)
    (one_bare the.DirSource source (source_rest facts are)) (rows_bare middle (authority_bare facts are contact)))

-- the items of both sections
pub before_bare : (facts : VoteFacts) → HasValuesInRange facts → AreRests (preamble_texts facts)
    → IfSome facts.contact IsLineRest → All IsBare (preamble_items facts ++ authority_items facts)
before_bare facts are texts contact =
    All-append IsBare (preamble_items facts) (authority_items facts) (in_preamble facts are texts)
    (in_authority facts are contact)
