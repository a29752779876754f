-- Rows of a vote whose items may be written, but for the limits, and have no objects.
use Rattle.std.proofs.Common.{◌≡◌, ℕ, true, List, [], ◌∷◌, ◌++◌, Option, Some, None, refl, sym, subst}
use Rattle.std.{proofs.lemmas.List.{map-append, Elements.{All-append, All-cons, All-nil}}, specs.Prelude.{All, Bool}}
use Rattle.std.specs.Prelude.{IfSome, false, map, option_map, decimal}
use Rattle.dir_bytes.specs.FieldTexts.{moment_text}
use Rattle.dirdoc_grammar.specs.Writing.{IsLineRest, NewItem}
use Rattle.dir_values.specs.Numbers.{numbers_text}
use Rattle.grammar_laws.specs.Written.{IsItem}
use Rattle.frame_terms.specs.declared.keyword.Keyword.{Keyword}
use Rattle.frame_terms.specs.declared.keyword.Keyword.TheVariants as the
use Rattle.frame_values.specs.{Items.{bare, item_if}, Parts.moment_of}
use Rattle.frame_laws.proofs.{Both.both_hold, Entries.item_of, RowValues.text_entry_if, SaidRows.{entries_of, items_of}}
use Rattle.frame_laws.proofs.WordTexts.{two_words, word_of_number, words_of_numbers}
use Rattle.group_laws.{specs.LineAgain.{IsRandomInRange, delays_text}, proofs.TimeRows.Times}
use Rattle.group_laws.proofs.TimeRows as group
use Rattle.list_values.specs.{Params.params_text, Protocols.protocols_text, VersionLists.versions_text}
use Rattle.list_values.specs.declared.named.Named.{Named}
use Rattle.value_laws.{specs.Ranges.{AreProtocolsInRange, AreVersionsInRange}, proofs.LineWords.rest_of_words}
use Rattle.value_laws.proofs.{ParamsAgain.params_fill, ProtocolsAgain.protocols_fill, VersionsAgain.versions_fill}
use Rattle.value_groups.specs.{Values.random_text, declared.line.RandomLine.RandomLine}
use Rattle.value_groups.specs.declared.value.SharedRandom.{SharedRandom}
use Rattle.vote_terms.specs.declared.lists.VoteLists.{VoteLists}
use Rattle.vote_frame.specs.{Across.keyword_of, declared.frame.VoteValue.VoteValue}
use Rattle.vote_frame.specs.declared.frame.VoteKind.TheVariants as kind
use Rattle.vote_frame.specs.declared.frame.VoteValue.TheVariants as own
use Rattle.vote_laws.{specs.Again.{AreListsInRange, AreMethods, AreVoteParams}, proofs.MayWrite.{bare_may, moment_rest}}
use Rattle.vote_laws.proofs.{VoteItems.VoteRow, VoteLists.{param_rows, protocol_rows, version_rows}}
use Rattle.vote_laws.proofs.VoteRandoms.{random_fills, random_row}

-- ---- texts that stand as they are

-- each is the rest of a line, where it is there
abbrev pub AreRests : List (Option (List ℕ)) → Type 0
AreRests [] = Unit {0}
AreRests (text ∷ texts) = IfSome text IsLineRest × AreRests texts

-- none is there
abbrev pub are_none : List (Option (List ℕ)) → Bool
are_none [] = true
are_none (None ∷ texts) = are_none texts
are_none (Some text ∷ texts) = false

pub no_rests : (texts : List (Option (List ℕ))) → are_none texts ≡ true → AreRests texts
no_rests [] none = tt
no_rests (None ∷ texts) none = both_hold tt (no_rests texts none)
no_rests (Some text ∷ texts) none = absurd (cc none)

-- ---- rows

-- the item may be written, but for the limits, and has no object
pub record IsBare (item : NewItem) : Type 0 where
  pub may : IsItem item
  pub none : item.object ≡ None

-- such are the items of a row
abbrev pub RowIsBare : VoteRow → Type 0
RowIsBare says = All IsBare (map item_of says.entries)

-- and of each of these rows
abbrev pub RowsAreBare : List VoteRow → Type 0
RowsAreBare [] = Unit {0}
RowsAreBare (says ∷ rows) = RowIsBare says × RowsAreBare rows

-- those of two lists
pub both_bare : (front back : List VoteRow) → RowsAreBare front → RowsAreBare back → RowsAreBare (front ++ back)
both_bare [] back first second = second
both_bare (says ∷ front) back first second = both_hold first.0 (both_bare front back first.1 second)

-- so are their items
pub rows_bare : (rows : List VoteRow) → RowsAreBare rows → All IsBare (items_of rows)
rows_bare [] are = All-nil IsBare
rows_bare (says ∷ rows) are =
    subst (λ (items : List NewItem). All IsBare items) (sym (map-append item_of says.entries (entries_of rows)))
    (All-append IsBare (map item_of says.entries) (items_of rows) are.0 (rows_bare rows are.1))

-- ---- items

pub one_bare : (keyword : Keyword) (rest : List ℕ) → IsLineRest rest → IsBare (bare keyword rest)
one_bare keyword rest is = record { may = bare_may keyword rest is; none = refl }

pub once_bare : (keyword : Keyword) (rest : List ℕ) → IsLineRest rest → All IsBare (bare keyword rest ∷ [])
once_bare keyword rest is = All-cons IsBare (bare keyword rest) [] (one_bare keyword rest is) (All-nil IsBare)

-- an item where there is a rest of its line
pub if_bare : (keyword : Keyword) (rest : Option (List ℕ)) → IfSome rest IsLineRest → All IsBare (item_if keyword rest)
if_bare keyword None is = All-nil IsBare
if_bare keyword (Some rest) is = once_bare keyword rest is

-- a text, where there is one
pub text_bare : (keyword : Keyword) (text : Option (List ℕ)) → IfSome text IsLineRest
    → All IsBare (map item_of (text_entry_if {W = VoteValue} keyword text))
text_bare keyword None is = All-nil IsBare
text_bare keyword (Some text) is = once_bare keyword text is

-- the text of a value, where there is one
made_bare : {A : Type 0} (keyword : Keyword) (P : A → Type 0) (text_of : A → List ℕ) (value : Option A) → IfSome value P
    → ((a : A) → P a → IsLineRest (text_of a))
    → All IsBare (map item_of (text_entry_if {W = VoteValue} keyword (option_map text_of value)))
made_bare keyword P text_of None is fills = All-nil IsBare
made_bare keyword P text_of (Some a) is fills = once_bare keyword (text_of a) (fills a is)

pub moment_bare : (keyword : Keyword) (moment : ℕ) → All IsBare (bare keyword (moment_text (moment_of moment)) ∷ [])
moment_bare keyword moment = once_bare keyword (moment_text (moment_of moment)) (moment_rest (moment_of moment))

pub random_bare : (of : RandomLine) (random : Option SharedRandom) → IfSome random IsRandomInRange
    → RowIsBare (random_row of random)
random_bare of None is = All-nil IsBare
random_bare of (Some random) is = once_bare (keyword_of of) (random_text random) (random_fills random is)

pub methods_bare : (methods : Option (List ℕ)) → IfSome methods AreMethods
    → All IsBare (map item_of (text_entry_if {W = VoteValue} the.ConsensusMethods (option_map numbers_text methods)))
methods_bare methods are =
    made_bare the.ConsensusMethods AreMethods numbers_text methods are
    (λ numbers its. rest_of_words (map decimal numbers) (words_of_numbers numbers))

-- ---- groups of rows

pub times_bare : (times : Times)
    → RowsAreBare (group.time_rows kind.Time kind.Delays (λ vote dist. own.Delays vote dist) times)
times_bare times =
    let a = decimal times.vote_seconds in
    let b = decimal times.dist_seconds in
    both_hold (moment_bare the.ValidAfter times.valid_after)
    (both_hold (moment_bare the.FreshUntil times.fresh_until)
    (both_hold (moment_bare the.ValidUntil times.valid_until)
    (both_hold
    (once_bare the.VotingDelay (delays_text times.vote_seconds times.dist_seconds)
    (rest_of_words (a ∷ b ∷ []) (two_words a b (word_of_number times.vote_seconds) (word_of_number times.dist_seconds))))
    tt)))

pub versions_bare : (lists : VoteLists) → AreListsInRange lists → RowsAreBare (version_rows lists)
versions_bare lists are =
    both_hold (one the.ClientVersions lists.client_versions are.client_versions)
    (both_hold (one the.ServerVersions lists.server_versions are.server_versions) tt)
  where
    one : (keyword : Keyword) (versions : Option (List (List ℕ))) → IfSome versions AreVersionsInRange
        → All IsBare (map item_of (text_entry_if {W = VoteValue} keyword (option_map versions_text versions)))
    one keyword versions its = made_bare keyword AreVersionsInRange versions_text versions its versions_fill

pub protocols_bare : (lists : VoteLists) → AreListsInRange lists → RowsAreBare (protocol_rows lists)
protocols_bare lists are =
    both_hold (one the.RecommendedClientProtocols lists.recommended_client_protocols are.recommended_client_protocols)
    (both_hold (one the.RecommendedRelayProtocols lists.recommended_relay_protocols are.recommended_relay_protocols)
    (both_hold (one the.RequiredClientProtocols lists.required_client_protocols are.required_client_protocols)
    (both_hold (one the.RequiredRelayProtocols lists.required_relay_protocols are.required_relay_protocols) tt)))
  where
    one : (keyword : Keyword) (protocols : Option (List (Named (List ℕ)))) → IfSome protocols AreProtocolsInRange
        → All IsBare (map item_of (text_entry_if {W = VoteValue} keyword (option_map protocols_text protocols)))
    one keyword protocols its = made_bare keyword AreProtocolsInRange protocols_text protocols its protocols_fill

pub params_bare : (lists : VoteLists) → AreListsInRange lists → RowsAreBare (param_rows lists)
params_bare lists are =
    both_hold
    (made_bare the.Params AreVoteParams params_text lists.params are.params (λ list its. params_fill list its.each)) tt
