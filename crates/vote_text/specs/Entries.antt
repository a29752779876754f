-- The canonical text of what a vote says of relays (dir-spec, "Vote and consensus status document formats").
use Rattle.std.specs.{Prelude.{ℕ, List, [], ◌∷◌, ◌++◌, map, option_map}, List.flat_map}
use Rattle.dir_values.specs.FlagSets.{set_text}
use Rattle.dirdoc_grammar.specs.Writing.{NewItem}
use Rattle.frame_terms.specs.declared.keyword.Keyword.{Keyword}
use Rattle.frame_terms.specs.declared.keyword.Keyword.TheVariants as the
use Rattle.frame_values.specs.Items.{bare, item_if}
use Rattle.relay_entries.specs.Texts.{bandwidths_text, ed_text, micro_text, relay_text}
use Rattle.vote_terms.specs.declared.entry.{EntryFacts.EntryFacts, MicroFacts.MicroFacts}

-- ---- the rests of lines

-- who the relay of an entry is, its descriptor, and where it is reached
abbrev pub line_of : EntryFacts → List ℕ
line_of entry =
    relay_text entry.nickname entry.identity entry.digest entry.published entry.ip entry.or_port entry.dir_port

-- methods, and the digest of the microdescriptor that is made under them
abbrev pub micro_line : MicroFacts → List ℕ
micro_line line = micro_text line.methods line.digest

-- ---- items

-- an item for each of these rests of lines
abbrev pub items_each : Keyword → List (List ℕ) → List NewItem
items_each keyword rests = map (bare keyword) rests

-- the relay
abbrev pub relay_items : EntryFacts → List NewItem
relay_items entry = bare the.R (line_of entry) ∷ []

-- its flags
abbrev pub flag_items : EntryFacts → List NewItem
flag_items entry = bare the.S (set_text entry.flags) ∷ []

-- its microdescriptors
abbrev pub micro_items : List MicroFacts → List NewItem
micro_items lines = items_each the.M (map micro_line lines)

-- the items of an entry that says this
abbrev pub entry_items : EntryFacts → List NewItem
entry_items entry =
    relay_items entry ++ items_each the.A entry.addresses ++ flag_items entry ++ item_if the.V entry.version
    ++ item_if the.Pr entry.protocols ++ item_if the.W (option_map bandwidths_text entry.bandwidths)
    ++ item_if the.P entry.policy ++ micro_items entry.micros ++ item_if the.Id (ed_text entry.ed)

-- the items of entries, one after the other
abbrev pub entries_items : List EntryFacts → List NewItem
entries_items entries = flat_map entry_items entries
