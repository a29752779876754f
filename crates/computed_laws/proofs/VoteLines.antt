-- The texts of a vote that may be written fill lines.
use Rattle.std.proofs.{Common.{ℕ, ◌+◌, List, [], ◌∷◌, ◌++◌, length, Option, Some, None}, lemmas.List.Elements.All-cons}
use Rattle.std.{proofs.lemmas.List.Elements.{All-head, All-nil, All-tail}, specs.Prelude.{All, IfSome, option_map}}
use Rattle.dirdoc_grammar.specs.Writing.{AreWritable, IsLineRest, NewItem, item_text}
use Rattle.frame_terms.specs.declared.keyword.Keyword.{Keyword}
use Rattle.frame_terms.specs.declared.keyword.Keyword.TheVariants as the
use Rattle.frame_values.specs.Items.{bare, item_if}
use Rattle.relay_entries.specs.Texts.{bandwidths_text, ed_text}
use Rattle.authority_certs.specs.Texts.{cert_items}
use Rattle.vote_terms.specs.{declared.{entry.EntryFacts.EntryFacts, facts.VoteFacts.VoteFacts}, Votes.max_vote}
use Rattle.vote_text.specs.Entries.{entries_items, entry_items, flag_items, items_each, micro_items, relay_items}
use Rattle.vote_text.specs.Texts.{authority_items, footer_items, preamble_items, random_items, source_text, vote_items}
use Rattle.vote_laws.proofs.Members.{back_of, front_of}
use Rattle.computed_laws.specs.WithinLimits.{FillsLines, HasLineTexts, ReadableVotesFillLines}

-- the line of an item may have its rest
abbrev pub Fills : NewItem → Type 0
Fills item = IsLineRest item.arguments

fill : (limit place : ℕ) (items : List NewItem) → AreWritable limit place items → All Fills items
fill limit place [] are = All-nil Fills
fill limit place (item ∷ items) are =
    All-cons Fills item items are.0.arguments (fill limit (place + length (item_text item)) items are.1)

-- ---- texts of items

-- the rest of the line of an item, where there is one
said : (keyword : Keyword) (rest : Option (List ℕ)) → All Fills (item_if keyword rest) → IfSome rest IsLineRest
said keyword None all = tt
said keyword (Some rest) all = All-head Fills (bare keyword rest) [] all

-- ---- an entry

entry_fills : (e : EntryFacts) → All Fills (entry_items e) → HasLineTexts e
entry_fills e all =
    let named : List NewItem = relay_items e ++ items_each the.A e.addresses ++ flag_items e in
    let version : List NewItem = item_if the.V e.version in
    let protocols : List NewItem = item_if the.Pr e.protocols in
    let bandwidths : List NewItem = item_if the.W (option_map bandwidths_text e.bandwidths) in
    let policy : List NewItem = item_if the.P e.policy in
    let to_protocols : List NewItem = named ++ version ++ protocols in
    let to_policy : List NewItem = to_protocols ++ bandwidths ++ policy in
    let micros : List NewItem = micro_items e.micros in
    let all_to_policy : All Fills to_policy =
    front_of Fills to_policy micros (front_of Fills (to_policy ++ micros) (item_if the.Id (ed_text e.ed)) all) in
    let all_to_protocols : All Fills to_protocols =
    front_of Fills to_protocols bandwidths (front_of Fills (to_protocols ++ bandwidths) policy all_to_policy) in
    record {
      version = said the.V e.version
          (back_of Fills named version (front_of Fills (named ++ version) protocols all_to_protocols));
      protocols = said the.Pr e.protocols (back_of Fills (named ++ version) protocols all_to_protocols);
      policy = said the.P e.policy (back_of Fills (to_protocols ++ bandwidths) policy all_to_policy);
    }

entries_fill : (entries : List EntryFacts) → All Fills (entries_items entries) → All HasLineTexts entries
entries_fill [] all = All-nil HasLineTexts
entries_fill (e ∷ rest) all =
    All-cons HasLineTexts e rest (entry_fills e (front_of Fills (entry_items e) (entries_items rest) all))
    (entries_fill rest (back_of Fills (entry_items e) (entries_items rest) all))

-- ---- the vote

-- of items whose lines have their rests
pub vote_fills : (facts : VoteFacts) → All Fills (vote_items facts) → FillsLines facts
vote_fills facts all =
    let first : List NewItem = preamble_items facts in
    let authority : List NewItem = authority_items facts in
    let cert : List NewItem = cert_items facts.certificate in
    let entries : List NewItem = entries_items facts.entries in
    let unsigned : All Fills (first ++ authority ++ cert ++ entries) =
    front_of Fills (first ++ authority ++ cert ++ entries) (footer_items facts.signature) all in
    let own : All Fills authority =
    back_of Fills first authority
    (front_of Fills (first ++ authority) cert (front_of Fills (first ++ authority ++ cert) entries unsigned)) in
    record {
      contact = said the.Contact facts.contact
          (front_of Fills (item_if the.Contact facts.contact) (random_items facts)
          (All-tail Fills (bare the.DirSource (source_text facts))
          (item_if the.Contact facts.contact ++ random_items facts) own));
      entries = entries_fill facts.entries (back_of Fills (first ++ authority ++ cert) entries unsigned);
    }

pub readable_fill : ReadableVotesFillLines
readable_fill facts is = vote_fills facts (fill max_vote 0 (vote_items facts) is.items)
