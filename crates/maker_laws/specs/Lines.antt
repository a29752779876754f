-- The lines of a vote that say what a station is given are no longer than a line may be (dir-spec, "Document
-- meta-format").
use Rattle.std.specs.Prelude.{◌≡◌, ℕ, ◌+◌, ◌≤◌, List, length, All, Ok}
use Rattle.item_terms.specs.Faults.{max_line}
use Rattle.dirdoc_grammar.specs.Writing.{NewItem, keyword_text}
use Rattle.frame_terms.specs.declared.keyword.Keyword.TheVariants as the
use Rattle.frame_values.specs.Items.{bare, item_if}
use Rattle.count_terms.specs.declared.newest.Newest.{Newest}
use Rattle.station_input.specs.{Reading.station_of, declared.facts.StationFacts.StationFacts}
use Rattle.vote_terms.specs.declared.facts.VoteFacts.{VoteFacts}
use Rattle.vote_text.specs.{Lists.{param_items, protocol_items, version_items}, Texts.source_text}

-- the line of an item is no longer than a line may be, with its NL
abbrev pub HasShortLine : NewItem → Type 0
HasShortLine item = length (keyword_text item) + 1 ≤ max_line

-- The lines of a vote's lists, of who its authority is and of its contact are such.
pub record HasShortLines (facts : VoteFacts) : Type 0 where
  pub versions : All HasShortLine (version_items facts.lists)
  pub protocols : All HasShortLine (protocol_items facts.lists)
  pub params : All HasShortLine (param_items facts.lists.params)
  pub source : HasShortLine (bare the.DirSource (source_text facts))
  pub contact : All HasShortLine (item_if the.Contact facts.contact)

-- A vote says of its authority, of its contact and in its lists what a station is given.
pub record SaysAsGiven (facts : VoteFacts) (station : StationFacts) : Type 0 where
  pub nickname : facts.nickname ≡ station.nickname
  pub identity : facts.identity ≡ station.identity
  pub address : facts.address ≡ station.address
  pub ip : facts.ip ≡ station.ip
  pub dir_port : facts.dir_port ≡ station.dir_port
  pub or_port : facts.or_port ≡ station.or_port
  pub contact : facts.contact ≡ station.contact
  pub lists : facts.lists ≡ station.lists

-- Where that was read of bytes, these lines are no longer than a line may be.
abbrev pub GivenLinesAreShort : Type 0
GivenLinesAreShort =
    (newest : Newest) (bytes : List ℕ) (station : StationFacts) (used : ℕ) (facts : VoteFacts)
    → station_of newest bytes ≡ Ok (station, used) → SaysAsGiven facts station → HasShortLines facts
