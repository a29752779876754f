-- The lines of a health report. Identities stand in them as 40 hex digits in upper case.
use Rattle.std.specs.Prelude.{ℕ, ℤ, Bool, List, [], ◌∷◌, ◌++◌, Option, Some, None, codes, decimal, if◌then◌else◌}
use Rattle.std.specs.{Fmt.signed_decimal, Option.option_map_or, List.flat_map}
use Rattle.item_terms.specs.Bytes.{space, line_feed}
use Rattle.dir_bytes.specs.FieldTexts.{moment_text, hex_text}
use Rattle.dir_values.specs.FlagSets.{as_set, has_flag}
use Rattle.list_values.specs.{Equations.equals, Maps.{value_at, names_of}, declared.named.Named.Named}
use Rattle.vote_terms.specs.Votes.{ReadVote}
use Rattle.compute_terms.specs.Listings.{Listing}
use Rattle.health_report.specs.declared.opinion.Opinion.{Opinion}

-- an identity behind a space
abbrev pub identity_word : List ℕ → List ℕ
identity_word identity = space ∷ hex_text identity

-- a line of a keyword and an identity, by its bytes
unfoldable pub identity_line : List ℕ → List ℕ → List ℕ
identity_line keyword identity = keyword ++ identity_word identity ++ line_feed ∷ []

-- a line of a keyword and a number
unfoldable pub number_line : List ℕ → ℕ → List ℕ
number_line keyword number = keyword ++ space ∷ decimal number ++ line_feed ∷ []

-- the line of the period
unfoldable pub period_line : ℕ → List ℕ
period_line valid_after = codes "report " ++ moment_text valid_after ++ line_feed ∷ []

-- the first lines: the period, how many authorities there are, and how many votes are held
unfoldable pub head_lines : ℕ → ℕ → ℕ → List ℕ
head_lines valid_after authorities votes =
    period_line valid_after ++ number_line (codes "authorities") authorities ++ number_line (codes "votes") votes

-- ---- params

-- the value that a vote gives a param, behind the identity of its authority; nothing where it gives none
abbrev pub value_word : List ℕ → Option ℤ → List ℕ
value_word authority None = []
value_word authority (Some value) = identity_word authority ++ equals ∷ signed_decimal value

-- the value of a param among some, where there are some
abbrev pub value_among : List ℕ → Option (List (Named ℤ)) → Option ℤ
value_among name None = None
value_among name (Some params) = value_at params name

-- the same, in a vote
abbrev pub vote_value : List ℕ → ReadVote → List ℕ
vote_value name vote = value_word vote.says.identity.0 (value_among name vote.says.lists.params)

-- the line of a param: which vote gives it which value
unfoldable pub param_line : List ReadVote → List ℕ → List ℕ
param_line votes name = codes "param " ++ name ++ flat_map (vote_value name) votes ++ line_feed ∷ []

-- the names of the params of a vote
abbrev pub param_names : ReadVote → List (List ℕ)
param_names vote = option_map_or names_of vote.says.lists.params []

-- ---- relays

-- what the authority of a vote says of a relay that the vote lists
abbrev pub opinion_of : Listing → Opinion
opinion_of listing = record { authority = listing.vote.says.identity; flags = listing.entry.flags }

-- the authority of an opinion, behind a space
abbrev pub authority_word : Opinion → List ℕ
authority_word opinion = identity_word opinion.authority.0

-- the same, where the opinion sets a flag; else nothing
abbrev pub setting_word : List ℕ → Opinion → List ℕ
setting_word flag opinion = if has_flag opinion.flags flag then authority_word opinion else []

-- whether the consensus lists a relay, as a word
abbrev pub state_word : Bool → List ℕ
state_word listed = if listed then codes " in" else codes " out"

-- the line of a relay
unfoldable pub relay_line : Bool → List ℕ → List Opinion → List ℕ
relay_line listed identity opinions =
    codes "relay " ++ hex_text identity ++ state_word listed ++ flat_map authority_word opinions ++ line_feed ∷ []

-- the line of a flag of a relay
unfoldable pub flag_line : List ℕ → List Opinion → List ℕ → List ℕ
flag_line identity opinions flag =
    codes "flag " ++ hex_text identity ++ space ∷ flag ++ flat_map (setting_word flag) opinions ++ line_feed ∷ []

-- the flags that some opinion sets, in the order of their bytes
unfoldable pub flags_set : List Opinion → List (List ℕ)
flags_set opinions = as_set (flat_map (λ (o : Opinion). o.flags) opinions)

-- the lines of a relay and of its flags
unfoldable pub relay_lines : Bool → List ℕ → List Opinion → List ℕ
relay_lines listed identity opinions =
    relay_line listed identity opinions ++ flat_map (flag_line identity opinions) (flags_set opinions)
