-- The report on an authority's period.
use Rattle.std.specs.Prelude.{ℕ, ◌-◌, ◌==◌, List, [], ◌∷◌, ◌++◌, length, codes, decimal, Option, Some, None}
use Rattle.std.specs.Prelude.{if◌then◌else◌}
use Rattle.hex.specs.Hex.{encode_lower}
use Rattle.dir_bytes.specs.FieldTexts.{hex_text}
use Rattle.dir_values.specs.declared.digest.Fingerprint.{Fingerprint}
use Rattle.item_terms.specs.Bytes.{line_feed}
use Rattle.period_terms.specs.declared.{change.{Change.Change, ChangeKind.ChangeKind}, state.State.State}
use Rattle.period_terms.specs.declared.change.ChangeKind.TheVariants as kind

-- the word of a kind of changes
abbrev pub kind_word : ChangeKind → List ℕ
kind_word kind.Vote = codes "vote"
kind_word kind.Freeze = codes "freeze"
kind_word kind.Compute = codes "compute"
kind_word kind.NoConsensus = codes "no-consensus"
kind_word kind.Sign = codes "sign"
kind_word kind.NoOwnVote = codes "no-own-vote"
kind_word kind.Signature = codes "signature"
kind_word kind.Publish = codes "publish"
kind_word kind.Miss = codes "miss"
kind_word kind.Begin = codes "begin"

-- the identity of an authority in hex digits, in upper case; `-` where there is none
abbrev pub authority_text : Option Fingerprint → List ℕ
authority_text None = codes "-"
authority_text (Some authority) = hex_text authority.0

-- digests in hex digits, in lower case; `-` where there are none
abbrev pub digests_text : List ℕ → List ℕ
digests_text digests = if length digests == 0 then codes "-" else encode_lower digests

-- the front of a change's line: its number, and its kind
abbrev pub line_front : ℕ → ChangeKind → List ℕ
line_front number what = codes "change " ++ decimal number ++ codes " " ++ kind_word what ++ codes " "

-- the back of a change's line: its authority, its moment, and its digests
abbrev pub line_back : Change → List ℕ
line_back change =
    authority_text change.authority ++ codes " " ++ decimal change.published
    ++ codes " " ++ digests_text change.digest ++ line_feed ∷ []

-- the line of a change with its number
abbrev pub change_line : ℕ → Change → List ℕ
change_line number change = line_front number change.kind ++ line_back change

-- the lines of changes in their order, up to a front: the number of each is the front after it, which is the last one
-- less the changes behind it
unfoldable pub change_lines : ℕ → List Change → List ℕ
change_lines front [] = []
change_lines front (change ∷ later) =
    change_line (front - length later) change ++ change_lines front later

-- the line of a front
abbrev pub front_line : ℕ → List ℕ
front_line front = codes "front " ++ decimal front ++ line_feed ∷ []

-- the report on a state: its front, and its changes since the period began
abbrev pub report_text : State → List ℕ
report_text state = front_line state.front ++ change_lines state.front state.changes
