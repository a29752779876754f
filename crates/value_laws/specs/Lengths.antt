-- The canonical text of what a text lists is no longer than that text (dir-spec, "Vote and consensus status document
-- formats", the `params`, `client-versions`, `server-versions`, `recommended-..-protocols` and `required-..-protocols`
-- lines).
use Rattle.std.specs.Prelude.{ℕ, ◌≤◌, List, length}
use Rattle.list_values.specs.{Params.params_text, Protocols.protocols_text, VersionLists.versions_text}
use Rattle.value_groups.specs.Listed.{params_in, protocols_in, versions_in}

-- params with single spaces between them, each with its shortest number
abbrev pub ParamsAreNoLonger : Type 0
ParamsAreNoLonger = (text : List ℕ) → length (params_text (params_in text)) ≤ length text

-- versions with commas between them
abbrev pub VersionsAreNoLonger : Type 0
VersionsAreNoLonger = (text : List ℕ) → length (versions_text (versions_in text)) ≤ length text

-- protocols with single spaces between them, each once, with its numbers in the fewest ranges
abbrev pub ProtocolsAreNoLonger : Type 0
ProtocolsAreNoLonger = (text : List ℕ) → length (protocols_text (protocols_in text)) ≤ length text
