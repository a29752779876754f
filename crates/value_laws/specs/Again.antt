-- Lists of values that were written are read again (dir-spec, "Vote and consensus status document formats").
use Rattle.std.specs.Prelude.{◌≡◌, ℕ, List, None, Ok, ℤ}
use Rattle.dir_values.specs.Arguments.{arguments_at}
use Rattle.dirdoc_grammar.specs.Writing.{IsLineRest}
use Rattle.list_values.specs.{declared.named.Named.Named, Masks.numbers_of, Params.{params_of, params_text}}
use Rattle.list_values.specs.{Params.wrong_param, Protocols.{protocols_of, protocols_text, wrong_protocol}}
use Rattle.list_values.specs.VersionLists.{version_list, versions_text, wrong_version_list}
use Rattle.value_laws.specs.Ranges.{AreNumbersInRange, AreParamsInRange, AreProtocolsInRange, AreVersionsInRange}

-- ---- params

-- params are read as they were written
abbrev pub ParamsAreReadAgain : Type 0
ParamsAreReadAgain = (params : List (Named ℤ)) → AreParamsInRange params → params_of (params_text params) ≡ Ok params

-- wherever their text stands, nothing in it is wrong
abbrev pub ParamsAreRight : Type 0
ParamsAreRight = (place : ℕ) (params : List (Named ℤ)) → AreParamsInRange params
    → wrong_param (arguments_at place (params_text params)) ≡ None

-- their text may be the rest of a line
abbrev pub ParamsFillLines : Type 0
ParamsFillLines = (params : List (Named ℤ)) → AreParamsInRange params → IsLineRest (params_text params)

-- ---- versions

-- versions are read as they were written, and no version where none was written
abbrev pub VersionsAreReadAgain : Type 0
VersionsAreReadAgain = (versions : List (List ℕ)) → AreVersionsInRange versions
    → version_list (versions_text versions) ≡ Ok versions

-- wherever their text stands, nothing in it is wrong
abbrev pub VersionsAreRight : Type 0
VersionsAreRight = (place : ℕ) (versions : List (List ℕ)) → AreVersionsInRange versions
    → wrong_version_list (arguments_at place (versions_text versions)) ≡ None

-- their text may be the rest of a line
abbrev pub VersionsFillLines : Type 0
VersionsFillLines = (versions : List (List ℕ)) → AreVersionsInRange versions → IsLineRest (versions_text versions)

-- ---- protocols

-- protocols are read as they were written
abbrev pub ProtocolsAreReadAgain : Type 0
ProtocolsAreReadAgain = (protocols : List (Named (List ℕ))) → AreProtocolsInRange protocols
    → protocols_of (protocols_text protocols) ≡ Ok protocols

-- wherever their text stands, nothing in it is wrong
abbrev pub ProtocolsAreRight : Type 0
ProtocolsAreRight = (place : ℕ) (protocols : List (Named (List ℕ))) → AreProtocolsInRange protocols
    → wrong_protocol (arguments_at place (protocols_text protocols)) ≡ None

-- their text may be the rest of a line
abbrev pub ProtocolsFillLines : Type 0
ProtocolsFillLines = (protocols : List (Named (List ℕ))) → AreProtocolsInRange protocols
    → IsLineRest (protocols_text protocols)

-- the numbers of each set that is kept as bits are in range
abbrev pub KeptNumbersAreInRange : Type 0
KeptNumbersAreInRange = (mask : ℕ) → AreNumbersInRange (numbers_of mask)
