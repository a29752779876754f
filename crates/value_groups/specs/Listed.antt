-- What the texts of such lines list. Each text that is read lists something, so that nothing is lost.
use Rattle.std.specs.Prelude.{ℕ, ℤ, List, [], Result, Ok, Err}
use Rattle.dir_values.specs.declared.refusal.ValueRefusal.{ValueRefusal}
use Rattle.list_values.specs.{declared.named.Named.Named, Params.params_of, Protocols.protocols_of}
use Rattle.list_values.specs.VersionLists.{version_list}

-- the members of a list that was read, and none of one that could not be
abbrev pub members_of : {A : Type 0} → Result (List A) ValueRefusal → List A
members_of (Ok members) = members
members_of (Err refusal) = []

-- the params of a text
abbrev pub params_in : List ℕ → List (Named ℤ)
params_in text = members_of (params_of text)

-- the versions of Tor of a text
abbrev pub versions_in : List ℕ → List (List ℕ)
versions_in text = members_of (version_list text)

-- the versions of protocols of a text
abbrev pub protocols_in : List ℕ → List (Named (List ℕ))
protocols_in text = members_of (protocols_of text)
