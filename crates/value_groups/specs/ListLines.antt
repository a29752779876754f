-- What the lines say that are lists of values, or the place of what is wrong (dir-spec, "Vote and consensus status
-- document formats").
use Rattle.std.specs.Prelude.{ℕ, Result}
use Rattle.item_terms.specs.Items.{Item}
use Rattle.frame_values.specs.{declared.found.Span.Span, Arguments.arguments_of, Lines.rest_unless}
use Rattle.list_values.specs.{Params.wrong_param, Protocols.wrong_protocol, VersionLists.wrong_version_list}

-- params, in any number, none of them twice
abbrev pub params_of : Item → Result Span ℕ
params_of item = rest_unless (wrong_param (arguments_of item)) item

-- versions of Tor, with commas between them, or no version
abbrev pub versions_of : Item → Result Span ℕ
versions_of item = rest_unless (wrong_version_list (arguments_of item)) item

-- versions of protocols, in any number
abbrev pub protocols_of : Item → Result Span ℕ
protocols_of item = rest_unless (wrong_protocol (arguments_of item)) item
