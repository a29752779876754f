-- The lists of a vote, row by row: each is read as the list that it was written for.
use Rattle.std.{proofs.Common.{◌≡◌, List, [], ◌∷◌, ◌++◌, ℕ, Option, Some, None}, specs.Prelude.{ℤ, IfSome, option_map}}
use Rattle.frame_terms.specs.declared.document.Taken.{Taken}
use Rattle.frame_terms.specs.declared.keyword.Keyword.TheVariants as the
use Rattle.frame_terms.specs.declared.row.Limit.TheVariants as limit
use Rattle.frame_values.specs.{Parts.part, Values.{item_at, text_if}, declared.values.Value.Value}
use Rattle.frame_laws.proofs.{Both.both_hold, ReadRows.IsRead, SaidRows.AreSaid}
use Rattle.group_laws.proofs.ListRows.{AreParamsWithin}
use Rattle.group_laws.proofs.ListRows as group
use Rattle.list_values.specs.declared.named.Named.{Named}
use Rattle.value_groups.specs.Listed.{params_in}
use Rattle.value_laws.specs.Ranges.{AreParamsInRange}
use Rattle.vote_terms.specs.declared.lists.VoteLists.{VoteLists}
use Rattle.vote_frame.specs.{Tables.vote_tables, declared.frame.VoteValue.VoteValue}
use Rattle.vote_laws.{specs.Again.{AreListsInRange, AreVoteParams}, proofs.VoteItems.{VoteRow, has_lists, list_kinds}}

-- the rows of two lists
pub both_said : (front back : List VoteRow) → AreSaid vote_tables front → AreSaid vote_tables back
    → AreSaid vote_tables (front ++ back)
both_said [] back a b = b
both_said (one ∷ front) back a b = both_hold a.0 (both_said front back a.1 b)

-- ---- the rows of a preamble

abbrev pub version_rows : VoteLists → List VoteRow
version_rows lists = group.version_rows list_kinds lists.client_versions lists.server_versions

abbrev pub protocol_rows : VoteLists → List VoteRow
protocol_rows lists =
    group.protocol_rows list_kinds lists.recommended_client_protocols lists.recommended_relay_protocols
    lists.required_client_protocols lists.required_relay_protocols

abbrev pub param_rows : VoteLists → List VoteRow
param_rows lists = group.params_row list_kinds lists.params ∷ []

pub versions_said : (lists : VoteLists) → AreListsInRange lists → AreSaid vote_tables (version_rows lists)
versions_said lists are =
    group.versions_said has_lists lists.client_versions lists.server_versions are.client_versions are.server_versions

pub protocols_said : (lists : VoteLists) → AreListsInRange lists → AreSaid vote_tables (protocol_rows lists)
protocols_said lists are =
    group.protocols_said has_lists lists.recommended_client_protocols lists.recommended_relay_protocols
    lists.required_client_protocols lists.required_relay_protocols are.recommended_client_protocols
    are.recommended_relay_protocols are.required_client_protocols are.required_relay_protocols

params_within : (params : Option (List (Named ℤ))) → IfSome params AreVoteParams
    → IfSome params (AreParamsWithin (Some limit.Params))
params_within None are = tt
params_within (Some params) are = record { few = are.count; each = are.each }

pub params_said : (lists : VoteLists) → AreListsInRange lists → AreSaid vote_tables (param_rows lists)
params_said lists are = both_hold (group.said_params has_lists lists.params (params_within lists.params are.params)) tt

-- ---- what is read of its params

each_param : (params : Option (List (Named ℤ))) → IfSome params AreVoteParams → IfSome params AreParamsInRange
each_param None are = tt
each_param (Some params) are = are.each

pub params_back : {limit : ℕ} {bytes : List ℕ} {taken : List (Taken (Value VoteValue))} {place : ℕ}
    (params : Option (List (Named ℤ))) → IfSome params AreVoteParams
    → IsRead limit bytes taken place (group.params_row list_kinds params)
    → option_map params_in (option_map (part bytes) (text_if (item_at taken the.Params))) ≡ params
params_back params are read = group.params_back list_kinds params (each_param params are) read
