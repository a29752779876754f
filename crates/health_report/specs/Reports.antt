-- The health report of a period: which authority misses what, by the held votes and the consensus.
use Rattle.std.specs.{Prelude.{◌≡◌, ℕ, Bool, List, [], ◌++◌, map, length, codes, if◌then◌else◌}, List.flat_map}
use Rattle.std.specs.{List.list_any, Str.bytes_eq}
use Rattle.dir_values.specs.{Digests.same_identity, FlagSets.{as_set, has_flag}}
use Rattle.dir_values.specs.declared.digest.Fingerprint.{Fingerprint}
use Rattle.key_port.specs.Answers.{Rules}
use Rattle.vote_terms.specs.{Votes.ReadVote, declared.entry.EntryFacts.EntryFacts}
use Rattle.consensus_terms.specs.declared.{consensus.SignedConsensus.SignedConsensus, router.Routerline.Routerline}
use Rattle.compute_terms.specs.Listings.{listings, identities_in}
use Rattle.detached_sigs.specs.declared.key.SignerKey.{SignerKey}
use Rattle.health_report.specs.Lines.{identity_line, head_lines, param_line, param_names, opinion_of, relay_lines}
use Rattle.health_report.specs.Signers.{SignedPart}

-- the bytes of identities
abbrev pub bytes_of : List Fingerprint → List (List ℕ)
bytes_of identities = map (λ (identity : Fingerprint). identity.0) identities

-- ---- members

-- the members of a roster, by their bytes, ascending
abbrev pub members_of : List Fingerprint → List (List ℕ)
members_of roster = as_set (bytes_of roster)

-- whether the vote of an authority is held
abbrev pub has_vote : List ReadVote → List ℕ → Bool
has_vote votes member = list_any (λ (vote : ReadVote). bytes_eq vote.says.identity.0 member) votes

-- the line of a member without a held vote
abbrev pub missing_vote : List ReadVote → List ℕ → List ℕ
missing_vote votes member = if has_vote votes member then [] else identity_line (codes "missing-vote") member

-- whether an authority is among the signers
abbrev pub has_signer : List SignerKey → List ℕ → Bool
has_signer signers member = list_any (λ (signer : SignerKey). bytes_eq signer.authority.0 member) signers

-- the line of a member that signed or did not
abbrev pub signer_line : List SignerKey → List ℕ → List ℕ
signer_line signers member =
    if has_signer signers member then identity_line (codes "signer") member
    else identity_line (codes "missing-signer") member

-- the lines of those of these members without a held vote
unfoldable pub missing_votes : List ReadVote → List (List ℕ) → List ℕ
missing_votes votes members = flat_map (missing_vote votes) members

-- the lines that tell which of these members signed
unfoldable pub signer_lines : List SignerKey → List (List ℕ) → List ℕ
signer_lines signers members = flat_map (signer_line signers) members

-- ---- params

-- the names of the params of some vote, in the order of their bytes
unfoldable pub all_params : List ReadVote → List (List ℕ)
all_params votes = as_set (flat_map param_names votes)

-- the lines of these params
unfoldable pub param_lines : List ReadVote → List ℕ
param_lines votes = flat_map (param_line votes) (all_params votes)

-- ---- relays

-- the bytes of the identities of the relays that a consensus lists
abbrev pub router_identities : List Routerline → List (List ℕ)
router_identities routers = map (λ (router : Routerline). router.identity.0) routers

-- the lines of a relay that some vote lists, where the consensus lists those of these identities
abbrev pub lines_of : List (List ℕ) → List ReadVote → Fingerprint → List ℕ
lines_of listed votes rsa = relay_lines (has_flag listed rsa.0) rsa.0 (map opinion_of (listings votes rsa))

-- the lines of all relays that some vote lists, ascending by identity
unfoldable pub all_relays : List (List ℕ) → List ReadVote → List ℕ
all_relays listed votes = flat_map (lines_of listed votes) (identities_in votes)

-- whether a vote lists a relay
abbrev pub lists : Fingerprint → ReadVote → Bool
lists rsa vote = list_any (λ (entry : EntryFacts). same_identity entry.identity rsa) vote.says.entries

-- the line of a relay of the consensus that no vote lists
abbrev pub extra_line : List ReadVote → Routerline → List ℕ
extra_line votes router =
    if list_any (lists router.identity) votes then [] else identity_line (codes "extra") router.identity.0

-- the lines of these relays
unfoldable pub extra_lines : List ReadVote → List Routerline → List ℕ
extra_lines votes routers = flat_map (extra_line votes) routers

-- ---- the whole

-- the text of the report of a roster, the held votes, a consensus, and those that signed it
unfoldable pub report_text : List Fingerprint → List ReadVote → SignedConsensus → List SignerKey → List ℕ
report_text roster votes consensus signers =
    head_lines consensus.facts.valid_after (length roster) (length votes)
    ++ missing_votes votes (members_of roster)
    ++ signer_lines signers (members_of roster)
    ++ param_lines votes
    ++ all_relays (router_identities consensus.facts.routers) votes
    ++ extra_lines votes consensus.facts.routers

-- The report of a roster, the held votes and a consensus, which was read from these bytes.
pub record IsReport (rules : Rules) (roster : List Fingerprint) (votes : List ReadVote) (consensus : SignedConsensus)
    (bytes text : List ℕ) : Type 0 where
  pub signers : List SignerKey
  pub signed : SignedPart rules votes consensus.signatures bytes consensus.signed signers
  pub report : text ≡ report_text roster votes consensus signers
