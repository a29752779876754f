-- The votes of a rehearsal: those of the texts that are read as votes, that are acceptable under the test scheme, and that
-- are held.
use Rattle.std.specs.Prelude.{ℕ, nat_eq, nat_lt, Bool, ◌&&◌, List, length, option_to_list, Option, Some, None}
use Rattle.std.specs.{Prelude.{option_and_then, Result, Ok, Err, if◌then◌else◌}, List.flat_map}
use Rattle.dir_values.specs.{Rosters.has_member, declared.digest.Fingerprint.Fingerprint}
use Rattle.frame_terms.specs.declared.fault.ReadRefusal.{ReadRefusal}
use Rattle.key_port.specs.TestScheme.{is_test_signature}
use Rattle.authority_certs.specs.Checks.{certifies, crosscertifies}
use Rattle.vote_terms.specs.{Acceptable.{has_fingerprint, names_signer, signs}, Held.held, Votes.{ReadVote, max_vote}}
use Rattle.vote_doc.specs.Reading.{vote_of}
use Rattle.vote_rehearsal.specs.{Authorities.members_of, Votes.{period, vote_text}}
use Rattle.vote_rehearsal.specs.declared.{authority.Authority.Authority, relay.Relay.Relay}

-- the vote that was read, if one was
abbrev pub if_read : Result (ReadVote × ℕ) ReadRefusal → Option ReadVote
if_read (Ok (vote, end)) = Some vote
if_read (Err refusal) = None

-- the vote that a text is, if it is no longer than a vote may be, and is read as one
unfoldable pub vote_in : List ℕ → Option ReadVote
vote_in text = if nat_lt max_vote (length text) then None else if_read (vote_of text)

-- whether a vote is acceptable (`IsAcceptable`) under the test scheme, for a roster and the period that begins then
unfoldable pub is_acceptable : List Fingerprint → ℕ → ReadVote → Bool
is_acceptable roster at vote =
    nat_eq vote.says.valid_after at && has_member roster vote.says.identity && has_fingerprint vote
    && nat_lt at vote.says.certificate.expires && certifies is_test_signature vote.says.certificate
    && crosscertifies is_test_signature vote.says.certificate && names_signer vote
    && signs is_test_signature vote

-- a vote, if it is acceptable
abbrev pub if_acceptable : List Fingerprint → ReadVote → Option ReadVote
if_acceptable roster vote = if is_acceptable roster period vote then Some vote else None

-- the vote that an authority casts, if it is one and is acceptable
unfoldable pub cast_by : List Relay → List Fingerprint → Authority → Option ReadVote
cast_by relays roster authority =
    option_and_then (if_acceptable roster) (vote_in (vote_text relays authority))

-- the votes that authorities cast
abbrev pub cast_votes : List Relay → List Fingerprint → List Authority → List ReadVote
cast_votes relays roster voters = flat_map (λ (voter : Authority). option_to_list (cast_by relays roster voter)) voters

-- those that are held
unfoldable pub held_votes : List Relay → List Authority → List ReadVote
held_votes relays voters = held (cast_votes relays (members_of voters) voters)
