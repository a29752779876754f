-- What an authority is to ask of its peers in a period, and what it marks as done (dir-spec, "Voting timeline").
use Rattle.std.specs.Prelude.{◌++◌, [], ◌==◌, ◌&&◌, ◌||◌, not, ℕ, Bool, true, false, List, map, codes, Option, Some}
use Rattle.std.specs.Prelude.{None, Result, Ok, Err, flat_map, filter_map, if◌then◌else◌}
use Rattle.dir_values.specs.{declared.digest.Fingerprint.Fingerprint, Digests.{fingerprint_text, same_identity}}
use Rattle.station_input.specs.declared.facts.{Peer.Peer, StationFacts.StationFacts}
use Rattle.vote_schedule.specs.{declared.{config.ScheduleFault.ScheduleFault, phase.Phase.Phase}, Moments.phase_of}
use Rattle.vote_schedule.specs.Schedules.{Schedule, schedule_of}
use Rattle.vote_schedule.specs.declared.phase.Phase.TheVariants as phases
use Rattle.dir_http.specs.Responses.{get_text, post_text}
use Rattle.serve_rounds.specs.declared.round.Round.{Round}

-- ---- what a peer is asked

-- What a peer is asked.
pub data Asking : Type 0 where
  -- to take a vote
  PostVote : (text : List ℕ) → Asking
  -- for the vote of an authority
  GetVote : (authority : Fingerprint) → Asking
  -- to take signatures
  PostSignatures : (text : List ℕ) → Asking
  -- for the signatures that it holds
  GetSignatures : Asking

-- the request, byte for byte
abbrev pub request_of : Asking → List ℕ
request_of (PostVote text) = post_text (codes "/tor/post/vote") text
request_of (GetVote authority) = get_text (codes "/tor/status-vote/next/" ++ fingerprint_text authority)
request_of (PostSignatures text) = post_text (codes "/tor/post/consensus-signature") text
request_of GetSignatures = get_text (codes "/tor/status-vote/next/consensus-signatures")

-- how many bytes the response may have: of a GET those of a vote, or of signatures, and those of a head
abbrev pub limit_of : Asking → ℕ
limit_of (PostVote text) = 65536
limit_of (GetVote authority) = 16793600
limit_of (PostSignatures text) = 65536
limit_of GetSignatures = 1064960

-- ---- whom

-- the address of an authority that is a peer: one that has an address, and is not the own one
abbrev pub address_of : Fingerprint → Peer → Option (List ℕ)
address_of own peer = if same_identity peer.identity own then None else peer.address

-- the addresses of the peers among authorities, in their order
abbrev pub peers_among : Fingerprint → List Peer → List (List ℕ)
peers_among own authorities = filter_map (address_of own) authorities

-- those of an authority, in the order of its input
abbrev pub peers_of : StationFacts → List (List ℕ)
peers_of station = peers_among station.identity station.authorities

-- ---- the plan

-- something that is to be asked: the peer's address, and what
abbrev pub Planned : Type 0
Planned = List ℕ × Asking

-- the same of each peer
abbrev pub to_each : List (List ℕ) → Asking → List Planned
to_each peers asking = map (λ peer. (peer, asking)) peers

-- the same of each peer, where there is a text
abbrev pub text_to_each : List (List ℕ) → (List ℕ → Asking) → Option (List ℕ) → List Planned
text_to_each peers asking None = []
text_to_each peers asking (Some text) = to_each peers (asking text)

-- of one peer the vote of each authority
abbrev pub votes_at : List Peer → List ℕ → List Planned
votes_at authorities peer = map (λ (member : Peer). (peer, GetVote member.identity)) authorities

-- of each peer in turn the vote of each authority
abbrev pub all_votes : StationFacts → List Planned
all_votes station = flat_map (votes_at station.authorities) (peers_of station)

-- whether the signatures that are held are still to be brought to the peers: the authority signed, and they were not
abbrev pub must_bring : Round → Bool
must_bring round = round.signed && not round.posted

-- the signatures that are held, to each peer, where they are still to be brought
abbrev pub plan_of_signatures : StationFacts → Option (List ℕ) → Round → List Planned
plan_of_signatures station held round =
    if must_bring round then text_to_each (peers_of station) PostSignatures held else []

-- what a phase asks for, where it was not done: in Voting the own vote is brought to each peer, in Fetching each peer
-- in turn is asked for votes, and in FetchingSignatures for its signatures
abbrev pub plan_of_phase : StationFacts → Option (List ℕ) → Phase → Round → List Planned
plan_of_phase station vote phases.Voting round =
    if round.voted then [] else text_to_each (peers_of station) PostVote vote
plan_of_phase station vote phases.Fetching round = if round.fetched then [] else all_votes station
plan_of_phase station vote phases.FetchingSignatures round =
    if round.gathered then [] else to_each (peers_of station) GetSignatures
plan_of_phase station vote phases.Waiting round = []
plan_of_phase station vote phases.Signing round = []
plan_of_phase station vote phases.Past round = []

-- ---- the marks: what of a period is done

-- a round of the period that begins then, of which nothing is done
abbrev pub empty_round : ℕ → Round
empty_round valid_after = record {
  valid_after = valid_after;
  voted = false;
  fetched = false;
  signed = false;
  posted = false;
  gathered = false;
}

-- a round of the period that begins then: it keeps its marks where it is of that period, and else has none; and that
-- the authority signed
abbrev pub turned_round : ℕ → Bool → Round → Round
turned_round valid_after signed round =
    let same = round.valid_after == valid_after in
    record {
      valid_after = valid_after;
      voted = same && round.voted;
      fetched = same && round.fetched;
      signed = signed || (same && round.signed);
      posted = same && round.posted;
      gathered = same && round.gathered;
    }

-- with the own vote, where one was made
abbrev pub with_vote : Option (List ℕ) → Round → Round
with_vote None round = round
with_vote (Some text) round = record {
  valid_after = round.valid_after;
  voted = true;
  fetched = round.fetched;
  signed = round.signed;
  posted = round.posted;
  gathered = round.gathered;
}

-- with the signatures, where there were some
abbrev pub with_signatures : Option (List ℕ) → Round → Round
with_signatures None round = round
with_signatures (Some text) round = record {
  valid_after = round.valid_after;
  voted = round.voted;
  fetched = round.fetched;
  signed = round.signed;
  posted = true;
  gathered = round.gathered;
}

-- behind the bringing of signatures
abbrev pub marked_signatures : Option (List ℕ) → Round → Round
marked_signatures held round = if must_bring round then with_signatures held round else round

-- behind a phase
abbrev pub marked_phase : Option (List ℕ) → Phase → Round → Round
marked_phase vote phases.Voting round = if round.voted then round else with_vote vote round
marked_phase vote phases.Fetching round = record {
  valid_after = round.valid_after;
  voted = round.voted;
  fetched = true;
  signed = round.signed;
  posted = round.posted;
  gathered = round.gathered;
}
marked_phase vote phases.FetchingSignatures round = record {
  valid_after = round.valid_after;
  voted = round.voted;
  fetched = round.fetched;
  signed = round.signed;
  posted = round.posted;
  gathered = true;
}
marked_phase vote phases.Waiting round = round
marked_phase vote phases.Signing round = round
marked_phase vote phases.Past round = round

-- the phase of a period at a moment; Waiting where three numbers are no schedule
abbrev pub phase_under : Result Schedule ScheduleFault → ℕ → ℕ → Phase
phase_under (Ok schedule) valid_after now = phase_of schedule valid_after now
phase_under (Err fault) valid_after now = phases.Waiting

-- the phase of an authority's period at a moment, by what it is given
abbrev pub phase_in : StationFacts → ℕ → ℕ → Phase
phase_in station valid_after now =
    phase_under (schedule_of station.interval station.vote_seconds station.dist_seconds) valid_after now
