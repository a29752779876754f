-- The votes of an input of bytes are fit.
use Rattle.std.proofs.{Common.{◌≡◌, ℕ, List, [], ◌∷◌, Ok}, lemmas.List.Elements.{All-cons, All-contains}}
use Rattle.std.{proofs.lemmas.List.Elements.{All-contains_itself, All-nil, All-weaker}, specs.Prelude.{All, Contains}}
use Rattle.grammar_laws.specs.Written.{IsItem}
use Rattle.vote_terms.{specs.{Held.held, Votes.ReadVote}, proofs.HeldLaw.held_law}
use Rattle.vote_doc.specs.Reading.{vote_from}
use Rattle.vote_text.specs.Texts.{vote_items}
use Rattle.computed_laws.proofs.VoteLines.{Fills, vote_fills}
use Rattle.range_laws.proofs.VoteRead.{vote_in_range}
use Rattle.answer_laws.specs.{Inputs.{AreVotes, InputsAreVotes}, Votes.{IsFit, VotesInRangeAreFit, VotesOfInputsAreFit}}
use Rattle.answer_laws.specs.Votes.{VotesReadAreFit}

pub in_range_fit : VotesInRangeAreFit
in_range_fit vote is = record {
  in_range = record {
    valid_after = is.valid_after;
    fresh_until = is.fresh_until;
    valid_until = is.valid_until;
    vote_seconds = is.vote_seconds;
    dist_seconds = is.dist_seconds;
    known_flags = is.known_flags.each;
    lists = is.lists;
    random_previous = is.random_previous;
    random_current = is.random_current;
    source = record {
      nickname_is = is.nickname;
      identity_is = is.identity;
      address_is = is.address;
      ip_is = is.ip;
      dir_port_is = is.dir_port;
      or_port_is = is.or_port;
    };
    entries = is.entries.each;
  };
  fills = vote_fills vote.says (All-weaker IsItem Fills (λ item may. may.arguments) (vote_items vote.says) is.items);
}

pub read_fit : VotesReadAreFit
read_fit start bytes vote after are is = in_range_fit vote (vote_in_range start bytes vote after are is)

-- what holds of each vote that is read from the bytes holds of those that stand in them from a place on
pub standing_all : (P : ReadVote → Type 0) (bytes : List ℕ)
    → ((place : ℕ) (vote : ReadVote) (end : ℕ) → vote_from place bytes ≡ Ok (vote, end) → P vote) → (place : ℕ)
    (votes : List ReadVote) → AreVotes place votes bytes → All P votes
standing_all P bytes each place [] stand = All-nil P
standing_all P bytes each place (vote ∷ votes) stand =
    All-cons P vote votes (each place vote stand.1 stand.2) (standing_all P bytes each stand.1 votes stand.3)

-- what holds of each vote holds of each that is held
pub held_all : (P : ReadVote → Type 0) (votes : List ReadVote) → All P votes → All P (held votes)
held_all P votes all =
    All-weaker (Contains (held votes)) P (λ vote has. All-contains P votes vote all ((held_law votes).from vote has))
    (held votes) (All-contains_itself (held votes))

-- by what an input of votes is
pub inputs_fit : InputsAreVotes → VotesOfInputsAreFit
inputs_fit inputs bytes votes are is =
    let all =
    standing_all IsFit bytes (λ place vote end read. read_fit place bytes vote end are read) 0 votes
    ((inputs bytes votes).0 is).0 in
    (all, held_all IsFit votes all)
