-- What workers add to a board.
use Rattle.std.specs.Prelude.{◌≡◌, ◌≢◌, ◌⊎◌, ◌++◌, ◌<◌, ℕ, Bool, [], List, All, IsTrue, length, map, slice_index_or}
use Rattle.key_port.specs.{Answers.{Relation, Rules}, Signing.SignerSteps}
use Rattle.descriptor_doc.specs.Checks as descriptors
use Rattle.descriptor_doc.specs.declared.descriptor.Descriptor.{Descriptor}
use Rattle.flag_rules.specs.declared.{relay.RelayFacts.RelayFacts, ruling.Ruling.{Ruling, TheVariants.Reject}}
use Rattle.station_input.specs.declared.facts.StationFacts.{StationFacts}
use Rattle.vote_maker.specs.Relays.{known_of}
use Rattle.vote_terms.specs.{Acceptable.IsVerified, Votes.ReadVote}
use Rattle.period_terms.specs.declared.{entry.Entry.Entry, event.{Event.TheVariants.Offered, Via.TheVariants.Upload}}
use Rattle.serve_board.specs.{Boards.{Locks, Parts}, Going.Goes}
use Rattle.serve_rounds.specs.{Duties.{IsAdvance, IsRound}, Spans.AddedKind}

-- ---- which entries and which descriptors

-- a clock gave the moment
abbrev pub IsOfClock : {C : Type 0} → (C → ℕ) → ℕ → Type 0
IsOfClock {C} last now = (clock : C) × (now ≡ last clock)

-- The entry is the offer as Upload, at this moment, of a vote that holds.
pub record IsUploaded (rules : Rules) (now : ℕ) (entry : Entry) : Type 0 where
  pub vote : ReadVote
  pub event : entry.event ≡ Offered vote Upload now
  pub verified : IsVerified rules vote

-- The descriptor holds, and the rules allow another ruling of its relay than Reject; nothing is measured of the relay.
pub record IsTakenIn (rules : Rules) (allows : RelayFacts → Ruling → Bool) (descriptor : Descriptor) : Type 0 where
  pub verified : descriptors.IsVerified rules descriptor
  pub ruling : Ruling
  pub other : ruling ≢ Reject
  pub allowed : IsTrue (allows (known_of [] descriptor) ruling)

module _ {N C : Type 0} (rules : Rules) (gives : Relation) (steps : SignerSteps N)
    (allows : RelayFacts → Ruling → Bool) (station : StationFacts) (last : C → ℕ) (board : Locks) where
  -- The entry is, at a moment that a clock gave, an advance; or the own vote, or a vote or a signature that a peer gave
  -- or that was uploaded.
  pub record IsWork (from to : Parts) (entry : Entry) : Type 0 where
    pub now : ℕ
    pub of_clock : IsOfClock last now
    pub is : IsAdvance gives rules board now from to entry
        ⊎ IsRound rules gives steps allows station board now from to entry ⊎ IsUploaded rules now entry

-- ---- what a pass adds

-- A pass added entries of this kind at the state, and such descriptors to the pool, and nothing else. It has gone on at
-- both.
pub record Works (P : AddedKind) (IsSuch : Descriptor → Type 0) (before then : Parts) : Type 0 where
  pub added : List Entry
  pub each : All (P before then) added
  pub mine : then.state.mine ≡ before.state.mine ++ map (λ e. (before.state.number, e)) added
  pub kept : List Descriptor
  pub each_kept : All IsSuch kept
  pub pool : then.pool.mine ≡ before.pool.mine ++ map (λ d. (before.pool.number, d)) kept
  pub goes : Goes before then

-- what the pass of a worker has come to: it added what workers may add, under these rules and for this station
abbrev pub HasWorked : {N C : Type 0} → Rules → Relation → SignerSteps N → (RelayFacts → Ruling → Bool) → StationFacts
    → (C → ℕ) → Locks → Parts → Parts → Type 0
HasWorked rules gives steps allows station last board before then =
    Works (IsWork rules gives steps allows station last board) (IsTakenIn rules allows) before then

-- Each pass that ended has come to this from that which began in its place.
abbrev pub HaveWorked : (Parts → Parts → Type 0) → List Parts → List Parts → Type 0
HaveWorked HasDone began ended =
    (i : ℕ) (d : Parts) → i < length began → HasDone (slice_index_or began i d) (slice_index_or ended i d)
