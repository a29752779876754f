-- What comes of an uploaded vote and of an uploaded descriptor, and which event was made for it.
use Rattle.std.specs.Prelude.{◌≡◌, ◌≢◌, ◌⊎◌, ℕ, List, [], Bool, IsTrue}
use Rattle.dir_bytes.specs.Causes.{Rose}
use Rattle.key_port.specs.Answers.{Rules}
use Rattle.descriptor_doc.specs.Checks as descriptors
use Rattle.descriptor_doc.specs.declared.checking.DescriptorRefusal.{DescriptorRefusal}
use Rattle.descriptor_doc.specs.declared.descriptor.Descriptor.{Descriptor}
use Rattle.flag_rules.specs.declared.{relay.RelayFacts.RelayFacts, ruling.Ruling.{Ruling, TheVariants.Reject}}
use Rattle.http_words.specs.declared.replies.Reply.{Reply}
use Rattle.http_words.specs.declared.replies.Reply.TheVariants as reply
use Rattle.http_words.specs.declared.word.Word.TheVariants as word
use Rattle.period_terms.specs.declared.{answer.{Answer.TheVariants.Vote, Offer.Offer}, event.Event.TheVariants.Offered}
use Rattle.period_terms.specs.declared.event.Via.TheVariants.{Upload}
use Rattle.vote_doc.specs.Checks as votes
use Rattle.vote_doc.specs.declared.check.VoteRefusal.{VoteRefusal}
use Rattle.vote_maker.specs.Relays.{known_of}
use Rattle.vote_pool.specs.declared.answers.Keep.{Keep}
use Rattle.vote_terms.specs.{Acceptable.IsAcceptable, Votes.ReadVote}
use Rattle.serve_board.specs.Boards.{Locks, Parts, Makes, Stores}
use Rattle.lone_vote.specs.Alone.{IsVote, NoneIs}
use Rattle.serve_answers.specs.{Uploads.IsDescriptor, Words.{reply_to_offer, reply_to_keep, reply_to_vote}}
use Rattle.serve_answers.specs.Words.{reply_to_descriptor}

-- a fault of the verifier is told only where its count rose, and want of memory is never told so
abbrev pub IsCaused : ℕ → ℕ → Reply → Type 0
IsCaused faults faults_then reply.VerifierFault = Rose faults faults_then
IsCaused faults faults_then reply.Memory = ⊥
IsCaused faults faults_then answer = Unit {0}

module _ (rules : Rules) (board : Locks) (before then : Parts) (allows : RelayFacts → Ruling → Bool) where
  -- The rules allow to leave the relay out, and no event was made.
  pub record LeavesOut (descriptor : Descriptor) (answer : Reply) : Type 0 where
    pub allowed : IsTrue (allows (known_of [] descriptor) Reject)
    pub told : answer ≡ reply.Refused word.Rejected
    pub still : then ≡ before

  -- The rules allow another ruling, and the descriptor is kept once, or not.
  pub record TakesIn (descriptor : Descriptor) (answer : Reply) : Type 0 where
    pub ruling : Ruling
    pub keep : Keep
    pub other : ruling ≢ Reject
    pub allowed : IsTrue (allows (known_of [] descriptor) ruling)
    pub stores : Stores rules board before then descriptor keep
    pub told : answer ≡ reply_to_keep keep

  -- what comes of a descriptor that holds, by the rules; nothing is measured of its relay
  abbrev pub TakesRuled : Descriptor → Reply → Type 0
  TakesRuled descriptor answer = LeavesOut descriptor answer ⊎ TakesIn descriptor answer

module _ (rules : Rules) (board : Locks) (before then : Parts) (faults faults_then : ℕ) where
  -- no event was made, and this was told
  abbrev pub Still : Reply → Reply → Type 0
  Still answer told = (answer ≡ told) × (then ≡ before) × IsCaused faults faults_then told

  -- An uploaded vote that does not hold when its own period begins, and the first reason why.
  pub record RefusesVote (body : List ℕ) (answer : Reply) : Type 0 where
    pub vote : ReadVote
    pub refusal : VoteRefusal
    pub is : IsVote body vote
    pub refused : votes.RefusedBy rules board.state.start.roster vote.says.valid_after vote refusal
    pub still : Still answer (reply_to_vote refusal)

  module _ (asks asks_then last : ℕ) where
    -- An uploaded vote that holds is offered once, at the last moment of the clock, which was asked.
    pub record OffersVote (body : List ℕ) (answer : Reply) : Type 0 where
      pub vote : ReadVote
      pub offer : Offer
      pub is : IsVote body vote
      pub accepted : IsAcceptable rules board.state.start.roster vote.says.valid_after vote
      pub asked : Rose asks asks_then
      pub makes : Makes rules board before then (Offered vote Upload last) (Vote offer)
      pub told : answer ≡ reply_to_offer offer

    -- what comes of a vote that is uploaded
    abbrev pub TakesVote : List ℕ → Reply → Type 0
    TakesVote body answer =
        (NoneIs (IsVote body) × Still answer (reply.Refused word.Document))
        ⊎ (RefusesVote body answer ⊎ OffersVote body answer)

  -- An uploaded descriptor that does not hold, and the first reason why.
  pub record RefusesDescriptor (body : List ℕ) (answer : Reply) : Type 0 where
    pub descriptor : Descriptor
    pub refusal : DescriptorRefusal
    pub is : IsDescriptor board.state.start.newest body descriptor
    pub refused : descriptors.RefusedBy rules descriptor refusal
    pub still : Still answer (reply_to_descriptor refusal)

  module _ (allows : RelayFacts → Ruling → Bool) where
    -- An uploaded descriptor that holds, and what comes of it by the rules.
    pub record RulesDescriptor (body : List ℕ) (answer : Reply) : Type 0 where
      pub descriptor : Descriptor
      pub is : IsDescriptor board.state.start.newest body descriptor
      pub verified : descriptors.IsVerified rules descriptor
      pub ruled : TakesRuled rules board before then allows descriptor answer

    -- what comes of a descriptor that is uploaded
    abbrev pub TakesDescriptor : List ℕ → Reply → Type 0
    TakesDescriptor body answer =
        (NoneIs (IsDescriptor board.state.start.newest body) × Still answer (reply.Refused word.Document))
        ⊎ (RefusesDescriptor body answer ⊎ RulesDescriptor body answer)
