-- An upload leaves a pass that has gone on.
use Rattle.std.proofs.Common.{◌≡◌, ℕ, Bool, List, inl, inr, sym, subst}
use Rattle.key_port.specs.Answers.{Rules}
use Rattle.descriptor_doc.specs.declared.descriptor.Descriptor.{Descriptor}
use Rattle.flag_rules.specs.declared.{relay.RelayFacts.RelayFacts, ruling.Ruling.Ruling}
use Rattle.http_words.specs.declared.replies.Reply.{Reply}
use Rattle.period_terms.specs.declared.{answer.Answer.TheVariants.Vote, event.Event.TheVariants.Offered}
use Rattle.period_terms.specs.declared.event.Via.TheVariants.{Upload}
use Rattle.serve_board.{specs.{Boards.{Locks, Parts}, Going.Goes}, proofs.Going.{goes_same, goes_makes, goes_stores}}
use Rattle.serve_answers.specs.Answers.{TakesVote, TakesDescriptor, TakesRuled}

-- a pass that is as it was has gone on
pub goes_still : (before then : Parts) → then ≡ before → Goes before then
goes_still before then is = subst (Goes before) (sym is) (goes_same before)

module _ (rules : Rules) (board : Locks) (before then : Parts) (faults faults_then : ℕ) (body : List ℕ)
    (answer : Reply) where
  -- of a vote
  pub vote_goes : (asks asks_then last : ℕ)
      → TakesVote rules board before then faults faults_then asks asks_then last body answer → Goes before then
  vote_goes asks asks_then last (inl none) = goes_still before then none.1.1
  vote_goes asks asks_then last (inr (inl refused)) = goes_still before then refused.still.1
  vote_goes asks asks_then last (inr (inr offered)) =
      goes_makes rules board before then (Offered offered.vote Upload last) (Vote offered.offer) offered.makes

  module _ (allows : RelayFacts → Ruling → Bool) where
    ruled_goes : (descriptor : Descriptor) → TakesRuled rules board before then allows descriptor answer
        → Goes before then
    ruled_goes descriptor (inl out) = goes_still before then out.still
    ruled_goes descriptor (inr taken) = goes_stores rules board before then descriptor taken.keep taken.stores

    -- of a descriptor
    pub descriptor_goes : TakesDescriptor rules board before then faults faults_then allows body answer
        → Goes before then
    descriptor_goes (inl none) = goes_still before then none.1.1
    descriptor_goes (inr (inl refused)) = goes_still before then refused.still.1
    descriptor_goes (inr (inr kept)) = ruled_goes kept.descriptor kept.ruled
