-- What a moment is answered, and what it changes: one step of the period (dir-spec, "Timeline").
use Rattle.std.specs.Prelude.{◌≡◌, ◌⊎◌, ℕ, ◌+◌, nat_lt, Bool, true, ◌||◌, List, [], ◌++◌, length, codes, Option, Some}
use Rattle.std.specs.{Prelude.{None, option_map, unwrap_or, if◌then◌else◌}, List.find}
use Rattle.dir_values.specs.{Digests.same_identity, declared.digest.Fingerprint.Fingerprint}
use Rattle.sha1.specs.Sha1.{sha1}
use Rattle.key_port.specs.Answers.{Relation, Rules}
use Rattle.key_port.specs.declared.verifier.KeyKind.TheVariants as key_kind
use Rattle.vote_terms.specs.Votes.{ReadVote}
use Rattle.consensus_terms.specs.declared.{consensus.Consensus.Consensus, flavour.Flavour.{Flavour, TheVariants.Ns}}
use Rattle.consensus_terms.specs.declared.{flavour.Flavour.TheVariants.Microdesc, signature.SignatureLine.SignatureLine}
use Rattle.count_terms.specs.Counts.{over}
use Rattle.period_terms.specs.declared.{answer.Advance.Advance, event.Signing.{Signing, TheVariants.Given}}
use Rattle.period_terms.specs.declared.event.Signing.TheVariants.{SignerFails, VerifierFails, Refused}
use Rattle.period_terms.specs.declared.stage.Stage.{Stage, TheVariants.{Voting, Frozen, Computed, Signed, Ended}}
use Rattle.period_terms.specs.{declared.state.State.State, Schedules.next_valid_after, States.Outcome}
use Rattle.period_terms.specs.States.{unchanged_outcome, vote_of, consensus_of, digest_of, both_digests, with_signature}
use Rattle.period_terms.specs.States.{signers, is_signed, signed_text, change, with_change}
use Rattle.period_terms.specs.declared.answer.Advance.TheVariants as answer
use Rattle.period_terms.specs.declared.change.ChangeKind.TheVariants as kind
use Rattle.vote_schedule.specs.Moments as schedule_moments

-- ---- the freeze and the consensus

-- no vote is taken any more
abbrev pub freeze : State → Outcome Advance
freeze state = record {
  answer = answer.Frozen;
  after = with_change (change kind.Freeze None state.valid_after []) (record state { stage = Frozen });
}

-- the consensus of the held votes is computed
abbrev pub compute : State → Consensus → Outcome Advance
compute state c = record {
  answer = answer.Computed;
  after = with_change (change kind.Compute None state.valid_after (both_digests c))
      (record state { stage = Computed; computed = Some c });
}

-- there are too few votes
abbrev pub give_up : State → Outcome Advance
give_up state = record {
  answer = answer.NoConsensus (length state.votes) (length state.roster);
  after = with_change (change kind.NoConsensus None state.valid_after []) (record state { stage = Ended });
}

-- ---- signing

-- the name of the digest that a flavour is signed over
abbrev pub algorithm_of : Flavour → List ℕ
algorithm_of Ns = codes "sha1"
algorithm_of Microdesc = codes "sha256"

-- the signature of an authority over a flavour, with a signing key
abbrev pub own_line : Flavour → Fingerprint → List ℕ → List ℕ → SignatureLine
own_line flavour authority key bytes = record {
  algorithm = algorithm_of flavour;
  identity = authority;
  key_digest = record { 0 = sha1 key };
  signature = bytes;
}

-- the authority's own signatures are held, in place of its own that were
abbrev pub sign_with : State → Consensus → List ℕ → List ℕ → List ℕ → Outcome Advance
sign_with state c key ns microdesc = record {
  answer = answer.Signed;
  after = with_change (change kind.Sign (Some state.own) state.valid_after (both_digests c)) (record state {
    stage = Signed;
    ns_lines = with_signature state.ns_lines (own_line Ns state.own key ns);
    micro_lines = with_signature state.micro_lines (own_line Microdesc state.own key microdesc);
  });
}

-- the authority holds no vote of its own, and does not sign
abbrev pub pass_over : State → Outcome Advance
pass_over state = record {
  answer = answer.NoOwnVote;
  after = with_change (change kind.NoOwnVote (Some state.own) state.valid_after []) (record state { stage = Signed });
}

-- the outcome of what the signer gave, where the own vote is held
abbrev pub sign : State → Consensus → ReadVote → Signing → Outcome Advance
sign state c vote (Given ns microdesc) = sign_with state c vote.says.certificate.signing_key ns microdesc
sign state c vote SignerFails = unchanged_outcome state answer.SignerFault
sign state c vote VerifierFails = unchanged_outcome state answer.VerifierFault
sign state c vote (Refused digest) = unchanged_outcome state (answer.OwnSignatureRefused digest)

-- the outcome where this is the own vote
abbrev pub sign_or_pass : State → Consensus → Option ReadVote → Signing → Outcome Advance
sign_or_pass state c None given = pass_over state
sign_or_pass state c (Some vote) given = sign state c vote given

-- ---- publication

-- the text that is published of a flavour, or that which was
abbrev pub published_text : Bool → Flavour → State → Consensus → Option (List ℕ) → Option (List ℕ)
published_text passed flavour state c old = if passed then Some (signed_text flavour state c) else old

-- the digest of a flavour, where it is published
abbrev pub published_digest : Bool → Flavour → Consensus → List ℕ
published_digest passed flavour c = if passed then digest_of flavour c else []

-- the digests of the flavours that are published, of ns first
abbrev pub published_digests : Bool → Bool → Consensus → List ℕ
published_digests ns microdesc c = published_digest ns Ns c ++ published_digest microdesc Microdesc c

-- the flavours that more than half of the roster signed are published
abbrev pub publish_these : State → Consensus → Bool → Bool → Outcome Advance
publish_these state c ns microdesc = record {
  answer = answer.Published ns microdesc;
  after = with_change (change kind.Publish None state.valid_after (published_digests ns microdesc c)) (record state {
    stage = Ended;
    ns_current = published_text ns Ns state c state.ns_current;
    micro_current = published_text microdesc Microdesc state c state.micro_current;
  });
}

-- there are too few signatures
abbrev pub miss : State → Outcome Advance
miss state = record {
  answer = answer.Missed (signers Ns state) (signers Microdesc state) (length state.roster);
  after = with_change (change kind.Miss None state.valid_after []) (record state { stage = Ended });
}

-- the outcome when the period begins that the consensus is for
abbrev pub publish : State → Consensus → Outcome Advance
publish state c =
    if is_signed Ns state || is_signed Microdesc state
    then publish_these state c (is_signed Ns state) (is_signed Microdesc state) else miss state

-- ---- the next period

-- the next period begins, with nothing held but the texts that were published last
abbrev pub begin : State → Option ℕ → Outcome Advance
begin state None = unchanged_outcome state answer.EndOfTime
begin state (Some next) = record {
  answer = answer.Began next;
  after = record state {
    valid_after = next;
    stage = Voting;
    votes = [];
    vote_changes = 0;
    computed = None;
    ns_lines = [];
    micro_lines = [];
    front = state.front + 1;
    base = state.front + 1;
    changes = [];
  };
}

-- ---- the step

-- the outcome of a computed consensus, where there is one
abbrev pub with_consensus : State → (Consensus → Outcome Advance) → Option Consensus → Outcome Advance
with_consensus state outcome None = unchanged_outcome state answer.Nothing
with_consensus state outcome (Some c) = outcome c

-- the outcome before a moment is nothing
abbrev pub from : State → ℕ → ℕ → Outcome Advance → Outcome Advance
from state moment now outcome = if nat_lt now moment then unchanged_outcome state answer.Nothing else outcome

-- the outcome at a stage
abbrev pub advance_at : Stage → State → ℕ → Signing → Outcome Advance
advance_at Voting state now given =
    from state (schedule_moments.freeze state.schedule state.valid_after) now (freeze state)
advance_at Frozen state now given =
    if over (length state.votes) (length state.roster) then compute state (consensus_of state) else give_up state
advance_at Computed state now given =
    with_consensus state (λ c. sign_or_pass state c (vote_of state.votes state.own) given) state.computed
advance_at Signed state now given =
    from state state.valid_after now (with_consensus state (publish state) state.computed)
advance_at Ended state now given =
    from state state.valid_after now (begin state (next_valid_after state.schedule state.valid_after now))

-- the outcome of a moment, with what the signer gives
unfoldable pub advance : State → ℕ → Signing → Outcome Advance
advance state now given = advance_at state.stage state now given

-- ---- what a signer may give

-- bytes that the signer may give for a digest, and that the verifier may then accept
pub record MaySign (may_give may_accept : Relation) (key digest bytes : List ℕ) : Type 0 where
  pub given : may_give key_kind.Signing key digest bytes ≡ true
  pub accepted : may_accept key_kind.Signing key digest bytes ≡ true

-- there are bytes that the signer may give for a digest, and that the verifier may refuse
pub record MayRefuse (may_give may_refuse : Relation) (key digest : List ℕ) : Type 0 where
  pub bytes : List ℕ
  pub given : may_give key_kind.Signing key digest bytes ≡ true
  pub refused : may_refuse key_kind.Signing key digest bytes ≡ true

-- what may come of signing a consensus with a key
abbrev pub MayGive : Relation → Rules → List ℕ → Consensus → Signing → Type 0
MayGive may_give rules key c (Given ns microdesc) =
    MaySign may_give rules.may_accept key (digest_of Ns c) ns
    × MaySign may_give rules.may_accept key (digest_of Microdesc c) microdesc
MayGive may_give rules key c SignerFails = Unit {0}
MayGive may_give rules key c VerifierFails = Unit {0}
MayGive may_give rules key c (Refused digest) =
    ((digest ≡ digest_of Ns c) ⊎ (digest ≡ digest_of Microdesc c)) × MayRefuse may_give rules.may_refuse key digest

-- what may come of signing, where there is something to sign, and a vote of its own tells the key
abbrev pub MayGiveIf : Relation → Rules → Option Consensus → Option ReadVote → Signing → Type 0
MayGiveIf may_give rules None own given = Unit {0}
MayGiveIf may_give rules (Some c) None given = Unit {0}
MayGiveIf may_give rules (Some c) (Some vote) given = MayGive may_give rules vote.says.certificate.signing_key c given

-- what may come of signing at a state
abbrev pub MayGiveAt : Relation → Rules → State → Signing → Type 0
MayGiveAt may_give rules state given = MayGiveIf may_give rules state.computed (vote_of state.votes state.own) given

-- ---- what a signer gave

-- the bytes of a signature, and none where there is no signature
abbrev pub bytes_of : Option SignatureLine → List ℕ
bytes_of line = unwrap_or (option_map (λ (line : SignatureLine). line.signature) line) []

-- the signature of an authority, where one of some signatures is its own
abbrev pub signature_in : List SignatureLine → Fingerprint → List ℕ
signature_in lines authority = bytes_of (find (λ line. same_identity line.identity authority) lines)

-- the authority's own signatures, as they are held
abbrev pub own_signatures : State → Signing
own_signatures state = Given (signature_in state.ns_lines state.own) (signature_in state.micro_lines state.own)

-- what the signer gave, as the answer and the state after it tell; where nothing was to be signed, something
abbrev pub given_told : Advance → State → Signing
given_told answer.Nothing after = SignerFails
given_told answer.Frozen after = SignerFails
given_told answer.Computed after = SignerFails
given_told (answer.NoConsensus held roster) after = SignerFails
given_told answer.NoOwnVote after = SignerFails
given_told answer.Signed after = own_signatures after
given_told (answer.Published ns microdesc) after = SignerFails
given_told (answer.Missed ns microdesc roster) after = SignerFails
given_told (answer.Began valid_after) after = SignerFails
given_told answer.EndOfTime after = SignerFails
given_told answer.SignerFault after = SignerFails
given_told answer.VerifierFault after = VerifierFails
given_told (answer.OwnSignatureRefused digest) after = Refused digest
