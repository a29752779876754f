-- Authorities that exchange what they will, and what they come to publish (dir-spec, "Exchanging detached signatures").
use Rattle.std.specs.Prelude.{◌≡◌, ◌≢◌, ◌==◌, ℕ, Bool, true, false, not, ◌&&◌, List, [], ◌∷◌, ◌++◌, Contains, Option}
use Rattle.std.specs.{Prelude.{Some, None, is_some, if◌then◌else◌}, List.list_any, Str.bytes_eq}
use Rattle.dir_values.specs.{declared.digest.Fingerprint.Fingerprint, Digests.same_identity, Rosters.has_member}
use Rattle.consensus_terms.specs.declared.{consensus.Consensus.Consensus, flavour.Flavour.{Flavour, TheVariants.Ns}}
use Rattle.consensus_terms.specs.{declared.flavour.Flavour.TheVariants.Microdesc, Texts.unsigned}
use Rattle.period_terms.specs.declared.{answer.{Answer.Answer, Advance.Advance}, event.Event.Event}
use Rattle.period_terms.specs.declared.{event.Event.TheVariants.{Offered, Advanced, SignedIn, Read}, state.State.State}
use Rattle.period_terms.specs.{States.{Outcome, text_digest, digest_of}, Steps.step, Histories.IsStart}
use Rattle.period_terms.specs.declared.answer.Answer.TheVariants as answers
use Rattle.period_terms.specs.declared.answer.Advance.TheVariants as moments

-- that an authority signed this digest in a flavour, for the period that begins then
pub record SignedDigest : Type 0 where
  pub authority : Fingerprint
  pub flavour : Flavour
  pub period : ℕ
  pub digest : List ℕ

-- that an authority published a text of a flavour, for the period that begins then, with signatures behind it
pub record Publication : Type 0 where
  pub authority : Fingerprint
  pub flavour : Flavour
  pub period : ℕ
  pub text : List ℕ

-- A world: one roster, a state for each of some members, all that was ever signed, and all that was published.
pub record World : Type 0 where
  pub roster : List Fingerprint
  -- the state of a member, where it has one
  pub states : Fingerprint → Option State
  pub signed : List SignedDigest
  pub published : List Publication

-- What may happen next.
pub data WorldEvent : Type 0 where
  -- anything comes to the state of a member
  At : (member : Fingerprint) → (event : Event) → WorldEvent
  -- a member without a state signs
  Elsewhere : (signed : SignedDigest) → WorldEvent

-- ---- what was signed

-- whether two flavours are one
abbrev pub same_flavour : Flavour → Flavour → Bool
same_flavour Ns Ns = true
same_flavour Ns Microdesc = false
same_flavour Microdesc Ns = false
same_flavour Microdesc Microdesc = true

-- whether both say the same
abbrev pub same_signed : SignedDigest → SignedDigest → Bool
same_signed a b =
    same_identity a.authority b.authority && same_flavour a.flavour b.flavour && (a.period == b.period)
    && bytes_eq a.digest b.digest

-- that this authority signed this
abbrev pub signed_by : Fingerprint → Flavour → ℕ → List ℕ → SignedDigest
signed_by authority flavour period digest = record {
  authority = authority;
  flavour = flavour;
  period = period;
  digest = digest;
}

-- whether something is among what was signed
abbrev pub is_among : List SignedDigest → SignedDigest → Bool
is_among all one = list_any (λ other. same_signed other one) all

-- ---- what happens

-- Whether an event may come: a signature that is accepted under a member's certified key comes only where that member
-- signed that digest for that flavour and period.
abbrev pub may_come : List SignedDigest → Event → Bool
may_come signed (Offered vote via now) = true
may_come signed (Advanced now given) = true
may_come signed (SignedIn signature) =
    is_among signed (signed_by signature.authority signature.flavour signature.valid_after signature.digest)
may_come signed Read = true

-- both digests of a consensus, signed by an authority
abbrev pub signs_both : Fingerprint → ℕ → Option Consensus → List SignedDigest
signs_both authority period None = []
signs_both authority period (Some c) =
    signed_by authority Ns period (digest_of Ns c) ∷ signed_by authority Microdesc period (digest_of Microdesc c) ∷ []

-- what an authority signs where a moment was answered so
abbrev pub signs_at : State → Advance → List SignedDigest
signs_at state moments.Nothing = []
signs_at state moments.Frozen = []
signs_at state moments.Computed = []
signs_at state (moments.NoConsensus held roster) = []
signs_at state moments.NoOwnVote = []
signs_at state moments.Signed = signs_both state.own state.valid_after state.computed
signs_at state (moments.Published ns microdesc) = []
signs_at state (moments.Missed ns microdesc roster) = []
signs_at state (moments.Began valid_after) = []
signs_at state moments.EndOfTime = []
signs_at state moments.SignerFault = []
signs_at state moments.VerifierFault = []
signs_at state (moments.OwnSignatureRefused digest) = []

-- what an authority signs where it answered so
abbrev pub signs_in : State → Answer → List SignedDigest
signs_in state (answers.Vote answer) = []
signs_in state (answers.Moment answer) = signs_at state answer
signs_in state (answers.Signature answer) = []
signs_in state answers.Reading = []

-- a flavour of a consensus, where it is published
abbrev pub publication : State → Bool → Flavour → Consensus → List Publication
publication state passed flavour c =
    if passed
    then record { authority = state.own; flavour = flavour; period = state.valid_after; text = unsigned flavour c } ∷ []
    else []

-- these flavours of a consensus, where they are published
abbrev pub publications : State → Bool → Bool → Option Consensus → List Publication
publications state ns microdesc None = []
publications state ns microdesc (Some c) = publication state ns Ns c ++ publication state microdesc Microdesc c

-- what an authority publishes where a moment was answered so
abbrev pub publishes_at : State → Advance → List Publication
publishes_at state moments.Nothing = []
publishes_at state moments.Frozen = []
publishes_at state moments.Computed = []
publishes_at state (moments.NoConsensus held roster) = []
publishes_at state moments.NoOwnVote = []
publishes_at state moments.Signed = []
publishes_at state (moments.Published ns microdesc) = publications state ns microdesc state.computed
publishes_at state (moments.Missed ns microdesc roster) = []
publishes_at state (moments.Began valid_after) = []
publishes_at state moments.EndOfTime = []
publishes_at state moments.SignerFault = []
publishes_at state moments.VerifierFault = []
publishes_at state (moments.OwnSignatureRefused digest) = []

-- what an authority publishes where it answered so
abbrev pub publishes_in : State → Answer → List Publication
publishes_in state (answers.Vote answer) = []
publishes_in state (answers.Moment answer) = publishes_at state answer
publishes_in state (answers.Signature answer) = []
publishes_in state answers.Reading = []

-- states, with this one for a member
abbrev pub with_state : (Fingerprint → Option State) → Fingerprint → State → Fingerprint → Option State
with_state states member state other = if same_identity other member then Some state else states other

-- the world after an outcome at a member's state
abbrev pub moved_world : World → Fingerprint → State → Outcome Answer → World
moved_world world member state outcome = record {
  roster = world.roster;
  states = with_state world.states member outcome.after;
  signed = world.signed ++ signs_in state outcome.answer;
  published = world.published ++ publishes_in state outcome.answer;
}

-- the world after something came to a member's state; to a member without one nothing comes
abbrev pub came : World → Fingerprint → Event → Option State → World
came world member event None = world
came world member event (Some state) =
    if may_come world.signed event then moved_world world member state (step state event) else world

-- the world after something was signed by a member, unless that has a state
abbrev pub signed_elsewhere : World → SignedDigest → World
signed_elsewhere world one =
    if has_member world.roster one.authority && not (is_some (world.states one.authority))
    then record world { signed = world.signed ++ one ∷ [] } else world

-- the world after it happened
abbrev pub happens : World → WorldEvent → World
happens world (At member event) = came world member event (world.states member)
happens world (Elsewhere one) = signed_elsewhere world one

-- the world after all of it happened, one after the other
abbrev pub run_world : World → List WorldEvent → World
run_world world [] = world
run_world world (event ∷ events) = run_world (happens world event) events

-- Each state begins, with its member as its own, and nothing is signed or published.
pub record IsWorldStart (world : World) : Type 0 where
  pub start : (member : Fingerprint) (state : State) → world.states member ≡ Some state → IsStart state
  pub own : (member : Fingerprint) (state : State) → world.states member ≡ Some state → state.own ≡ member
  pub roster : (member : Fingerprint) (state : State) → world.states member ≡ Some state → state.roster ≡ world.roster
  pub signed : world.signed ≡ []
  pub published : world.published ≡ []

-- ---- the laws

-- the digest of what was published
abbrev pub published_as : Publication → List ℕ
published_as one = text_digest one.flavour one.text

-- An authority that never restarts signs at most one digest for a flavour and a period.
abbrev pub PeriodStatesSignOnce : Type 0
PeriodStatesSignOnce = (world : World) (events : List WorldEvent) → IsWorldStart world
    → (a b : SignedDigest) → Contains (run_world world events).signed a → Contains (run_world world events).signed b
    → is_some ((run_world world events).states a.authority) ≡ true
    → a.authority ≡ b.authority → a.flavour ≡ b.flavour → a.period ≡ b.period → a.digest ≡ b.digest

-- Someone of the roster, who has no state, signed both of two digests for one flavour and period.
pub record SignedTwice (world : World) (flavour : Flavour) (period : ℕ) (one other : List ℕ) : Type 0 where
  pub authority : Fingerprint
  pub member : has_member world.roster authority ≡ true
  pub alone : is_some (world.states authority) ≡ false
  pub first : Contains world.signed (signed_by authority flavour period one)
  pub second : Contains world.signed (signed_by authority flavour period other)

-- Where two authorities published texts with different digests for one flavour and period, someone without a state
-- signed both.
abbrev pub PublishedAgree : Type 0
PublishedAgree = (world : World) (events : List WorldEvent) → IsWorldStart world
    → (p q : Publication) → Contains (run_world world events).published p
    → Contains (run_world world events).published q
    → p.flavour ≡ q.flavour → p.period ≡ q.period → published_as p ≢ published_as q
    → SignedTwice (run_world world events) p.flavour p.period (published_as p) (published_as q)

-- Where every member has a state, the texts that are published for one flavour and period have one digest.
abbrev pub AllHonestAgree : Type 0
AllHonestAgree = (world : World) (events : List WorldEvent) → IsWorldStart world
    → ((member : Fingerprint) → has_member (run_world world events).roster member ≡ true
    → is_some ((run_world world events).states member) ≡ true)
    → (p q : Publication) → Contains (run_world world events).published p
    → Contains (run_world world events).published q
    → p.flavour ≡ q.flavour → p.period ≡ q.period → published_as p ≡ published_as q

-- no two different texts of a flavour have one digest
abbrev pub DigestsApart : Flavour → Type 0
DigestsApart flavour = (text other : List ℕ) → text_digest flavour text ≡ text_digest flavour other → text ≡ other

-- Published texts of one flavour with equal digests are equal, unless two different texts share a digest.
abbrev pub EqualDigestsEqualTexts : Type 0
EqualDigestsEqualTexts = (p q : Publication) → p.flavour ≡ q.flavour → published_as p ≡ published_as q
    → DigestsApart p.flavour → p.text ≡ q.text
