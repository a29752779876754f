-- What an authority signs and publishes.
use Rattle.std.proofs.Common.{◌≡◌, ℕ, ◌<◌, ◌≤◌, ◌⊎◌, ◌&&◌, Bool, true, false, List, [], ◌∷◌, ◌++◌, length, count_by}
use Rattle.std.proofs.{Common.{Option, Some, refl, sym, ◌∙◌, subst, ⊎_elim, ◌≢◌}, lemmas.Bool.false≢true}
use Rattle.dir_values.specs.{declared.digest.Fingerprint.Fingerprint, Digests.same_identity}
use Rattle.vote_terms.proofs.Orders.{same_one}
use Rattle.consensus_terms.specs.declared.{consensus.Consensus.Consensus, flavour.Flavour.{Flavour, TheVariants.Ns}}
use Rattle.consensus_terms.specs.declared.{flavour.Flavour.TheVariants.Microdesc, signature.SignatureLine.SignatureLine}
use Rattle.consensus_terms.specs.Texts.{unsigned}
use Rattle.count_terms.specs.Counts.{over}
use Rattle.period_terms.specs.declared.{answer.Advance.Advance, event.Event.{Event, TheVariants.{Offered, Advanced}}}
use Rattle.period_terms.specs.declared.event.{Event.TheVariants.{SignedIn, Read}, Signing.Signing}
use Rattle.period_terms.specs.declared.{stage.Stage.TheVariants.{Frozen, Computed, Signed}, state.State.State}
use Rattle.period_terms.specs.{States.{Outcome, digest_of, has_line, is_signed, signers_in}, Advances.advance}
use Rattle.period_terms.specs.Steps.{step, moment_changes}
use Rattle.period_terms.specs.declared.answer.Advance.TheVariants as moments
use Rattle.period_laws.specs.Worlds as w
use Rattle.period_laws.specs.Worlds.{SignedDigest, Publication, signed_by, signs_both, signs_at, signs_in, publishes_at}
use Rattle.period_laws.specs.Worlds.{publishes_in, publications, publication, published_as, is_among}
use Rattle.period_laws.proofs.{Members.{In, in_either, any_from, over_with}, Rows.{Advancing, advancing, stays}}
use Rattle.period_laws.proofs.Rows.{freezes, computes, gives_up, passes_over, signs, publishes, misses, begins}
use Rattle.period_laws.proofs.{Digests.among_more, Soundness.{Lined, SoundAt, quiet}, PeriodStateSteps.signed_is_own}

-- ---- what an authority signs

-- what an authority signs now: of this period, over the digest of what is computed, and before it signed anything else
pub record New (s : State) (x : SignedDigest) : Type 0 where
  pub own : x.authority ≡ s.own
  pub period : x.period ≡ s.valid_after
  pub stage : s.stage ≡ Computed
  pub c : Consensus
  pub is : s.computed ≡ Some c
  pub digest : x.digest ≡ digest_of x.flavour c

pub new_at : (s : State) (given : Signing) (o : Outcome Advance) → Advancing s given o → (x : SignedDigest)
    → In x (signs_at s o.answer) → New s x
new_at s given o row x i = elim row [
  | stays answer e q ↦ absurd (quiet s answer q x (subst (λ (y : Outcome Advance). In x (signs_at s y.answer)) e i))
  | freezes at e ↦ absurd (none x (subst (λ (y : Outcome Advance). In x (signs_at s y.answer)) e i))
  | computes at n e ↦ absurd (none x (subst (λ (y : Outcome Advance). In x (signs_at s y.answer)) e i))
  | gives_up at e ↦ absurd (none x (subst (λ (y : Outcome Advance). In x (signs_at s y.answer)) e i))
  | passes_over c at is e ↦ absurd (none x (subst (λ (y : Outcome Advance). In x (signs_at s y.answer)) e i))
  | signs c vote ns microdesc at is f g e ↦
      let there : In x (signs_both s.own s.valid_after s.computed) =
      subst (λ (y : Outcome Advance). In x (signs_at s y.answer)) e i in
      let b = signed_is_own s.own s.valid_after c x (subst (λ (y : Option Consensus). In x (signs_both s.own s.valid_after y))
      is there) in
      record { own = b.0; period = b.1; stage = at; c = c; is = is; digest = b.2 }
  | publishes c at is h e ↦ absurd (none x (subst (λ (y : Outcome Advance). In x (signs_at s y.answer)) e i))
  | misses at e ↦ absurd (none x (subst (λ (y : Outcome Advance). In x (signs_at s y.answer)) e i))
  | begins now next at f e ↦ absurd (none x (subst (λ (y : Outcome Advance). In x (signs_at s y.answer)) e i))
]
  where
    none : (x : SignedDigest) → In x [] → ⊥
    none x i = i

pub new_in : (s : State) (event : Event) (x : SignedDigest) → In x (signs_in s (step s event).answer) → New s x
new_in s (Offered vote via now) x i = absurd i
new_in s (Advanced now given) x i = new_at s given (advance s now given) (advancing s now given) x i
new_in s (SignedIn signature) x i = absurd i
new_in s Read x i = absurd i

-- ---- what an authority publishes

-- more than half of a roster signed what was published
abbrev pub Backed : List Fingerprint → List SignedDigest → Publication → Type 0
Backed roster signed p = over (count_by (λ m. is_among signed (signed_by m p.flavour p.period (published_as p)))
    roster) (length roster) ≡ true

pub backed_more : (roster : List Fingerprint) (signed more : List SignedDigest) (p : Publication)
    → Backed roster signed p
    → Backed roster (signed ++ more) p
backed_more roster signed more p k =
    over_with (λ m. is_among signed (signed_by m p.flavour p.period (published_as p))) (λ m. is_among (signed ++ more)
    (signed_by m p.flavour p.period (published_as p))) roster
    (λ m i h. among_more signed more (signed_by m p.flavour p.period (published_as p)) h) k

pub some_is : (c d : Consensus) (computed : Option Consensus) → computed ≡ Some c → computed ≡ Some d → c ≡ d
some_is c d computed e f = cc

-- each member with a signature that is held signed the digest of what is computed
pub backed_by : (roster : List Fingerprint) (signed : List SignedDigest) (v : ℕ) (computed : Option Consensus)
    (c : Consensus) (flavour : Flavour) (lines : List SignatureLine)
    → computed ≡ Some c → ((line : SignatureLine) → In line lines → Lined signed v computed flavour line)
    → over (signers_in roster lines) (length roster) ≡ true
    → over (count_by (λ m. is_among signed (signed_by m flavour v (digest_of flavour c))) roster) (length roster) ≡ true
backed_by roster signed v computed c flavour lines is k e =
    over_with (λ m. has_line lines m) (λ m. is_among signed (signed_by m flavour v (digest_of flavour c))) roster
    (λ m i h.
    let r = any_from (λ (line : SignatureLine). same_identity line.identity m) lines h in
    let l = k r.0 r.1 in
    subst (λ (d : Consensus). is_among signed (signed_by m flavour v (digest_of flavour d)) ≡ true)
    (some_is l.c c computed l.is is)
    (subst (λ (x : Fingerprint). is_among signed (signed_by x flavour v (digest_of flavour l.c)) ≡ true)
    (same_one r.0.identity m r.2) l.signs))
    e

pub published_by : (b : Bool) (s : State) (flavour : Flavour) (c : Consensus) (p : Publication)
    → In p (publication s b flavour c)
    → (b ≡ true) × (p ≡ record {
      authority = s.own;
      flavour = flavour;
      period = s.valid_after;
      text = unsigned flavour c;
    })
published_by true s flavour c p i =
    ⊎_elim (λ (e : p ≡ record {
      authority = s.own;
      flavour = flavour;
      period = s.valid_after;
      text = unsigned flavour c;
    }). (refl, e)) (λ n. absurd n) i
published_by false s flavour c p i = absurd i

pub quiet_too : (s : State) (answer : Advance) → moment_changes answer ≡ false → (p : Publication)
    → In p (publishes_at s answer) → ⊥
quiet_too s moments.Nothing e p i = i
quiet_too s moments.Frozen e p i = i
quiet_too s moments.Computed e p i = i
quiet_too s (moments.NoConsensus held roster) e p i = i
quiet_too s moments.NoOwnVote e p i = i
quiet_too s moments.Signed e p i = i
quiet_too s (moments.Published ns microdesc) e p i = absurd (false≢true (sym e))
quiet_too s (moments.Missed ns microdesc roster) e p i = i
quiet_too s (moments.Began valid_after) e p i = i
quiet_too s moments.EndOfTime e p i = i
quiet_too s moments.SignerFault e p i = i
quiet_too s moments.VerifierFault e p i = i
quiet_too s (moments.OwnSignatureRefused digest) e p i = i

-- what an authority publishes, more than half of the roster signed
pub published_at : (roster : List Fingerprint) (signed : List SignedDigest) (member : Fingerprint) (s : State)
    (given : Signing) (o : Outcome Advance) → Advancing s given o
    → SoundAt roster signed member s → (p : Publication) → In p (publishes_at s o.answer) → Backed roster signed p
published_at roster signed member s given o row k p i = elim row [
  | stays answer e q ↦ absurd (quiet_too s answer q p (subst (λ (y : Outcome Advance). In p (publishes_at s y.answer))
      e i))
  | freezes at e ↦ absurd (none p (subst (λ (y : Outcome Advance). In p (publishes_at s y.answer)) e i))
  | computes at n e ↦ absurd (none p (subst (λ (y : Outcome Advance). In p (publishes_at s y.answer)) e i))
  | gives_up at e ↦ absurd (none p (subst (λ (y : Outcome Advance). In p (publishes_at s y.answer)) e i))
  | passes_over c at is e ↦ absurd (none p (subst (λ (y : Outcome Advance). In p (publishes_at s y.answer)) e i))
  | signs c vote ns microdesc at is f g e ↦
      absurd (none p (subst (λ (y : Outcome Advance). In p (publishes_at s y.answer)) e i))
  | publishes c at is h e ↦
      let there : In p (publications s (is_signed Ns s) (is_signed Microdesc s) s.computed) =
      subst (λ (y : Outcome Advance). In p (publishes_at s y.answer)) e i in
      let these : In p (publication s (is_signed Ns s) Ns c ++ publication s (is_signed Microdesc s) Microdesc c) =
      subst (λ (y : Option Consensus). In p (publications s (is_signed Ns s) (is_signed Microdesc s) y)) is there in
      ⊎_elim
      (λ (j : In p (publication s (is_signed Ns s) Ns c)).
      let r = published_by (is_signed Ns s) s Ns c p j in
      let yes_it : over (signers_in roster s.ns_lines) (length roster) ≡ true =
      subst (λ (x : List Fingerprint). over (signers_in x s.ns_lines) (length x) ≡ true) k.roster_is r.0 in
      subst (Backed roster signed) (sym r.1) (backed_by roster signed s.valid_after s.computed c Ns s.ns_lines is
      k.ns_lines yes_it))
      (λ j.
      let r = published_by (is_signed Microdesc s) s Microdesc c p j in
      let yes_it : over (signers_in roster s.micro_lines) (length roster) ≡ true =
      subst (λ (x : List Fingerprint). over (signers_in x s.micro_lines) (length x) ≡ true) k.roster_is r.0 in
      subst (Backed roster signed) (sym r.1) (backed_by roster signed s.valid_after s.computed c Microdesc
      s.micro_lines is k.micro_lines yes_it))
      (in_either (publication s (is_signed Ns s) Ns c) (publication s (is_signed Microdesc s) Microdesc c) p these)
  | misses at e ↦ absurd (none p (subst (λ (y : Outcome Advance). In p (publishes_at s y.answer)) e i))
  | begins now next at f e ↦ absurd (none p (subst (λ (y : Outcome Advance). In p (publishes_at s y.answer)) e i))
]
  where
    none : (p : Publication) → In p [] → ⊥
    none p i = i

pub published_in : (roster : List Fingerprint) (signed : List SignedDigest) (member : Fingerprint) (s : State)
    (event : Event)
    → SoundAt roster signed member s → (p : Publication) → In p (publishes_in s (step s event).answer)
    → Backed roster signed p
published_in roster signed member s (Offered vote via now) k p i = absurd i
published_in roster signed member s (Advanced now given) k p i = published_at roster signed member s given
    (advance s now given) (advancing s now given) k p i
published_in roster signed member s (SignedIn signature) k p i = absurd i
published_in roster signed member s Read k p i = absurd i
