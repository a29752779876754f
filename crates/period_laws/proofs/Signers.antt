-- What is told of a signature when it comes is told of it while it is held, by the key of its authority's held vote.
use Rattle.std.proofs.Common.{◌≡◌, ℕ, ◌&&◌, Bool, true, false, not, List, [], ◌∷◌, ◌++◌, filter, Option, Some, None}
use Rattle.std.proofs.{Common.{refl, sym, ap, ◌∙◌, subst, ⊎_elim, bytes_eq}, lemmas.Bool.false≢true}
use Rattle.key_port.specs.Answers.{Relation, Rules}
use Rattle.dir_values.{specs.{Digests.same_identity, declared.digest.Fingerprint.Fingerprint}, proofs.Orders.same_text}
use Rattle.vote_terms.{specs.Votes.ReadVote, proofs.Orders.same_one}
use Rattle.consensus_terms.specs.declared.{consensus.Consensus.Consensus, flavour.Flavour.{Flavour, TheVariants.Ns}}
use Rattle.consensus_terms.specs.declared.{flavour.Flavour.TheVariants.Microdesc, signature.SignatureLine.SignatureLine}
use Rattle.period_terms.specs.declared.{answer.{Advance.Advance, Offer.Offer, SignIn.SignIn}, event.Signing.Signing}
use Rattle.period_terms.specs.declared.{event.Signing.TheVariants.Given, signature.OfferedSignature.OfferedSignature}
use Rattle.period_terms.specs.declared.stage.Stage.{Stage, TheVariants.{Voting, Frozen, Computed, Signed, Ended}}
use Rattle.period_terms.specs.{declared.state.State.State, States.{Outcome, consensus_of, is_voting, vote_of}}
use Rattle.period_terms.specs.{States.{digest_of, with_signature}, Offers.with_vote, Advances.{own_line, MayGiveAt}}
use Rattle.period_terms.specs.{Advances.{MayGiveIf, MaySign}, SignIns.{line_of, with_line}}
use Rattle.period_laws.proofs.{Members.{In, in_either, in_filter, any_from, found}, Digests.and_true, Rows.Offering}
use Rattle.period_laws.proofs.Rows.{Advancing, SigningIn, refused, had, kept, stays, freezes, computes, gives_up}
use Rattle.period_laws.proofs.Rows.{passes_over, signs, publishes, misses, begins, refuses, keeps}

-- whether a consensus may be computed at a stage
abbrev pub is_set : Stage → Bool
is_set Voting = false
is_set Frozen = false
is_set Computed = true
is_set Signed = true
is_set Ended = true

-- what is told of a signature by a key over a digest
abbrev pub Telling : Type 1
Telling = List ℕ → List ℕ → SignatureLine → Type 0

-- it is told of the signature, over the digest of what is computed, by the key of a held vote
pub record Good (Told : Telling) (votes : List ReadVote) (computed : Option Consensus) (flavour : Flavour)
    (line : SignatureLine) : Type 0 where
  pub c : Consensus
  pub is : computed ≡ Some c
  pub vote : ReadVote
  pub there : In vote votes
  pub same : vote.says.identity ≡ line.identity
  pub told : Told vote.says.certificate.signing_key (digest_of flavour c) line

-- each signature that is held is so, and where no consensus may be computed there is none
pub record Sound (Told : Telling) (votes : List ReadVote) (stage : Stage) (computed : Option Consensus)
    (ns micro : List SignatureLine) : Type 0 where
  pub unset : is_set stage ≡ false → computed ≡ None
  pub ns_lines : (line : SignatureLine) → In line ns → Good Told votes computed Ns line
  pub micro_lines : (line : SignatureLine) → In line micro → Good Told votes computed Microdesc line

abbrev pub SoundAt : Telling → State → Type 0
SoundAt Told s = Sound Told s.votes s.stage s.computed s.ns_lines s.micro_lines

none_is : (c : Consensus) (computed : Option Consensus) → computed ≡ None → computed ≡ Some c → ⊥
none_is c computed e f = absurd cc

-- where nothing is computed no signature is held, whatever becomes of the rest
fresh : (Told : Telling) (s : State) (votes : List ReadVote) (stage : Stage) (computed : Option Consensus)
    → s.computed ≡ None
    → (is_set stage ≡ false → computed ≡ None) → SoundAt Told s → Sound Told votes stage computed
    s.ns_lines s.micro_lines
fresh Told s votes stage computed free unset k = record {
  unset = unset;
  ns_lines = λ line i. let g = k.ns_lines line i in absurd (none_is g.c s.computed free g.is);
  micro_lines = λ line i. let g = k.micro_lines line i in absurd (none_is g.c s.computed free g.is);
}

goes_on : (Told : Telling) (s : State) (stage next : Stage) → s.stage ≡ stage
    → (is_set next ≡ false → is_set stage ≡ false)
    → SoundAt Told s → Sound Told s.votes next s.computed s.ns_lines s.micro_lines
goes_on Told s stage next at unset k = record {
  unset = λ e. k.unset (ap is_set at ∙ unset e);
  ns_lines = k.ns_lines;
  micro_lines = k.micro_lines;
}

-- ---- a vote

voting_is : (stage : Stage) → is_voting stage ≡ true → is_set stage ≡ false
voting_is Voting e = refl
voting_is Frozen e = absurd (false≢true e)
voting_is Computed e = absurd (false≢true e)
voting_is Signed e = absurd (false≢true e)
voting_is Ended e = absurd (false≢true e)

pub of_vote : (Told : Telling) (s : State) (v : ReadVote) (o : Outcome Offer) → Offering s v o → SoundAt Told
    s → SoundAt Told o.after
of_vote Told s v o row k =
    let P : Outcome Offer → Type 0 = λ x. SoundAt Told x.after in
    elim row [
      | refused answer e q a ↦ subst P (sym e) k
      | had answer h p m f n e q a ↦ subst P (sym e) k
      | kept answer p m voting few beats e q a ↦ subst P (sym e)
          (fresh Told s (with_vote v s).votes s.stage s.computed (k.unset (voting_is s.stage voting)) k.unset k)
    ]

-- ---- a moment

-- the own signature, where the own vote is held
own_good : (Told : Telling) (s : State) (c : Consensus) (vote : ReadVote) (flavour : Flavour)
    (bytes : List ℕ) → s.computed ≡ Some c
    → vote_of s.votes s.own ≡ Some vote
    → Told vote.says.certificate.signing_key (digest_of flavour c)
    (own_line flavour s.own vote.says.certificate.signing_key bytes)
    → Good Told s.votes s.computed flavour (own_line flavour s.own vote.says.certificate.signing_key bytes)
own_good Told s c vote flavour bytes is f told =
    let r = found (λ (v : ReadVote). same_identity v.says.identity s.own) s.votes vote f in
    record {
      c = c;
      is = is;
      vote = vote;
      there = r.0;
      same = same_one vote.says.identity s.own r.1;
      told = told;
    }

with_own : (Told : Telling) (s : State) (flavour : Flavour) (lines : List SignatureLine) (own : SignatureLine)
    → Good Told s.votes s.computed flavour own
    → ((line : SignatureLine) → In line lines → Good Told s.votes s.computed flavour line)
    → (line : SignatureLine) → In line (with_signature lines own) → Good Told s.votes s.computed flavour line
with_own Told s flavour lines own good k line i =
    ⊎_elim
    (λ (j : In line (filter (λ other. not (same_identity other.identity own.identity)) lines)).
    k line (in_filter (λ other. not (same_identity other.identity own.identity)) lines line j).0)
    (λ j. ⊎_elim (λ (e : line ≡ own). subst (λ (x : SignatureLine). Good Told s.votes s.computed flavour x)
    (sym e) good) (λ n. absurd n) j)
    (in_either (filter (λ other. not (same_identity other.identity own.identity)) lines) (own ∷ []) line i)

-- what may come of signing, where this is computed, this is the own vote and this was given
signs_good : (may_give : Relation) (rules : Rules) (s : State) (c : Consensus) (vote : ReadVote) (given : Signing)
    (ns microdesc : List ℕ)
    → s.computed ≡ Some c → vote_of s.votes s.own ≡ Some vote → given ≡ Given ns microdesc → MayGiveAt may_give rules
    s given
    → MayGiveIf may_give rules (Some c) (Some vote) (Given ns microdesc)
signs_good may_give rules s c vote given ns microdesc is f g may =
    let one : MayGiveIf may_give rules s.computed (vote_of s.votes s.own) (Given ns microdesc) =
    subst (λ (x : Signing). MayGiveIf may_give rules s.computed (vote_of s.votes s.own) x) g may in
    let two : MayGiveIf may_give rules (Some c) (vote_of s.votes s.own) (Given ns microdesc) =
    subst (λ (x : Option Consensus). MayGiveIf may_give rules x (vote_of s.votes s.own) (Given ns microdesc)) is one in
    subst (λ (x : Option ReadVote). MayGiveIf may_give rules (Some c) x (Given ns microdesc)) f two

-- what is told of each signature that a signer gave and a verifier accepted
abbrev pub TellsOwn : Relation → Rules → Telling → Type 0
TellsOwn may_give rules Told =
    (flavour : Flavour) (authority : Fingerprint) (key digest bytes : List ℕ)
    → MaySign may_give rules.may_accept key digest bytes → Told key digest (own_line flavour authority key bytes)

pub of_moment : (may_give : Relation) (rules : Rules) (Told : Telling) → TellsOwn may_give rules Told → (s : State)
    (given : Signing) (o : Outcome Advance) → Advancing s given o → MayGiveAt may_give rules s given
    → SoundAt Told s → SoundAt Told o.after
of_moment may_give rules Told own s given o row may k =
    let P : Outcome Advance → Type 0 = λ x. SoundAt Told x.after in
    elim row [
      | stays answer e q ↦ subst P (sym e) k
      | freezes at e ↦ subst P (sym e) (goes_on Told s Voting Frozen at (λ h. h) k)
      | computes at n e ↦ subst P (sym e)
          (fresh Told s s.votes Computed (Some (consensus_of s)) (k.unset (ap is_set at))
          (λ h. absurd (false≢true (sym h))) k)
      | gives_up at e ↦ subst P (sym e) (goes_on Told s Frozen Ended at (λ h. absurd (false≢true (sym h)))
          k)
      | passes_over c at is e ↦ subst P (sym e) (goes_on Told s Computed Signed at
          (λ h. absurd (false≢true (sym h))) k)
      | signs c vote ns microdesc at is f g e ↦
          let may_both = signs_good may_give rules s c vote given ns microdesc is f g may in
          let key = vote.says.certificate.signing_key in
          subst P (sym e) (record {
            unset = λ h. absurd (false≢true (sym h));
            ns_lines = with_own Told s Ns s.ns_lines (own_line Ns s.own key ns)
                (own_good Told s c vote Ns ns is f (own Ns s.own key (digest_of Ns c) ns may_both.0)) k.ns_lines;
            micro_lines = with_own Told s Microdesc s.micro_lines (own_line Microdesc s.own key microdesc)
                (own_good Told s c vote Microdesc microdesc is f
                (own Microdesc s.own key (digest_of Microdesc c) microdesc may_both.1)) k.micro_lines;
          })
      | publishes c at is h e ↦ subst P (sym e) (goes_on Told s Signed Ended at
          (λ x. absurd (false≢true (sym x))) k)
      | misses at e ↦ subst P (sym e) (goes_on Told s Signed Ended at (λ x. absurd (false≢true (sym x))) k)
      | begins now next at f e ↦ subst P (sym e) (record {
        unset = λ h. refl;
        ns_lines = λ line i. absurd i;
        micro_lines = λ line i. absurd i;
      })
    ]

-- ---- a signature

one_more_line_is_good : (Told : Telling) (s : State) (flavour : Flavour) (lines : List SignatureLine) (one : SignatureLine)
    → Good Told s.votes s.computed flavour one
    → ((line : SignatureLine) → In line lines → Good Told s.votes s.computed flavour line)
    → (line : SignatureLine) → In line (lines ++ one ∷ []) → Good Told s.votes s.computed flavour line
one_more_line_is_good Told s flavour lines one good k line i =
    ⊎_elim (λ (j : In line lines). k line j)
    (λ j. ⊎_elim (λ (e : line ≡ one). subst (λ (x : SignatureLine). Good Told s.votes s.computed flavour x)
    (sym e) good) (λ n. absurd n) j)
    (in_either lines (one ∷ []) line i)

line_good : (Told : Telling) (s : State) (flavour : Flavour) (line : SignatureLine) → Good Told s.votes
    s.computed flavour line
    → SoundAt Told s → SoundAt Told (with_line flavour line s)
line_good Told s Ns line good k = record {
  unset = k.unset;
  ns_lines = one_more_line_is_good Told s Ns s.ns_lines line good k.ns_lines;
  micro_lines = k.micro_lines;
}
line_good Told s Microdesc line good k = record {
  unset = k.unset;
  ns_lines = k.ns_lines;
  micro_lines = one_more_line_is_good Told s Microdesc s.micro_lines line good k.micro_lines;
}

pub of_signature : (Told : Telling) (s : State) (x : OfferedSignature) (o : Outcome SignIn) → SigningIn s x o
    → Told x.key x.digest (line_of x) → SoundAt Told s → SoundAt Told o.after
of_signature Told s x o row was k =
    let P : Outcome SignIn → Type 0 = λ y. SoundAt Told y.after in
    elim row [
      | refuses answer e q ↦ subst P (sym e) k
      | keeps c p is d key n open_it e ↦
          let r = any_from (λ (v : ReadVote). same_identity v.says.identity x.authority && bytes_eq
          v.says.certificate.signing_key x.key) s.votes key in
          let both = and_true (same_identity r.0.says.identity x.authority) (bytes_eq r.0.says.certificate.signing_key
          x.key) r.2 in
          let over_ours : Told x.key (digest_of x.flavour c) (line_of x) =
          subst (λ (y : List ℕ). Told x.key y (line_of x)) d was in
          let by_theirs : Told r.0.says.certificate.signing_key (digest_of x.flavour c) (line_of x) =
          subst (λ (y : List ℕ). Told y (digest_of x.flavour c) (line_of x))
          (sym (same_text r.0.says.certificate.signing_key x.key both.1)) over_ours in
          subst P (sym e) (line_good Told s x.flavour (line_of x) (record {
            c = c;
            is = is;
            vote = r.0;
            there = r.1;
            same = same_one r.0.says.identity x.authority both.0;
            told = by_theirs;
          }) k)
    ]
