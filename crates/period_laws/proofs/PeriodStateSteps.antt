-- Each step of a state keeps it.
use Rattle.std.proofs.Common.{◌≡◌, ℕ, ◌<◌, ◌≤◌, ◌⊎◌, ◌&&◌, true, false, not, List, [], ◌∷◌, ◌++◌, Option, Some, None}
use Rattle.std.proofs.{Common.{refl, sym, ap, ◌∙◌, subst, inl, inr, ⊎_elim, filter, ◌≢◌}, lemmas.Bool.false≢true}
use Rattle.dir_values.specs.{declared.digest.Fingerprint.Fingerprint, Digests.same_identity}
use Rattle.consensus_terms.specs.declared.{consensus.Consensus.Consensus, flavour.Flavour.{Flavour, TheVariants.Ns}}
use Rattle.consensus_terms.specs.declared.{flavour.Flavour.TheVariants.Microdesc, signature.SignatureLine.SignatureLine}
use Rattle.period_terms.specs.declared.{answer.{Advance.Advance, Offer.Offer, SignIn.SignIn}, event.Event.Event}
use Rattle.period_terms.specs.declared.event.{Event.TheVariants.{Offered, Advanced, SignedIn, Read}, Signing.Signing}
use Rattle.period_terms.specs.declared.{signature.OfferedSignature.OfferedSignature, stage.Stage.TheVariants.Voting}
use Rattle.period_terms.specs.declared.{stage.Stage.TheVariants.{Frozen, Computed, Signed, Ended}, state.State.State}
use Rattle.period_terms.specs.{States.{Outcome, consensus_of, digest_of, with_signature}, Offers.offer}
use Rattle.period_terms.specs.{Advances.{advance, own_line}, SignIns.{sign_in, line_of, with_line}, Steps.step}
use Rattle.period_terms.specs.declared.answer.Advance.TheVariants as moments
use Rattle.vote_terms.specs.Votes.{ReadVote}
use Rattle.period_laws.specs.Worlds as w
use Rattle.period_laws.specs.Worlds.{SignedDigest, signed_by, signs_both, signs_at, signs_in, is_among, may_come}
use Rattle.period_laws.proofs.{Members.{In, in_both, in_either, in_filter}, Rows.{Offering, Advancing, SigningIn}}
use Rattle.period_laws.proofs.Rows.{offering, advancing, signing_in, refused, had, kept, stays, freezes, computes}
use Rattle.period_laws.proofs.Rows.{gives_up, passes_over, signs, publishes, misses, begins, refuses, keeps}
use Rattle.period_laws.proofs.{Digests.among, LaterPeriods.later, Soundness.{has_signed, Lined, Sound, SoundAt}}
use Rattle.period_laws.proofs.Soundness.{lined_more, sound_more, nothing_more, no_claim, goes_on, Keeps, quiet}
use Rattle.period_laws.proofs.Soundness.{computes_it, begins_it}

-- both digests are signed
pub signed_is_own : (own : Fingerprint) (v : ℕ) (c : Consensus) (x : SignedDigest) → In x (signs_both own v (Some c))
    → (x.authority ≡ own) × (x.period ≡ v) × (x.digest ≡ digest_of x.flavour c)
signed_is_own own v c x i =
    ⊎_elim
    (λ (e : x ≡ signed_by own Ns v (digest_of Ns c)). rw e (refl, refl, refl))
    (λ j. ⊎_elim (λ (e : x ≡ signed_by own Microdesc v (digest_of Microdesc c)). rw e (refl, refl, refl))
    (λ k. absurd k) j) i

-- the signatures with an own one, where the own digest is signed
pub with_own : (signed more : List SignedDigest) (v : ℕ) (computed : Option Consensus) (c : Consensus)
    (flavour : Flavour)
    (lines : List SignatureLine) (own : SignatureLine)
    → computed ≡ Some c → In (signed_by own.identity flavour v (digest_of flavour c)) more
    → ((line : SignatureLine) → In line lines → Lined signed v computed flavour line)
    → (line : SignatureLine) → In line (with_signature lines own) → Lined (signed ++ more) v computed flavour line
with_own signed more v computed c flavour lines own is there k line i =
    ⊎_elim
    (λ (j : In line (filter (λ other. not (same_identity other.identity own.identity)) lines)).
    lined_more signed more v computed flavour line
    (k line (in_filter (λ other. not (same_identity other.identity own.identity)) lines line j).0))
    (λ j. ⊎_elim
    (λ (e : line ≡ own). subst (λ (l : SignatureLine). Lined (signed ++ more) v computed flavour l) (sym e) (record {
      c = c;
      is = is;
      signs = among (signed ++ more) (signed_by own.identity flavour v (digest_of flavour c))
          (in_both signed more (signed_by own.identity flavour v (digest_of flavour c)) (inr there));
    }))
    (λ n. absurd n) j)
    (in_either (filter (λ other. not (same_identity other.identity own.identity)) lines) (own ∷ []) line i)

pub signs_it : (roster : List Fingerprint) (signed : List SignedDigest) (member : Fingerprint) (s : State)
    (c : Consensus)
    (key ns microdesc : List ℕ)
    → s.stage ≡ Computed → s.computed ≡ Some c → SoundAt roster signed member s
    → Sound roster (signed ++ signs_both s.own s.valid_after (Some c)) member s.own s.roster s.schedule s.valid_after
    Signed s.computed
    (with_signature s.ns_lines (own_line Ns s.own key ns)) (with_signature s.micro_lines (own_line Microdesc s.own key
    microdesc))
signs_it roster signed member s c key ns microdesc at is k =
    let more = signs_both s.own s.valid_after (Some c) in
    record {
      own_is = k.own_is;
      roster_is = k.roster_is;
      times = k.times;
      unset = λ e. absurd (false≢true (sym e));
      claims = λ x i e. ⊎_elim
          (λ (j : In x signed). inl (no_claim s.stage s.valid_after s.computed x (ap has_signed at) (k.claims x j e)))
          (λ (j : In x (signs_both s.own s.valid_after (Some c))). let b = signed_is_own s.own s.valid_after c x j in inr
          (record { period = b.1; signed = refl; c = c; is = is; digest = b.2 }))
          (in_either signed more x i);
      ns_lines = with_own signed more s.valid_after s.computed c Ns s.ns_lines (own_line Ns s.own key ns) is
          (inl refl) k.ns_lines;
      micro_lines = with_own signed more s.valid_after s.computed c Microdesc s.micro_lines
          (own_line Microdesc s.own key microdesc) is (inr (inl refl)) k.micro_lines;
    }

pub moment_keeps : (roster : List Fingerprint) (signed : List SignedDigest) (member : Fingerprint) (s : State)
    (given : Signing) (o : Outcome Advance) → Advancing s given o
    → SoundAt roster signed member s → Keeps roster signed member s o
moment_keeps roster signed member s given o row k = elim row [
  | stays answer e q ↦ subst (Keeps roster signed member s) (sym e) (sound_more roster signed (signs_at s answer)
      member s (λ x i _. quiet s answer q x i) k)
  | freezes at e ↦ subst (Keeps roster signed member s) (sym e)
      (nothing_more roster signed member (record s { stage = Frozen }) (goes_on roster signed member s Voting Frozen
      at (λ h. h) (λ h. h) k))
  | computes at n e ↦ subst (Keeps roster signed member s) (sym e)
      (nothing_more roster signed member (record s { stage = Computed; computed = Some (consensus_of s) })
      (computes_it roster signed member s (consensus_of s) at k))
  | gives_up at e ↦ subst (Keeps roster signed member s) (sym e)
      (nothing_more roster signed member (record s { stage = Ended }) (goes_on roster signed member s Frozen Ended at
      (λ h. refl) (λ h. absurd (false≢true (sym h))) k))
  | passes_over c at is e ↦ subst (Keeps roster signed member s) (sym e)
      (nothing_more roster signed member (record s { stage = Signed }) (goes_on roster signed member s Computed Signed
      at (λ h. refl) (λ h. absurd (false≢true (sym h))) k))
  | signs c vote ns microdesc at is f g e ↦
      let P : Option Consensus → Type 0 = λ computed. Sound roster (signed ++ signs_both s.own s.valid_after computed)
      member s.own s.roster s.schedule s.valid_after Signed s.computed
      (with_signature s.ns_lines (own_line Ns s.own vote.says.certificate.signing_key ns))
      (with_signature s.micro_lines (own_line Microdesc s.own vote.says.certificate.signing_key microdesc)) in
      subst (Keeps roster signed member s) (sym e)
      (subst P (sym is) (signs_it roster signed member s c vote.says.certificate.signing_key ns microdesc at is k))
  | publishes c at is h e ↦ subst (Keeps roster signed member s) (sym e)
      (nothing_more roster signed member (record s { stage = Ended }) (goes_on roster signed member s Signed Ended at
      (λ h. refl) (λ h. absurd (false≢true (sym h))) k))
  | misses at e ↦ subst (Keeps roster signed member s) (sym e)
      (nothing_more roster signed member (record s { stage = Ended }) (goes_on roster signed member s Signed Ended at
      (λ h. refl) (λ h. absurd (false≢true (sym h))) k))
  | begins now next at f e ↦ subst (Keeps roster signed member s) (sym e)
      (nothing_more roster signed member (record s {
        valid_after = next;
        stage = Voting;
        computed = None;
        ns_lines =
            [];
        micro_lines = [];
      })
      (begins_it roster signed member s next (later s.schedule s.valid_after now next k.times f) k))
]

pub vote_keeps : (roster : List Fingerprint) (signed : List SignedDigest) (member : Fingerprint) (s : State)
    (v : ReadVote) (o : Outcome Offer) → Offering s v o
    → SoundAt roster signed member s → SoundAt roster signed member o.after
vote_keeps roster signed member s v o row k = elim row [
  | refused answer e q a ↦ subst (λ (x : Outcome Offer). SoundAt roster signed member x.after) (sym e) k
  | had answer held p m f n e q a ↦ subst (λ (x : Outcome Offer). SoundAt roster signed member x.after) (sym e) k
  | kept answer p m voting few beats e q a ↦ subst (λ (x : Outcome Offer). SoundAt roster signed member x.after)
      (sym e) k
]

-- one more signature is held, which was signed
pub one_lined : (signed : List SignedDigest) (v : ℕ) (computed : Option Consensus) (flavour : Flavour)
    (lines : List SignatureLine) (one : SignatureLine)
    → Lined signed v computed flavour one → ((line : SignatureLine) → In line lines → Lined signed v computed flavour
    line)
    → (line : SignatureLine) → In line (lines ++ one ∷ []) → Lined signed v computed flavour line
one_lined signed v computed flavour lines one l k line i =
    ⊎_elim (λ (j : In line lines). k line j)
    (λ j. ⊎_elim (λ (e : line ≡ one). subst (λ (x : SignatureLine). Lined signed v computed flavour x) (sym e) l)
    (λ n. absurd n) j)
    (in_either lines (one ∷ []) line i)

-- the state with one more signature
pub line_keeps : (roster : List Fingerprint) (signed : List SignedDigest) (member : Fingerprint) (s : State)
    (flavour : Flavour) (line : SignatureLine)
    → Lined signed s.valid_after s.computed flavour line → SoundAt roster signed member s → SoundAt roster signed
    member (with_line flavour line s)
line_keeps roster signed member s Ns line l k = record {
  own_is = k.own_is;
  roster_is = k.roster_is;
  times = k.times;
  unset = k.unset;
  claims = k.claims;
  ns_lines = one_lined signed s.valid_after s.computed Ns s.ns_lines line l k.ns_lines;
  micro_lines = k.micro_lines;
}
line_keeps roster signed member s Microdesc line l k = record {
  own_is = k.own_is;
  roster_is = k.roster_is;
  times = k.times;
  unset = k.unset;
  claims = k.claims;
  ns_lines = k.ns_lines;
  micro_lines = one_lined signed s.valid_after s.computed Microdesc s.micro_lines line l k.micro_lines;
}

pub signature_keeps : (roster : List Fingerprint) (signed : List SignedDigest) (member : Fingerprint) (s : State)
    (signature : OfferedSignature) (o : Outcome SignIn)
    → is_among signed (signed_by signature.authority signature.flavour signature.valid_after signature.digest) ≡ true
    → SigningIn s signature o → SoundAt roster signed member s → SoundAt roster signed member o.after
signature_keeps roster signed member s signature o was row k = elim row [
  | refuses answer e q ↦ subst (λ (x : Outcome SignIn). SoundAt roster signed member x.after) (sym e) k
  | keeps c p is d key n open_it e ↦
      let there : is_among signed (signed_by signature.authority signature.flavour s.valid_after
      (digest_of signature.flavour c)) ≡ true =
      subst (λ (x : ℕ). is_among signed (signed_by signature.authority signature.flavour x
      (digest_of signature.flavour c)) ≡ true) p
      (subst (λ (x : List ℕ). is_among signed (signed_by signature.authority signature.flavour signature.valid_after
      x) ≡ true) d was) in
      let l : Lined signed s.valid_after s.computed signature.flavour (line_of signature) =
      record { c = c; is = is; signs = there } in
      subst (λ (x : Outcome SignIn). SoundAt roster signed member x.after) (sym e) (line_keeps roster signed member s
      signature.flavour (line_of signature) l k)
]

-- an event that may come keeps what holds of the state to which it comes
pub step_keeps : (roster : List Fingerprint) (signed : List SignedDigest) (member : Fingerprint) (s : State)
    (event : Event)
    → may_come signed event ≡ true → SoundAt roster signed member s
    → SoundAt roster (signed ++ signs_in s (step s event).answer) member (step s event).after
step_keeps roster signed member s (Offered vote via now) h k =
    nothing_more roster signed member (offer s vote via now).after
    (vote_keeps roster signed member s vote (offer s vote via now) (offering s vote via now) k)
step_keeps roster signed member s (Advanced now given) h k = moment_keeps roster signed member s given
    (advance s now given) (advancing s now given) k
step_keeps roster signed member s (SignedIn signature) h k =
    nothing_more roster signed member (sign_in s signature).after
    (signature_keeps roster signed member s signature (sign_in s signature) h (signing_in s signature) k)
step_keeps roster signed member s Read h k = nothing_more roster signed member s k
