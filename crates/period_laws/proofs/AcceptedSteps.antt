-- What one call leaves held and computed, told from the accepted votes.
use Rattle.std.proofs.Common.{◌≡◌, ℕ, Bool, true, false, cond, List, [], ◌∷◌, ◌++◌, length, Option, Some, None, refl}
use Rattle.std.proofs.{Common.{sym, ap, ◌∙◌, subst, ⊎_elim, append-nil}, lemmas.Bool.false≢true}
use Rattle.count_terms.specs.declared.newest.Newest.{Newest}
use Rattle.dir_values.specs.{declared.digest.Fingerprint.Fingerprint, Rosters.has_member}
use Rattle.vote_terms.specs.{Votes.ReadVote, Held.{held, outranks, votes_with}}
use Rattle.consensus_terms.specs.declared.{consensus.Consensus.Consensus, flavour.Flavour.{Flavour, TheVariants.Ns}}
use Rattle.consensus_terms.specs.declared.{flavour.Flavour.TheVariants.Microdesc, signature.SignatureLine.SignatureLine}
use Rattle.compute_terms.specs.Consensuses.{consensus}
use Rattle.period_terms.specs.declared.{answer.{Advance.Advance, Offer.Offer, SignIn.SignIn}, event.Signing.Signing}
use Rattle.period_terms.specs.declared.{signature.OfferedSignature.OfferedSignature, stage.Stage.Stage}
use Rattle.period_terms.specs.declared.stage.Stage.TheVariants.{Voting, Frozen, Computed, Signed, Ended}
use Rattle.period_terms.specs.{declared.state.State.State, States.{Outcome, consensus_of, is_voting, vote_of}}
use Rattle.period_terms.specs.{Offers.with_vote, SignIns.{line_of, with_line}, Steps.moment_changes, Histories.accepts}
use Rattle.period_terms.{specs.Histories.still_accepted, proofs.Placing.{placed_stays, held_ascends, held_push}}
use Rattle.period_terms.specs.declared.answer.Advance.TheVariants as moments
use Rattle.period_laws.proofs.{Members.{In, in_either}, Rows.{Offering, Advancing, SigningIn, refused, had, kept}}
use Rattle.period_laws.proofs.Rows.{stays, freezes, computes, gives_up, passes_over, signs, publishes, misses, begins}
use Rattle.period_laws.proofs.Rows.{refuses, keeps}

-- whether a consensus may be computed at a stage
abbrev pub is_set : Stage → Bool
is_set Voting = false
is_set Frozen = false
is_set Computed = true
is_set Signed = true
is_set Ended = true

-- what is held and computed is that of these votes, for this newest method and this roster
pub record Stands (newest : Newest) (roster : List Fingerprint) (acc : List ReadVote) (known : Newest)
    (members : List Fingerprint)
    (votes : List ReadVote) (valid_after : ℕ) (stage : Stage) (computed : Option Consensus) : Type 0 where
  pub newest_is : known ≡ newest
  pub roster_is : members ≡ roster
  pub votes_is : votes ≡ held acc
  pub wanted : (v : ReadVote) → In v acc → (v.says.valid_after ≡ valid_after) × (has_member roster v.says.identity ≡ true)
  pub unset : is_set stage ≡ false → computed ≡ None
  pub texts : (c : Consensus) → computed ≡ Some c → c ≡ consensus newest (length roster) (held acc)

abbrev pub StandsAt : Newest → List Fingerprint → List ReadVote → State → Type 0
StandsAt newest roster acc s = Stands newest roster acc s.newest s.roster s.votes s.valid_after s.stage s.computed

-- ---- votes

pub none_is : (c : Consensus) (computed : Option Consensus) → computed ≡ None → computed ≡ Some c → ⊥
none_is c computed e f = absurd cc

voting_is : (stage : Stage) → is_voting stage ≡ true → is_set stage ≡ false
voting_is Voting e = refl
voting_is Frozen e = absurd (false≢true e)
voting_is Computed e = absurd (false≢true e)
voting_is Signed e = absurd (false≢true e)
voting_is Ended e = absurd (false≢true e)

wanted_more : (roster : List Fingerprint) (acc : List ReadVote) (va : ℕ) (v : ReadVote) → v.says.valid_after ≡ va
    → has_member roster v.says.identity ≡ true
    → ((x : ReadVote) → In x acc → (x.says.valid_after ≡ va) × (has_member roster x.says.identity ≡ true))
    → (x : ReadVote) → In x (acc ++ v ∷ []) → (x.says.valid_after ≡ va) × (has_member roster x.says.identity ≡ true)
wanted_more roster acc va v p m k x i =
    ⊎_elim (λ (j : In x acc). k x j)
    (λ j. ⊎_elim (λ (e : x ≡ v). subst (λ (y : ReadVote). (y.says.valid_after ≡ va)
    × (has_member roster y.says.identity ≡ true)) (sym e) (p, m)) (λ n. absurd n) j)
    (in_either acc (v ∷ []) x i)

in_roster : (s : State) (roster : List Fingerprint) (a : Fingerprint) → s.roster ≡ roster → has_member s.roster a ≡
    true → has_member roster a ≡ true
in_roster s roster a e m = subst (λ (l : List Fingerprint). has_member l a ≡ true) e m

had_stands : (newest : Newest) (roster : List Fingerprint) (acc : List ReadVote) (s : State) (v h : ReadVote)
    → v.says.valid_after ≡ s.valid_after → has_member s.roster v.says.identity ≡ true
    → vote_of s.votes v.says.identity ≡ Some h → outranks v h ≡ false → StandsAt newest roster acc s
    → StandsAt newest roster (acc ++ v ∷ []) s
had_stands newest roster acc s v h p m f o k =
    let at_held : vote_of (held acc) v.says.identity ≡ Some h =
    subst (λ (l : List ReadVote). vote_of l v.says.identity ≡ Some h) k.votes_is f in
    let same : held acc ≡ held (acc ++ v ∷ []) = sym (held_push acc v ∙ placed_stays (held acc) v h (held_ascends acc)
    at_held o) in
    record {
      newest_is = k.newest_is;
      roster_is = k.roster_is;
      votes_is = k.votes_is ∙ same;
      wanted = wanted_more roster acc s.valid_after v p (in_roster s roster v.says.identity k.roster_is m) k.wanted;
      unset = k.unset;
      texts = λ c e. k.texts c e ∙ ap (λ (l : List ReadVote). consensus newest (length roster) l) same;
    }

kept_stands : (newest : Newest) (roster : List Fingerprint) (acc : List ReadVote) (s : State) (v : ReadVote)
    → v.says.valid_after ≡ s.valid_after → has_member s.roster v.says.identity ≡ true
    → is_voting s.stage ≡ true → StandsAt newest roster acc s
    → Stands newest roster (acc ++ v ∷ []) s.newest s.roster (votes_with s.votes v)
    s.valid_after s.stage s.computed
kept_stands newest roster acc s v p m voting k = record {
  newest_is = k.newest_is;
  roster_is = k.roster_is;
  votes_is = ap (λ (l : List ReadVote). votes_with l v) k.votes_is ∙ sym (held_push acc v);
  wanted = wanted_more roster acc s.valid_after v p (in_roster s roster v.says.identity k.roster_is m) k.wanted;
  unset = k.unset;
  texts = λ c e. absurd (none_is c s.computed (k.unset (voting_is s.stage voting)) e);
}

-- the accepted votes, after a vote was answered
abbrev pub with_answer : List ReadVote → ReadVote → Bool → List ReadVote
with_answer acc v passed = acc ++ cond passed (v ∷ []) []

pub vote_stands : (newest : Newest) (roster : List Fingerprint) (acc : List ReadVote) (s : State) (v : ReadVote)
    (o : Outcome Offer)
    → Offering s v o → StandsAt newest roster acc s
    → StandsAt newest roster (with_answer acc v (accepts o.answer)) o.after
vote_stands newest roster acc s v o row k =
    let P : Outcome Offer → Type 0 = λ x. StandsAt newest roster (with_answer acc v (accepts x.answer)) x.after in
    elim row [
      | refused answer e q a ↦ subst P (sym e)
          (subst (λ (b : Bool). StandsAt newest roster (with_answer acc v b) s) (sym a)
          (subst (λ (l : List ReadVote). StandsAt newest roster l s) (sym (append-nil acc)) k))
      | had answer h p m f n e q a ↦ subst P (sym e)
          (subst (λ (b : Bool). StandsAt newest roster (with_answer acc v b) s) (sym a)
          (had_stands newest roster acc s v h p m f n k))
      | kept answer p m voting few beats e q a ↦ subst P (sym e)
          (subst (λ (b : Bool). StandsAt newest roster (with_answer acc v b) (with_vote v s)) (sym a)
          (kept_stands newest roster acc s v p m voting k))
    ]

-- ---- moments

quiet : (acc : List ReadVote) (answer : Advance) → moment_changes answer ≡ false → still_accepted answer acc ≡ acc
quiet acc moments.Nothing e = refl
quiet acc moments.Frozen e = refl
quiet acc moments.Computed e = refl
quiet acc (moments.NoConsensus held roster) e = refl
quiet acc moments.NoOwnVote e = refl
quiet acc moments.Signed e = refl
quiet acc (moments.Published ns microdesc) e = refl
quiet acc (moments.Missed ns microdesc roster) e = refl
quiet acc (moments.Began valid_after) e = absurd (false≢true (sym e))
quiet acc moments.EndOfTime e = refl
quiet acc moments.SignerFault e = refl
quiet acc moments.VerifierFault e = refl
quiet acc (moments.OwnSignatureRefused digest) e = refl

-- the state goes on to another stage, with what is computed as it was
goes_on : (newest : Newest) (roster : List Fingerprint) (acc : List ReadVote) (s : State) (stage next : Stage)
    → s.stage ≡ stage
    → (is_set next ≡ false → is_set stage ≡ false)
    → StandsAt newest roster acc s → Stands newest roster acc s.newest s.roster s.votes s.valid_after next s.computed
goes_on newest roster acc s stage next at unset k = record {
  newest_is = k.newest_is;
  roster_is = k.roster_is;
  votes_is = k.votes_is;
  wanted = k.wanted;
  unset = λ e. k.unset (ap is_set at ∙ unset e);
  texts = k.texts;
}

consensus_is : (s : State) → consensus_of s ≡ consensus s.newest (length s.roster) s.votes
unfolding consensus_of
consensus_is s = refl

same_some : (c d : Consensus) → Some c ≡ Some d → c ≡ d
same_some c d e = cc

computes_it : (newest : Newest) (roster : List Fingerprint) (acc : List ReadVote) (s : State)
    → StandsAt newest roster acc s
    → Stands newest roster acc s.newest s.roster s.votes s.valid_after Computed (Some (consensus_of s))
computes_it newest roster acc s k = record {
  newest_is = k.newest_is;
  roster_is = k.roster_is;
  votes_is = k.votes_is;
  wanted = k.wanted;
  unset = λ e. absurd (false≢true (sym e));
  texts = λ c e. sym (same_some (consensus_of s) c e) ∙ consensus_is s
      ∙ ap (λ (n : Newest). consensus n (length s.roster) s.votes) k.newest_is
      ∙ ap (λ (l : List Fingerprint). consensus newest (length l) s.votes) k.roster_is
      ∙ ap (λ (l : List ReadVote). consensus newest (length roster) l) k.votes_is;
}

begins_it : (newest : Newest) (roster : List Fingerprint) (acc : List ReadVote) (s : State) (next : ℕ)
    → StandsAt newest roster acc s
    → Stands newest roster [] s.newest s.roster [] next Voting None
begins_it newest roster acc s next k = record {
  newest_is = k.newest_is;
  roster_is = k.roster_is;
  votes_is = refl;
  wanted = λ v i. absurd i;
  unset = λ e. refl;
  texts = λ c e. absurd (none_is c None refl e);
}

pub moment_stands : (newest : Newest) (roster : List Fingerprint) (acc : List ReadVote) (s : State) (given : Signing)
    (o : Outcome Advance)
    → Advancing s given o
    → StandsAt newest roster acc s → StandsAt newest roster (still_accepted o.answer acc) o.after
moment_stands newest roster acc s given o row k =
    let P : Outcome Advance → Type 0 = λ x. StandsAt newest roster (still_accepted x.answer acc) x.after in
    elim row [
      | stays answer e q ↦ subst P (sym e) (subst (λ (l : List ReadVote). StandsAt newest roster l s)
          (sym (quiet acc answer q)) k)
      | freezes at e ↦ subst P (sym e) (goes_on newest roster acc s Voting Frozen at (λ h. h) k)
      | computes at n e ↦ subst P (sym e) (computes_it newest roster acc s k)
      | gives_up at e ↦ subst P (sym e) (goes_on newest roster acc s Frozen Ended at
          (λ h. absurd (false≢true (sym h))) k)
      | passes_over c at is e ↦ subst P (sym e) (goes_on newest roster acc s Computed Signed at
          (λ h. absurd (false≢true (sym h))) k)
      | signs c vote ns microdesc at is f g e ↦ subst P (sym e) (goes_on newest roster acc s Computed Signed at
          (λ h. absurd (false≢true (sym h))) k)
      | publishes c at is h e ↦ subst P (sym e) (goes_on newest roster acc s Signed Ended at
          (λ h. absurd (false≢true (sym h))) k)
      | misses at e ↦ subst P (sym e) (goes_on newest roster acc s Signed Ended at (λ h. absurd (false≢true (sym h))) k)
      | begins now next at f e ↦ subst P (sym e) (begins_it newest roster acc s next k)
    ]

-- ---- signatures

line_stands : (flavour : Flavour) (line : SignatureLine) (newest : Newest) (roster : List Fingerprint)
    (acc : List ReadVote) (s : State)
    → StandsAt newest roster acc s
    → StandsAt newest roster acc (with_line flavour line s)
line_stands Ns line newest roster acc s k = k
line_stands Microdesc line newest roster acc s k = k

pub signature_stands : (newest : Newest) (roster : List Fingerprint) (acc : List ReadVote) (s : State)
    (signature : OfferedSignature)
    (o : Outcome SignIn) → SigningIn s signature o → StandsAt newest roster acc s → StandsAt newest roster acc o.after
signature_stands newest roster acc s signature o row k = elim row [
  | refuses answer e q ↦ subst (λ (x : Outcome SignIn). StandsAt newest roster acc x.after) (sym e) k
  | keeps c p is d key n open_it e ↦ subst (λ (x : Outcome SignIn). StandsAt newest roster acc x.after) (sym e)
      (line_stands signature.flavour (line_of signature) newest roster acc s k)
]
