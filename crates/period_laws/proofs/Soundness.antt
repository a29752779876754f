-- What holds of a member's state in a world.
use Rattle.std.proofs.Common.{◌≡◌, ℕ, ◌<◌, ◌≤◌, ◌⊎◌, ◌&&◌, Bool, true, false, List, [], ◌∷◌, ◌++◌, Option, Some, None}
use Rattle.std.proofs.{Common.{refl, sym, ap, ◌∙◌, inl, inr, ⊎_elim, arith, ◌≢◌}, lemmas.Bool.false≢true}
use Rattle.dir_values.specs.declared.digest.Fingerprint.{Fingerprint}
use Rattle.consensus_terms.specs.declared.{consensus.Consensus.Consensus, flavour.Flavour.{Flavour, TheVariants.Ns}}
use Rattle.consensus_terms.specs.declared.{flavour.Flavour.TheVariants.Microdesc, signature.SignatureLine.SignatureLine}
use Rattle.period_terms.specs.declared.{answer.Advance.Advance, stage.Stage.{Stage, TheVariants.{Voting, Frozen}}}
use Rattle.period_terms.specs.declared.{stage.Stage.TheVariants.{Computed, Signed, Ended}, state.State.State}
use Rattle.period_terms.specs.{States.{Outcome, digest_of}, Steps.moment_changes}
use Rattle.period_terms.specs.declared.answer.Advance.TheVariants as moments
use Rattle.period_laws.specs.Worlds as w
use Rattle.period_laws.{specs.Worlds.{SignedDigest, signed_by, signs_at, is_among}, proofs.Members.{In, in_either}}
use Rattle.period_laws.proofs.{Rows.signs, Digests.among_more}
use Rattle.vote_schedule.specs.Schedules.{Schedule, IsSchedule}

-- whether a consensus may be computed at a stage
abbrev pub is_set : Stage → Bool
is_set Voting = false
is_set Frozen = false
is_set Computed = true
is_set Signed = true
is_set Ended = true

-- whether the authority may have signed at a stage
abbrev pub has_signed : Stage → Bool
has_signed Voting = false
has_signed Frozen = false
has_signed Computed = false
has_signed Signed = true
has_signed Ended = true

-- what was signed is of this period, and is the digest of what is computed
pub record Ours (valid_after : ℕ) (stage : Stage) (computed : Option Consensus) (x : SignedDigest) : Type 0 where
  pub period : x.period ≡ valid_after
  pub signed : has_signed stage ≡ true
  pub c : Consensus
  pub is : computed ≡ Some c
  pub digest : x.digest ≡ digest_of x.flavour c

-- a signature that is held was signed, over the digest of what is computed
pub record Lined (signed : List SignedDigest) (valid_after : ℕ) (computed : Option Consensus) (flavour : Flavour)
    (line : SignatureLine) : Type 0 where
  pub c : Consensus
  pub is : computed ≡ Some c
  pub signs : is_among signed (signed_by line.identity flavour valid_after (digest_of flavour c)) ≡ true

-- what holds of a member's state
pub record Sound (roster : List Fingerprint) (signed : List SignedDigest) (member : Fingerprint)
    (own : Fingerprint) (members : List Fingerprint) (schedule : Schedule) (valid_after : ℕ) (stage : Stage)
    (computed : Option Consensus)
    (ns micro : List SignatureLine) : Type 0 where
  pub own_is : own ≡ member
  pub roster_is : members ≡ roster
  pub times : IsSchedule schedule
  pub unset : is_set stage ≡ false → computed ≡ None
  pub claims : (x : SignedDigest) → In x signed → x.authority ≡ member → (x.period < valid_after) ⊎ Ours valid_after
      stage
      computed x
  pub ns_lines : (line : SignatureLine) → In line ns → Lined signed valid_after computed Ns line
  pub micro_lines : (line : SignatureLine) → In line micro → Lined signed valid_after computed Microdesc line

abbrev pub SoundAt : List Fingerprint → List SignedDigest → Fingerprint → State → Type 0
SoundAt roster signed member s =
    Sound roster signed member s.own s.roster s.schedule s.valid_after s.stage s.computed s.ns_lines s.micro_lines

-- ---- more is signed

pub lined_more : (signed more : List SignedDigest) (v : ℕ) (computed : Option Consensus) (flavour : Flavour)
    (line : SignatureLine)
    → Lined signed v computed flavour line → Lined (signed ++ more) v computed flavour line
lined_more signed more v computed flavour line l = record {
  c = l.c;
  is = l.is;
  signs = among_more signed more (signed_by line.identity flavour v (digest_of flavour l.c)) l.signs;
}

-- where more is signed by others alone
pub sound_more : (roster : List Fingerprint) (signed more : List SignedDigest) (member : Fingerprint) (s : State)
    → ((x : SignedDigest) → In x more → x.authority ≡ member → ⊥) → SoundAt roster signed member s
    → SoundAt roster (signed ++ more) member s
sound_more roster signed more member s others k = record {
  own_is = k.own_is;
  roster_is = k.roster_is;
  times = k.times;
  unset = k.unset;
  claims = λ x i e. ⊎_elim (λ (j : In x signed). k.claims x j e) (λ j. absurd (others x j e))
      (in_either signed more x i);
  ns_lines = λ line i. lined_more signed more s.valid_after s.computed Ns line (k.ns_lines line i);
  micro_lines = λ line i. lined_more signed more s.valid_after s.computed Microdesc line (k.micro_lines line i);
}

pub nothing_more : (roster : List Fingerprint) (signed : List SignedDigest) (member : Fingerprint) (s : State)
    → SoundAt roster signed member s → SoundAt roster (signed ++ []) member s
nothing_more roster signed member s k = sound_more roster signed [] member s (λ x i e. i) k

-- ---- what a state does

pub no_claim : (stage : Stage) (v : ℕ) (computed : Option Consensus) (x : SignedDigest) → has_signed stage ≡ false
    → (x.period < v) ⊎ Ours v stage computed x → x.period < v
no_claim stage v computed x h k = ⊎_elim (λ (j : x.period < v). j) (λ j. absurd (false≢true (sym h ∙ j.signed))) k

-- the state goes on to another stage, with what is computed and held as it was
pub goes_on : (roster : List Fingerprint) (signed : List SignedDigest) (member : Fingerprint) (s : State)
    (stage next : Stage) → s.stage ≡ stage
    → (has_signed stage ≡ true → has_signed next ≡ true) → (is_set next ≡ false → is_set stage ≡ false)
    → SoundAt roster signed member s
    → Sound roster signed member s.own s.roster s.schedule s.valid_after next s.computed s.ns_lines s.micro_lines
goes_on roster signed member s stage next at to_signed unset k = record {
  own_is = k.own_is;
  roster_is = k.roster_is;
  times = k.times;
  unset = λ e. k.unset (ap is_set at ∙ unset e);
  claims = λ x i e. ⊎_elim (λ (j : x.period < s.valid_after). inl j)
      (λ (j : Ours s.valid_after s.stage s.computed x).
      inr (record {
        period = j.period;
        signed = to_signed (ap has_signed (sym at) ∙ j.signed);
        c = j.c;
        is = j.is;
        digest = j.digest;
      }))
      (k.claims x i e);
  ns_lines = k.ns_lines;
  micro_lines = k.micro_lines;
}

-- what one outcome of a state keeps
abbrev pub Keeps : List Fingerprint → List SignedDigest → Fingerprint → State → Outcome Advance → Type 0
Keeps roster signed member s o = SoundAt roster (signed ++ signs_at s o.answer) member o.after

pub quiet : (s : State) (answer : Advance) → moment_changes answer ≡ false → (x : SignedDigest)
    → In x (signs_at s answer)
    → ⊥
quiet s moments.Nothing e x i = i
quiet s moments.Frozen e x i = i
quiet s moments.Computed e x i = i
quiet s (moments.NoConsensus held roster) e x i = i
quiet s moments.NoOwnVote e x i = i
quiet s moments.Signed e x i = absurd (false≢true (sym e))
quiet s (moments.Published ns microdesc) e x i = i
quiet s (moments.Missed ns microdesc roster) e x i = i
quiet s (moments.Began valid_after) e x i = i
quiet s moments.EndOfTime e x i = i
quiet s moments.SignerFault e x i = i
quiet s moments.VerifierFault e x i = i
quiet s (moments.OwnSignatureRefused digest) e x i = i

pub none_is : (c : Consensus) (computed : Option Consensus) → computed ≡ None → computed ≡ Some c → ⊥
none_is c computed e f = absurd cc

-- the consensus is computed: nothing was held or signed before
pub computes_it : (roster : List Fingerprint) (signed : List SignedDigest) (member : Fingerprint) (s : State)
    (c : Consensus) → s.stage ≡ Frozen
    → SoundAt roster signed member s
    → Sound roster signed member s.own s.roster s.schedule s.valid_after Computed (Some c) s.ns_lines s.micro_lines
computes_it roster signed member s c at k =
    let free : s.computed ≡ None = k.unset (ap is_set at) in
    record {
      own_is = k.own_is;
      roster_is = k.roster_is;
      times = k.times;
      unset = λ e. absurd (false≢true (sym e));
      claims = λ x i e. inl (no_claim s.stage s.valid_after s.computed x (ap has_signed at) (k.claims x i e));
      ns_lines = λ line i. let l = k.ns_lines line i in absurd (none_is l.c s.computed free l.is);
      micro_lines = λ line i. let l = k.micro_lines line i in absurd (none_is l.c s.computed free l.is);
    }

-- the next period begins: what was signed is of earlier ones
pub begins_it : (roster : List Fingerprint) (signed : List SignedDigest) (member : Fingerprint) (s : State) (next : ℕ)
    → s.valid_after < next
    → SoundAt roster signed member s
    → Sound roster signed member s.own s.roster s.schedule next Voting None [] []
begins_it roster signed member s next lt k = record {
  own_is = k.own_is;
  roster_is = k.roster_is;
  times = k.times;
  unset = λ e. refl;
  claims = λ x i e. inl (⊎_elim (λ (j : x.period < s.valid_after). omega (arith, j, lt))
      (λ (j : Ours s.valid_after s.stage s.computed x). omega (arith, j.period, lt)) (k.claims x i e));
  ns_lines = λ line i. absurd i;
  micro_lines = λ line i. absurd i;
}
