-- What changes tell of a state, and what one change more does.
use Rattle.std.proofs.Common.{◌≡◌, ℕ, ◌+◌, ◌&&◌, ◌||◌, Bool, true, false, cond, List, [], ◌∷◌, ◌++◌, length, count_by}
use Rattle.std.proofs.Common.{Option, Some, None, option_map, refl, sym, ap, ◌∙◌, arith, length-append}
use Rattle.std.specs.List.{list_any}
use Rattle.dir_values.specs.declared.digest.Fingerprint.{Fingerprint}
use Rattle.vote_terms.specs.Votes.{ReadVote, rank_of}
use Rattle.consensus_terms.specs.declared.flavour.Flavour.{Flavour, TheVariants.{Ns, Microdesc}}
use Rattle.consensus_terms.specs.declared.signature.SignatureLine.{SignatureLine}
use Rattle.period_terms.specs.declared.{change.Change.Change, stage.Stage.{Stage, TheVariants.Voting}}
use Rattle.period_terms.specs.{declared.state.State.State, States.{vote_of, lines_of, has_line}}
use Rattle.period_terms.specs.KeptFacts.{AgreesWithChanges, is_of, keeps_vote, keeps_vote_of, rank_told, last_of}
use Rattle.period_terms.specs.KeptFacts.{last_rank, stage_by, last_stage, has_flavour, keeps_signature, keeps_line}
use Rattle.period_terms.{specs.KeptFacts.was_kept, proofs.Placing.fold_push}
use Rattle.period_terms.specs.declared.change.ChangeKind.TheVariants as kind

-- what changes tell of these parts of a state
pub record Tells (votes : List ReadVote) (stage : Stage) (ns micro : List SignatureLine) (vote_changes front base : ℕ)
    (changes : List Change) : Type 0 where
  pub ranks : (a : Fingerprint) → option_map rank_of (vote_of votes a) ≡ last_rank changes a
  pub stage_is : stage ≡ last_stage changes
  pub ns_signers : (a : Fingerprint) → has_line ns a ≡ was_kept Ns changes a
  pub micro_signers : (a : Fingerprint) → has_line micro a ≡ was_kept Microdesc changes a
  pub count : vote_changes ≡ count_by (λ (c : Change). keeps_vote c.kind) changes
  pub front_is : front ≡ base + length changes

abbrev pub TellsAt : State → Type 0
TellsAt s = Tells s.votes s.stage s.ns_lines s.micro_lines s.vote_changes s.front s.base s.changes

pub to_parts : (s : State) → AgreesWithChanges s → TellsAt s
to_parts s k = record {
  ranks = k.ranks;
  stage_is = k.stage;
  ns_signers = k.signers Ns;
  micro_signers = k.signers Microdesc;
  count = k.votes;
  front_is = k.front;
}

signers_of : (flavour : Flavour) (s : State) → TellsAt s → (a : Fingerprint) → has_line (lines_of flavour s) a ≡
    was_kept flavour s.changes a
signers_of Ns s k a = k.ns_signers a
signers_of Microdesc s k a = k.micro_signers a

pub from_parts : (s : State) → TellsAt s → AgreesWithChanges s
from_parts s k = record {
  ranks = k.ranks;
  stage = k.stage_is;
  signers = λ flavour a. signers_of flavour s k a;
  votes = k.count;
  front = k.front_is;
}

-- ---- one more change

pub any_push : {X : Type 0} (p : X → Bool) (xs : List X) (x : X) → list_any p (xs ++ x ∷ []) ≡ (list_any p xs || p x)
any_push p [] x = or_false (p x)
  where
    or_false : (b : Bool) → (b || false) ≡ b
    or_false true = refl
    or_false false = refl
any_push p (y ∷ xs) x = by (p y) (any_push p xs x)
  where
    by : (b : Bool) → list_any p (xs ++ x ∷ []) ≡ (list_any p xs || p x) → (b || list_any p (xs ++ x ∷ [])) ≡
        ((b || list_any p xs) || p x)
    by true e = refl
    by false e = e

pub or_none : (a b : Bool) → b ≡ false → (a || b) ≡ a
or_none true b e = refl
or_none false b e = e

pub kept_push : (flavour : Flavour) (changes : List Change) (c : Change) (a : Fingerprint)
    → was_kept flavour (changes ++ c ∷ []) a ≡ (was_kept flavour changes a || keeps_line flavour a c)
kept_push flavour changes c a = any_push (keeps_line flavour a) changes c

pub rank_push : (changes : List Change) (c : Change) (a : Fingerprint)
    → last_rank (changes ++ c ∷ []) a ≡ option_map rank_told (cond (keeps_vote_of a c) (Some c)
    (last_of (keeps_vote_of a) changes))
rank_push changes c a =
    ap (λ (found : Option Change). option_map rank_told found) (fold_push (λ (found : Option Change) (x : Change).
    cond (keeps_vote_of a x) (Some x) found) changes None c)

pub stage_push : (changes : List Change) (c : Change) → last_stage (changes ++ c ∷ []) ≡ stage_by (last_stage changes)
    c.kind
stage_push changes c = fold_push (λ (stage : Stage) (x : Change). stage_by stage x.kind) changes Voting c

pub count_push : (changes : List Change) (c : Change)
    → count_by (λ (x : Change). keeps_vote x.kind) (changes ++ c ∷ []) ≡ count_by (λ (x : Change). keeps_vote x.kind)
    changes + cond (keeps_vote c.kind) 1 0
count_push changes c = fold_push (λ (n : ℕ) (x : Change). n + cond (keeps_vote x.kind) 1 0) changes 0 c

pub length_push : (changes : List Change) (c : Change) (front base : ℕ) → front ≡ base + length changes
    → front + 1 ≡ base + length (changes ++ c ∷ [])
length_push changes c front base e = let n = length-append changes (c ∷ []) in omega (arith, n, e)

-- a change that keeps no vote tells the same ranks
pub ranks_stay : (changes : List Change) (c : Change) (a : Fingerprint) → keeps_vote c.kind ≡ false
    → last_rank (changes ++ c ∷ []) a ≡ last_rank changes a
ranks_stay changes c a e = rank_push changes c a ∙ by (keeps_vote c.kind) e
  where
    by : (b : Bool) → b ≡ false → option_map rank_told (cond (b && is_of c.authority a) (Some c)
        (last_of (keeps_vote_of a) changes)) ≡ last_rank changes a
    by b f = rw f refl

-- a change that keeps no signature tells the same signers
pub signers_stay : (flavour : Flavour) (changes : List Change) (c : Change) (a : Fingerprint) → keeps_signature c.kind ≡
    false
    → was_kept flavour (changes ++ c ∷ []) a ≡ was_kept flavour changes a
signers_stay flavour changes c a e = kept_push flavour changes c a ∙ or_none (was_kept flavour changes a)
    (keeps_line flavour a c) (by (keeps_signature c.kind) e)
  where
    by : (b : Bool) → b ≡ false → (b && is_of c.authority a && has_flavour flavour (length c.digest)) ≡ false
    by b f = rw f refl

pub count_stays : (changes : List Change) (c : Change) (n : ℕ) → keeps_vote c.kind ≡ false
    → n ≡ count_by (λ (x : Change). keeps_vote x.kind) changes
    → n ≡ count_by (λ (x : Change). keeps_vote x.kind) (changes ++ c ∷ [])
count_stays changes c n e is = is ∙ sym (count_push changes c
    ∙ ap (λ (b : Bool). count_by (λ (x : Change). keeps_vote x.kind) changes + cond b 1 0) e
    ∙ plus_zero (count_by (λ (x : Change). keeps_vote x.kind) changes))
  where
    plus_zero : (k : ℕ) → k + 0 ≡ k
    plus_zero k = omega arith

-- a change that keeps no vote and no signature
pub plain : (s : State) (c : Change) (next : Stage) → keeps_vote c.kind ≡ false → keeps_signature c.kind ≡ false
    → next ≡ stage_by s.stage c.kind → TellsAt s
    → Tells s.votes next s.ns_lines s.micro_lines s.vote_changes (s.front + 1) s.base (s.changes ++ c ∷ [])
plain s c next v n at k = record {
  ranks = λ a. k.ranks a ∙ sym (ranks_stay s.changes c a v);
  stage_is = at ∙ ap (λ (x : Stage). stage_by x c.kind) k.stage_is ∙ sym (stage_push s.changes c);
  ns_signers = λ a. k.ns_signers a ∙ sym (signers_stay Ns s.changes c a n);
  micro_signers = λ a. k.micro_signers a ∙ sym (signers_stay Microdesc s.changes c a n);
  count = count_stays s.changes c s.vote_changes v k.count;
  front_is = length_push s.changes c s.front s.base k.front_is;
}
