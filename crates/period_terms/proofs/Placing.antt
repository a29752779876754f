-- A vote that is put among others: which votes are then found.
use Rattle.std.proofs.Common.{◌≡◌, Bool, true, false, cond, List, [], ◌∷◌, ◌++◌, Option, Some, fold, refl, sym, ap, ◌∙◌}
use Rattle.std.{proofs.{Common.{subst, inl, inr}, lemmas.Bool.false≢true}, specs.Cmp.Lexicographic.bytes_decides}
use Rattle.dir_values.specs.{declared.digest.Fingerprint.Fingerprint, Digests.{identity_below, same_identity}}
use Rattle.vote_terms.specs.{Votes.ReadVote, Held.{held, outranks, votes_with, same_authority, vote_of}}
use Rattle.vote_terms.proofs.{HeldLaw.{In, Ascends}, HeldOrder.{held_ascend, from_pairs}, Orders.{Below, not_itself}}
use Rattle.vote_terms.proofs.Orders.{same_one}

-- an identity is the same as itself
pub itself : (a : Fingerprint) → same_identity a a ≡ true
itself a = (bytes_decides a.0 a.0).1 refl

-- one more at the end of a fold
pub fold_push : {A B : Type 0} (f : B → A → B) (xs : List A) (start : B) (x : A) → fold f start (xs ++ x ∷ []) ≡ f
    (fold f start xs) x
fold_push f [] start x = refl
fold_push f (y ∷ xs) start x = fold_push f xs (f start y) x

-- what is found is a member of that authority
found : (ws : List ReadVote) (a : Fingerprint) (h : ReadVote) → vote_of ws a ≡ Some h → In h ws × (h.says.identity ≡ a)
found [] a h e = absurd cc
found (w ∷ ws) a h e = by (same_identity w.says.identity a) refl (found ws a h) e
  where
    by : (b : Bool) → same_identity w.says.identity a ≡ b → (vote_of ws a ≡ Some h → In h ws × (h.says.identity ≡ a))
        → cond b (Some w) (vote_of ws a) ≡ Some h → In h (w ∷ ws) × (h.says.identity ≡ a)
    by true f r g = let same : w ≡ h = cc in (
      inl (sym same),
      subst (λ (x : ReadVote). x.says.identity ≡ a) same
          (same_one w.says.identity a f),
    )
    by false f r g = let q = r g in (inr q.0, q.1)

never_both : (w v : ReadVote) → identity_below w.says.identity v.says.identity ≡ true → same_identity w.says.identity
    v.says.identity ≡ true → ⊥
never_both w v e f = not_itself v.says.identity (subst (λ (x : Fingerprint). Below x v.says.identity)
    (same_one w.says.identity v.says.identity f) e)

same_vote : (w h : ReadVote) → Some w ≡ Some h → w ≡ h
same_vote w h e = cc

-- ---- a vote that does not outrank that which is held

stays_by : (a b : Bool) (w : ReadVote) (ws : List ReadVote) (v h : ReadVote) → identity_below w.says.identity
    v.says.identity ≡ a → same_authority w v ≡ b
    → Ascends (w ∷ ws) → cond b (Some w) (vote_of ws v.says.identity) ≡ Some h → outranks v h ≡ false
    → (vote_of ws v.says.identity ≡ Some h → votes_with ws v ≡ ws) → votes_with (w ∷ ws) v ≡ w ∷ ws
stays_by true true w ws v h e f up g o r = absurd (never_both w v e f)
stays_by true false w ws v h e f up g o r = rw e (ap (λ (l : List ReadVote). w ∷ l) (r g))
stays_by false true w ws v h e f up g o r =
    let lost : outranks v w ≡ false = subst (λ (x : ReadVote). outranks v x ≡ false) (sym (same_vote w h g)) o in
    rw (e, f, lost) refl
stays_by false false w ws v h e f up g o r =
    let q = found ws v.says.identity h g in
    absurd (false≢true (sym e ∙ subst (λ (x : Fingerprint). Below w.says.identity x) q.1 (up.0 h q.0)))

-- the held votes stay
pub placed_stays : (ws : List ReadVote) (v h : ReadVote) → Ascends ws → vote_of ws v.says.identity ≡ Some h
    → outranks v h ≡ false → votes_with ws v ≡ ws
placed_stays [] v h up g o = absurd cc
placed_stays (w ∷ ws) v h up g o = stays_by _ _ w ws v h refl refl up g o (λ q. placed_stays ws v h up.1 q o)

-- ---- a vote that is held from now on

-- a vote outranks that of its authority which is there
abbrev pub Beats : List ReadVote → ReadVote → Type 0
Beats ws v = (h : ReadVote) → vote_of ws v.says.identity ≡ Some h → outranks v h ≡ true

new_by : (a b : Bool) (w : ReadVote) (ws : List ReadVote) (v : ReadVote) → identity_below w.says.identity
    v.says.identity ≡ a → same_authority w v ≡ b
    → ((h : ReadVote) → cond b (Some w) (vote_of ws v.says.identity) ≡ Some h → outranks v h ≡ true)
    → (Beats ws v → vote_of (votes_with ws v) v.says.identity ≡ Some v) → vote_of (votes_with (w ∷ ws) v) v.says.identity ≡
    Some v
new_by true true w ws v e f beats r = absurd (never_both w v e f)
new_by true false w ws v e f beats r = rw (e, f) (r beats)
new_by false true w ws v e f beats r = rw (e, f, beats w refl, itself v.says.identity) refl
new_by false false w ws v e f beats r = rw (e, f, itself v.says.identity) refl

-- that vote is found
pub placed_new : (ws : List ReadVote) (v : ReadVote) → Beats ws v → vote_of (votes_with ws v) v.says.identity ≡ Some v
placed_new [] v beats = rw (itself v.says.identity) refl
placed_new (w ∷ ws) v beats = new_by _ _ w ws v refl refl beats (λ q. placed_new ws v q)

other_by : (a b c : Bool) (w : ReadVote) (ws : List ReadVote) (v : ReadVote) (x : Fingerprint)
    → identity_below w.says.identity v.says.identity ≡ a → same_authority w v ≡ b
    → outranks v w ≡ c → same_identity v.says.identity x ≡ false → vote_of (votes_with ws v) x ≡ vote_of ws x
    → vote_of (votes_with (w ∷ ws) v) x ≡ vote_of (w ∷ ws) x
other_by true b c w ws v x e f o n r = rw e (ap (λ (h : Option ReadVote). cond (same_identity w.says.identity x)
    (Some w) h) r)
other_by false true true w ws v x e f o n r =
    let away : same_identity w.says.identity x ≡ false = ap (λ (y : Fingerprint). same_identity y x)
    (same_one w.says.identity v.says.identity f) ∙ n in
    rw (e, f, o, n, away) refl
other_by false true false w ws v x e f o n r = rw (e, f, o) refl
other_by false false c w ws v x e f o n r = rw (e, f, n) refl

-- those of the others are found as before
pub placed_other : (ws : List ReadVote) (v : ReadVote) (x : Fingerprint) → same_identity v.says.identity x ≡ false
    → vote_of (votes_with ws v) x ≡ vote_of ws x
placed_other [] v x n = rw n refl
placed_other (w ∷ ws) v x n = other_by _ _ _ w ws v x refl refl refl n (placed_other ws v x n)

-- ---- what is held

-- the held votes ascend
pub held_ascends : (list : List ReadVote) → Ascends (held list)
held_ascends list = from_pairs (held list) (held_ascend list)

-- one more is put among those that are held
pub held_push : (list : List ReadVote) (v : ReadVote) → held (list ++ v ∷ []) ≡ votes_with (held list) v
held_push list v = fold_push votes_with list [] v
