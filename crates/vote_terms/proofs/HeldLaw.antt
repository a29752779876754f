-- What is held of a list of votes is, in plain words, what `IsHeld` says.
use Rattle.std.proofs.Common.{◌≡◌, ℕ, ◌<◌, ◌⊎◌, Bool, true, false, List, [], ◌∷◌, ◌++◌, length, get_or, zero, suc, refl}
use Rattle.std.proofs.{Common.{sym, ap, ◌∙◌, subst, inl, inr, ⊎_elim, arith}, lemmas.Bool.false≢true}
use Rattle.std.specs.{Prelude.Contains, List.fold}
use Rattle.dir_values.specs.{Digests.identity_below, declared.digest.Fingerprint.Fingerprint}
use Rattle.vote_terms.specs.{Votes.{ReadVote, rank_of}, Held.{outranks, same_authority, votes_with, held, IsHeld}}
use Rattle.vote_terms.{specs.Held.{SameMembers, RanksApart, HeldAgree, RanksAgree}, proofs.Orders.{Below, below_trans}}
use Rattle.vote_terms.proofs.Orders.{not_itself, not_both, other_way, same_one, above_trans, above_itself, above_other}

-- what putting a vote among others comes to at the first of them
data Step (w : ReadVote) (ws : List ReadVote) (v : ReadVote) : Type 0 where
  goes_on : Below w.says.identity v.says.identity → votes_with (w ∷ ws) v ≡ w ∷ votes_with ws v → Step w ws v
  replaces : w.says.identity ≡ v.says.identity → outranks v w ≡ true → votes_with (w ∷ ws) v ≡ v ∷ ws → Step w ws v
  stays : w.says.identity ≡ v.says.identity → outranks v w ≡ false → votes_with (w ∷ ws) v ≡ w ∷ ws → Step w ws v
  stands_before : Below v.says.identity w.says.identity → votes_with (w ∷ ws) v ≡ v ∷ w ∷ ws → Step w ws v

step_by : (a b c : Bool) (w : ReadVote) (ws : List ReadVote) (v : ReadVote) → identity_below w.says.identity v.says.identity ≡ a → same_authority w v ≡ b → outranks v w ≡ c → Step w ws v
step_by true b c w ws v e f o = goes_on e (rw e refl)
step_by false true true w ws v e f o = replaces (same_one w.says.identity v.says.identity f) o (rw (e, f, o) refl)
step_by false true false w ws v e f o = stays (same_one w.says.identity v.says.identity f) o (rw (e, f, o) refl)
step_by false false c w ws v e f o = stands_before (other_way w.says.identity v.says.identity e f) (rw (e, f) refl)

step : (w : ReadVote) (ws : List ReadVote) (v : ReadVote) → Step w ws v
step w ws v = step_by _ _ _ w ws v refl refl refl

-- x is one of the votes
abbrev pub In : ReadVote → List ReadVote → Type 0
In x [] = ⊥
In x (y ∷ ys) = (x ≡ y) ⊎ In x ys

pub at_index : (xs : List ReadVote) (k : ℕ) (d x : ReadVote) → k < length xs → get_or xs k d ≡ x → In x xs
at_index [] k d x lt e = absurd (omega (arith, lt))
at_index (y ∷ ys) zero d x lt e = inl (sym e)
at_index (y ∷ ys) (suc k) d x lt e = inr (at_index ys k d x (omega (arith, lt)) e)

pub in_from : (xs : List ReadVote) (x : ReadVote) → Contains xs x → In x xs
in_from xs x h = at_index xs h.0 x x h.1 h.2

pub in_to : (xs : List ReadVote) (x : ReadVote) → In x xs → Contains xs x
in_to [] x h = absurd h
in_to (y ∷ ys) x h = ⊎_elim (λ (e : x ≡ y). (0, omega arith, sym e)) (λ t. let r = in_to ys x t in (suc r.0, omega (arith, r.1), r.2)) h

abbrev pub Ascends : List ReadVote → Type 0
Ascends [] = Unit {0}
Ascends (w ∷ ws) = ((x : ReadVote) → In x ws → Below w.says.identity x.says.identity) × Ascends ws

-- a fact of one identity is one of another that is the same
along : (a b c : Fingerprint) → b ≡ c → Below a b → Below a c
along a b c e h = let P : Fingerprint → Type 0 = λ x. Below a x in subst P e h

before : (a b c : Fingerprint) → a ≡ b → Below a c → Below b c
before a b c e h = let P : Fingerprint → Type 0 = λ x. Below x c in subst P e h

-- only the vote that was put is new
pub only : (ws : List ReadVote) (v x : ReadVote) → In x (votes_with ws v) → In x ws ⊎ (x ≡ v)
only [] v x h = ⊎_elim (λ (e : x ≡ v). inr e) (λ t. absurd t) h
only (w ∷ ws) v x h = elim (step w ws v) [
  | goes_on lt e ↦ ⊎_elim (λ (i : x ≡ w). inl (inl i)) (λ t. ⊎_elim (λ (i : In x ws). inl (inr i)) (λ i. inr i) (only ws v x t)) (subst (λ l. In x l) e h)
  | replaces q o e ↦ ⊎_elim (λ (i : x ≡ v). inr i) (λ t. inl (inr t)) (subst (λ l. In x l) e h)
  | stays q o e ↦ inl (subst (λ l. In x l) e h)
  | stands_before lt e ↦ ⊎_elim (λ (i : x ≡ v). inr i) (λ t. inl t) (subst (λ l. In x l) e h)
]

-- a vote that was there is there still, or the new one outranks it
pub kept : (ws : List ReadVote) (v x : ReadVote) → In x ws → In x (votes_with ws v) ⊎ ((x.says.identity ≡ v.says.identity) × (outranks v x ≡ true) × In v (votes_with ws v))
kept [] v x h = absurd h
kept (w ∷ ws) v x h = elim (step w ws v) [
  | goes_on lt e ↦ rw e (⊎_elim (λ (i : x ≡ w). inl (inl i)) (λ t. ⊎_elim (λ (i : In x (votes_with ws v)). inl (inr i)) (λ i. inr (i.0, i.1, inr i.2)) (kept ws v x t)) h)
  | replaces q o e ↦ rw e (⊎_elim (λ (i : x ≡ w). inr (rw i q, rw i o, inl refl)) (λ t. inl (inr t)) h)
  | stays q o e ↦ rw e (inl h)
  | stands_before lt e ↦ rw e (inl (inr h))
]

-- after the put there is a vote of the same authority that the new one does not outrank
lost_to_itself : (v : ReadVote) → outranks v v ≡ false
lost_to_itself v = above_itself (rank_of v)

one_placed_is_not_outranked : (ws : List ReadVote) (v : ReadVote) → (h : ReadVote) × In h (votes_with ws v) × (h.says.identity ≡ v.says.identity) × (outranks v h ≡ false)
one_placed_is_not_outranked [] v = (v, inl refl, refl, lost_to_itself v)
one_placed_is_not_outranked (w ∷ ws) v = elim (step w ws v) [
  | goes_on lt e ↦ let r = one_placed_is_not_outranked ws v in (r.0, rw e (inr r.1), r.2, r.3)
  | replaces q o e ↦ (v, rw e (inl refl), refl, lost_to_itself v)
  | stays q o e ↦ (w, rw e (inl refl), q, o)
  | stands_before lt e ↦ (v, rw e (inl refl), refl, lost_to_itself v)
]

pub ascends : (ws : List ReadVote) (v : ReadVote) → Ascends ws → Ascends (votes_with ws v)
ascends [] v a = (λ x t. absurd t, tt)
ascends (w ∷ ws) v a = elim (step w ws v) [
  | goes_on lt e ↦ rw e (λ x t. ⊎_elim (λ (i : In x ws). a.0 x i) (λ (i : x ≡ v). rw i lt) (only ws v x t), ascends ws v a.1)
  | replaces q o e ↦ rw e (λ x t. before w.says.identity v.says.identity x.says.identity q (a.0 x t), a.1)
  | stays q o e ↦ rw e a
  | stands_before lt e ↦ rw e (λ x t. ⊎_elim (λ (i : x ≡ w). rw i lt) (λ (i : In x ws). below_trans v.says.identity w.says.identity x.says.identity lt (a.0 x i)) t, a)
]

-- a vote that outranks one that outranks a third outranks the third
ranks : (a b c : ReadVote) → outranks a b ≡ true → outranks b c ≡ true → outranks a c ≡ true
ranks a b c h k = above_trans (rank_of a) (rank_of b) (rank_of c) h k

-- the votes stand for those that were seen
pub record Stands (seen : ReadVote → Type 0) (votes : List ReadVote) : Type 0 where
  pub each : (x : ReadVote) → seen x → (h : ReadVote) × In h votes × (h.says.identity ≡ x.says.identity) × (outranks x h ≡ false)
  pub from : (h : ReadVote) → In h votes → seen h
  pub apart : Ascends votes

one_of : (b : Bool) (seen : ReadVote → Type 0) (votes : List ReadVote) (v x h : ReadVote) → outranks x v ≡ b → In h votes → h.says.identity ≡ x.says.identity → outranks x h ≡ false
    → (g : ReadVote) × In g (votes_with votes v) × (g.says.identity ≡ x.says.identity) × (outranks x g ≡ false)
one_of true seen votes v x h o i q r = ⊎_elim (λ (k : In h (votes_with votes v)). (h, k, q, r)) (λ k. absurd (false≢true (sym r ∙ ranks x v h o k.1))) (kept votes v h i)
one_of false seen votes v x h o i q r = ⊎_elim (λ (k : In h (votes_with votes v)). (h, k, q, r)) (λ k. (v, k.2, sym k.0 ∙ q, o)) (kept votes v h i)

one_more_vote_stands : (seen : ReadVote → Type 0) (votes : List ReadVote) (v : ReadVote) → Stands seen votes → Stands (λ x. seen x ⊎ (x ≡ v)) (votes_with votes v)
one_more_vote_stands seen votes v s = record {
  each = λ x t. ⊎_elim (λ (i : seen x). let r = s.each x i in one_of _ seen votes v x r.0 refl r.1 r.2 r.3) (λ (i : x ≡ v). rw i (one_placed_is_not_outranked votes v)) t;
  from = λ h t. ⊎_elim (λ (i : In h votes). inl (s.from h i)) (λ (i : h ≡ v). inr i) (only votes v h t);
  apart = ascends votes v s.apart;
}

alike : (seen other : ReadVote → Type 0) (votes : List ReadVote) → ((x : ReadVote) → seen x → other x) → ((x : ReadVote) → other x → seen x) → Stands seen votes → Stands other votes
alike seen other votes to back s = record { each = λ x i. s.each x (back x i); from = λ h i. to h (s.from h i); apart = s.apart }

all : (list : List ReadVote) (seen : ReadVote → Type 0) (votes : List ReadVote) → Stands seen votes → Stands (λ x. seen x ⊎ In x list) (fold votes_with votes list)
all [] seen votes s = alike seen (λ x. seen x ⊎ ⊥) votes (λ x i. inl i) (λ x i. ⊎_elim (λ (k : seen x). k) (λ k. absurd k) i) s
all (v ∷ list) seen votes s =
    alike (λ x. (seen x ⊎ (x ≡ v)) ⊎ In x list) (λ x. seen x ⊎ ((x ≡ v) ⊎ In x list)) (fold votes_with (votes_with votes v) list)
    (λ x i. ⊎_elim (λ (j : seen x ⊎ (x ≡ v)). ⊎_elim (λ (k : seen x). inl k) (λ k. inr (inl k)) j) (λ j. inr (inr j)) i)
    (λ x i. ⊎_elim (λ (j : seen x). inl (inl j)) (λ j. ⊎_elim (λ (k : x ≡ v). inl (inr k)) (λ k. inr k) j) i)
    (all list (λ x. seen x ⊎ (x ≡ v)) (votes_with votes v) (one_more_vote_stands seen votes v s))

single : (votes : List ReadVote) (g h : ReadVote) → Ascends votes → In g votes → In h votes → g.says.identity ≡ h.says.identity → g ≡ h
single [] g h a i j q = absurd i
single (w ∷ ws) g h a i j q =
    ⊎_elim (λ (k : g ≡ w). ⊎_elim (λ (l : h ≡ w). k ∙ sym l) (λ l. absurd (not_itself w.says.identity (along w.says.identity h.says.identity w.says.identity (sym q ∙ ap (λ (x : ReadVote). x.says.identity) k) (a.0 h l)))) j)
    (λ k. ⊎_elim (λ (l : h ≡ w). absurd (not_itself w.says.identity (along w.says.identity g.says.identity w.says.identity (q ∙ ap (λ (x : ReadVote). x.says.identity) l) (a.0 g k)))) (λ l. single ws g h a.1 k l q) j) i

pub stands : (list : List ReadVote) → Stands (λ x. ⊥ ⊎ In x list) (held list)
stands list = all list (λ _. ⊥) [] (record { each = λ x i. absurd i; from = λ h i. absurd i; apart = tt })

-- what is new after a put outranks each vote of its authority that was there
pub newer : (ws : List ReadVote) (v x : ReadVote) → Ascends ws → In x (votes_with ws v)
    → In x ws ⊎ ((x ≡ v) × ((h : ReadVote) → In h ws → h.says.identity ≡ v.says.identity → outranks v h ≡ true))
newer [] v x a i = ⊎_elim (λ (e : x ≡ v). inr (e, λ h j q. absurd j)) (λ j. absurd j) i
newer (w ∷ ws) v x a i = elim (step w ws v) [
  | goes_on lt e ↦
      ⊎_elim (λ (j : x ≡ w). inl (inl j))
      (λ j. ⊎_elim (λ (k : In x ws). inl (inr k))
      (λ k. inr (k.0, λ h m q. ⊎_elim (λ (n : h ≡ w). absurd (not_itself v.says.identity (before w.says.identity v.says.identity v.says.identity (sym (ap (λ (y : ReadVote). y.says.identity) n) ∙ q) lt))) (λ n. k.1 h n q) m))
      (newer ws v x a.1 j))
      (subst (λ l. In x l) e i)
  | replaces p o e ↦
      ⊎_elim (λ (j : x ≡ v). inr (j, λ h m q. ⊎_elim (λ (n : h ≡ w). rw n o) (λ n. absurd (not_itself w.says.identity (along w.says.identity h.says.identity w.says.identity (q ∙ sym p) (a.0 h n)))) m))
      (λ j. inl (inr j)) (subst (λ l. In x l) e i)
  | stays p o e ↦ inl (subst (λ l. In x l) e i)
  | stands_before lt e ↦
      ⊎_elim (λ (j : x ≡ v). inr (
        j,
        λ h m q. ⊎_elim
            (λ (n : h ≡ w). absurd (not_itself v.says.identity (along v.says.identity w.says.identity v.says.identity (sym (ap (λ (y : ReadVote). y.says.identity) n) ∙ q) lt)))
            (λ n. absurd (not_itself v.says.identity (along v.says.identity h.says.identity v.says.identity q (below_trans v.says.identity w.says.identity h.says.identity lt (a.0 h n))))) m,
      ))
      (λ j. inl j) (subst (λ l. In x l) e i)
]

-- each held vote of an authority was among the first ones, or it outranks one of that authority
abbrev Early : (ReadVote → Type 0) → ReadVote → List ReadVote → Type 0
Early seen v votes = (g : ReadVote) → In g votes → g.says.identity ≡ v.says.identity → seen g ⊎ (outranks g v ≡ true)

-- a vote stands there that this one does not outrank
abbrev Met : ReadVote → List ReadVote → Type 0
Met v votes = (h : ReadVote) × In h votes × (h.says.identity ≡ v.says.identity) × (outranks v h ≡ false)

still_met : (votes : List ReadVote) (v w : ReadVote) → Met v votes → Met v (votes_with votes w)
still_met votes v w m = one_of _ (λ _. ⊥) votes w v m.0 refl m.1 m.2 m.3

still_early : (seen : ReadVote → Type 0) (votes : List ReadVote) (v w : ReadVote) → Ascends votes → Met v votes → Early seen v votes → Early seen v (votes_with votes w)
still_early seen votes v w a m e g i q =
    ⊎_elim (λ (j : In g votes). e g j q)
    (λ j.
    let same_name : m.0.says.identity ≡ w.says.identity = m.2 ∙ sym q ∙ ap (λ (y : ReadVote). y.says.identity) j.0 in
    let beats : outranks w v ≡ true = above_other (rank_of w) (rank_of m.0) (rank_of v) (j.1 m.0 m.1 same_name) m.3 in
    inr (rw j.0 beats))
    (newer votes w g a i)

early_after : (list : List ReadVote) (seen : ReadVote → Type 0) (votes : List ReadVote) (v : ReadVote) → Ascends votes → Met v votes → Early seen v votes → Early seen v (fold votes_with votes list)
early_after [] seen votes v a m e = e
early_after (w ∷ list) seen votes v a m e = early_after list seen (votes_with votes w) v (ascends votes w a) (still_met votes v w m) (still_early seen votes v w a m e)

fold_split : (xs ys start : List ReadVote) → fold votes_with start (xs ++ ys) ≡ fold votes_with (fold votes_with start xs) ys
fold_split [] ys start = refl
fold_split (x ∷ xs) ys start = fold_split xs ys (votes_with start x)

-- of votes of equal rank the first is held
first_held : (before_it after_it : List ReadVote) (h v : ReadVote) → In h (held (before_it ++ v ∷ after_it)) → h.says.identity ≡ v.says.identity → outranks h v ≡ false → (h ≡ v) ⊎ In h before_it
first_held before_it after_it h v i q o =
    let s = stands before_it in
    let start = held before_it in
    let known : Early (λ x. (x ≡ v) ⊎ In x before_it) v (votes_with start v) =
    λ g j _. ⊎_elim (λ (k : In g start). inl (inr (⊎_elim (λ (n : ⊥). absurd n) (λ n. n) (s.from g k)))) (λ k. inl (inl k)) (only start v g j) in
    let last = early_after after_it (λ x. (x ≡ v) ⊎ In x before_it) (votes_with start v) v (ascends start v s.apart) (one_placed_is_not_outranked start v) known in
    let here : In h (fold votes_with (votes_with start v) after_it) = subst (λ (l : List ReadVote). In h l) (fold_split before_it (v ∷ after_it) []) i in
    ⊎_elim (λ (k : (h ≡ v) ⊎ In h before_it). k) (λ k. absurd (false≢true (sym o ∙ k))) (last h here q)

in_or : (h v : ReadVote) (before_it : List ReadVote) → (h ≡ v) ⊎ In h before_it → (h ≡ v) ⊎ Contains before_it h
in_or h v before_it c = ⊎_elim (λ (e : h ≡ v). inl e) (λ i. inr (in_to before_it h i)) c

pub held_law : (list : List ReadVote) → IsHeld list (held list)
held_law list =
    let s = stands list in
    let seen = λ (x : ReadVote) (i : In x list). s.each x (inr i) in
    let back = λ (h : ReadVote) (i : In h (held list)). ⊎_elim (λ (k : ⊥). absurd k) (λ (k : In h list). k) (s.from h i) in
    record {
      each = λ v c. let r = seen v (in_from list v c) in (r.0, in_to (held list) r.0 r.1, r.2);
      from = λ h c. in_to list h (back h (in_from (held list) h c));
      best = λ h v ch cv q.
          let r = seen v (in_from list v cv) in
          let e = single (held list) h r.0 s.apart (in_from (held list) h ch) r.1 (q ∙ sym r.2) in
          rw e r.3;
      one = λ g h cg ch q. single (held list) g h s.apart (in_from (held list) g cg) (in_from (held list) h ch) q;
      first = λ before_it after_it h v e c q o.
          in_or h v before_it (first_held before_it after_it h v (subst (λ (l : List ReadVote). In h (held l)) e (in_from (held list) h c)) q o);
    }

-- ascending lists with the same members are equal
equal_lists : (g h : List ReadVote) → Ascends g → Ascends h → ((x : ReadVote) → In x g → In x h) → ((x : ReadVote) → In x h → In x g) → g ≡ h
equal_lists [] [] a b to back = refl
equal_lists [] (y ∷ ys) a b to back = absurd (back y (inl refl))
equal_lists (x ∷ xs) [] a b to back = absurd (to x (inl refl))
equal_lists (x ∷ xs) (y ∷ ys) a b to back =
    let first : x ≡ y = ⊎_elim (λ (i : x ≡ y). i) (λ i. ⊎_elim (λ (j : y ≡ x). sym j) (λ j. absurd (not_both x.says.identity y.says.identity (a.0 y j) (b.0 x i))) (back y (inl refl))) (to x (inl refl)) in
    let same_place : x.says.identity ≡ y.says.identity = ap (λ (v : ReadVote). v.says.identity) first in
    let rest = equal_lists xs ys a.1 b.1
    (λ z i. ⊎_elim (λ (j : z ≡ y). absurd (not_itself x.says.identity (along x.says.identity z.says.identity x.says.identity (ap (λ (v : ReadVote). v.says.identity) j ∙ sym same_place) (a.0 z i)))) (λ j. j) (to z (inr i)))
    (λ z i. ⊎_elim (λ (j : z ≡ x). absurd (not_itself y.says.identity (along y.says.identity z.says.identity y.says.identity (ap (λ (v : ReadVote). v.says.identity) j ∙ same_place) (b.0 z i)))) (λ j. j) (back z (inr i))) in
    ap (λ (v : ReadVote). v ∷ xs) first ∙ ap (λ (l : List ReadVote). y ∷ l) rest

one_way : (l m : List ReadVote) → SameMembers l m → RanksApart l → (x : ReadVote) → In x (held l) → In x (held m)
one_way l m s apart x i =
    let at_l = held_law l in
    let at_m = held_law m in
    let cx = in_to (held l) x i in
    let in_l = at_l.from x cx in
    let r = at_m.each x (s.there x in_l) in
    let h = r.0 in
    let h_in_m = at_m.from h r.1 in
    let e : x ≡ h = apart x h in_l (s.back h h_in_m) (sym r.2) (at_m.best h x r.1 (s.there x in_l) r.2) (at_l.best x h cx (s.back h h_in_m) (sym r.2)) in
    rw e (in_from (held m) h r.1)

pub held_agree : HeldAgree
held_agree l m s apart =
    let other : SameMembers m l = record { there = s.back; back = s.there } in
    let apart_m : RanksApart m = λ u v cu cv. apart u v (s.back u cu) (s.back v cv) in
    equal_lists (held l) (held m) (stands l).apart (stands m).apart (one_way l m s apart) (one_way m l other apart_m)

pub ranks_agree : RanksAgree
ranks_agree l m g h same held_l held_m a b in_g in_h e =
    (held_m.best b a in_h (same.there a (held_l.from a in_g)) (sym e), held_l.best a b in_g (same.back b (held_m.from b in_h)) e)
