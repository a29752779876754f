-- What is held of two lists is held of the votes that are held of each.
use Rattle.std.proofs.Common.{◌≡◌, ◌⊎◌, Bool, true, false, List, [], ◌∷◌, ◌++◌, refl, sym, ap, ◌∙◌, subst, inl, inr}
use Rattle.std.{proofs.{Common.⊎_elim, lemmas.Bool.false≢true}, specs.Prelude.Contains}
use Rattle.vote_terms.{specs.{Votes.{ReadVote, rank_of}, Held.{IsHeld, held, outranks}}, proofs.HeldLaw.{In, held_law}}
use Rattle.vote_terms.proofs.{HeldLaw.{in_from, in_to}, Orders.above_other}
use Rattle.answer_laws.{specs.Deliveries.HeldOfLists, proofs.Alike.{found, longer}}

in_both : (l m : List ReadVote) (v : ReadVote) → In v l ⊎ In v m → In v (l ++ m)
in_both [] m v i = ⊎_elim (λ (j : ⊥). absurd j) (λ j. j) i
in_both (w ∷ l) m v i =
    ⊎_elim
    (λ (j : (v ≡ w) ⊎ In v l). ⊎_elim (λ (k : v ≡ w). inl k) (λ k. inr (in_both l m v (inl k))) j)
    (λ j. inr (in_both l m v (inr j)))
    i

in_either : (l m : List ReadVote) (v : ReadVote) → In v (l ++ m) → In v l ⊎ In v m
in_either [] m v i = inr i
in_either (w ∷ l) m v i =
    ⊎_elim (λ (k : v ≡ w). inl (inl k))
    (λ j. ⊎_elim (λ (k : In v l). inl (inr k)) (λ k. inr k) (in_either l m v j)) i

left : (l m : List ReadVote) (v : ReadVote) → Contains l v → Contains (l ++ m) v
left l m v c = in_to (l ++ m) v (in_both l m v (inl (in_from l v c)))

right : (l m : List ReadVote) (v : ReadVote) → Contains m v → Contains (l ++ m) v
right l m v c = in_to (l ++ m) v (in_both l m v (inr (in_from m v c)))

either : (l m : List ReadVote) (v : ReadVote) → Contains (l ++ m) v → Contains l v ⊎ Contains m v
either l m v c =
    ⊎_elim (λ (i : In v l). inl (in_to l v i)) (λ i. inr (in_to m v i)) (in_either l m v (in_from (l ++ m) v c))

none_above_by : (o : Bool) (a b c : ReadVote) → outranks a c ≡ o → outranks a b ≡ false → outranks b c ≡ false → outranks a c ≡ false
none_above_by true a b c e h k = absurd (false≢true (sym h ∙ above_other (rank_of a) (rank_of c) (rank_of b) e k))
none_above_by false a b c e h k = e

-- what does not outrank a vote that does not outrank a third does not outrank the third
none_above : (a b c : ReadVote) → outranks a b ≡ false → outranks b c ≡ false → outranks a c ≡ false
none_above a b c h k = none_above_by _ a b c refl h k

-- where a vote of two lists, one behind the other, stands: in the first, or in the second
data Place (l m before : List ReadVote) (v : ReadVote) (after : List ReadVote) : Type 0 where
  in_first : (behind : List ReadVote) → l ≡ before ++ v ∷ behind → Place l m before v after
  in_second : (ahead : List ReadVote) → before ≡ l ++ ahead → m ≡ ahead ++ v ∷ after → Place l m before v after

same_head : (w x : ReadVote) (l m : List ReadVote) → w ∷ l ≡ x ∷ m → w ≡ x
same_head w x l m e = cc e

same_tail : (w x : ReadVote) (l m : List ReadVote) → w ∷ l ≡ x ∷ m → l ≡ m
same_tail w x l m e = cc e

one_more_vote_in_front : (w x : ReadVote) (l m before : List ReadVote) (v : ReadVote) (after : List ReadVote) → w ≡ x
    → Place l m before v after → Place (w ∷ l) m (x ∷ before) v after
one_more_vote_in_front w x l m before v after e place = elim place [
  | in_first behind is ↦ in_first behind (ap (λ (y : ReadVote). y ∷ l) e ∙ ap (λ (t : List ReadVote). x ∷ t) is)
  | in_second ahead is at ↦ in_second ahead (ap (λ (t : List ReadVote). x ∷ t) is ∙ ap (λ (y : ReadVote). y ∷ (l ++ ahead)) (sym e)) at
]

place_of : (l m before : List ReadVote) (v : ReadVote) (after : List ReadVote) → l ++ m ≡ before ++ v ∷ after → Place l m before v after
place_of [] m before v after split = in_second before refl split
place_of (w ∷ l) m [] v after split = in_first l (ap (λ (x : ReadVote). x ∷ l) (same_head w v (l ++ m) after split))
place_of (w ∷ l) m (x ∷ before) v after split =
    one_more_vote_in_front w x l m before v after (same_head w x (l ++ m) (before ++ v ∷ after) split)
    (place_of l m before v after (same_tail w x (l ++ m) (before ++ v ∷ after) split))

-- a vote of the authority is held of the list in words, and is no lower than those of the list
record Best (votes : List ReadVote) (v : ReadVote) : Type 0 where
  vote : ReadVote
  stands : Contains votes vote
  same : vote.says.identity ≡ v.says.identity
  tops : outranks v vote ≡ false

best_of : (list votes : List ReadVote) → IsHeld list votes → (v : ReadVote) → Contains list v → Best votes v
best_of list votes is v c =
    let r = is.each v c in
    record { vote = r.0; stands = r.1; same = r.2; tops = is.best r.0 v r.1 c r.2 }

-- the first of the best votes of a list is the one that is held of both
first_by : (list votes joined held_all before after : List ReadVote) (h v : ReadVote) → IsHeld list votes → IsHeld joined held_all
    → ((x : ReadVote) → Contains votes x → Contains joined x) → (b : Best votes v)
    → list ≡ before ++ v ∷ after → Contains held_all h → h.says.identity ≡ v.says.identity → outranks h v ≡ false
    → h ≡ b.vote → (h ≡ v) ⊎ Contains before h
first_by list votes joined held_all before after h v is all into b split ch e o one =
    let beats = none_above b.vote h v (all.best h b.vote ch (into b.vote b.stands) (e ∙ sym b.same)) o in
    let there = is.first before after b.vote v split b.stands b.same beats in
    let P : ReadVote → Type 0 = λ x. (x ≡ v) ⊎ Contains before x in
    subst P (sym one) there

in_front : (list before after : List ReadVote) (v h : ReadVote) → list ≡ before ++ v ∷ after → Contains before h → Contains list h
in_front list before after v h split c = let P : List ReadVote → Type 0 = λ l. Contains l h in subst P (sym split) (left before (v ∷ after) h c)

stands_in : (list before after : List ReadVote) (v : ReadVote) → list ≡ before ++ v ∷ after → Contains list v
stands_in list before after v split =
    let P : List ReadVote → Type 0 = λ l. Contains l v in
    subst P (sym split) (right before (v ∷ after) v (in_to (v ∷ after) v (inl refl)))

-- of equal ranks the vote of the first list is held
first_is : (l m : List ReadVote) (h : ReadVote) (b : ReadVote) → Contains (held l) b → Contains (held (held l ++ held m)) h
    → h.says.identity ≡ b.says.identity → outranks h b ≡ false → h ≡ b
first_is l m h b cb ch e o =
    let f = found (held l) b cb in
    ⊎_elim (λ (q : h ≡ b). q)
    (λ (c : Contains f.before h). (held_law l).one h b (in_front (held l) f.before f.after b h f.split c) cb e)
    ((held_law (held l ++ held m)).first f.before (f.after ++ held m) h b (longer (held l) (held m) f.before f.after b f.split) ch e o)

ahead_of : (l ahead before : List ReadVote) (h v : ReadVote) → before ≡ l ++ ahead → (h ≡ v) ⊎ Contains ahead h → (h ≡ v) ⊎ Contains before h
ahead_of l ahead before h v is c =
    let P : List ReadVote → Type 0 = λ t. Contains t h in
    ⊎_elim (λ (q : h ≡ v). inl q) (λ (k : Contains ahead h). inr (subst P (sym is) (right l ahead h k))) c

first_held : (l m before after : List ReadVote) (h v : ReadVote) → l ++ m ≡ before ++ v ∷ after → Contains (held (held l ++ held m)) h
    → h.says.identity ≡ v.says.identity → outranks h v ≡ false → (h ≡ v) ⊎ Contains before h
first_held l m before after h v split ch e o =
    let all = held_law (held l ++ held m) in
    elim (place_of l m before v after split) [
      | in_first behind is ↦
          let b = best_of l (held l) (held_law l) v (stands_in l before behind v is) in
          let one = first_is l m h b.vote b.stands ch (e ∙ sym b.same) (none_above h v b.vote o b.tops) in
          first_by l (held l) (held l ++ held m) (held (held l ++ held m)) before behind h v (held_law l) all (λ x c. left (held l) (held m) x c) b is ch e o one
      | in_second ahead is at ↦
          let b = best_of m (held m) (held_law m) v (stands_in m ahead after v at) in
          let P : List ReadVote → Type 0 = λ t. Contains t h in
          ⊎_elim
          (λ (c : Contains (held l) h). inr (subst P (sym is) (left l ahead h ((held_law l).from h c))))
          (λ (c : Contains (held m) h).
          ahead_of l ahead before h v is
          (first_by m (held m) (held l ++ held m) (held (held l ++ held m)) ahead after h v (held_law m) all (λ x k. right (held l) (held m) x k) b at ch e o ((held_law m).one h b.vote c b.stands (e ∙ sym b.same))))
          (either (held l) (held m) h (all.from h ch))
    ]

best_held : (list votes joined held_all : List ReadVote) (h v : ReadVote) → IsHeld list votes → IsHeld joined held_all
    → ((x : ReadVote) → Contains votes x → Contains joined x) → Contains held_all h → Contains list v
    → h.says.identity ≡ v.says.identity → outranks v h ≡ false
best_held list votes joined held_all h v is all into ch cv e =
    let b = best_of list votes is v cv in
    none_above v b.vote h b.tops (all.best h b.vote ch (into b.vote b.stands) (e ∙ sym b.same))

pub joined : HeldOfLists
joined l m =
    let all = held_law (held l ++ held m) in
    let of_l = held_law l in
    let of_m = held_law m in
    record {
      each = λ v c. ⊎_elim
          (λ (k : Contains l v). let r = of_l.each v k in let s = all.each r.0 (left (held l) (held m) r.0 r.1) in (s.0, s.1, s.2 ∙ r.2))
          (λ (k : Contains m v). let r = of_m.each v k in let s = all.each r.0 (right (held l) (held m) r.0 r.1) in (s.0, s.1, s.2 ∙ r.2))
          (either l m v c);
      from = λ h c. ⊎_elim
          (λ (k : Contains (held l) h). left l m h (of_l.from h k))
          (λ (k : Contains (held m) h). right l m h (of_m.from h k))
          (either (held l) (held m) h (all.from h c));
      best = λ h v ch cv e. ⊎_elim
          (λ (k : Contains l v). best_held l (held l) (held l ++ held m) (held (held l ++ held m)) h v of_l all (λ x c. left (held l) (held m) x c) ch k e)
          (λ (k : Contains m v). best_held m (held m) (held l ++ held m) (held (held l ++ held m)) h v of_m all (λ x c. right (held l) (held m) x c) ch k e)
          (either l m v cv);
      one = all.one;
      first = λ before after h v split ch e o. first_held l m before after h v split ch e o;
    }
