-- The words of what is held tell which votes are.
use Rattle.std.proofs.Common.{◌≡◌, ℕ, ◌<◌, ◌≤◌, List, [], ◌∷◌, ◌++◌, length, zero, suc, refl, sym, ap, ◌∙◌, subst}
use Rattle.std.{proofs.Common.{⊎_elim, arith}, specs.Prelude.Contains}
use Rattle.vote_terms.{specs.{Votes.ReadVote, Held.IsHeld}, proofs.HeldLaw.{In, in_from}}
use Rattle.answer_laws.specs.Deliveries.{HeldAlike}

-- a vote that stands in a list, with what stands before it and behind it
pub record Found (list : List ReadVote) (v : ReadVote) : Type 0 where
  pub before : List ReadVote
  pub after : List ReadVote
  pub split : list ≡ before ++ v ∷ after

found_in : (list : List ReadVote) (v : ReadVote) → In v list → Found list v
found_in [] v i = absurd i
found_in (w ∷ list) v i =
    ⊎_elim
    (λ (e : v ≡ w). record { before = []; after = list; split = ap (λ (x : ReadVote). x ∷ list) (sym e) })
    (λ j. let f = found_in list v j in record { before = w ∷ f.before; after = f.after; split = ap (λ (l : List ReadVote). w ∷ l) f.split })
    i

pub found : (list : List ReadVote) (v : ReadVote) → Contains list v → Found list v
found list v c = found_in list v (in_from list v c)

one_behind : (b a : List ReadVote) (x : ReadVote) (rest : List ReadVote) → (b ++ x ∷ a) ++ rest ≡ b ++ x ∷ (a ++ rest)
one_behind [] a x rest = refl
one_behind (y ∷ b) a x rest = ap (λ (l : List ReadVote). y ∷ l) (one_behind b a x rest)

-- a vote of a list stands in that list with another behind it
pub longer : (list more before after : List ReadVote) (v : ReadVote) → list ≡ before ++ v ∷ after
    → list ++ more ≡ before ++ v ∷ (after ++ more)
longer list more before after v split =
    ap (λ (l : List ReadVote). l ++ more) split ∙ one_behind before after v more

-- a vote that stands before another, with what stands before it
deeper : (list before after : List ReadVote) (v h : ReadVote) → list ≡ before ++ v ∷ after → (f : Found before h)
    → list ≡ f.before ++ h ∷ (f.after ++ v ∷ after)
deeper list before after v h split f =
    split ∙ longer before (v ∷ after) f.before f.after h f.split

long : (b a : List ReadVote) (x : ReadVote) → length b < length (b ++ x ∷ a)
long [] a x = omega arith
long (y ∷ b) a x = omega (arith, long b a x)

shorter : (list before after : List ReadVote) (v : ReadVote) → list ≡ before ++ v ∷ after → length before < length list
shorter list before after v split = rw split (long before after v)

-- two votes of one authority, each held of the list in words, are one: each stands at the other or before it
meet : (size : ℕ) (list g h : List ReadVote) → IsHeld list g → IsHeld list h
    → (a b : ReadVote) → Contains g a → Contains h b → a.says.identity ≡ b.says.identity
    → (before after : List ReadVote) → list ≡ before ++ a ∷ after → length before ≤ size → a ≡ b
meet zero list g h hg hh a b ca cb e before after split le =
    ⊎_elim (λ (q : b ≡ a). sym q) (λ (c : Contains before b). absurd (omega (arith, c.1, le)))
    (hh.first before after b a split cb (sym e) (hg.best a b ca (hh.from b cb) e))
meet (suc size) list g h hg hh a b ca cb e before after split le =
    ⊎_elim (λ (q : b ≡ a). sym q)
    (λ (c : Contains before b).
    let f = found before b c in
    let less = shorter before f.before f.after b f.split in
    sym (meet size list h g hh hg b a cb ca (sym e) f.before (f.after ++ a ∷ after) (deeper list before after a b split f) (omega (arith, less, le))))
    (hh.first before after b a split cb (sym e) (hg.best a b ca (hh.from b cb) e))

one_way : (list g h : List ReadVote) → IsHeld list g → IsHeld list h → (a : ReadVote) → Contains g a → Contains h a
one_way list g h hg hh a ca =
    let in_list = hg.from a ca in
    let r = hh.each a in_list in
    let f = found list a in_list in
    let same : a ≡ r.0 = meet (length f.before) list g h hg hh a r.0 ca r.1 (sym r.2) f.before f.after f.split (omega arith) in
    subst (λ (x : ReadVote). Contains h x) (sym same) r.1

pub alike : HeldAlike
alike list g h hg hh = record { there = one_way list g h hg hh; back = one_way list h g hh hg }
