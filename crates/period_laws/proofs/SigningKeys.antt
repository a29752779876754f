-- The keys of those members who have a signature that is held.
use Rattle.std.proofs.Common.{◌≡◌, ◌⊎◌, Bool, true, false, cond, List, [], ◌∷◌, Option, Some, None, refl, sym, subst}
use Rattle.std.{proofs.{Common.{inl, inr, ⊎_elim}, lemmas.List.Elements.{All-cons, All-nil}}, specs.Prelude.All}
use Rattle.std.specs.Prelude.{AllPairs}
use Rattle.dir_values.specs.{declared.digest.Fingerprint.Fingerprint, Digests.same_identity}
use Rattle.dir_values.proofs.Orders.{AllPairs-cons, AllPairs-head, AllPairs-tail, AllPairs-nil}
use Rattle.vote_terms.{specs.{Votes.ReadVote, Held.vote_of}, proofs.Orders.same_one}
use Rattle.consensus_terms.specs.declared.signature.SignatureLine.{SignatureLine}
use Rattle.detached_sigs.specs.{declared.key.SignerKey.SignerKey, Signers.AreApart}
use Rattle.period_terms.specs.{States.has_line, Keys.signer_key}
use Rattle.period_laws.proofs.Members.{In, in_to, found}

-- of each member of a list, in the list
pub all_in : {X : Type 0} (P : X → Type 0) (xs : List X) → ((x : X) → In x xs → P x) → All P xs
all_in P [] f = All-nil P
all_in P (x ∷ xs) f = All-cons P x xs (f x (inl refl)) (all_in P xs (λ y i. f y (inr i)))

of_all : {X : Type 0} (P : X → Type 0) (xs : List X) → All P xs → (x : X) → In x xs → P x
of_all P xs all x i = let c = in_to xs x i in subst P c.2 (all c.0 x c.1)

-- one key more, where there is a vote
abbrev pub with_key : Option ReadVote → List SignerKey → List SignerKey
with_key None keys = keys
with_key (Some vote) keys = signer_key vote ∷ keys

module _ (votes : List ReadVote) (held_lines : List SignatureLine) where
  -- ---- the keys of those who have a signature

  -- those of some members
  abbrev pub picked : List Fingerprint → List SignerKey
  picked [] = []
  picked (m ∷ ms) = cond (has_line held_lines m) (with_key (vote_of votes m) (picked ms)) (picked ms)

  -- a key of a member with a signature
  pub record Picked (ms : List Fingerprint) (key : SignerKey) : Type 0 where
    pub vote : ReadVote
    pub there : In vote votes
    pub key_is : key ≡ signer_key vote
    pub member : In vote.says.identity ms
    pub has : has_line held_lines vote.says.identity ≡ true

  later : (m : Fingerprint) (ms : List Fingerprint) (key : SignerKey) → Picked ms key → Picked (m ∷ ms) key
  later m ms key p = record {
    vote = p.vote;
    there = p.there;
    key_is = p.key_is;
    member = inr p.member;
    has = p.has;
  }

  picked_with : (m : Fingerprint) (ms : List Fingerprint) (vote : Option ReadVote) → vote_of votes m ≡ vote
      → has_line held_lines m ≡ true → ((key : SignerKey) → In key (picked ms) → Picked ms key)
      → (key : SignerKey) → In key (with_key vote (picked ms)) → Picked (m ∷ ms) key
  picked_with m ms None f has rest key i = later m ms key (rest key i)
  picked_with m ms (Some vote) f has rest key i =
      let r = found (λ (v : ReadVote). same_identity v.says.identity m) votes vote f in
      let same : vote.says.identity ≡ m = same_one vote.says.identity m r.1 in
      ⊎_elim
      (λ (e : key ≡ signer_key vote). record {
        vote = vote;
        there = r.0;
        key_is = e;
        member = inl same;
        has = subst (λ (a : Fingerprint). has_line held_lines a ≡ true) (sym same) has;
      })
      (λ j. later m ms key (rest key j)) i

  picked_by : (b : Bool) (m : Fingerprint) (ms : List Fingerprint) → has_line held_lines m ≡ b
      → ((key : SignerKey) → In key (picked ms) → Picked ms key)
      → (key : SignerKey) → In key (cond b (with_key (vote_of votes m) (picked ms)) (picked ms))
      → Picked (m ∷ ms) key
  picked_by true m ms e rest key i = picked_with m ms (vote_of votes m) refl e rest key i
  picked_by false m ms e rest key i = later m ms key (rest key i)

  pub of_picked : (ms : List Fingerprint) (key : SignerKey) → In key (picked ms) → Picked ms key
  of_picked [] key i = absurd i
  of_picked (m ∷ ms) key i = picked_by (has_line held_lines m) m ms refl (of_picked ms) key i

  -- ---- each once

  apart : (m : Fingerprint) (ms : List Fingerprint) (vote : ReadVote) → vote.says.identity ≡ m
      → All (λ other. same_identity m other ≡ false) ms
      → All (AreApart (signer_key vote)) (picked ms)
  apart m ms vote same others =
      all_in (AreApart (signer_key vote)) (picked ms) (λ key i.
      let p = of_picked ms key i in
      let one : same_identity m p.vote.says.identity ≡ false =
      of_all (λ other. same_identity m other ≡ false) ms others p.vote.says.identity p.member in
      subst (λ (k : SignerKey). same_identity vote.says.identity k.authority ≡ false) (sym p.key_is)
      (subst (λ (a : Fingerprint). same_identity a p.vote.says.identity ≡ false) (sym same) one))

  once_with : (m : Fingerprint) (ms : List Fingerprint) (vote : Option ReadVote) → vote_of votes m ≡ vote
      → All (λ other. same_identity m other ≡ false) ms → AllPairs AreApart (picked ms)
      → AllPairs AreApart (with_key vote (picked ms))
  once_with m ms None f others rest = rest
  once_with m ms (Some vote) f others rest =
      let r = found (λ (v : ReadVote). same_identity v.says.identity m) votes vote f in
      AllPairs-cons AreApart (signer_key vote) (picked ms)
      (apart m ms vote (same_one vote.says.identity m r.1) others) rest

  once_by : (b : Bool) (m : Fingerprint) (ms : List Fingerprint) → All (λ other. same_identity m other ≡ false) ms
      → AllPairs AreApart (picked ms)
      → AllPairs AreApart (cond b (with_key (vote_of votes m) (picked ms)) (picked ms))
  once_by true m ms others rest = once_with m ms (vote_of votes m) refl others rest
  once_by false m ms others rest = rest

  pub once : (ms : List Fingerprint) → AllPairs (λ earlier later. same_identity earlier later ≡ false) ms
      → AllPairs AreApart (picked ms)
  once [] pairs = AllPairs-nil AreApart
  once (m ∷ ms) pairs =
      once_by (has_line held_lines m) m ms
      (AllPairs-head (λ earlier later. same_identity earlier later ≡ false) m ms pairs)
      (once ms (AllPairs-tail (λ earlier later. same_identity earlier later ≡ false) m ms pairs))
