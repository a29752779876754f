-- What is held ascends and is no more than may be, and what is held of each relay after one descriptor more.
use Rattle.std.proofs.Common.{◌≡◌, ℕ, ◌<◌, ◌≤◌, ◌⊎◌, inl, inr, ⊎_elim, Bool, true, false, List, [], ◌∷◌, length, Option}
use Rattle.std.proofs.{Common.{Some, None, refl, sym, ap, ◌∙◌, subst, arith}, lemmas.Bool.false≢true}
use Rattle.std.{proofs.lemmas.{Bool.Decides.nat_tests, Option.none-some}, specs.{Prelude.nat_eq, List.{find, fold}}}
use Rattle.std.specs.Str.{bytes_eq}
use Rattle.dir_values.specs.{Digests.{identity_below, same_identity}, declared.digest.Fingerprint.Fingerprint}
use Rattle.dir_values.proofs.Orders.{AllPairs-nil, same_text}
use Rattle.descriptor_doc.specs.declared.descriptor.Descriptor.{Descriptor}
use Rattle.vote_pool.specs.Pools.{Pooled, answer_to, descriptor_for, is_change, most_changes, most_relays, pool_after}
use Rattle.vote_pool.{specs.Ranks.{is_newer, rank_of_descriptor}, proofs.Greatest.{changes_are_held, others_stay}}
use Rattle.vote_pool.proofs.Placing.{after_ascends}
use Rattle.answer_laws.{specs.Newest.{AreNewest, AscendAndFit, IsNewest, PoolsAscend}, proofs.Answers.{added, full}}
use Rattle.answer_laws.proofs.Answers.{replaced, stays, worn, case, changed, len_with, unchanged}
use Rattle.answer_laws.proofs.RankOrder.{newer_itself, newer_not}

-- a descriptor is newer than another
abbrev newer : Descriptor → Descriptor → Bool
newer a b = is_newer (rank_of_descriptor a) (rank_of_descriptor b)

-- ---- they ascend, and are no more than may be

few_after : (pool : Pooled) (new : Descriptor) → AscendAndFit pool.descriptors
    → length (pool_after pool new).descriptors ≤ most_relays
few_after pool new fit = elim (case pool new) [
  | worn w c ↦ rw (unchanged pool new c) fit.few
  | full e f c ↦ rw (unchanged pool new c) fit.few
  | stays held e n c ↦ rw (unchanged pool new c) fit.few
  | added e f c ↦
      let len = ap (λ (l : List Descriptor). length l) (changed pool new c) ∙ len_with pool.descriptors new None fit.ascend e in
      rw len (omega (arith, f))
  | replaced held e n c ↦
      let len = ap (λ (l : List Descriptor). length l) (changed pool new c)
      ∙ len_with pool.descriptors new (Some held) fit.ascend e in
      rw len fit.few
]

pub fits_after : (pool : Pooled) (new : Descriptor) → AscendAndFit pool.descriptors
    → AscendAndFit (pool_after pool new).descriptors
fits_after pool new fit = record {
  ascend = after_ascends pool.descriptors new (answer_to pool new) fit.ascend;
  few = few_after pool new fit;
}

fits_all : (pool : Pooled) (list : List Descriptor) → AscendAndFit pool.descriptors
    → AscendAndFit (fold pool_after pool list).descriptors
fits_all pool [] fit = fit
fits_all pool (new ∷ list) fit = fits_all (pool_after pool new) list (fits_after pool new fit)

pub none_fit : AscendAndFit []
none_fit = record {
  ascend = AllPairs-nil (λ (earlier later : Descriptor). identity_below earlier.identity later.identity ≡ true);
  few = omega arith;
}

pub pools_ascend : PoolsAscend
pools_ascend list = fits_all (record { descriptors = []; changes = 0 }) list none_fit

-- ---- the newest of each relay

-- the same is held of one identity as of another of the same bytes
same_relay : (xs : List Descriptor) (a b : Fingerprint) → same_identity a b ≡ true
    → descriptor_for xs a ≡ descriptor_for xs b
same_relay xs a b same =
    ap (λ (text : List ℕ). find (λ (held : Descriptor). bytes_eq held.identity.0 text) xs) (same_text a.0 b.0 same)

-- nothing is held where something is
no_both : (xs : List Descriptor) (a b : Fingerprint) (held : Descriptor) → same_identity a b ≡ true
    → descriptor_for xs a ≡ None → descriptor_for xs b ≡ Some held → ⊥
no_both xs a b held same none some = none-some held (sym none ∙ same_relay xs a b same ∙ some)

-- one more is such
abbrev pub Also : (Descriptor → Type 0) → Descriptor → Descriptor → Type 0
Also such new x = such x ⊎ (x ≡ new)

-- a fact of each that is such, and of one more, is one of each
also : (such : Descriptor → Type 0) (new : Descriptor) (P : Descriptor → Type 0)
    → ((x : Descriptor) → such x → P x) → P new → (x : Descriptor) → Also such new x → P x
also such new P each one x t = ⊎_elim (λ (s : such x). each x s) (λ (is : x ≡ new). subst P (sym is) one) t

-- where it is of another relay
of_other : (such : Descriptor → Type 0) (count more : ℕ) (new : Descriptor) (identity : Fingerprint)
    (held : Option Descriptor) → same_identity new.identity identity ≡ false → count ≤ more
    → IsNewest such count identity held → IsNewest (Also such new) more identity held
of_other such count more new identity None other up (inl none) =
    inl (also such new (λ x. same_identity x.identity identity ≡ false) none other)
of_other such count more new identity None other up (inr many) = inr (omega (arith, up, many))
of_other such count more new identity (Some held) other up is = (
  inl is.0,
  is.1,
  also such new
      (λ x. same_identity x.identity identity ≡ true → newer x held ≡ false) is.2
      (λ same. absurd (false≢true (sym other ∙ same))),
)

-- where it stays out for the one that is held
of_stays : (such : Descriptor → Type 0) (count : ℕ) (new : Descriptor) (identity : Fingerprint) (held : Descriptor)
    → newer new held ≡ false → IsNewest such count identity (Some held)
    → IsNewest (Also such new) count identity (Some held)
of_stays such count new identity held n is = (
  inl is.0,
  is.1,
  also such new
      (λ x. same_identity x.identity identity ≡ true → newer x held ≡ false) is.2 (λ same. n),
)

-- where it is held, and no other is newer
of_held : (such : Descriptor → Type 0) (count : ℕ) (new : Descriptor) (identity : Fingerprint)
    → same_identity new.identity identity ≡ true
    → ((x : Descriptor) → such x → same_identity x.identity identity ≡ true → newer x new ≡ false)
    → IsNewest (Also such new) count identity (Some new)
of_held such count new identity own each = (
  inr refl,
  own,
  also such new (λ x. same_identity x.identity identity ≡ true → newer x new ≡ false) each
      (λ same. newer_itself (rank_of_descriptor new)),
)

-- no other is newer where none was held
none_newer : (such : Descriptor → Type 0) (count : ℕ) (new : Descriptor) (identity : Fingerprint)
    → count < most_relays → IsNewest such count identity None
    → (x : Descriptor) → such x → same_identity x.identity identity ≡ true → newer x new ≡ false
none_newer such count new identity room (inl none) x s same = absurd (false≢true (sym (none x s) ∙ same))
none_newer such count new identity room (inr many) x s same = absurd (omega (arith, room, many))

-- what is held of a relay after one more, by what was
abbrev After : (Descriptor → Type 0) → Pooled → Descriptor → Fingerprint → Type 0
After such pool new identity =
    IsNewest (Also such new) (length (pool_after pool new).descriptors) identity
    (descriptor_for (pool_after pool new).descriptors identity)

abbrev Before : (Descriptor → Type 0) → Pooled → Fingerprint → Type 0
Before such pool identity =
    IsNewest such (length pool.descriptors) identity (descriptor_for pool.descriptors identity)

-- after an answer that changes nothing
out_by : (such : Descriptor → Type 0) (pool : Pooled) (new : Descriptor) (identity : Fingerprint)
    → is_change (answer_to pool new) ≡ false
    → IsNewest (Also such new) (length pool.descriptors) identity (descriptor_for pool.descriptors identity)
    → After such pool new identity
out_by such pool new identity c is =
    subst (λ (l : List Descriptor). IsNewest (Also such new) (length l) identity (descriptor_for l identity))
    (sym (unchanged pool new c)) is

-- of another relay
other_by : (such : Descriptor → Type 0) (pool : Pooled) (new : Descriptor) (identity : Fingerprint)
    → AscendAndFit pool.descriptors → length pool.descriptors ≤ length (pool_after pool new).descriptors
    → same_identity new.identity identity ≡ false → Before such pool identity → After such pool new identity
other_by such pool new identity fit up other is =
    subst (IsNewest (Also such new) (length (pool_after pool new).descriptors) identity)
    (sym (others_stay pool new identity fit.ascend other))
    (of_other such (length pool.descriptors) (length (pool_after pool new).descriptors) new identity
    (descriptor_for pool.descriptors identity) other up is)

-- of its own, which it is held of then
own_by : (such : Descriptor → Type 0) (pool : Pooled) (new : Descriptor) (identity : Fingerprint)
    → is_change (answer_to pool new) ≡ true → same_identity new.identity identity ≡ true
    → ((x : Descriptor) → such x → same_identity x.identity identity ≡ true → newer x new ≡ false)
    → After such pool new identity
own_by such pool new identity c own each =
    let there : descriptor_for (pool_after pool new).descriptors identity ≡ Some new =
    sym (same_relay (pool_after pool new).descriptors new.identity identity own) ∙ changes_are_held pool new c in
    subst (IsNewest (Also such new) (length (pool_after pool new).descriptors) identity) (sym there)
    (of_held such (length (pool_after pool new).descriptors) new identity own each)

-- what was held of its own relay
was : (such : Descriptor → Type 0) (pool : Pooled) (new : Descriptor) (identity : Fingerprint)
    (held : Option Descriptor) → same_identity new.identity identity ≡ true
    → descriptor_for pool.descriptors new.identity ≡ held → Before such pool identity
    → IsNewest such (length pool.descriptors) identity held
was such pool new identity held own e is =
    subst (IsNewest such (length pool.descriptors) identity)
    (sym (same_relay pool.descriptors new.identity identity own) ∙ e) is

grown : (pool : Pooled) (new : Descriptor) (held : Option Descriptor) (len : ℕ) → AscendAndFit pool.descriptors
    → is_change (answer_to pool new) ≡ true → descriptor_for pool.descriptors new.identity ≡ held
    → len ≡ length (pool_after pool new).descriptors → length pool.descriptors ≤ len
grown pool new None len fit c e is =
    let same = ap (λ (l : List Descriptor). length l) (changed pool new c) ∙ len_with pool.descriptors new None fit.ascend e in
    rw (is ∙ same) (omega arith)
grown pool new (Some held) len fit c e is =
    let same = ap (λ (l : List Descriptor). length l) (changed pool new c)
    ∙ len_with pool.descriptors new (Some held) fit.ascend e in
    rw (is ∙ same) (omega arith)

full_out : (such : Descriptor → Type 0) (pool : Pooled) (new : Descriptor) (identity : Fingerprint)
    (held : Option Descriptor) → descriptor_for pool.descriptors new.identity ≡ None
    → most_relays ≤ length pool.descriptors → descriptor_for pool.descriptors identity ≡ held
    → IsNewest such (length pool.descriptors) identity held
    → IsNewest (Also such new) (length pool.descriptors) identity held
full_out such pool new identity None e f is newest = inr f
full_out such pool new identity (Some held) e f is newest = (
  inl newest.0,
  newest.1,
  also such new
      (λ x. same_identity x.identity identity ≡ true → newer x held ≡ false) newest.2
      (λ same. absurd (no_both pool.descriptors new.identity identity held same e is)),
)

one_by : (b : Bool) (such : Descriptor → Type 0) (pool : Pooled) (new : Descriptor) (identity : Fingerprint)
    → same_identity new.identity identity ≡ b → nat_eq pool.changes most_changes ≡ false
    → AscendAndFit pool.descriptors → Before such pool identity → After such pool new identity
one_by true such pool new identity own few fit is = elim (case pool new) [
  | worn w c ↦ absurd (false≢true (sym few ∙ w))
  | full e f c ↦
      out_by such pool new identity c
      (full_out such pool new identity (descriptor_for pool.descriptors identity) e f refl is)
  | stays held e n c ↦
      let there : descriptor_for pool.descriptors identity ≡ Some held =
      sym (same_relay pool.descriptors new.identity identity own) ∙ e in
      out_by such pool new identity c
      (subst (IsNewest (Also such new) (length pool.descriptors) identity) (sym there)
      (of_stays such (length pool.descriptors) new identity held n
      (was such pool new identity (Some held) own e is)))
  | added e f c ↦
      own_by such pool new identity c own
      (none_newer such (length pool.descriptors) new identity f (was such pool new identity None own e is))
  | replaced held e n c ↦
      let before : IsNewest such (length pool.descriptors) identity (Some held) =
      was such pool new identity (Some held) own e is in
      own_by such pool new identity c own
      (λ x s same. newer_not (rank_of_descriptor x) (rank_of_descriptor new) (rank_of_descriptor held) n
      (before.2 x s same))
]
one_by false such pool new identity other few fit is = elim (case pool new) [
  | worn w c ↦ absurd (false≢true (sym few ∙ w))
  | full e f c ↦
      out_by such pool new identity c
      (of_other such (length pool.descriptors) (length pool.descriptors) new identity
      (descriptor_for pool.descriptors identity) other (omega arith) is)
  | stays held e n c ↦
      out_by such pool new identity c
      (of_other such (length pool.descriptors) (length pool.descriptors) new identity
      (descriptor_for pool.descriptors identity) other (omega arith) is)
  | added e f c ↦
      other_by such pool new identity fit (grown pool new None _ fit c e refl) other is
  | replaced held e n c ↦
      other_by such pool new identity fit (grown pool new (Some held) _ fit c e refl) other is
]

pub newest_after_one_descriptor : (such : Descriptor → Type 0) (pool : Pooled) (new : Descriptor) → pool.changes < most_changes
    → AscendAndFit pool.descriptors → AreNewest such pool.descriptors
    → AreNewest (Also such new) (pool_after pool new).descriptors
newest_after_one_descriptor such pool new few fit are = record {
  each = λ identity.
      one_by _ such pool new identity refl (grind (arith, nat_tests, few)) fit (are.each identity);
}
