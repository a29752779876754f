-- What was signed: the test of it, and more of it.
use Rattle.std.proofs.Common.{◌≡◌, ℕ, ◌&&◌, ◌==◌, Bool, true, false, List, ◌++◌, refl, ap, ◌∙◌, subst, inl, bytes_eq}
use Rattle.std.{proofs.lemmas.Bool.{false≢true, eqb-true, eq-eqb}, specs.Cmp.Lexicographic.bytes_decides}
use Rattle.dir_values.specs.{declared.digest.Fingerprint.Fingerprint, Digests.same_identity, Rosters.has_member}
use Rattle.dir_values.proofs.Orders.{same_text}
use Rattle.vote_terms.proofs.Orders.{same_one}
use Rattle.consensus_terms.specs.declared.flavour.Flavour.{Flavour, TheVariants.{Ns, Microdesc}}
use Rattle.period_laws.{specs.Worlds.{SignedDigest, same_flavour, same_signed, signed_by, is_among}, proofs.Members.In}
use Rattle.period_laws.proofs.Members.{any_to, any_from, in_both}
pub use Rattle.period_terms.proofs.Placing.{itself}

pub and_true : (x y : Bool) → (x && y) ≡ true → (x ≡ true) × (y ≡ true)
and_true true y h = (refl, h)
and_true false y h = absurd (false≢true h)

pub same_bytes : (a : List ℕ) → bytes_eq a a ≡ true
same_bytes a = (bytes_decides a a).1 refl

flavours : (a b : Flavour) → same_flavour a b ≡ true → a ≡ b
flavours Ns Ns h = refl
flavours Ns Microdesc h = absurd (false≢true h)
flavours Microdesc Ns h = absurd (false≢true h)
flavours Microdesc Microdesc h = refl

flavour_itself : (a : Flavour) → same_flavour a a ≡ true
flavour_itself Ns = refl
flavour_itself Microdesc = refl

same_fields : (a b : SignedDigest) → a.authority ≡ b.authority → a.flavour ≡ b.flavour → a.period ≡ b.period
    → a.digest ≡ b.digest → a ≡ b
same_fields a b e f g h =
    ap (λ (x : Fingerprint). signed_by x a.flavour a.period a.digest) e
    ∙ ap (λ (x : Flavour). signed_by b.authority x a.period a.digest) f
    ∙ ap (λ (x : ℕ). signed_by b.authority b.flavour x a.digest) g
    ∙ ap (λ (x : List ℕ). signed_by b.authority b.flavour b.period x) h

-- what the test calls the same is the same
pub same_is : (a b : SignedDigest) → same_signed a b ≡ true → a ≡ b
same_is a b h =
    let one = and_true (same_identity a.authority b.authority && same_flavour a.flavour b.flavour &&
    (a.period == b.period)) (bytes_eq a.digest b.digest) h in
    let two = and_true (same_identity a.authority b.authority && same_flavour a.flavour b.flavour)
    (a.period == b.period) one.0 in
    let three = and_true (same_identity a.authority b.authority) (same_flavour a.flavour b.flavour) two.0 in
    same_fields a b (same_one a.authority b.authority three.0) (flavours a.flavour b.flavour three.1)
    (eqb-true _ _ two.1) (same_text a.digest b.digest one.1)

same_itself : (a : SignedDigest) → same_signed a a ≡ true
same_itself a =
    rw (itself a.authority, flavour_itself a.flavour, eq-eqb a.period a.period refl, same_bytes a.digest) refl

-- what is a member is among them
pub among : (all : List SignedDigest) (x : SignedDigest) → In x all → is_among all x ≡ true
among all x i = any_to (λ other. same_signed other x) all x i (same_itself x)

-- what is among them is a member
pub member_of : (all : List SignedDigest) (x : SignedDigest) → is_among all x ≡ true → In x all
member_of all x h =
    let r = any_from (λ other. same_signed other x) all h in
    subst (λ (y : SignedDigest). In y all) (same_is r.0 x r.2) r.1

-- what is among them is among more
pub among_more : (all more : List SignedDigest) (x : SignedDigest) → is_among all x ≡ true → is_among (all ++ more)
    x ≡ true
among_more all more x h = among (all ++ more) x (in_both all more x (inl (member_of all x h)))

-- a member of a roster passes its test
pub has : (roster : List Fingerprint) (m : Fingerprint) → In m roster → has_member roster m ≡ true
has roster m i = any_to (λ other. same_identity other m) roster m i (itself m)
