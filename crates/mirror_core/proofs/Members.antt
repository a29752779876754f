-- Keys of members, each of another authority: there are no more than the roster has members.
use Rattle.std.proofs.Common.{◌≡◌, ◌≤◌, ℕ, ◌+◌, Bool, true, false, ◌||◌, List, [], ◌∷◌, length, refl, sym, ◌∙◌, subst}
use Rattle.std.proofs.{Common.{arith, cond}, lemmas.{Bool.false≢true, List.Elements.{All-nil, All-cons, All-head}}}
use Rattle.std.{proofs.lemmas.List.Elements.All-tail, specs.{Prelude.{All, AllPairs}, Str.bytes_eq}}
use Rattle.dir_values.proofs.Orders.{AllPairs-head, AllPairs-tail, same_text}
use Rattle.dir_values.specs.{declared.digest.Fingerprint.Fingerprint, Digests.same_identity, Rosters.has_member}
use Rattle.detached_sigs.specs.{Signers.AreApart, declared.key.SignerKey.SignerKey}

-- a key is of a member
abbrev pub IsOfMember : List Fingerprint → SignerKey → Type 0
IsOfMember roster key = has_member roster key.authority ≡ true

-- the members without the first that is this one
abbrev without : Fingerprint → List Fingerprint → List Fingerprint
without x [] = []
without x (y ∷ ys) = cond (same_identity y x) ys (y ∷ without x ys)

length_by : (b : Bool) (x y : Fingerprint) (ys : List Fingerprint) → (b || has_member ys x) ≡ true
    → (has_member ys x ≡ true → length ys ≡ length (without x ys) + 1)
    → length (y ∷ ys) ≡ length (cond b ys (y ∷ without x ys)) + 1
length_by true x y ys is more = omega arith
length_by false x y ys is more = omega (arith, more is)

without_length : (x : Fingerprint) (ys : List Fingerprint) → has_member ys x ≡ true
    → length ys ≡ length (without x ys) + 1
without_length x [] is = absurd (false≢true is)
without_length x (y ∷ ys) is = length_by (same_identity y x) x y ys is (without_length x ys)

has_by : (b c : Bool) (x z y : Fingerprint) (ys : List Fingerprint) → same_identity y x ≡ b → same_identity y z ≡ c
    → same_identity x z ≡ false → (c || has_member ys z) ≡ true
    → (has_member ys z ≡ true → has_member (without x ys) z ≡ true) → has_member (cond b ys (y ∷ without x ys)) z ≡ true
has_by true true x z y ys same other apart is more =
    absurd (false≢true (sym apart ∙ subst (λ (m : List ℕ). bytes_eq m z.0 ≡ true) (same_text y.0 x.0 same) other))
has_by true false x z y ys same other apart is more = is
has_by false true x z y ys same other apart is more = rw other refl
has_by false false x z y ys same other apart is more = rw other (more is)

has_without : (x z : Fingerprint) (ys : List Fingerprint) → same_identity x z ≡ false → has_member ys z ≡ true
    → has_member (without x ys) z ≡ true
has_without x z [] apart is = is
has_without x z (y ∷ ys) apart is =
    has_by (same_identity y x) (same_identity y z) x z y ys refl refl apart is (has_without x z ys apart)

still : (roster : List Fingerprint) (key : SignerKey) (keys : List SignerKey) → All (AreApart key) keys
    → All (IsOfMember roster) keys → All (IsOfMember (without key.authority roster)) keys
still roster key [] apart members = All-nil (IsOfMember (without key.authority roster))
still roster key (next ∷ keys) apart members =
    All-cons (IsOfMember (without key.authority roster)) next keys
    (has_without key.authority next.authority roster (All-head (AreApart key) next keys apart)
    (All-head (IsOfMember roster) next keys members))
    (still roster key keys (All-tail (AreApart key) next keys apart) (All-tail (IsOfMember roster) next keys members))

-- there are no more than members
pub few : (roster : List Fingerprint) (keys : List SignerKey) → All (IsOfMember roster) keys → AllPairs AreApart keys
    → length keys ≤ length roster
few roster [] members apart = omega arith
few roster (key ∷ keys) members apart =
    omega (
      arith,
      without_length key.authority roster (All-head (IsOfMember roster) key keys members),
      few (without key.authority roster) keys
          (still roster key keys (AllPairs-head AreApart key keys apart) (All-tail (IsOfMember roster) key keys members))
          (AllPairs-tail AreApart key keys apart),
    )
