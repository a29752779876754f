-- At most one shared random value is agreed on a line, and it is the one that the consensus says.
use Rattle.std.proofs.Common.{◌≡◌, ℕ, ◌+◌, ◌<◌, ◌≤◌, Bool, true, false, List, [], ◌∷◌, length, Option, Some, None, cond}
use Rattle.std.proofs.{Common.{refl, sym, ap, subst, ◌∙◌, arith}, lemmas.{List.Sums.length-filter, Bool.and_parts}}
use Rattle.std.{proofs.lemmas.Bool.{eqb-true, false≢true, ltb-true}, specs.Prelude.{◌*◌, ◌==◌, ◌||◌, filter, nat_le}}
use Rattle.std.specs.{Prelude.if◌then◌else◌, Cmp.Lexicographic.bytes_decides, List.{cons_option, filter_map, find}}
use Rattle.std.specs.{List.list_any, Str.bytes_eq}
use Rattle.count_terms.specs.Counts.{over}
use Rattle.value_groups.specs.{Values.same_random, declared.line.RandomLine.RandomLine}
use Rattle.value_groups.specs.declared.value.SharedRandom.{SharedRandom}
use Rattle.vote_terms.specs.Votes.{ReadVote}
use Rattle.compute_terms.specs.Randoms.{AgreedRandomsAreListed, RandomsAreAlone, is_agreed, is_random, random_of}
use Rattle.compute_terms.{specs.Randoms.votes_for, proofs.Majorities.majorities_meet}

-- ---- one value

same_number : (n m : ℕ) → (n == m) ≡ true → n ≡ m
same_number n m is = eqb-true n m is

one_value : (a b : SharedRandom) → same_random a b ≡ true → a ≡ b
one_value a b is =
    let parts = and_parts (a.count == b.count) (bytes_eq a.value.0 b.value.0) is in
    let count = same_number a.count b.count parts.0 in
    let value = (bytes_decides a.value.0 b.value.0).0 parts.1 in
    λ i. record { count = count i; value = record { 0 = value i } }

-- what is said is no two values
one_said : (a b : SharedRandom) (said : Option SharedRandom) → is_random a said ≡ true → is_random b said ≡ true → a ≡ b
one_said a b None f g = absurd (false≢true f)
one_said a b (Some other) f g = one_value a other f ∙ sym (one_value b other g)

pub alone : RandomsAreAlone
alone line roster least votes a b within f g =
    let most = λ (x : SharedRandom) (its : is_agreed line roster least votes x ≡ true).
    (and_parts (over (votes_for line votes x) roster) (nat_le least (votes_for line votes x)) its).0 in
    let both =
    majorities_meet roster votes (λ (vote : ReadVote). is_random a (random_of line vote))
    (λ (vote : ReadVote). is_random b (random_of line vote)) within (most a f) (most b g) in
    one_said a b (random_of line both.0) both.1 both.2

-- ---- it is listed

same_some : (a b : SharedRandom) → Some a ≡ Some b → a ≡ b
same_some a b is = cc

none_some : (a : SharedRandom) → None ≡ Some a → ⊥
none_some a is = cc

-- what is found passes
found_passes : (test : SharedRandom → Bool) (list : List SharedRandom) (random : SharedRandom)
    → find test list ≡ Some random → test random ≡ true
found_passes test [] random is = absurd (none_some random is)
found_passes test (r ∷ list) random is = by (test r) refl is (found_passes test list random)
  where
    by : (t : Bool) → test r ≡ t → (if t then Some r else find test list) ≡ Some random
        → (find test list ≡ Some random → test random ≡ true) → test random ≡ true
    by true passes found more = subst (λ (x : SharedRandom). test x ≡ true) (same_some r random found) passes
    by false passes found more = more found

-- a value that alone passes is found where it is said
abbrev IsIn : SharedRandom → List SharedRandom → Type 0
IsIn random list = list_any (same_random random) list ≡ true

one_found : (test : SharedRandom → Bool) (random : SharedRandom) → test random ≡ true
    → ((r : SharedRandom) → test r ≡ true → r ≡ random) → (list : List SharedRandom) → IsIn random list
    → find test list ≡ Some random
one_found test random passes only [] is = absurd (false≢true is)
one_found test random passes only (r ∷ list) is =
    by (test r) (same_random random r) refl refl is (one_found test random passes only list)
  where
    by : (t s : Bool) → test r ≡ t → same_random random r ≡ s → (s || list_any (same_random random) list) ≡ true
        → (IsIn random list → find test list ≡ Some random) → (if t then Some r else find test list) ≡ Some random
    by true s it same is more = ap (λ (x : SharedRandom). Some x) (only r it)
    by false true it same is more =
        absurd (false≢true (sym it ∙ subst (λ (x : SharedRandom). test x ≡ true) (one_value random r same) passes))
    by false false it same is more = more is

-- the votes that have a value on a line
abbrev having : RandomLine → SharedRandom → List ReadVote → List ReadVote
having line random votes = filter (λ (vote : ReadVote). is_random random (random_of line vote)) votes

-- a value that some votes have is said
said_in : (line : RandomLine) (random : SharedRandom) (votes : List ReadVote) → 0 < length (having line random votes)
    → IsIn random (filter_map (random_of line) votes)
said_in line random [] some = absurd (omega (arith, some))
said_in line random (vote ∷ votes) some = by (random_of line vote) some (said_in line random votes)
  where
    rest : List SharedRandom
    rest = filter_map (random_of line) votes

    left : List ReadVote
    left = having line random votes

    one_more : (s : Bool) → 0 < length (cond s (vote ∷ left) left) → (0 < length left → IsIn random rest)
        → (s || list_any (same_random random) rest) ≡ true
    one_more true some more = refl
    one_more false some more = more some

    by : (said : Option SharedRandom) → 0 < length (cond (is_random random said) (vote ∷ left) left)
        → (0 < length left → IsIn random rest) → list_any (same_random random) (cons_option said rest) ≡ true
    by None some more = more some
    by (Some r) some more = one_more (same_random random r) some more

pub listed : AgreedRandomsAreListed
listed line roster least votes random within = (
  λ is.
      one_found (is_agreed line roster least votes) random is (λ r its. alone line roster least votes r random within its is)
      (filter_map (random_of line) votes) (said_in line random votes
      (some_have (length (having line random votes)) (votes_for line votes random)
      (length-filter (λ (vote : ReadVote). is_random random (random_of line vote)) votes) (ltb-true _ _ (and_parts (over (votes_for line votes random) roster) (nat_le least (votes_for line votes random)) is).0))),
  λ is. found_passes (is_agreed line roster least votes) (filter_map (random_of line) votes) random is,
)
  where
    some_have : (have count : ℕ) → have ≡ count → roster < 2 * count → 0 < have
    some_have have count is more = omega (arith, is, more)
