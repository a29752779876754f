-- What rulings make of a vote.
use Rattle.std.proofs.Common.{◌≡◌, ℕ, zero, suc, ◌<◌, Bool, true, false, List, [], ◌∷◌, length, get_or, map, filter}
use Rattle.std.proofs.{Common.{Some, refl, sym, ap, subst, ◌∙◌, arith, ⊎_elim}, lemmas.Bool.{cases_order, true≢false}}
use Rattle.std.proofs.lemmas.{Bool.{false_from_ne_true, and_parts, not-true}, List.Elements.All-cons}
use Rattle.std.specs.Prelude.{All, not, slice_get}
use Rattle.dir_values.{proofs.Orders.{apart, apart_back}, specs.Digests.{identity_below, same_identity}}
use Rattle.descriptor_doc.specs.declared.descriptor.Descriptor.{Descriptor}
use Rattle.flag_rules.{proofs.TableFacts.rules_one_way, specs.{Flags.flags_of, Relays.ruled_relays, Rulings.is_reject}}
use Rattle.flag_rules.specs.declared.{flags.Flags.Flags, relay.RelayFacts.RelayFacts, ruling.Ruling.Ruling}
use Rattle.vote_pool.specs.Pools.{DescriptorsAscend}
use Rattle.vote_terms.specs.declared.entry.EntryFacts.{EntryFacts}
use Rattle.vote_maker.specs.{Listings.{JudgedRelay, entry_of_judged, has_entry, judged_relays}, Made.{made, relays_in}}
use Rattle.maker_laws.specs.Rulings.{OperatorsMakeOneVote, RejectedRelaysHaveNoEntry}

pub one_vote : OperatorsMakeOneVote
one_vote its rules one other one_are other_are =
    ap (λ (rulings : List Ruling). made its rulings)
    (rules_one_way rules (relays_in its) one one_are ∙ sym (rules_one_way rules (relays_in its) other other_are))

-- ---- relays that are rejected

-- of a list, those that pass a test have what each that passes has
all_passing : {X : Type 0} (p : X → Bool) (P : X → Type 0) (xs : List X)
    → All (λ x. p x ≡ true → P x) xs → All P (filter p xs)
all_passing p P [] all = λ k d lt. absurd (omega (arith, lt))
all_passing {X} p P (x ∷ xs) all =
    by (all_passing p P xs (λ k d lt. all (suc k) d (omega (arith, lt)))) (p x) refl
  where
    by : All P (filter p xs) → (b : Bool) → p x ≡ b → All P (filter p (x ∷ xs))
    by rest true is = rw is (All-cons P x (filter p xs) (all zero x (omega arith) is) rest)
    by rest false is = rw is rest

-- what holds of elements holds of what is made of them
all_made : {X Y : Type 0} (f : X → Y) (P : Y → Type 0) (xs : List X) → All (λ x. P (f x)) xs → All P (map f xs)
all_made f P [] all = λ k d lt. absurd (omega (arith, lt))
all_made f P (x ∷ xs) all =
    All-cons P (f x) (map f xs) (all zero x (omega arith)) (all_made f P xs (λ k d lt. all (suc k) d (omega
    (arith, lt))))

-- a relay at a place is of the descriptor and the ruling there
abbrev IsAt : List Descriptor → List Ruling → ℕ → JudgedRelay → Type 0
IsAt ds rs k one = (slice_get ds k ≡ Some one.descriptor) × (slice_get rs k ≡ Some one.ruled.ruling)

judged_is_at : (ds : List Descriptor) (ks : List RelayFacts) (rs : List Ruling) (fs : List Flags) (k : ℕ)
    (d : JudgedRelay) → k < length (judged_relays ds (ruled_relays ks rs) fs)
    → IsAt ds rs k (get_or (judged_relays ds (ruled_relays ks rs) fs) k d)
judged_is_at [] ks rs fs k d lt = absurd (omega (arith, lt))
judged_is_at (x ∷ ds) [] rs fs k d lt = absurd (omega (arith, lt))
judged_is_at (x ∷ ds) (y ∷ ks) [] fs k d lt = absurd (omega (arith, lt))
judged_is_at (x ∷ ds) (y ∷ ks) (z ∷ rs) [] k d lt = absurd (omega (arith, lt))
judged_is_at (x ∷ ds) (y ∷ ks) (z ∷ rs) (w ∷ fs) zero d lt = (refl, refl)
judged_is_at (x ∷ ds) (y ∷ ks) (z ∷ rs) (w ∷ fs) (suc k) d lt = judged_is_at ds ks rs fs k d (omega (arith, lt))

-- what stands at a place is the element there
element_there : {X : Type 0} (xs : List X) (k : ℕ) (x d : X) → slice_get xs k ≡ Some x
    → (k < length xs) × (get_or xs k d ≡ x)
element_there [] k x d is = absurd (cc is)
element_there (y ∷ xs) zero x d is = (omega arith, cc is)
element_there (y ∷ xs) (suc k) x d is =
    let later = element_there xs k x d is in
    (omega (arith, later.0), later.1)

-- descriptors of one relay stand at one place
one_place : (ds : List Descriptor) (i j : ℕ) (a b : Descriptor) → DescriptorsAscend ds → slice_get ds i ≡ Some a
    → slice_get ds j ≡ Some b → same_identity a.identity b.identity ≡ true → i ≡ j
one_place ds i j a b up at_i at_j same =
    let x = element_there ds i a a at_i in
    let y = element_there ds j b a at_j in
    ⊎_elim (λ is. is) (λ rest. ⊎_elim
    (λ (before : i < j).
    let is = subst (λ (c : Descriptor). identity_below a.identity c.identity ≡ true) y.1
    (subst (λ (c : Descriptor). identity_below c.identity (get_or ds j a).identity
    ≡ true) x.1 (up i j a before y.0)) in
    absurd (true≢false (sym same ∙ apart a.identity.0 b.identity.0 is)))
    (λ (behind : j < i).
    let is = subst (λ (c : Descriptor). identity_below b.identity c.identity ≡ true) x.1
    (subst (λ (c : Descriptor). identity_below c.identity (get_or ds i a).identity
    ≡ true) y.1 (up j i a behind x.0)) in
    absurd (true≢false (sym same ∙ apart_back b.identity.0 a.identity.0 is))) rest)
    (cases_order i j)

pub rejected_have_none : RejectedRelaysHaveNoEntry
rejected_have_none its rulings place d ruling up at_place ruled rejected =
    let fs : List Flags = flags_of its.moment (ruled_relays (relays_in its) rulings) in
    let all : List JudgedRelay = judged_relays its.descriptors (ruled_relays (relays_in its) rulings) fs in
    all_made (entry_of_judged its.station.newest) (λ (entry : EntryFacts). same_identity entry.identity d.identity ≡ false)
    (filter (has_entry all) all)
    (all_passing (has_entry all) (λ (one : JudgedRelay). same_identity one.descriptor.identity d.identity ≡ false) all
    (λ k e lt has. false_from_ne_true (same_identity (get_or all k e).descriptor.identity d.identity) (λ same.
    let one = get_or all k e in
    let at = judged_is_at its.descriptors (relays_in its) rulings fs k e lt in
    let k_is : k ≡ place = one_place its.descriptors k place one.descriptor d up at.0 at_place same in
    let its_ruling : Some one.ruled.ruling ≡ Some ruling =
    sym at.1 ∙ ap (λ (n : ℕ). slice_get rulings n) k_is ∙ ruled in
    let ruling_is : one.ruled.ruling ≡ ruling = cc its_ruling in
    let kept : is_reject one.ruled.ruling ≡ false =
    not-true (is_reject one.ruled.ruling) (and_parts (not (is_reject one.ruled.ruling)) _ has).0 in
    true≢false (sym rejected ∙ ap is_reject (sym ruling_is) ∙ kept))))
