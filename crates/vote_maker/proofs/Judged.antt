-- Relays with what is known, ruled and assigned: one by one, in order, and as many as there are.
use Rattle.std.proofs.Common.{◌≡◌, ℕ, zero, suc, ◌<◌, ◌≤◌, true, List, [], ◌∷◌, length, get_or, drop, filter, refl, ap}
use Rattle.std.proofs.{Common.{◌∙◌, arith}, lemmas.List.{length-map, Elements.{All-head, All-tail, All-cons}}}
use Rattle.std.specs.Prelude.{All}
use Rattle.dir_values.{proofs.Orders.{AllPairs-cons, AllPairs-head, AllPairs-tail}, specs.Digests.identity_below}
use Rattle.descriptor_doc.specs.declared.descriptor.Descriptor.{Descriptor}
use Rattle.flag_rules.specs.{Flags.{flags_of, flags_with, thresholds_of}, Relays.ruled_relays, Standings.is_active}
use Rattle.flag_rules.specs.{Standings.{standing_of, standings_of}, declared.flags.Flags.Flags}
use Rattle.flag_rules.specs.declared.{relay.{RelayFacts.RelayFacts, RuledRelay.RuledRelay}, ruling.Ruling.Ruling}
use Rattle.vote_pool.specs.Pools.{DescriptorsAscend}
use Rattle.vote_maker.{specs.Listings.{JudgedRelay, judged_relays}, proofs.Listed.RelaysAscend}

-- ---- one by one

-- the relay at a place
abbrev pub judged_at : Descriptor → RelayFacts → Ruling → Flags → JudgedRelay
judged_at d known ruling flags =
    record { descriptor = d; ruled = record { facts = known; ruling = ruling }; flags = flags }

-- from a place on, where there are as many of each
pub judged_drop : (ds : List Descriptor) (ks : List RelayFacts) (rs : List Ruling) (fs : List Flags) (i : ℕ)
    (d : Descriptor) (k : RelayFacts) (r : Ruling) (f : Flags) → i < length ds → length ks ≡ length ds
    → length rs ≡ length ds → length fs ≡ length ds
    → drop i (judged_relays ds (ruled_relays ks rs) fs)
    ≡ judged_at (get_or ds i d) (get_or ks i k) (get_or rs i r) (get_or fs i f)
    ∷ drop (suc i) (judged_relays ds (ruled_relays ks rs) fs)
judged_drop [] ks rs fs i d k r f within kn rn fn = absurd (omega (arith, within))
judged_drop (x ∷ ds) [] rs fs i d k r f within kn rn fn = absurd (omega (arith, kn))
judged_drop (x ∷ ds) (y ∷ ks) [] fs i d k r f within kn rn fn = absurd (omega (arith, rn))
judged_drop (x ∷ ds) (y ∷ ks) (z ∷ rs) [] i d k r f within kn rn fn = absurd (omega (arith, fn))
judged_drop (x ∷ ds) (y ∷ ks) (z ∷ rs) (w ∷ fs) zero d k r f within kn rn fn = refl
judged_drop (x ∷ ds) (y ∷ ks) (z ∷ rs) (w ∷ fs) (suc i) d k r f within kn rn fn =
    judged_drop ds ks rs fs i d k r f (omega (arith, within)) (omega (arith, kn)) (omega (arith, rn))
    (omega (arith, fn))

-- ---- in order

judged_all : (P : Descriptor → Type 0) (ds : List Descriptor) (ruled : List RuledRelay) (fs : List Flags) → All P ds
    → All (λ (one : JudgedRelay). P one.descriptor) (judged_relays ds ruled fs)
judged_all P [] ruled fs all = λ k d lt. absurd (omega (arith, lt))
judged_all P (x ∷ ds) [] fs all = λ k d lt. absurd (omega (arith, lt))
judged_all P (x ∷ ds) (y ∷ ruled) [] all = λ k d lt. absurd (omega (arith, lt))
judged_all P (x ∷ ds) (y ∷ ruled) (z ∷ fs) all =
    All-cons (λ (one : JudgedRelay). P one.descriptor) (record { descriptor = x; ruled = y; flags = z })
    (judged_relays ds ruled fs) (All-head P x ds all) (judged_all P ds ruled fs (All-tail P x ds all))

-- relays of descriptors that ascend
pub judged_ascend : (ds : List Descriptor) (ruled : List RuledRelay) (fs : List Flags) → DescriptorsAscend ds
    → RelaysAscend (judged_relays ds ruled fs)
judged_ascend [] ruled fs up = λ i j d lt within. absurd (omega (arith, within))
judged_ascend (x ∷ ds) [] fs up = λ i j d lt within. absurd (omega (arith, within))
judged_ascend (x ∷ ds) (y ∷ ruled) [] up = λ i j d lt within. absurd (omega (arith, within))
judged_ascend (x ∷ ds) (y ∷ ruled) (z ∷ fs) up =
    AllPairs-cons
    (λ (a b : JudgedRelay). identity_below a.descriptor.identity b.descriptor.identity ≡ true)
    (record { descriptor = x; ruled = y; flags = z }) (judged_relays ds ruled fs)
    (judged_all (λ (later : Descriptor). identity_below x.identity later.identity ≡ true) ds ruled fs
    (AllPairs-head (λ (a b : Descriptor). identity_below a.identity b.identity ≡ true) x ds up))
    (judged_ascend ds ruled fs
    (AllPairs-tail (λ (a b : Descriptor). identity_below a.identity b.identity ≡ true) x ds up))

-- ---- as many

pub judged_few : (ds : List Descriptor) (ruled : List RuledRelay) (fs : List Flags)
    → length (judged_relays ds ruled fs) ≤ length ds
judged_few [] ruled fs = omega arith
judged_few (x ∷ ds) [] fs = omega arith
judged_few (x ∷ ds) (y ∷ ruled) [] = omega arith
judged_few (x ∷ ds) (y ∷ ruled) (z ∷ fs) = omega (arith, judged_few ds ruled fs)

pub length-ruled : (ks : List RelayFacts) (rs : List Ruling) → length rs ≡ length ks
    → length (ruled_relays ks rs) ≡ length ks
length-ruled [] rs n = refl
length-ruled (k ∷ ks) [] n = absurd (omega (arith, n))
length-ruled (k ∷ ks) (r ∷ rs) n = ap suc (length-ruled ks rs (omega (arith, n)))

-- flags are as many as relays
pub length-flags : (now : ℕ) (ruled : List RuledRelay) → length (flags_of now ruled) ≡ length ruled
unfolding flags_of
length-flags now ruled =
    length-map (standings_of now ruled)
    (flags_with now (thresholds_of (filter (is_active now) (standings_of now ruled))))
    ∙ length-map ruled (standing_of now ruled)
