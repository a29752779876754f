-- What holds of a world whatever happens.
use Rattle.std.proofs.Common.{◌≡◌, ℕ, ◌<◌, ◌≤◌, ◌⊎◌, ◌&&◌, Bool, true, false, not, cond, is_some, List, [], ◌∷◌, ◌++◌}
use Rattle.std.proofs.Common.{length, count_by, Option, Some, None, refl, sym, ap, ◌∙◌, subst, inl, inr, ⊎_elim, arith}
use Rattle.std.proofs.{Common.{◌≢◌, bytes_eq}, lemmas.Bool.{false≢true, false_from_ne_true}}
use Rattle.std.specs.Cmp.Lexicographic.{bytes_decides}
use Rattle.dir_values.{proofs.Orders.same_text, specs.{declared.digest.Fingerprint.Fingerprint, Digests.same_identity}}
use Rattle.dir_values.specs.Rosters.{has_member}
use Rattle.vote_terms.proofs.Orders.{same_one}
use Rattle.consensus_terms.specs.declared.{consensus.Consensus.Consensus, flavour.Flavour.Flavour}
use Rattle.consensus_terms.specs.declared.signature.SignatureLine.{SignatureLine}
use Rattle.count_terms.specs.Counts.{over}
use Rattle.period_terms.specs.declared.answer.Advance.TheVariants as moments
use Rattle.period_terms.specs.{declared.{event.Event.Event, state.State.State}, States.digest_of, Steps.step}
use Rattle.period_laws.specs.Worlds as w
use Rattle.period_laws.specs.Worlds.{World, WorldEvent, At, Elsewhere, SignedDigest, Publication, signed_by, signs_in}
use Rattle.period_laws.specs.Worlds.{publishes_in, published_as, is_among, may_come, IsWorldStart, PeriodStatesSignOnce}
use Rattle.period_laws.{specs.Worlds.{SignedTwice, PublishedAgree, AllHonestAgree}, proofs.Members.{In, in_from, in_to}}
use Rattle.period_laws.proofs.{Members.{in_either, shared}, Digests.{member_of, has, and_true, itself}}
use Rattle.period_laws.proofs.{Soundness.{has_signed, Ours, SoundAt, sound_more, no_claim}, PeriodStateSteps.step_keeps}
use Rattle.period_laws.proofs.Claims.{New, new_in, Backed, backed_more, some_is, published_in}

-- ---- the world

-- what holds of a world
record Holds (world : World) : Type 0 where
  each : (member : Fingerprint) (s : State) → world.states member ≡ Some s → SoundAt world.roster world.signed
      member s
  once : (a b : SignedDigest) → In a world.signed → In b world.signed → is_some (world.states a.authority) ≡ true
      → a.authority ≡ b.authority → a.flavour ≡ b.flavour → a.period ≡ b.period → a.digest ≡ b.digest
  backed : (p : Publication) → In p world.published → Backed world.roster world.signed p

-- a state is that of the member to which something came, or one that was there
state_by : (b : Bool) (states : Fingerprint → Option State) (member other : Fingerprint) (next t : State)
    → same_identity other member ≡ b
    → cond b (Some next) (states other) ≡ Some t → ((other ≡ member) × (next ≡ t)) ⊎
    ((same_identity other member ≡ false) × (states other ≡ Some t))
state_by true states member other next t e h = inl (same_one other member e, cc)
state_by false states member other next t e h = inr (e, h)

-- who has a state had one
had_state : (b : Bool) (states : Fingerprint → Option State) (member other : Fingerprint) (s next : State)
    → states member ≡ Some s → same_identity other member ≡ b
    → is_some (cond b (Some next) (states other)) ≡ true → is_some (states other) ≡ true
had_state true states member other s next at e h =
    subst (λ (x : Fingerprint). is_some (states x) ≡ true) (sym (same_one other member e))
    (ap (λ (x : Option State). is_some x) at)
had_state false states member other s next at e h = h

-- what was signed before and what is signed now are of different periods
apart_now : (roster : List Fingerprint) (signed : List SignedDigest) (member : Fingerprint) (s : State)
    (a b : SignedDigest) → SoundAt roster signed member s
    → In a signed → New s b → a.authority ≡ b.authority → a.period ≡ b.period → ⊥
apart_now roster signed member s a b k i n e p =
    let mine : a.authority ≡ member = e ∙ n.own ∙ k.own_is in
    let lt = no_claim s.stage s.valid_after s.computed a (ap has_signed n.stage) (k.claims a i mine) in
    omega (arith, lt, p, n.period)

both_now : (s : State) (a b : SignedDigest) → New s a → New s b → a.flavour ≡ b.flavour → a.digest ≡ b.digest
both_now s a b m n f =
    m.digest ∙ ap (λ (x : Flavour). digest_of x m.c) f ∙ ap (λ (x : Consensus). digest_of b.flavour x)
    (some_is m.c n.c s.computed m.is n.is) ∙ sym n.digest

moved_holds : (world : World) (member : Fingerprint) (s : State) (event : Event) → world.states member ≡ Some s
    → may_come world.signed event ≡ true
    → Holds world → Holds (w.moved_world world member s (step s event))
moved_holds world member s event at h k =
    let added = signs_in s (step s event).answer in
    let here = k.each member s at in
    record {
      each = λ other t e. ⊎_elim
          (λ (j : (other ≡ member) × ((step s event).after ≡ t)).
          subst (λ (x : State). SoundAt world.roster (world.signed ++ signs_in s (step s event).answer) other x) j.1
          (subst (λ (x : Fingerprint). SoundAt world.roster (world.signed ++ signs_in s (step s event).answer) x
          (step s event).after) (sym j.0)
          (step_keeps world.roster world.signed member s event h here)))
          (λ j. sound_more world.roster world.signed added other t
          (λ x i mine. absurd (false≢true
          (sym j.0 ∙ (let n = new_in s event x i in subst (λ (y : Fingerprint). same_identity y member ≡ true)
          (sym here.own_is ∙ sym n.own ∙ mine) (itself member)))))
          (k.each other t j.1))
          (state_by _ world.states member other (step s event).after t refl e);
      once = λ a b i j there e f p.
          let there_before = had_state _ world.states member a.authority s (step s event).after at refl there in
          ⊎_elim
          (λ (m : In a world.signed). ⊎_elim
          (λ (n : In b world.signed). k.once a b m n there_before e f p)
          (λ n. absurd (apart_now world.roster world.signed member s a b here m (new_in s event b n) e p))
          (in_either world.signed added b j))
          (λ m. ⊎_elim
          (λ (n : In b world.signed). absurd (apart_now world.roster world.signed member s b a here n
          (new_in s event a m) (sym e) (sym p)))
          (λ n. both_now s a b (new_in s event a m) (new_in s event b n) f)
          (in_either world.signed added b j))
          (in_either world.signed added a i);
      backed = λ p i. backed_more world.roster world.signed added p
          (⊎_elim (λ (j : In p world.published). k.backed p j) (λ j. published_in world.roster world.signed member s
          event here p j)
          (in_either world.published (publishes_in s (step s event).answer) p i));
    }

came_by : (b : Bool) (world : World) (member : Fingerprint) (s : State) (event : Event) → world.states member ≡ Some
    s → may_come world.signed event ≡ b
    → Holds world → Holds (cond b (w.moved_world world member s (step s event)) world)
came_by true world member s event at h k = moved_holds world member s event at h k
came_by false world member s event at h k = k

came_holds : (state : Option State) (world : World) (member : Fingerprint) (event : Event) → world.states member ≡
    state → Holds world
    → Holds (w.came world member event state)
came_holds None world member event at k = k
came_holds (Some s) world member event at k = came_by _ world member s event at refl k

-- who has a state signs nowhere else
elsewhere_by : (b : Bool) (world : World) (one : SignedDigest)
    → (has_member world.roster one.authority && not (is_some (world.states one.authority))) ≡ b
    → Holds world → Holds (cond b (record world { signed = world.signed ++ one ∷ [] }) world)
elsewhere_by true world one e k =
    let alone : not (is_some (world.states one.authority)) ≡ true =
    (and_true (has_member world.roster one.authority) (not (is_some (world.states one.authority))) e).1 in
    record {
      each = λ other t at. sound_more world.roster world.signed (one ∷ []) other t
          (λ x i mine. ⊎_elim
          (λ (j : x ≡ one). free one.authority other t alone at (ap (λ (y : SignedDigest). y.authority) (sym j)
          ∙ mine)) (λ j. j) i)
          (k.each other t at);
      once = λ a b i j there e f p.
          ⊎_elim
          (λ (m : In a world.signed). ⊎_elim
          (λ (n : In b world.signed). k.once a b m n there e f p)
          (λ n. ⊎_elim (λ (q : b ≡ one). absurd (alone_is one.authority a.authority alone there
          (ap (λ (y : SignedDigest). y.authority) (sym q) ∙ sym e))) (λ q. absurd q) n)
          (in_either world.signed (one ∷ []) b j))
          (λ m. ⊎_elim (λ (q : a ≡ one). absurd (alone_is one.authority a.authority alone there
          (ap (λ (y : SignedDigest). y.authority) (sym q)))) (λ q. absurd q) m)
          (in_either world.signed (one ∷ []) a i);
      backed = λ p i. backed_more world.roster world.signed (one ∷ []) p (k.backed p i);
    }
  where
    alone_is : (x y : Fingerprint) → not (is_some (world.states x)) ≡ true → is_some (world.states y) ≡ true
        → x ≡ y → ⊥
    alone_is x y n there e = false≢true (sym (ap not there)
        ∙ subst (λ (z : Fingerprint). not (is_some (world.states z)) ≡ true) e n)

    free : (x y : Fingerprint) (t : State) → not (is_some (world.states x)) ≡ true → world.states y ≡ Some t
        → x ≡ y → ⊥
    free x y t n at e =
        false≢true (sym (ap (λ (o : Option State). not (is_some o)) at)
        ∙ subst (λ (z : Fingerprint). not (is_some (world.states z)) ≡ true) e n)
elsewhere_by false world one e k = k

happens_holds : (world : World) (event : WorldEvent) → Holds world → Holds (w.happens world event)
happens_holds world (At member event) k = came_holds (world.states member) world member event refl k
happens_holds world (Elsewhere one) k = elsewhere_by _ world one refl k

run_holds : (events : List WorldEvent) (world : World) → Holds world → Holds (w.run_world world events)
run_holds [] world k = k
run_holds (event ∷ events) world k = run_holds events (w.happens world event) (happens_holds world event k)

start_holds : (world : World) → IsWorldStart world → Holds world
start_holds world begin = record {
  each = λ member s at.
      let r = begin.start member s at in
      let of : Fingerprint → SignedDigest → Type 0 = λ m x. (x.period < s.valid_after) ⊎ Ours s.valid_after s.stage
      s.computed x in
      record {
        own_is = begin.own member s at;
        roster_is = begin.roster member s at;
        times = r.times;
        unset = λ e. ap (λ (x : State). x.computed) r.empty;
        claims = λ x i e. absurd (nothing world.signed x begin.signed i);
        ns_lines = λ line i. absurd (no_line s.ns_lines line (ap (λ (x : State). x.ns_lines) r.empty) i);
        micro_lines = λ line i. absurd (no_line s.micro_lines line (ap (λ (x : State). x.micro_lines) r.empty) i);
      };
  once = λ a b i j there e f p. absurd (nothing world.signed a begin.signed i);
  backed = λ p i. absurd (nowhere world.published p begin.published i);
}
  where
    nothing : (all : List SignedDigest) (x : SignedDigest) → all ≡ [] → In x all → ⊥
    nothing all x e i = subst (λ (l : List SignedDigest). In x l) e i

    no_line : (all : List SignatureLine) (x : SignatureLine) → all ≡ [] → In x all → ⊥
    no_line all x e i = subst (λ (l : List SignatureLine). In x l) e i

    nowhere : (all : List Publication) (x : Publication) → all ≡ [] → In x all → ⊥
    nowhere all x e i = subst (λ (l : List Publication). In x l) e i

after_all : (world : World) (events : List WorldEvent) → IsWorldStart world → Holds (w.run_world world events)
after_all world events begin = run_holds events world (start_holds world begin)

-- ---- the laws

pub sign_once : PeriodStatesSignOnce
sign_once world events begin a b i j there e f p =
    (after_all world events begin).once a b (in_from (w.run_world world events).signed a i)
    (in_from (w.run_world world events).signed b j) there e f p

-- two different digests of a flavour and a period that more than half signed each were signed by someone without a
-- state
twice_in : (world : World) → Holds world → (p q : Publication) → In p world.published → In q world.published
    → p.flavour ≡ q.flavour → p.period ≡ q.period → published_as p ≢ published_as q → SignedTwice world p.flavour
    p.period (published_as p) (published_as q)
twice_in world k p q i j f e apart =
    let moved_q : over (count_by (λ m. is_among world.signed (signed_by m p.flavour p.period (published_as q)))
    world.roster) (length world.roster) ≡ true =
    subst (λ (x : Flavour). over (count_by (λ m. is_among world.signed (signed_by m x p.period (published_as q)))
    world.roster) (length world.roster) ≡ true) (sym f)
    (subst (λ (x : ℕ). over (count_by (λ m. is_among world.signed (signed_by m q.flavour x (published_as q)))
    world.roster) (length world.roster) ≡ true) (sym e) (k.backed q j)) in
    let r = shared (λ m. is_among world.signed (signed_by m p.flavour p.period (published_as p)))
    (λ m. is_among world.signed (signed_by m p.flavour p.period (published_as q))) world.roster (k.backed p i)
    moved_q in
    let one = member_of world.signed (signed_by r.0 p.flavour p.period (published_as p)) r.2 in
    let other = member_of world.signed (signed_by r.0 p.flavour p.period (published_as q)) r.3 in
    record {
      authority = r.0;
      member = has world.roster r.0 r.1;
      alone = false_from_ne_true (is_some (world.states r.0))
          (λ there. apart (k.once (signed_by r.0 p.flavour p.period (published_as p))
          (signed_by r.0 p.flavour p.period (published_as q)) one other there refl refl refl));
      first = in_to world.signed (signed_by r.0 p.flavour p.period (published_as p)) one;
      second = in_to world.signed (signed_by r.0 p.flavour p.period (published_as q)) other;
    }

pub agree : PublishedAgree
agree world events begin p q i j f e apart =
    twice_in (w.run_world world events) (after_all world events begin) p q
    (in_from (w.run_world world events).published p i) (in_from (w.run_world world events).published q j) f e apart

same_by : (b : Bool) (x y : List ℕ) → bytes_eq x y ≡ b → (x ≢ y → ⊥) → x ≡ y
same_by true x y e not_apart = same_text x y e
same_by false x y e not_apart = absurd (not_apart (λ (q : x ≡ y). false≢true (sym e ∙ (bytes_decides x y).1 q)))

pub honest : AllHonestAgree
honest world events begin all p q i j f e =
    same_by _ (published_as p) (published_as q) refl
    (λ apart.
    let t = agree world events begin p q i j f e apart in
    false≢true (sym t.alone ∙ all t.authority t.member))
