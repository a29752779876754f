-- One step of the walk: the group of the least identity that stands first, and what is left behind it.
use Rattle.std.proofs.Common.{◌≡◌, ℕ, ◌+◌, ◌<◌, ◌≤◌, ◌⊎◌, Bool, true, false, ◌||◌, List, [], ◌∷◌, ◌++◌, Option, Some}
use Rattle.std.proofs.Common.{None, length, take, drop, map, replicate, refl, sym, ap, ◌∙◌, subst, inl, inr, ⊎_elim}
use Rattle.std.proofs.{Common.arith, lemmas.{Cmp.{nat_list_cmp_total, tied_itself}, Bool.false≢true, Option.same_Some}}
use Rattle.std.{proofs.lemmas.List.{take-append-le, Elements.{All-head, All-tail}}, specs.Prelude.if◌then◌else◌}
use Rattle.std.specs.{Option.option_to_list, List.flat_map, Str.bytes_eq}
use Rattle.dir_values.specs.{declared.digest.Fingerprint.Fingerprint, Digests.{is_less, identity_below, same_identity}}
use Rattle.dir_values.{specs.FlagSets.as_set, proofs.Orders.{below-trans, below_or_same, same_text}}
use Rattle.vote_terms.specs.{Votes.ReadVote, declared.entry.EntryFacts.EntryFacts, Entries.Ascending}
use Rattle.compute_terms.specs.{declared.belong.Belong.Belong, Listings.identities_of}
use Rattle.relay_select.specs.{Walks.{Walk, members_from, member_in, group_of, groups}, Cursors.{Cursor, cursor_at}}
use Rattle.relay_select.specs.Cursors.{cursors, past, is_next, next_from, first_identity, lesser, least_from, left_of}
use Rattle.relay_select.{specs.Cursors.{group_left, groups_left, AllAscend}, proofs.AscendingEntries.{Below, itself}}
use Rattle.relay_select.proofs.{AscendingEntries.{Above, weaker, above_first, ascending-drop}, LeftBehind.{At, taken}}
use Rattle.relay_select.proofs.LeftBehind.{waits, AllAt, some_next, bytes_left, groups_step}

-- ---- the least identity that stands first

-- an identity that does not come before a bound
abbrev Reached : Fingerprint → Option Fingerprint → Type 0
Reached rsa None = Unit {0}
Reached rsa (Some head) = identity_below head rsa ≡ false

abbrev Low : Fingerprint → List Cursor → Type 0
Low rsa [] = Unit {0}
Low rsa (c ∷ cs) = Reached rsa (first_identity c.rest) × Low rsa cs

-- Nothing that stands first comes before the least, and it stands first.
record Least (rsa : Fingerprint) (best : Option Fingerprint) (cs : List Cursor) : Type 0 where
  pub first : Reached rsa best
  pub low : Low rsa cs
  pub there : (best ≡ Some rsa) ⊎ (some_next rsa cs ≡ true)

false_by : (b : Bool) → (b ≡ true → ⊥) → b ≡ false
false_by true f = absurd (f refl)
false_by false f = refl

not_first : (h b rsa : Fingerprint) → identity_below h b ≡ false → identity_below b rsa ≡ false → identity_below h rsa ≡ true → (s : Bool) → bytes_eq b.0 rsa.0 ≡ s → ⊥
not_first h b rsa n m lt true e = false≢true (sym n ∙ subst (λ (t : List ℕ). Below h.0 t) (sym (same_text b.0 rsa.0 e)) lt)
not_first h b rsa n m lt false e = false≢true (sym n ∙ below-trans h.0 rsa.0 b.0 lt (below_or_same b.0 rsa.0 m e))

reached_by : (s : Bool) (rsa b h : Fingerprint) → identity_below h b ≡ s → Reached rsa (if s then Some h else Some b) → Reached rsa (Some b) × Reached rsa (Some h)
reached_by true rsa b h e r = (false_by (identity_below b rsa) (λ lt. false≢true (sym r ∙ below-trans h.0 b.0 rsa.0 e lt)), r)
reached_by false rsa b h e r = (r, false_by (identity_below h rsa) (λ lt. not_first h b rsa e r lt _ refl))

reached : (rsa : Fingerprint) (best head : Option Fingerprint) → Reached rsa (lesser best head) → Reached rsa best × Reached rsa head
reached rsa best None r = (r, tt)
reached rsa None (Some h) r = (tt, r)
reached rsa (Some b) (Some h) r = reached_by _ rsa b h refl r

from_by : (s : Bool) (rsa b h : Fingerprint) → (if s then Some h else Some b) ≡ Some rsa → (Some b ≡ Some rsa) ⊎ (Some h ≡ Some rsa)
from_by true rsa b h e = inr e
from_by false rsa b h e = inl e

from_lesser : (rsa : Fingerprint) (best head : Option Fingerprint) → lesser best head ≡ Some rsa → (best ≡ Some rsa) ⊎ (head ≡ Some rsa)
from_lesser rsa best None e = inl e
from_lesser rsa None (Some h) e = inr e
from_lesser rsa (Some b) (Some h) e = from_by (identity_below h b) rsa b h e

next_by : (rsa : Fingerprint) (rest : List EntryFacts) → first_identity rest ≡ Some rsa → is_next rest rsa ≡ true
next_by rsa [] e = absurd cc
next_by rsa (entry ∷ rest) e = ap (λ (i : Fingerprint). same_identity i rsa) (same_Some entry.identity rsa e) ∙ itself rsa.0

or_first : (a b : Bool) → a ≡ true → (a || b) ≡ true
or_first a b e = rw e refl

or_last : (a b : Bool) → b ≡ true → (a || b) ≡ true
or_last true b e = refl
or_last false b e = e

least_is : (best : Option Fingerprint) (cs : List Cursor) (rsa : Fingerprint) → least_from best cs ≡ Some rsa → Least rsa best cs
least_is best [] rsa e = record { first = rw e (ap is_less (tied_itself nat_list_cmp_total rsa.0)); low = tt; there = inl e }
least_is best (c ∷ cs) rsa e =
    let more = least_is (lesser best (first_identity c.rest)) cs rsa e in
    let both = reached rsa best (first_identity c.rest) more.first in
    record {
      first = both.0;
      low = (both.1, more.low);
      there = ⊎_elim
          (λ (l : lesser best (first_identity c.rest) ≡ Some rsa). ⊎_elim (λ (b : best ≡ Some rsa). inl b) (λ h. inr (or_first (is_next c.rest rsa) (some_next rsa cs) (next_by rsa c.rest h))) (from_lesser rsa best (first_identity c.rest) l))
          (λ n. inr (or_last (is_next c.rest rsa) (some_next rsa cs) n)) more.there;
    }

at_test : (s : Bool) (rsa : Fingerprint) (c : Cursor) (entry : EntryFacts) (rest : List EntryFacts) → c.rest ≡ entry ∷ rest → bytes_eq entry.identity.0 rsa.0 ≡ s
    → Ascending (entry ∷ rest) → identity_below entry.identity rsa ≡ false → At rsa c
at_test true rsa c entry rest splits is up low = taken entry rest splits is (subst (λ (t : List ℕ). Above t rest) (same_text entry.identity.0 rsa.0 is) (above_first entry rest up))
at_test false rsa c entry rest splits is up low =
    let before : Below rsa.0 entry.identity.0 = below_or_same entry.identity.0 rsa.0 low is in
    waits (rw splits is) (rw splits (before, weaker rsa.0 entry.identity.0 rest before (above_first entry rest up)))

at_by : (rest : List EntryFacts) (rsa : Fingerprint) (c : Cursor) → c.rest ≡ rest → Ascending rest → Reached rsa (first_identity rest) → At rsa c
at_by [] rsa c splits up low = waits (rw splits refl) (rw splits tt)
at_by (entry ∷ rest) rsa c splits up low = at_test _ rsa c entry rest splits refl up low

all_at : (rsa : Fingerprint) (votes : List ReadVote) (places : List ℕ) → AllAscend votes → Low rsa (cursors votes places) → AllAt rsa (cursors votes places)
all_at rsa [] places up low = tt
all_at rsa (vote ∷ votes) [] up low = tt
all_at rsa (vote ∷ votes) (place ∷ places) up low = (
  at_by (drop place vote.says.entries) rsa (cursor_at vote place) refl (ascending-drop place vote.says.entries (All-head (λ (v : ReadVote). Ascending v.says.entries) vote votes up)) low.0,
  all_at rsa votes places (All-tail (λ (v : ReadVote). Ascending v.says.entries) vote votes up) low.1,
)

-- ---- the steps of a walk

step_is : (votes : List ReadVote) (places : List ℕ) (rsa : Fingerprint) → AllAscend votes → least_from None (cursors votes places) ≡ Some rsa
    → groups_left (cursors votes places) ≡ record { identity = rsa; members = next_from 0 (cursors votes places) rsa } ∷ groups_left (map (past rsa) (cursors votes places))
step_is votes places rsa up e =
    let least = least_is None (cursors votes places) rsa e in
    groups_step rsa (cursors votes places) (all_at rsa votes places up least.low) (⊎_elim (λ (n : None ≡ Some rsa). absurd cc) (λ n. n) least.there)

pub same_front : (new items : List ℕ) (len : ℕ) → length new ≡ len → take len (new ++ drop (length new) items) ≡ new
same_front new items len same = rw (sym same) (take-append-le (length new) new (drop (length new) items) (omega arith) ∙ take_all new)
  where
    take_all : (xs : List ℕ) → take (length xs) xs ≡ xs
    take_all [] = refl
    take_all (x ∷ xs) = ap (λ (l : List ℕ). x ∷ l) (take_all xs)

-- the next step gives the group of the least identity that stands first
pub gives : (votes : List ReadVote) (items new : List ℕ) (rsa : Fingerprint) (members : List Belong) (walk : Walk) → record { votes = length votes; left = groups_left (cursors votes items) } ≡ walk
    → AllAscend votes → least_from None (cursors votes items) ≡ Some rsa → members ≡ next_from 0 (cursors votes items) rsa
    → cursors votes new ≡ map (past rsa) (cursors votes items)
    → (walk.left ≡ record { identity = rsa; members = members } ∷ groups_left (cursors votes new)) × (length votes ≡ walk.votes)
gives votes items new rsa members walk view up least group moved = (
  sym (ap (λ (w : Walk). w.left) view) ∙ step_is votes items rsa up least
      ∙ ap (λ (g : List Belong). record { identity = rsa; members = g } ∷ groups_left (map (past rsa) (cursors votes items))) (sym group)
      ∙ ap (λ (cs : List Cursor). record { identity = rsa; members = members } ∷ groups_left cs) (sym moved),
  ap (λ (w : Walk). w.votes) view,
)

none_by : (best head : Option Fingerprint) → lesser best head ≡ None → (best ≡ None) × (head ≡ None)
none_by None None e = (refl, refl)
none_by (Some b) None e = absurd cc
none_by None (Some h) e = absurd cc
none_by (Some b) (Some h) e = by (identity_below h b) e
  where
    by : (s : Bool) → (if s then Some h else Some b) ≡ None → (Some b ≡ None) × (Some h ≡ None)
    by true e = absurd cc
    by false e = absurd cc

empty_by : (rest : List EntryFacts) → first_identity rest ≡ None → rest ≡ []
empty_by [] e = refl
empty_by (entry ∷ rest) e = absurd cc

nothing_left : (best : Option Fingerprint) (cs : List Cursor) → least_from best cs ≡ None → (best ≡ None) × (bytes_left cs ≡ [])
nothing_left best [] e = (e, refl)
nothing_left best (c ∷ cs) e =
    let more = nothing_left (lesser best (first_identity c.rest)) cs e in
    let both = none_by best (first_identity c.rest) more.0 in
    (both.0, rw (empty_by c.rest both.1) more.1)

-- where nothing stands first no group is left
pub none_left : (cs : List Cursor) → least_from None cs ≡ None → groups_left cs ≡ []
none_left cs e = ap (λ (bytes : List (List ℕ)). map (group_left cs) (as_set bytes)) (nothing_left None cs e).1

-- ---- the start of a walk

start_bytes : (votes : List ReadVote) → bytes_left (cursors votes (replicate (length votes) 0)) ≡ flat_map (λ (vote : ReadVote). identities_of vote.says.entries) votes
start_bytes [] = refl
start_bytes (vote ∷ votes) = ap (λ (l : List (List ℕ)). identities_of vote.says.entries ++ l) (start_bytes votes)

start_members : (votes : List ReadVote) (n : ℕ) (rsa : Fingerprint) → left_of n (cursors votes (replicate (length votes) 0)) rsa ≡ members_from n votes rsa
start_members [] n rsa = refl
start_members (vote ∷ votes) n rsa = ap (λ (l : List Belong). option_to_list (member_in n vote rsa) ++ l) (start_members votes (n + 1) rsa)

start_groups : (votes : List ReadVote) (xs : List (List ℕ)) → map (group_left (cursors votes (replicate (length votes) 0))) xs ≡ map (group_of votes) (map (λ bytes. record { 0 = bytes }) xs)
start_groups votes [] = refl
start_groups votes (x ∷ xs) = rw (start_members votes 0 (record { 0 = x }), start_groups votes xs) refl

-- at the start all groups are left
pub all_left : (votes : List ReadVote) (n : ℕ) → n ≡ length votes → groups_left (cursors votes (replicate n 0)) ≡ groups votes
all_left votes n e =
    ap (λ (k : ℕ). groups_left (cursors votes (replicate k 0))) e
    ∙ ap (λ (bytes : List (List ℕ)). map (group_left (cursors votes (replicate (length votes) 0))) (as_set bytes)) (start_bytes votes)
    ∙ start_groups votes (as_set (flat_map (λ (vote : ReadVote). identities_of vote.says.entries) votes))
