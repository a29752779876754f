-- Where a walk stands in each vote, by the number of the vote.
use Rattle.std.proofs.Common.{◌≡◌, ℕ, zero, suc, ◌+◌, ◌<◌, ◌≤◌, Bool, true, false, cond, List, Some, None, [], ◌∷◌}
use Rattle.std.proofs.Common.{◌++◌, length, get_or, drop, map, refl, sym, ap, ◌∙◌, add-one, arith, append_assoc}
use Rattle.std.proofs.{Common.{drop-cons, drop-drop, set, ⊎_elim, ◌⊎◌}, lemmas.{Bool.cases_lt, List.append-nil}}
use Rattle.std.proofs.lemmas.{List.{get_or-set_same, get_or-set_other}, Option.{same_Some, slice_get_read}}
use Rattle.dir_values.specs.{declared.digest.Fingerprint.Fingerprint, Digests.same_identity}
use Rattle.compute_terms.specs.declared.belong.Belong.{Belong}
use Rattle.vote_terms.specs.{Votes.ReadVote, declared.entry.EntryFacts.EntryFacts}
use Rattle.relay_select.specs.Cursors.{Cursor, cursor_at, cursors, entries_in, past, place_past, Taken, is_next}
use Rattle.relay_select.specs.Cursors.{next_from, first_identity, lesser, least_from}

abbrev pub cursor_with : List ReadVote → List ℕ → ℕ → Cursor
cursor_with votes places n = record { place = get_or places n 0; rest = drop (get_or places n 0) (entries_in votes n) }

-- what is left from one vote on is what is left of it, and what is left from the next on
from_suc : (votes : List ReadVote) (places : List ℕ) (n : ℕ) → length places ≡ length votes → n < length votes
    → drop n (cursors votes places) ≡ cursor_with votes places n ∷ drop (suc n) (cursors votes places)
from_suc [] places n same lt = absurd (omega (arith, lt))
from_suc (vote ∷ votes) [] n same lt = absurd (omega (arith, same))
from_suc (vote ∷ votes) (place ∷ places) zero same lt = refl
from_suc (vote ∷ votes) (place ∷ places) (suc n) same lt = from_suc votes places n (omega (arith, same)) (omega (arith, lt))

pub cursors_from : (votes : List ReadVote) (places : List ℕ) (n : ℕ) → length places ≡ length votes → n < length votes
    → drop n (cursors votes places) ≡ cursor_with votes places n ∷ drop (n + 1) (cursors votes places)
cursors_from votes places n same lt = rw add-one (from_suc votes places n same lt)

-- behind the last vote nothing is left
pub cursors_end : (votes : List ReadVote) (places : List ℕ) (n : ℕ) → length votes ≤ n → drop n (cursors votes places) ≡ []
cursors_end [] places zero le = refl
cursors_end [] places (suc n) le = refl
cursors_end (vote ∷ votes) places zero le = absurd (omega (arith, le))
cursors_end (vote ∷ votes) [] (suc n) le = refl
cursors_end (vote ∷ votes) (place ∷ places) (suc n) le = cursors_end votes places n (omega (arith, le))

pub least_more : (votes : List ReadVote) (places : List ℕ) (n : ℕ) (best : _) → length places ≡ length votes → n < length votes
    → least_from (lesser best (first_identity (drop (get_or places n 0) (entries_in votes n)))) (drop (n + 1) (cursors votes places)) ≡ least_from best (drop n (cursors votes places))
least_more votes places n best same lt = sym (ap (least_from best) (cursors_from votes places n same lt))

pub least_end : (votes : List ReadVote) (places : List ℕ) (n : ℕ) (best : _) → length votes ≤ n → least_from best (drop n (cursors votes places)) ≡ best
least_end votes places n best le = ap (least_from best) (cursors_end votes places n le)

moved : (b : Bool) (vote : ReadVote) (o n : ℕ) (rsa : Fingerprint) → is_next (drop o vote.says.entries) rsa ≡ b → n ≡ cond (is_next (drop o vote.says.entries) rsa) (o + 1) o
    → cursor_at vote n ≡ past rsa (cursor_at vote o)
moved true vote o n rsa e is =
    let there : n ≡ o + 1 = is ∙ rw e refl in
    rw (e, there) (ap (λ (rest : List EntryFacts). record { place = o + 1; rest = rest }) (sym (drop-drop 1 o vote.says.entries)))
moved false vote o n rsa e is = let there : n ≡ o = is ∙ rw e refl in rw (e, there) refl

-- the places behind the next entries are those of what is left behind them
pub cursors_past : (votes : List ReadVote) (old new : List ℕ) (rsa : Fingerprint) → length old ≡ length votes → length new ≡ length votes
    → ((k : ℕ) → k < length votes → get_or new k 0 ≡ place_past votes old rsa k) → cursors votes new ≡ map (past rsa) (cursors votes old)
cursors_past [] old new rsa a b each = refl
cursors_past (vote ∷ votes) [] new rsa a b each = absurd (omega (arith, a))
cursors_past (vote ∷ votes) (o ∷ old) [] rsa a b each = absurd (omega (arith, b))
cursors_past (vote ∷ votes) (o ∷ old) (n ∷ new) rsa a b each =
    let here : cursor_at vote n ≡ past rsa (cursor_at vote o) = moved _ vote o n rsa refl (each 0 (omega arith)) in
    let later : cursors votes new ≡ map (past rsa) (cursors votes old) = cursors_past votes old new rsa (omega (arith, a)) (omega (arith, b)) (λ k lt. each (suc k) (omega (arith, lt))) in
    rw (here, later) refl

-- ---- the entry at a place

pub entries_here : (votes : List ReadVote) (number : ℕ) (held vote : ReadVote) → number < length votes → held ≡ get_or votes number held → vote ≡ held → entries_in votes number ≡ vote.says.entries
entries_here votes number held vote lt is same = rw (slice_get_read votes (length votes) number held refl lt is) (ap (λ (v : ReadVote). v.says.entries) (sym same))

first_at : (entries : List EntryFacts) (place : ℕ) (entry : EntryFacts) → place < length entries → entry ≡ get_or entries place entry → Some entry.identity ≡ first_identity (drop place entries)
first_at entries place entry lt is = sym (ap first_identity (drop-cons entries place entry lt) ∙ ap (λ (e : EntryFacts). Some e.identity) (sym is))

pub head_there : (votes : List ReadVote) (number place len : ℕ) (held vote : ReadVote) (entry : EntryFacts) (identity : Fingerprint) → number < length votes → held ≡ get_or votes number held → vote ≡ held
    → len ≡ length vote.says.entries → place < len → entry ≡ get_or vote.says.entries place entry → identity ≡ entry.identity → Some identity ≡ first_identity (drop place (entries_in votes number))
head_there votes number place len held vote entry identity lt is same long below entry_is identity_is =
    ap (λ (i : Fingerprint). Some i) identity_is ∙ first_at vote.says.entries place entry (omega (arith, long, below)) entry_is
    ∙ sym (ap (λ (l : List EntryFacts). first_identity (drop place l)) (entries_here votes number held vote lt is same))

first_past : (entries : List EntryFacts) (place : ℕ) → length entries ≤ place → None ≡ first_identity (drop place entries)
first_past [] zero le = refl
first_past [] (suc n) le = refl
first_past (e ∷ entries) zero le = absurd (omega (arith, le))
first_past (e ∷ entries) (suc n) le = first_past entries n (omega (arith, le))

pub head_past : (votes : List ReadVote) (number place len : ℕ) (held vote : ReadVote) → number < length votes → held ≡ get_or votes number held → vote ≡ held
    → len ≡ length vote.says.entries → len ≤ place → None ≡ first_identity (drop place (entries_in votes number))
head_past votes number place len held vote lt is same long below =
    first_past vote.says.entries place (omega (arith, long, below)) ∙ sym (ap (λ (l : List EntryFacts). first_identity (drop place l)) (entries_here votes number held vote lt is same))

-- the test of the next entry, by its identity
pub next_is : (rest : List EntryFacts) (head rsa : Fingerprint) → Some head ≡ first_identity rest → same_identity head rsa ≡ is_next rest rsa
next_is [] head rsa h = absurd cc
next_is (e ∷ rest) head rsa h = ap (λ (i : Fingerprint). same_identity i rsa) (same_Some head e.identity h)

-- ---- the group

pub group_yes : (votes : List ReadVote) (places : List ℕ) (n place : ℕ) (rsa : Fingerprint) (group total : List Belong) → length places ≡ length votes → n < length votes → place ≡ get_or places n 0
    → is_next (drop place (entries_in votes n)) rsa ≡ true → group ++ next_from n (drop n (cursors votes places)) rsa ≡ total
    → (group ++ record { vote = n; entry = place } ∷ []) ++ next_from (n + 1) (drop (n + 1) (cursors votes places)) rsa ≡ total
group_yes votes places n place rsa group total same lt is next all =
    let at : is_next (drop (get_or places n 0) (entries_in votes n)) rsa ≡ true = ap (λ (p : ℕ). is_next (drop p (entries_in votes n)) rsa) (sym is) ∙ next in
    let step : next_from n (drop n (cursors votes places)) rsa ≡ record { vote = n; entry = place } ∷ next_from (n + 1) (drop (n + 1) (cursors votes places)) rsa =
    ap (λ (cs : List Cursor). next_from n cs rsa) (cursors_from votes places n same lt) ∙ rw (at, is) refl in
    append_assoc group (record { vote = n; entry = place } ∷ []) (next_from (n + 1) (drop (n + 1) (cursors votes places)) rsa)
    ∙ ap (λ (l : List Belong). group ++ l) (sym step) ∙ all

pub group_no : (votes : List ReadVote) (places : List ℕ) (n place : ℕ) (rsa : Fingerprint) (group total : List Belong) → length places ≡ length votes → n < length votes → place ≡ get_or places n 0
    → is_next (drop place (entries_in votes n)) rsa ≡ false → group ++ next_from n (drop n (cursors votes places)) rsa ≡ total
    → group ++ next_from (n + 1) (drop (n + 1) (cursors votes places)) rsa ≡ total
group_no votes places n place rsa group total same lt is next all =
    let at : is_next (drop (get_or places n 0) (entries_in votes n)) rsa ≡ false = ap (λ (p : ℕ). is_next (drop p (entries_in votes n)) rsa) (sym is) ∙ next in
    let step : next_from n (drop n (cursors votes places)) rsa ≡ next_from (n + 1) (drop (n + 1) (cursors votes places)) rsa =
    ap (λ (cs : List Cursor). next_from n cs rsa) (cursors_from votes places n same lt) ∙ rw at refl in
    ap (λ (l : List Belong). group ++ l) (sym step) ∙ all

pub group_end : (votes : List ReadVote) (places : List ℕ) (n : ℕ) (rsa : Fingerprint) (group total : List Belong) → length votes ≤ n
    → group ++ next_from n (drop n (cursors votes places)) rsa ≡ total → group ≡ total
group_end votes places n rsa group total le all =
    sym (append-nil group) ∙ ap (λ (cs : List Cursor). group ++ next_from n cs rsa) (sym (cursors_end votes places n le)) ∙ all

-- ---- the places

apart : (k n : ℕ) → k < n → (k ≡ n → ⊥)
apart k n lt e = absurd (omega (arith, lt, e))

apart_up : (k n : ℕ) → n < k → (k ≡ n → ⊥)
apart_up k n lt e = absurd (omega (arith, lt, e))

pub taken_yes : (votes : List ReadVote) (rsa : Fingerprint) (old now : List ℕ) (n : ℕ) → Taken votes rsa old now n → n < length now → is_next (drop (get_or now n 0) (entries_in votes n)) rsa ≡ true
    → Taken votes rsa old (set now n (get_or now n 0 + 1)) (n + 1)
taken_yes votes rsa old now n t lt next =
    let here : get_or now n 0 ≡ get_or old n 0 = t.behind n (omega arith) in
    let at : is_next (drop (get_or old n 0) (entries_in votes n)) rsa ≡ true = ap (λ (p : ℕ). is_next (drop p (entries_in votes n)) rsa) (sym here) ∙ next in
    record {
      before = λ k below. ⊎_elim
          (λ (l : k < n). get_or-set_other now n k (get_or now n 0 + 1) 0 (apart k n (omega arith)) ∙ t.before k l)
          (λ (g : n ≤ k). let e : k ≡ n = omega (arith, below, g) in rw (e, get_or-set_same now n (get_or now n 0 + 1) 0 lt, here, at) refl)
          (cases_lt k n);
      behind = λ k le. get_or-set_other now n k (get_or now n 0 + 1) 0 (apart_up k n (omega (arith, le))) ∙ t.behind k (omega (arith, le));
    }

pub taken_no : (votes : List ReadVote) (rsa : Fingerprint) (old now : List ℕ) (n : ℕ) → Taken votes rsa old now n → is_next (drop (get_or now n 0) (entries_in votes n)) rsa ≡ false
    → Taken votes rsa old now (n + 1)
taken_no votes rsa old now n t next =
    let here : get_or now n 0 ≡ get_or old n 0 = t.behind n (omega arith) in
    let at : is_next (drop (get_or old n 0) (entries_in votes n)) rsa ≡ false = ap (λ (p : ℕ). is_next (drop p (entries_in votes n)) rsa) (sym here) ∙ next in
    record {
      before = λ k below. ⊎_elim
          (λ (l : k < n). t.before k l)
          (λ (g : n ≤ k). let e : k ≡ n = omega (arith, below, g) in rw (e, here, at) refl)
          (cases_lt k n);
      behind = λ k le. t.behind k (omega (arith, le));
    }
